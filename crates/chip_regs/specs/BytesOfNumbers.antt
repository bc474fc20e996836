-- The number of a row gives its bytes back.
use Rattle.std.proofs.Common.{◌≡◌, ℕ, zero, suc, ◌+◌, ◌*◌, ◌/◌, ◌%◌, ◌<◌, List, [], ◌∷◌, refl, ap, ◌∙◌, arith}
use Rattle.std.proofs.lemmas.List.Elements.{All-head, All-tail}
use Rattle.std.proofs.lemmas.Nat.{div-mul-add, mod-mul-add}
use Rattle.chip_regs.specs.Rows.{number, bytes_of, AreBytes}

turn : (b r : ℕ) → b + 256 * r ≡ r * 256 + b
turn b r = omega arith

pub bytes_of-number : (k : ℕ) (bs : List ℕ) → AreBytes k bs → bytes_of k (number bs) ≡ bs
bytes_of-number zero [] are = refl
bytes_of-number (suc k) [] are = absurd (omega (arith, are.0))
bytes_of-number zero (b ∷ bs) are = absurd (omega (arith, are.0))
bytes_of-number (suc k) (b ∷ bs) are =
    let r : ℕ = number bs in
    let small : b < 256 = All-head (λ x. x < 256) b bs are.1 in
    let low : (b + 256 * r) % 256 ≡ b = ap (λ x. x % 256) (turn b r) ∙ mod-mul-add r 256 b small in
    let high : (b + 256 * r) / 256 ≡ r = ap (λ x. x / 256) (turn b r) ∙ div-mul-add r 256 b small in
    λ i. low i ∷ (ap (bytes_of k) high ∙ bytes_of-number k bs (omega (arith, are.0), All-tail (λ x. x < 256) b bs are.1)) i
