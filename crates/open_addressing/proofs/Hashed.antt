-- The slot of a key is one of the slots.
use Rattle.std.proofs.Common.{◌≡◌, ℕ, ◌+◌, ◌-◌, ◌*◌, ◌/◌, ◌%◌, ◌^◌, ◌<◌, sym, ap, ◌∙◌, arith, pow-add}
use Rattle.std.proofs.Math.Nat.{div-lt_iff_lt-mul, mod-eq_of_lt}
use Rattle.std.proofs.Math.Pow.{pow-lt}
use Rattle.std.proofs.lemmas.Nat.{pow_pos}
use Rattle.open_addressing.specs.Hashed.{home_of}

pub top_bits : (m bits : ℕ) → bits < 64 → m < 2 ^ 64 → m / 2 ^ (64 - bits) < 2 ^ bits
top_bits m bits few fits =
    let all : 2 ^ bits * 2 ^ (64 - bits) ≡ 2 ^ 64 = sym (pow-add 2 bits (64 - bits)) ∙ (let e : bits + (64 - bits) ≡ 64 = omega arith in ap (λ k. 2 ^ k) e) in
    (div-lt_iff_lt-mul (pow_pos (64 - bits))).1 (omega arith)

pub homes-lt : (hash : ℕ → ℕ) → ((k : ℕ) → hash k < 2 ^ 64) → (bits : ℕ) → bits < 64 → (k : ℕ) → home_of hash bits k < 2 ^ bits
unfolding home_of
homes-lt hash hashes bits few k = top_bits (hash k) bits few (hashes k)

-- the slot that is read off a hash
pub home-is : (hash : ℕ → ℕ) (bits k x slot : ℕ) → slot ≡ x / 2 ^ (64 - bits) → x ≡ hash k → slot ≡ home_of hash bits k
unfolding home_of
home-is hash bits k x slot is same = is ∙ ap (λ n. n / 2 ^ (64 - bits)) same

-- how many slots there are, as a shift gives it
pub slots-shifted : (bits : ℕ) → bits < 64 → 1 * 2 ^ bits % 2 ^ 64 ≡ 2 ^ bits
slots-shifted bits few =
    let one : 1 * 2 ^ bits ≡ 2 ^ bits = omega arith in
    ap (λ n. n % 2 ^ 64) one ∙ mod-eq_of_lt (pow-lt few)
