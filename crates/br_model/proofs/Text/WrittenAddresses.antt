-- Addresses are read back from their text.
use Rattle.std.proofs.Common.{◌≡◌, ℕ, ◌+◌, ◌*◌, ◌/◌, ◌%◌, ◌^◌, ◌<◌, ◌==◌, nat_lt, Bool, true, false, ◌||◌, if◌then◌else◌, [], ◌∷◌, ◌++◌, refl, sym, ◌∙◌, ap, arith}
use Rattle.std.specs.List.{list_all}
use Rattle.std.specs.declared.option.Option.TheVariants.{None, Some}
use Rattle.std.specs.declared.result.Result.TheVariants.{Ok}
use Rattle.std.proofs.Math.Nat.{div-div-eq-div-mul, div-lt_iff_lt-mul}
use Rattle.std.proofs.lemmas.Bool.{lt-ltb, and_from}
use Rattle.br_model.specs.declared.scenario.LineWhy.TheVariants.{Address}
use Rattle.br_model.specs.Data.Digits.{hex_of, station}
use Rattle.br_model.specs.Data.Numbers.{number, is_multicast}
use Rattle.br_model.specs.Text.Operands.{mac, station_of, found}
use Rattle.br_model.specs.Text.Spelling.{byte_at, mac_text}
use Rattle.br_model.specs.Text.Words.{Word}
use Rattle.br_model.proofs.Text.WrittenNumbers.{hex_read, pair_letters}
use Rattle.br_model.proofs.Text.WrittenWords.{letters, is_proper}

-- bytes as pairs of digits, joined by colons
abbrev pub last_two : ℕ → ℕ → Word
last_two e f = hex_of (e ∷ []) ++ (58 ∷ hex_of (f ∷ []))

abbrev pub last_three : ℕ → ℕ → ℕ → Word
last_three d e f = hex_of (d ∷ []) ++ (58 ∷ last_two e f)

abbrev pub last_four : ℕ → ℕ → ℕ → ℕ → Word
last_four c d e f = hex_of (c ∷ []) ++ (58 ∷ last_three d e f)

abbrev pub last_five : ℕ → ℕ → ℕ → ℕ → ℕ → Word
last_five b c d e f = hex_of (b ∷ []) ++ (58 ∷ last_four c d e f)

abbrev pub pairs : ℕ → ℕ → ℕ → ℕ → ℕ → ℕ → Word
pairs a b c d e f = hex_of (a ∷ []) ++ (58 ∷ last_five b c d e f)

six_bytes : (a b c d e f : ℕ) → a < 256 → b < 256 → c < 256 → d < 256 → e < 256 → f < 256
    → list_all (λ x. nat_lt x 256) (a ∷ b ∷ c ∷ d ∷ e ∷ f ∷ []) ≡ true
six_bytes a b c d e f i j k l m n =
    and_from _ _ (lt-ltb a 256 i) (and_from _ _ (lt-ltb b 256 j) (and_from _ _ (lt-ltb c 256 k) (and_from _ _ (lt-ltb d 256 l) (and_from _ _ (lt-ltb e 256 m) (and_from _ _ (lt-ltb f 256 n) refl)))))

pairs_read : (a b c d e f : ℕ) → a < 256 → b < 256 → c < 256 → d < 256 → e < 256 → f < 256
    → mac (pairs a b c d e f) ≡ found Address (station (a ∷ b ∷ c ∷ d ∷ e ∷ f ∷ []))
unfolding mac
pairs_read a b c d e f i j k l m n =
    ap station_of (hex_read (a ∷ b ∷ c ∷ d ∷ e ∷ f ∷ []) (six_bytes a b c d e f i j k l m n))

pairs_letters : (a b c d e f : ℕ) → a < 256 → b < 256 → c < 256 → d < 256 → e < 256 → f < 256 → letters (pairs a b c d e f) ≡ true
pairs_letters a b c d e f i j k l m n =
    pair_letters a (58 ∷ last_five b c d e f) i (
    pair_letters b (58 ∷ last_four c d e f) j (
    pair_letters c (58 ∷ last_three d e f) k (
    pair_letters d (58 ∷ last_two e f) l (
    pair_letters e (58 ∷ hex_of (f ∷ [])) m (
    pair_letters f [] n refl)))))

pub byte_below : (mac bits : ℕ) → byte_at mac bits < 256
byte_below mac bits = below (mac / 2 ^ bits)
  where
    below : (n : ℕ) → n % 256 < 256
    below n = omega arith

-- the six bytes spell the address

digits_256 : (m p a b : ℕ) → a ≡ m / p / 256 → b ≡ m / p % 256 → 256 * a + b ≡ m / p
digits_256 m p a b d e = omega arith

-- the digits from one place on, and one more
pub step : (m p q : ℕ) → p * 256 ≡ q → 256 * (m / q) + m / p % 256 ≡ m / p
step m p q h =
    let e : m / q ≡ m / p / 256 = sym (div-div-eq-div-mul m p 256 ∙ ap (λ (n : ℕ). m / n) h) in
    digits_256 m p (m / q) (m / p % 256) e refl

pub top : (m p : ℕ) → 0 < p → m < 256 * p → 256 * 0 + m / p % 256 ≡ m / p
top m p positive h =
    let small : m / p < 256 = (div-lt_iff_lt-mul {k = p} {x = m} {y = 256} positive).1 h in
    omega arith

spelled : (m : ℕ) → m < 2 ^ 48
    → number (byte_at m 40 ∷ byte_at m 32 ∷ byte_at m 24 ∷ byte_at m 16 ∷ byte_at m 8 ∷ byte_at m 0 ∷ []) ≡ m
spelled m h =
    let one : m / 1 ≡ m = omega arith in
    ap (λ (n : ℕ). 256 * (256 * (256 * (256 * (256 * n + byte_at m 32) + byte_at m 24) + byte_at m 16) + byte_at m 8) + byte_at m 0) (top m (2 ^ 40) (omega arith) h)
    ∙ ap (λ (n : ℕ). 256 * (256 * (256 * (256 * n + byte_at m 24) + byte_at m 16) + byte_at m 8) + byte_at m 0) (step m (2 ^ 32) (2 ^ 40) refl)
    ∙ ap (λ (n : ℕ). 256 * (256 * (256 * n + byte_at m 16) + byte_at m 8) + byte_at m 0) (step m (2 ^ 24) (2 ^ 32) refl)
    ∙ ap (λ (n : ℕ). 256 * (256 * n + byte_at m 8) + byte_at m 0) (step m (2 ^ 16) (2 ^ 24) refl)
    ∙ ap (λ (n : ℕ). 256 * n + byte_at m 0) (step m (2 ^ 8) (2 ^ 16) refl)
    ∙ step m (2 ^ 0) (2 ^ 8) refl
    ∙ one

pub mac_read : (m : ℕ) → m < 2 ^ 48 → (is_multicast m || m == 0) ≡ false → mac (mac_text m) ≡ Ok m
mac_read m h one =
    pairs_read (byte_at m 40) (byte_at m 32) (byte_at m 24) (byte_at m 16) (byte_at m 8) (byte_at m 0)
    (byte_below m 40) (byte_below m 32) (byte_below m 24) (byte_below m 16) (byte_below m 8) (byte_below m 0)
    ∙ ap (λ (n : ℕ). found Address (if is_multicast n || n == 0 then None else Some n)) (spelled m h)
    ∙ ap (λ (b : Bool). found Address (if b then None else Some m)) one

pub mac_proper : (m : ℕ) → is_proper (mac_text m) ≡ true
mac_proper m =
    pairs_letters (byte_at m 40) (byte_at m 32) (byte_at m 24) (byte_at m 16) (byte_at m 8) (byte_at m 0)
    (byte_below m 40) (byte_below m 32) (byte_below m 24) (byte_below m 16) (byte_below m 8) (byte_below m 0)
