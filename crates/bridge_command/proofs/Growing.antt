-- A number grows by each digit, so one that is too large stays so.
use Rattle.std.proofs.Common.{◌≡◌, ℕ, zero, suc, ◌+◌, ◌-◌, ◌*◌, ◌^◌, ◌<◌, ◌≤◌, Bool, true, false, if◌then◌else◌, List, [], ◌∷◌, take, length, get_or, None, Some, refl, arith}
use Rattle.std.specs.List.{fold}
use Rattle.std.proofs.lemmas.Bool.{lt-leb}
use Rattle.std.proofs.lemmas.List.Sums.{fold_more}
use Rattle.br_model.specs.Data.Digits.{digits_value, is_decimal}
use Rattle.br_model.specs.Data.Digits.{number_up_to, up_to}

abbrev step : ℕ → ℕ → ℕ
step n c = 10 * n + (c - 48)

least : (digits : List ℕ) (n : ℕ) → n ≤ fold step n digits
least [] n = omega arith
least (c ∷ digits) n = omega (arith, least digits (step n c))

prefix : (digits : List ℕ) (k n : ℕ) → fold step n (take k digits) ≤ fold step n digits
prefix digits zero n = least digits n
prefix [] (suc k) n = omega arith
prefix (c ∷ digits) (suc k) n = prefix digits k (step n c)

pub too_large : (digits : List ℕ) (k d most : ℕ) → k < length digits → most < 2 ^ 64 → 2 ^ 64 ≤ 10 * digits_value (take k digits) + (get_or digits k d - 48) → None ≡ number_up_to most digits
too_large digits k d most within fits large =
    let more : most < digits_value digits = omega (arith, prefix digits (k + 1) 0, fold_more step 0 digits k d within) in
    by more (is_decimal digits)
  where
    by : most < digits_value digits → (b : Bool) → None ≡ up_to most (if b then Some (digits_value digits) else None)
    by more true = rw (lt-leb (digits_value digits) most more) refl
    by more false = refl
