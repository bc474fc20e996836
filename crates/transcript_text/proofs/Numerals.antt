-- Numbers are read from the digits that they are written in, and from nothing else.
use Rattle.std.proofs.Common.{◌≡◌, ◌≢◌, ℕ, suc, ◌+◌, ◌-◌, ◌*◌, ◌^◌, ◌<◌, ◌≤◌, ◌==◌, nat_lt, Bool, true, false, not, ◌&&◌, ◌||◌}
use Rattle.std.proofs.Common.{if◌then◌else◌, List, [], ◌∷◌, length, get_or, refl, sym, ◌∙◌, ap, arith, Option, Some, None, Result, Ok, Err}
use Rattle.std.specs.Cmp.{first_so, second_so}
use Rattle.std.specs.Fmt.{decimal}
use Rattle.std.specs.List.{list_all, fold}
use Rattle.std.specs.Result.{result_ok}
use Rattle.std.specs.Str.Parse.{ParsesUnsigned}
use Rattle.std.proofs.lemmas.Fmt.{decimal-digits_value}
use Rattle.std.proofs.lemmas.Str.Parse.{IsNumeralModel, IsDigitsTest, FoldsDigits, numerals_by_fold, parse_plain}
use Rattle.std.proofs.lemmas.Bool.{and_from, or_right}
use Rattle.std.proofs.lemmas.Option.{same_Some}
use Rattle.br_model.specs.Data.Digits.{is_digit, digits_value, begins_with_zero, is_decimal}
use Rattle.br_model.specs.Text.Words.{Word}
use Rattle.br_model.proofs.Text.WrittenNumbers.{decimal_read}
use Rattle.transcript_text.specs.Lines.{is_number}
use Rattle.transcript_text.specs.Reading.{number}

-- what a choice that gives a value says
pub if_some : {A : Type 0} (b : Bool) (x : Option A) {y : A} → (if b then x else None) ≡ Some y → (b ≡ true) × (x ≡ Some y)
if_some true x h = (refl, h)
if_some false x h = cc

-- the digits of a numeral, in the words of `parse`

in_range : (c : ℕ) → is_digit c ≡ true → (48 ≤ c) × (c ≤ 57)
in_range c h = (grind arith, grind arith)

is_in_range : (c : ℕ) → (48 ≤ c) × (c ≤ 57) → is_digit c ≡ true
is_in_range c h = grind arith

tests : IsDigitsTest (λ ds. list_all is_digit ds ≡ true)
tests = record {
  empty = refl;
  parts = λ c cs h. (in_range c (first_so _ _ h), second_so _ _ h);
  more = λ c cs r h. and_from _ _ (is_in_range c r) h;
}

abbrev value_from : ℕ → List ℕ → ℕ
value_from n ds = fold (λ n c. 10 * n + (c - 48)) n ds

folds : FoldsDigits value_from
folds = record {
  empty = λ n. refl;
  more = λ n c cs r. let e : 10 * n + (c - 48) ≡ n * 10 + (c - 48) = omega arith in ap (λ (m : ℕ). value_from m cs) e;
}

own : IsNumeralModel (λ ds. list_all is_digit ds ≡ true) digits_value
own = numerals_by_fold (λ ds. list_all is_digit ds ≡ true) tests value_from folds

-- what `parse` gives

is_first : (w : Word) → 0 < length w → (1 < length w → get_or w 0 0 ≢ 48) → (length w == 1 || not (begins_with_zero w)) ≡ true
is_first [] some lead = absurd (omega arith)
is_first (c ∷ []) some lead = refl
is_first (c ∷ d ∷ cs) some lead = or_right (length (c ∷ d ∷ cs) == 1) _ (other c (lead (omega arith)))
  where
    other : (c : ℕ) → c ≢ 48 → not (c == 48) ≡ true
    other c h = grind arith

first_of : (w : Word) → (length w == 1 || not (begins_with_zero w)) ≡ true → get_or w 0 0 ≡ 48 → length w ≡ 1
first_of [] h zero = absurd (omega arith)
first_of (c ∷ []) h zero = refl
first_of (c ∷ d ∷ cs) h zero = by c (length cs) h zero
  where
    by : (c n : ℕ) → (suc (suc n) == 1 || not (c == 48)) ≡ true → c ≡ 48 → suc (suc n) ≡ 1
    by c n h e = grind arith

some_digits : (w : Word) → nat_lt 0 (length w) ≡ true → 0 < length w
some_digits w h = grind arith

has_digits : (w : Word) → 0 < length w → nat_lt 0 (length w) ≡ true
has_digits w h = grind arith

below : (n : ℕ) → is_number n ≡ true → n < 2 ^ 32
below n h = grind arith

is_below : (n : ℕ) → n < 2 ^ 32 → is_number n ≡ true
is_below n h = grind arith

pub number_parsed : {E : Type 0} (w : Word) (r : Result ℕ E) → ParsesUnsigned 32 10 w r → get_or w 0 0 ≢ 43 → (1 < length w → get_or w 0 0 ≢ 48) → result_ok r ≡ number w
number_parsed {E} w (Ok x) h plain lead =
    let p = parse_plain own {E = E} 32 w (Ok x) h plain in
    let test : (is_decimal w && is_number (digits_value w)) ≡ true = and_from _ _ (and_from _ _ (has_digits w p.0.1) (and_from _ _ p.0.0 (is_first w p.0.1 lead))) (is_below _ p.0.2) in
    rw test (ap Some p.1)
number_parsed {E} w (Err e) h plain lead =
    let none = parse_plain own {E = E} 32 w (Err e) h plain in
    by (is_decimal w && is_number (digits_value w)) refl none
  where
    by : (b : Bool) → (is_decimal w && is_number (digits_value w)) ≡ b → ¬ ((list_all is_digit w ≡ true) × (0 < length w) × (digits_value w < 2 ^ 32))
        → None ≡ (if b then Some (digits_value w) else None)
    by false s none = refl
    by true s none =
        let d = first_so (is_decimal w) (is_number (digits_value w)) s in
        let ds = second_so (nat_lt 0 (length w)) _ d in
        absurd (none (first_so _ _ ds, some_digits w (first_so (nat_lt 0 (length w)) _ d), below _ (second_so (is_decimal w) (is_number (digits_value w)) s)))

-- a number and its digits

pub number_is : (w : Word) {n : ℕ} → number w ≡ Some n → (w ≡ decimal n) × (is_number n ≡ true)
number_is w {n} h =
    let p = if_some (is_decimal w && is_number (digits_value w)) (Some (digits_value w)) h in
    let d : is_decimal w ≡ true = first_so (is_decimal w) (is_number (digits_value w)) p.0 in
    let small : is_number (digits_value w) ≡ true = second_so (is_decimal w) (is_number (digits_value w)) p.0 in
    let ds : (list_all is_digit w && (length w == 1 || not (begins_with_zero w))) ≡ true = second_so (nat_lt 0 (length w)) _ d in
    let v : digits_value w ≡ n = same_Some _ _ p.1 in
    let fits : digits_value w < 2 ^ 32 = below _ small in
    let e : decimal (digits_value w) ≡ w = decimal-digits_value own w (first_so _ _ ds) (some_digits w (first_so (nat_lt 0 (length w)) _ d)) (first_of w (second_so (list_all is_digit w) _ ds))
    (omega arith) in
    (sym e ∙ ap decimal v, sym (ap is_number v) ∙ small)

pub number_back : (n : ℕ) → is_number n ≡ true → number (decimal n) ≡ Some n
number_back n h =
    let fits : n < 2 ^ 32 = below n h in
    let p = if_some (is_decimal (decimal n)) (Some (digits_value (decimal n))) (decimal_read n (omega arith)) in
    let v : digits_value (decimal n) ≡ n = same_Some _ _ p.1 in
    by (decimal n) p.0 v
  where
    by : (w : Word) → is_decimal w ≡ true → digits_value w ≡ n → number w ≡ Some n
    by w d v = ap (λ (b : Bool). if b then Some (digits_value w) else None) (and_from _ _ d (ap is_number v ∙ h)) ∙ ap Some v

-- a test that failed
pub not_equal : (tested : Bool) (n k : ℕ) → tested ≡ (n == k) → tested ≡ false → n ≢ k
not_equal tested n k is failed e = grind arith
