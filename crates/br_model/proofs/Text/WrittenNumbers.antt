-- Numbers, bytes and addresses are read back from their text.
use Rattle.std.proofs.Common.{◌≡◌, ℕ, zero, suc, ◌+◌, ◌-◌, ◌*◌, ◌/◌, ◌%◌, ◌^◌, ◌<◌, ◌≤◌, ◌==◌, nat_lt, Bool, true, false, not, ◌||◌, if◌then◌else◌, List, [], ◌∷◌, ◌++◌, length, refl, ◌∙◌, ap, arith}
use Rattle.std.specs.Cmp.{first_so, second_so}
use Rattle.std.specs.Fmt.{decimal}
use Rattle.std.specs.List.{list_all}
use Rattle.std.specs.declared.option.Option.{Option}
use Rattle.std.specs.declared.option.Option.TheVariants.{None, Some}
use Rattle.std.proofs.lemmas.Fmt.{decimal_by_steps}
use Rattle.std.proofs.lemmas.List.Sums.{fold-append}
use Rattle.std.proofs.lemmas.List.Folds.{list_all-append}
use Rattle.std.proofs.lemmas.Bool.{ltb-true, and_from}
use Rattle.br_model.specs.Data.Digits.{is_digit, digits_value, begins_with_zero, decimal_from, hex_digit, hex_of, nibble, byte_of, in_front, bytes_from_hex}
use Rattle.br_model.specs.Text.Words.{is_word}
use Rattle.br_model.proofs.Text.WrittenWords.{is_letter, letters, is_proper}

-- decimal numbers

-- what the digits of a number are
record Numeral (n : ℕ) (ds : List ℕ) : Type 0 where
  value : digits_value ds ≡ n
  digits : list_all is_digit ds ≡ true
  some : is_word ds ≡ true
  -- a number above 0 begins with another digit
  first : 0 < n → begins_with_zero ds ≡ false
  single : n < 10 → length ds ≡ 1

digit_is : (n : ℕ) → n < 10 → is_digit (48 + n) ≡ true
digit_is n h = grind arith

nonzero : (n : ℕ) → n < 10 → 0 < n → (48 + n == 48) ≡ false
nonzero n h p = grind arith

one : (n : ℕ) → n < 10 → Numeral n ((48 + n) ∷ [])
one n h = record {
  value = omega arith;
  digits = and_from _ _ (digit_is n h) refl;
  some = refl;
  first = nonzero n h;
  single = λ small. refl;
}

some_more : (ds : List ℕ) (d : ℕ) → is_word ds ≡ true → is_word (ds ++ d ∷ []) ≡ true
some_more [] d h = refl
some_more (c ∷ ds) d h = refl

first_more : (ds : List ℕ) (d : ℕ) → is_word ds ≡ true → begins_with_zero ds ≡ false → begins_with_zero (ds ++ d ∷ []) ≡ false
first_more [] d some h = absurd (cc)
first_more (c ∷ ds) d some h = h

more : (n : ℕ) (ds : List ℕ) → 10 ≤ n → Numeral (n / 10) ds → Numeral n (ds ++ (48 + n % 10) ∷ [])
more n ds h m =
    let low : n % 10 < 10 = omega arith in
    let top : 0 < n / 10 = omega arith in
    let value : digits_value (ds ++ (48 + n % 10) ∷ []) ≡ 10 * digits_value ds + (48 + n % 10 - 48) = fold-append _ 0 ds ((48 + n % 10) ∷ []) in
    let above : digits_value ds ≡ n / 10 = m.value in
    record {
      value = value ∙ omega arith;
      digits = list_all-append is_digit ds ((48 + n % 10) ∷ []) ∙ and_from _ _ m.digits (and_from _ _ (digit_is (n % 10) low) refl);
      some = some_more ds _ m.some;
      first = λ p. first_more ds _ m.some (m.first top);
      single = λ small. absurd (omega arith);
    }

numeral : (n : ℕ) → n < 2 ^ 64 → Numeral n (decimal n)
numeral n h = decimal_by_steps Numeral one more n h

decimal_word : (n : ℕ) → n < 2 ^ 64 → is_word (decimal n) ≡ true
decimal_word n h = (numeral n h).some

pub decimal_digits : (n : ℕ) → n < 2 ^ 64 → list_all is_digit (decimal n) ≡ true
decimal_digits n h = (numeral n h).digits

digit_letter : (c : ℕ) → is_digit c ≡ true → is_letter c ≡ true
digit_letter c h = grind arith

digit_letters : (w : List ℕ) → list_all is_digit w ≡ true → letters w ≡ true
digit_letters [] h = refl
digit_letters (c ∷ w) h = and_from _ _ (digit_letter c (first_so _ _ h)) (digit_letters w (second_so _ _ h))

pub decimal_letters : (n : ℕ) → n < 2 ^ 64 → letters (decimal n) ≡ true
decimal_letters n h = digit_letters (decimal n) (decimal_digits n h)

pub decimal_proper : (n : ℕ) → n < 2 ^ 64 → is_proper (decimal n) ≡ true
decimal_proper n h = and_from _ _ (decimal_word n h) (decimal_letters n h)

pub decimal_read : (n : ℕ) → n < 2 ^ 64 → decimal_from (decimal n) ≡ Some n
decimal_read n h =
    let m = numeral n h in
    read n (decimal n) m.value m.digits m.some m.first m.single
  where
    or_true : (a : Bool) → (a || not false) ≡ true
    or_true true = refl
    or_true false = refl

    length_some : (ds : List ℕ) → is_word ds ≡ true → nat_lt 0 (length ds) ≡ true
    length_some [] h = absurd (cc)
    length_some (c ∷ ds) h = grind arith

    ends : (n : ℕ) (ds : List ℕ) → (0 < n → begins_with_zero ds ≡ false) → (n < 10 → length ds ≡ 1) → (length ds == 1 || not (begins_with_zero ds)) ≡ true
    ends zero ds first single = grind arith
    ends (suc n) ds first single =
        let b : begins_with_zero ds ≡ false = first (omega arith) in
        rw b (or_true (length ds == 1))

    read : (n : ℕ) (ds : List ℕ) → digits_value ds ≡ n → list_all is_digit ds ≡ true → is_word ds ≡ true → (0 < n → begins_with_zero ds ≡ false) → (n < 10 → length ds ≡ 1) → decimal_from ds ≡ Some n
    read n ds value digits some first single =
        ap (λ (b : Bool). if b then Some (digits_value ds) else None) (and_from _ _ (length_some ds some) (and_from _ _ digits (ends n ds first single)))
        ∙ ap Some value

-- bytes

nibble_digit : (n : ℕ) → n < 16 → nibble (hex_digit n) ≡ Some n
nibble_digit n h = grind arith

pub hex_read : (bytes : List ℕ) → list_all (λ b. nat_lt b 256) bytes ≡ true → bytes_from_hex (hex_of bytes) ≡ Some bytes
hex_read [] h = refl
hex_read (b ∷ bytes) h =
    let fits : b < 256 = ltb-true b 256 (first_so _ _ h) in
    let high : b / 16 < 16 = omega arith in
    let low : b % 16 < 16 = omega arith in
    let whole : 16 * (b / 16) + b % 16 ≡ b = omega arith in
    ap (λ (a : Option ℕ). in_front (byte_of a (nibble (hex_digit (b % 16)))) (bytes_from_hex (hex_of bytes))) (nibble_digit (b / 16) high)
    ∙ ap (λ (a : Option ℕ). in_front (byte_of (Some (b / 16)) a) (bytes_from_hex (hex_of bytes))) (nibble_digit (b % 16) low)
    ∙ ap (λ (a : Option (List ℕ)). in_front (Some (16 * (b / 16) + b % 16)) a) (hex_read bytes (second_so _ _ h))
    ∙ ap (λ (n : ℕ). Some (n ∷ bytes)) whole

pub hex_digit_letter : (n : ℕ) → n < 16 → is_letter (hex_digit n) ≡ true
hex_digit_letter n h = grind arith

-- a byte's two digits in front of letters
pub pair_letters : (b : ℕ) (rest : List ℕ) → b < 256 → letters rest ≡ true → letters (hex_of (b ∷ []) ++ rest) ≡ true
pair_letters b rest h l =
    let high : b / 16 < 16 = omega arith in
    let low : b % 16 < 16 = omega arith in
    and_from _ _ (hex_digit_letter (b / 16) high) (and_from _ _ (hex_digit_letter (b % 16) low) l)

hex_letters : (bytes : List ℕ) → list_all (λ b. nat_lt b 256) bytes ≡ true → letters (hex_of bytes) ≡ true
hex_letters [] h = refl
hex_letters (b ∷ bytes) h =
    let fits : b < 256 = ltb-true b 256 (first_so _ _ h) in
    pair_letters b (hex_of bytes) fits (hex_letters bytes (second_so _ _ h))

hex_word : (bytes : List ℕ) → is_word bytes ≡ true → is_word (hex_of bytes) ≡ true
hex_word [] h = h
hex_word (b ∷ bytes) h = refl

pub hex_proper : (bytes : List ℕ) → is_word bytes ≡ true → list_all (λ b. nat_lt b 256) bytes ≡ true → is_proper (hex_of bytes) ≡ true
hex_proper bytes some h = and_from _ _ (hex_word bytes some) (hex_letters bytes h)
