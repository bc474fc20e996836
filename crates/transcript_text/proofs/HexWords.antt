-- Bytes are read from the digits of lower case that they are written in, and from nothing else.
use Rattle.std.proofs.Common.{◌≡◌, ◌≢◌, ℕ, zero, suc, ◌+◌, ◌*◌, ◌/◌, ◌%◌, ◌<◌, Bool, true, if◌then◌else◌, List, [], ◌∷◌, length, refl, sym, ◌∙◌, ap, arith, Option, Some, None, Result, Ok, Err}
use Rattle.std.specs.Cmp.{first_so, second_so}
use Rattle.std.specs.List.{list_all}
use Rattle.std.proofs.lemmas.Bool.{and_from}
use Rattle.std.proofs.lemmas.Option.{same_Some}
use Rattle.br_model.specs.Data.Digits.{hex_digit, hex_of}
use Rattle.br_model.specs.Text.Words.{Word}
use Rattle.br_model.specs.Text.Operands.{is_byte}
use Rattle.br_model.proofs.Data.Hex.{encode_lower-is}
use Rattle.hex.specs.Hex.{IsBytes, ◌>>=◌, hex_digit_value, digit_or_error, decode_pairs, decode_of}
use Rattle.hex.specs.declared.error.FromHexError.{FromHexError}
use Rattle.hex.proofs.HexLemmas.{decode_of-even, decode_of-ok, decode_of-encode_lower}
use Rattle.transcript_text.proofs.Numerals.{if_some}
use Rattle.transcript_text.specs.Lines.{is_frame}
use Rattle.transcript_text.specs.Reading.{is_lower, bytes_in, frame}

digit_is : (c v : ℕ) → is_lower c ≡ true → hex_digit_value c ≡ Some v → (v < 16) × (c ≡ hex_digit v)
digit_is c v l h = (grind arith, grind arith)

ok_is : {x y : List ℕ} → ◌≡◌ {A = Result (List ℕ) FromHexError} (Ok x) (Ok y) → x ≡ y
ok_is h = cc

-- a pair in front of what was read
pair_is : (a b i : ℕ) (rest : Word) (bytes : List ℕ) (high low : Option ℕ) (more : Result (List ℕ) FromHexError) → is_lower a ≡ true → is_lower b ≡ true
    → hex_digit_value a ≡ high → hex_digit_value b ≡ low → ((r : List ℕ) → more ≡ Ok r → rest ≡ hex_of r)
    → ((digit_or_error a i high >>= λ (x : ℕ). (digit_or_error b (i + 1) low >>= λ (y : ℕ). Ok (x * 16 + y))) >>= λ (byte : ℕ). (more >>= λ (bs : List ℕ). Ok (byte ∷ bs))) ≡ Ok bytes
    → a ∷ b ∷ rest ≡ hex_of bytes
pair_is a b i rest bytes None low more la lb ha hb ih h = cc
pair_is a b i rest bytes (Some x) None more la lb ha hb ih h = cc
pair_is a b i rest bytes (Some x) (Some y) (Err e) la lb ha hb ih h = cc
pair_is a b i rest bytes (Some x) (Some y) (Ok r) la lb ha hb ih h =
    let p = digit_is a x la ha in
    let q = digit_is b y lb hb in
    let low : y < 16 = q.0 in
    let high : (x * 16 + y) / 16 ≡ x = omega arith in
    let rem : (x * 16 + y) % 16 ≡ y = omega arith in
    let e : (x * 16 + y) ∷ r ≡ bytes = ok_is h in
    let first : a ≡ hex_digit ((x * 16 + y) / 16) = p.1 ∙ sym (ap hex_digit high) in
    let second : b ≡ hex_digit ((x * 16 + y) % 16) = q.1 ∙ sym (ap hex_digit rem) in
    ap (λ (d : ℕ). d ∷ b ∷ rest) first
    ∙ ap (λ (d : ℕ). hex_digit ((x * 16 + y) / 16) ∷ d ∷ rest) second
    ∙ ap (λ (ds : List ℕ). hex_digit ((x * 16 + y) / 16) ∷ hex_digit ((x * 16 + y) % 16) ∷ ds) (ih r refl)
    ∙ ap hex_of e

pairs_are : (i : ℕ) (w : Word) (bytes : List ℕ) → list_all is_lower w ≡ true → decode_pairs i w ≡ Ok bytes → w ≡ hex_of bytes
unfolding decode_pairs
pairs_are i [] bytes l h = ap hex_of (ok_is h)
pairs_are i (a ∷ []) bytes l h = cc
pairs_are i (a ∷ b ∷ rest) bytes l h =
    let more = second_so (is_lower b) (list_all is_lower rest) (second_so (is_lower a) (list_all is_lower (b ∷ rest)) l) in
    pair_is a b i rest bytes (hex_digit_value a) (hex_digit_value b) (decode_pairs (i + 2) rest) (first_so _ _ l)
    (first_so (is_lower b) (list_all is_lower rest) (second_so (is_lower a) (list_all is_lower (b ∷ rest)) l)) refl refl
    (λ r e. pairs_are (i + 2) rest r more e) h

bytes_are : (bytes : List ℕ) → IsBytes bytes → list_all is_byte bytes ≡ true
bytes_are [] h = refl
bytes_are (b ∷ bytes) h = and_from _ _ (small b (h 0)) (bytes_are bytes (λ k. h (suc k)))
  where
    small : (b : ℕ) → b < 256 → is_byte b ≡ true
    small b h = grind arith

are_bytes : (bytes : List ℕ) → list_all is_byte bytes ≡ true → IsBytes bytes
are_bytes [] h k = omega arith
are_bytes (b ∷ bytes) h zero = small b (first_so _ _ h)
  where
    small : (b : ℕ) → is_byte b ≡ true → b < 256
    small b h = grind arith
are_bytes (b ∷ bytes) h (suc k) = are_bytes bytes (second_so _ _ h) k

given : (r : Result (List ℕ) FromHexError) {bytes : List ℕ} → bytes_in r ≡ Some bytes → r ≡ Ok bytes
given (Ok x) h = ap Ok (same_Some _ _ h)
given (Err e) h = cc

is_some_frame : (c : ℕ) (cs bytes : List ℕ) → c ∷ cs ≡ hex_of bytes → list_all is_byte bytes ≡ true → is_frame bytes ≡ true
is_some_frame c cs [] e h = cc
is_some_frame c cs (b ∷ bytes) e h = h

pub frame_is : (w : Word) {bytes : List ℕ} → frame w ≡ Some bytes → (w ≡ hex_of bytes) × (is_frame bytes ≡ true)
frame_is [] h = cc
frame_is (c ∷ cs) {bytes} h =
    let p = if_some (list_all is_lower (c ∷ cs)) (bytes_in (decode_of (c ∷ cs))) h in
    let d : decode_of (c ∷ cs) ≡ Ok bytes = given (decode_of (c ∷ cs)) p.1 in
    let ok = decode_of-ok (c ∷ cs) bytes d in
    let e : c ∷ cs ≡ hex_of bytes = pairs_are 0 (c ∷ cs) bytes p.0 (sym (decode_of-even (c ∷ cs) ok.0) ∙ d) in
    (e, is_some_frame c cs bytes e (bytes_are bytes ok.3))

lower_digit : (n : ℕ) → n < 16 → is_lower (hex_digit n) ≡ true
lower_digit n h = grind arith

lower_digits : (bytes : List ℕ) → list_all is_byte bytes ≡ true → list_all is_lower (hex_of bytes) ≡ true
lower_digits [] h = refl
lower_digits (b ∷ bytes) h =
    let fits : b < 256 = are_bytes (b ∷ bytes) h 0 in
    let high : b / 16 < 16 = omega arith in
    let low : b % 16 < 16 = omega arith in
    and_from _ _ (lower_digit (b / 16) high) (and_from _ _ (lower_digit (b % 16) low) (lower_digits bytes (second_so _ _ h)))

pub frame_back : (bytes : List ℕ) → is_frame bytes ≡ true → frame (hex_of bytes) ≡ Some bytes
frame_back [] h = cc
frame_back (b ∷ bytes) h =
    let all : IsBytes (b ∷ bytes) = are_bytes (b ∷ bytes) h in
    ap (λ (t : Bool). if t then bytes_in (decode_of (hex_of (b ∷ bytes))) else None) (lower_digits (b ∷ bytes) h)
    ∙ ap (λ (w : Word). bytes_in (decode_of w)) (sym (encode_lower-is (b ∷ bytes) all))
    ∙ ap bytes_in (decode_of-encode_lower (b ∷ bytes) all)

-- what `decode` gives of digits that are written in lower case
pub frame_decoded : (digits w : Word) (bytes : List ℕ) → digits ≡ w → length digits ≢ 0 → list_all is_lower digits ≡ true → decode_of digits ≡ Ok bytes → Some bytes ≡ frame w
frame_decoded digits w bytes same some lower h = by digits some lower h ∙ ap frame same
  where
    by : (w : Word) → length w ≢ 0 → list_all is_lower w ≡ true → decode_of w ≡ Ok bytes → Some bytes ≡ frame w
    by [] some lower h = absurd (some refl)
    by (c ∷ cs) some lower h = sym (ap (λ (t : Bool). if t then bytes_in (decode_of (c ∷ cs)) else None) lower ∙ ap bytes_in h)
