-- No line differs where texts are the same, a last line feed aside, and only there.
use Rattle.std.proofs.Common.{◌≡◌, ℕ, ◌+◌, ◌==◌, Bool, true, false, if◌then◌else◌, List, [], ◌∷◌, None, Some, refl, sym, ◌∙◌, ap, arith}
use Rattle.std.specs.Str.{bytes_eq}
use Rattle.std.proofs.lemmas.Slice.Eq.{bytes_eq-Decides}
use Rattle.br_model.specs.Program.Checks.{difference, difference_from, in_first, lines_in}
use Rattle.br_model.specs.Theorems.WholeLines.{lines_text, with_feed}
use Rattle.br_model.proofs.Text.Words.{equal}

-- lines that are the same

same_lines : (n : ℕ) (xs : List (List ℕ)) → difference_from n xs xs ≡ None
same_lines n [] = refl
same_lines n (x ∷ xs) =
    ap (λ b. if b then difference_from (n + 1) xs xs else Some (record { line = n; expected = x; found = x })) (equal x x refl) ∙ same_lines (n + 1) xs

by_first : (n : ℕ) (x y : List ℕ) (xs ys : List (List ℕ)) (b : Bool) → bytes_eq x y ≡ b
    → (if b then difference_from (n + 1) xs ys else Some (record { line = n; expected = x; found = y })) ≡ None
    → (difference_from (n + 1) xs ys ≡ None → xs ≡ ys) → x ∷ xs ≡ y ∷ ys
by_first n x y xs ys true e h later = ap (λ (l : List ℕ). l ∷ xs) ((bytes_eq-Decides x y).0 e) ∙ ap (λ (ls : List (List ℕ)). y ∷ ls) (later h)
by_first n x y xs ys false e h later = absurd (cc)

no_difference_from : (n : ℕ) (xs ys : List (List ℕ)) → difference_from n xs ys ≡ None → xs ≡ ys
no_difference_from n [] [] h = refl
no_difference_from n [] (y ∷ ys) h = absurd (cc)
no_difference_from n (x ∷ xs) [] h = absurd (cc)
no_difference_from n (x ∷ xs) (y ∷ ys) h = by_first n x y xs ys (bytes_eq x y) refl h (no_difference_from (n + 1) xs ys)

-- the lines of a text

is_feed : (b : ℕ) → (b == 10) ≡ true → b ≡ 10
is_feed b h = grind arith

-- a text with bytes has a line
pub record HasLine (lines : List (List ℕ)) : Type 0 where
  pub first : List ℕ
  pub later : List (List ℕ)
  pub is : lines ≡ first ∷ later

pub first_has : (b : ℕ) (lines : List (List ℕ)) → HasLine (in_first b lines)
first_has b [] = record { first = b ∷ []; later = []; is = refl }
first_has b (line ∷ lines) = record { first = b ∷ line; later = lines; is = refl }

pub has_line : (b : ℕ) (text : List ℕ) → HasLine (lines_in (b ∷ text))
has_line b text = by_feed (b == 10)
  where
    by_feed : (t : Bool) → HasLine (if t then [] ∷ lines_in text else in_first b (lines_in text))
    by_feed true = record { first = []; later = lines_in text; is = refl }
    by_feed false = first_has b (lines_in text)

-- a byte in front of lines is one in front of their text
in_front : (b : ℕ) (lines : List (List ℕ)) → HasLine lines → lines_text (in_first b lines) ≡ b ∷ lines_text lines
in_front b lines h =
    ap (λ (ls : List (List ℕ)). lines_text (in_first b ls)) h.is ∙ ap (λ (ls : List (List ℕ)). b ∷ lines_text ls) (sym h.is)

-- the text of its lines has the last line feed
lines_back : (text : List ℕ) → lines_text (lines_in text) ≡ with_feed text
lines_back [] = refl
lines_back (b ∷ []) = by_feed (b == 10) refl
  where
    by_feed : (t : Bool) → (b == 10) ≡ t → lines_text (if t then [] ∷ [] else in_first b []) ≡ (if t then b ∷ [] else b ∷ 10 ∷ [])
    by_feed true e = ap (λ (c : ℕ). c ∷ []) (sym (is_feed b e))
    by_feed false e = refl
lines_back (b ∷ c ∷ text) = by_feed (b == 10) refl ∙ ap (λ (t : List ℕ). b ∷ t) (lines_back (c ∷ text))
  where
    by_feed : (t : Bool) → (b == 10) ≡ t → lines_text (if t then [] ∷ lines_in (c ∷ text) else in_first b (lines_in (c ∷ text))) ≡ b ∷ lines_text (lines_in (c ∷ text))
    by_feed true e = ap (λ (d : ℕ). d ∷ lines_text (lines_in (c ∷ text))) (sym (is_feed b e))
    by_feed false e = in_front b (lines_in (c ∷ text)) (has_line c text)

-- the last line feed adds no line
lines_fed : (text : List ℕ) → lines_in (with_feed text) ≡ lines_in text
lines_fed [] = refl
lines_fed (b ∷ []) = by_feed (b == 10) refl
  where
    by_feed : (t : Bool) → (b == 10) ≡ t → lines_in (if t then b ∷ [] else b ∷ 10 ∷ []) ≡ lines_in (b ∷ [])
    by_feed true e = refl
    by_feed false e =
        ap (λ t. if t then [] ∷ [] ∷ [] else (b ∷ []) ∷ []) e ∙ sym (ap (λ t. if t then [] ∷ [] else (b ∷ []) ∷ []) e)
lines_fed (b ∷ c ∷ text) = ap (λ (lines : List (List ℕ)). if b == 10 then [] ∷ lines else in_first b lines) (lines_fed (c ∷ text))

pub only_told : (expected found : List ℕ) → difference expected found ≡ None → with_feed found ≡ with_feed expected
only_told expected found h =
    sym (lines_back found) ∙ ap lines_text (sym (no_difference_from 1 (lines_in expected) (lines_in found) h)) ∙ lines_back expected

pub always_yes : (expected found : List ℕ) → with_feed found ≡ with_feed expected → difference expected found ≡ None
always_yes expected found h =
    ap (difference_from 1 (lines_in expected)) (sym (lines_fed found) ∙ ap lines_in h ∙ lines_fed expected) ∙ same_lines 1 (lines_in expected)
