-- The flag of a name, as a table of flags finds it.
use Rattle.std.proofs.Common.{◌≡◌, ℕ, ◌<◌, ◌==◌, nat_eq, nat_lt, Bool, true, false, if◌then◌else◌, List, [], ◌∷◌, length, Option, Some, None, refl, ◌∙◌, ap, arith}
use Rattle.std.specs.Cmp.{first_so, second_so}
use Rattle.std.specs.Cmp.Lexicographic.{pointwise}
use Rattle.std.specs.List.{list_all}
use Rattle.std.specs.Str.{bytes_eq}
use Rattle.std.proofs.lemmas.Bool.Decides.{Decides-eqb}
use Rattle.std.proofs.lemmas.Slice.Eq.{bytes_eq-Decides, slice_eq-Decides}
use Rattle.bitflags.specs.Sets.{find_row, find_name}
use Rattle.br_model.specs.Text.FlagWords.{flags, flag_named}
use Rattle.br_model.specs.Text.Words.{Word}

same_word : (a b : Word) → pointwise nat_eq a b ≡ bytes_eq b a
same_word a b = grind (arith, slice_eq-Decides Decides-eqb a b (pointwise nat_eq a b) refl, bytes_eq-Decides b a)

rows_named : (fs : List (Word × ℕ)) (w : Word) → find_row fs w ≡ flag_named fs w
unfolding find_row
rows_named [] w = refl
rows_named (f ∷ fs) w =
    ap (λ (b : Bool). if b then Some f.1 else find_row fs w) (same_word f.0 w)
    ∙ ap (λ (o : Option ℕ). if bytes_eq w f.0 then Some f.1 else o) (rows_named fs w)

pub named : (w : Word) → find_name flags w ≡ flag_named flags w
named [] = refl
named (c ∷ w) = ap (λ (b : Bool). if b then None else find_row flags (c ∷ w)) (some c w) ∙ rows_named flags (c ∷ w)
  where
    some : (c : ℕ) (w : Word) → (length (c ∷ w) == 0) ≡ false
    some c w = grind arith

small_by : (fs : List (Word × ℕ)) (w : Word) (n : ℕ) → list_all (λ f. nat_lt f.1 64) fs ≡ true → flag_named fs w ≡ Some n → n < 64
small_by [] w n all h = absurd (cc)
small_by (f ∷ fs) w n all h = by (bytes_eq w f.0) (small_by fs w n (second_so _ _ all)) h
  where
    below : (m n : ℕ) → nat_lt m 64 ≡ true → Some m ≡ Some n → n < 64
    below m n l e =
        let same : m ≡ n = cc in
        grind arith

    by : (b : Bool) → (flag_named fs w ≡ Some n → n < 64) → (if b then Some f.1 else flag_named fs w) ≡ Some n → n < 64
    by true later h = below f.1 n (first_so _ _ all) h
    by false later h = later h

pub small : (w : Word) (n : ℕ) → flag_named flags w ≡ Some n → n < 64
small w n h = small_by flags w n refl h
