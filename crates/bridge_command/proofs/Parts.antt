-- An address that is read part by part.
use Rattle.std.proofs.Common.{◌≡◌, ℕ, suc, ◌+◌, ◌*◌, ◌^◌, ◌<◌, ◌≤◌, ◌==◌, Bool, true, false, if◌then◌else◌, List}
use Rattle.std.proofs.Common.{◌∷◌, length, drop, get_or, refl, sym, ◌∙◌, ap, subst, arith, Option, None, Some, add-one}
use Rattle.std.specs.List.{fold}
use Rattle.std.specs.Option.{option_map}
use Rattle.std.proofs.Math.Nat.{mul-le-mul_left, pow-le-pow_right, pow-succ', pow-zero, le_trans}
use Rattle.std.proofs.lemmas.Bool.{ne_eqb, eq-eqb}
use Rattle.std.proofs.lemmas.List.{at_drop_more, drop_all}
use Rattle.br_model.specs.Data.Digits.{in_front}
use Rattle.br_model.specs.Text.IpWords.{each, in_parts}
use Rattle.br_model.specs.Text.Words.{Word}

-- what follows `address` spells, where the parts that are left are these
abbrev pub goes_on : ℕ → (Word → Option ℕ) → ℕ → List Word → Option ℕ
goes_on base part address words = option_map (fold (λ n digit. base * n + digit) address) (each part words)

-- So many parts have been read, and no more than there may be.
pub record Reads (base : ℕ) (part : Word → Option ℕ) (most : ℕ) (words : List Word) (count address : ℕ) : Type 0 where
  pub whole : goes_on base part address (drop count words) ≡ goes_on base part 0 words
  pub few : count ≤ most
  pub small : address < base ^ count

module _ (base : ℕ) (part : Word → Option ℕ) (most : ℕ) (words : List Word) where
  pub none_read : Reads base part most words 0 0
  none_read = record { whole = refl; few = omega arith; small = subst (λ (p : ℕ). 0 < p) (sym (pow-zero base)) (omega arith) }

  front : (n : ℕ) (a : ℕ) (o : Option ℕ) (more : Option (List ℕ)) → o ≡ Some n
      → option_map (fold (λ n digit. base * n + digit) a) (in_front o more) ≡ option_map (fold (λ n digit. base * n + digit) (base * a + n)) more
  front n a o None h = ap (λ (p : Option ℕ). option_map (fold (λ n digit. base * n + digit) a) (in_front p None)) h
  front n a o (Some ns) h = ap (λ (p : Option ℕ). option_map (fold (λ n digit. base * n + digit) a) (in_front p (Some ns))) h

  -- the next part is read
  pub more_read : (count a n new : ℕ) (w : Word) → Reads base part most words count a → count < length words → w ≡ get_or words count w → (count ≡ most → ⊥) → part w ≡ Some n → n < base
      → new ≡ base * a + n → Reads base part most words (count + 1) new
  more_read count a n new w r more is not_most h low e = subst (Reads base part most words (count + 1)) (sym e) (record {
    whole =
        sym (front n a (part w) (each part (drop (count + 1) words)) h)
        ∙ ap (λ (v : Word). goes_on base part a (v ∷ drop (count + 1) words)) is
        ∙ sym (at_drop_more (goes_on base part a) words count w more)
        ∙ r.whole;
    few = let few = r.few in omega arith;
    small = subst (λ (p : ℕ). base * a + n < p) (sym (ap (λ (i : ℕ). base ^ i) (add-one count) ∙ pow-succ' base count)) (below (base ^ count) (mul-le-mul_left base r.small));
  })
    where
      below : (p : ℕ) → base * suc a ≤ base * p → base * a + n < base * p
      below p h = omega arith

  -- the next part is no number
  pub not_read : (count a : ℕ) (w : Word) → Reads base part most words count a → count < length words → w ≡ get_or words count w → part w ≡ None
      → None ≡ in_parts most base part words
  not_read count a w r more is h = sym (by (length words == most))
    where
      nothing : goes_on base part a (w ∷ drop (count + 1) words) ≡ None
      nothing = ap (λ (o : Option ℕ). option_map (fold (λ n digit. base * n + digit) a) (in_front o (each part (drop (count + 1) words)))) h

      by : (b : Bool) → (if b then goes_on base part 0 words else None) ≡ None
      by true =
          sym r.whole
          ∙ at_drop_more (goes_on base part a) words count w more
          ∙ sym (ap (λ (v : Word). goes_on base part a (v ∷ drop (count + 1) words)) is)
          ∙ nothing
      by false = refl

  -- there are too many parts, or too few
  pub other_count : (length words ≡ most → ⊥) → None ≡ in_parts most base part words
  other_count h = sym (ap (λ (b : Bool). if b then goes_on base part 0 words else None) (ne_eqb (length words) most h))

  -- all parts are read
  pub all_read : (count a : ℕ) → Reads base part most words count a → count ≡ length words → count ≡ most → Some a ≡ in_parts most base part words
  all_read count a r all is =
      sym (
      ap (λ (b : Bool). if b then goes_on base part 0 words else None) (eq-eqb (length words) most (sym all ∙ is))
      ∙ sym r.whole
      ∙ ap (goes_on base part a) (drop_all count words (omega arith)))

-- a number of fewer parts, and room for one more
pub room : (base most count a : ℕ) → 0 < base → count ≤ most → (count ≡ most → ⊥) → a < base ^ count → base * suc a ≤ base ^ most
room base most count a positive few not h =
    le_trans
    (subst (λ (p : ℕ). base * suc a ≤ p) (sym (pow-succ' base count)) (mul-le-mul_left base h))
    (pow-le-pow_right positive (omega arith))
