-- The first part of the steps, found step by step.
use Rattle.std.proofs.Common.{◌≡◌, ℕ, zero, suc, ◌+◌, ◌<◌, ◌≤◌, Bool, true, false, if◌then◌else◌, List, [], ◌∷◌, length, drop, get_or, Option, None, Some, refl, sym, ap, ap₂, ◌∙◌, arith}
use Rattle.std.proofs.Math.ListN.{drop_of_length-le}
use Rattle.std.proofs.lemmas.List.{drop_more}
use Rattle.std.specs.Option.{option_map}
use Rattle.lemmas.proofs.Lists.{drop_item}
use Rattle.br_model.specs.declared.steps.Step.{Step}
use Rattle.br_model.specs.declared.steps.Step.TheVariants.{Publish}
use Rattle.br_model.specs.Program.LiveRun.{Parts, ends_with_publish, is_publish, parts_at, with_first}
use Rattle.br_model.specs.Program.SameSteps.{same_step}

-- where the first part of what stands behind so many steps ends
abbrev pub end_from : ℕ → Option Parts → Option ℕ
end_from i None = None
end_from i (Some p) = Some (i + length p.first)

abbrev pub end_of : Option Parts → Option ℕ
end_of parts = option_map (λ (p : Parts). length p.first) parts

from_start : (parts : Option Parts) → end_from 0 parts ≡ end_of parts
from_start None = refl
from_start (Some p) = let e : 0 + length p.first ≡ length p.first = omega arith in ap (λ n. Some n) e

one_more : (i : ℕ) (s : Step) (parts : Option Parts) → end_from i (with_first s parts) ≡ end_from (i + 1) parts
one_more i s None = refl
one_more i s (Some p) = let e : i + length (s ∷ p.first) ≡ (i + 1) + length p.first = omega arith in ap (λ n. Some n) e

abbrev goes : Step → Step → List Step → List Step → Bool → Bool → Option Parts
goes s o opening steps b c = if b then with_first s (parts_at opening steps) else if c then with_first s (parts_at (o ∷ opening) steps) else None

module _ (opening steps : List Step) (taken place : ℕ) where
  abbrev pub Comes : Type 0
  Comes = end_from place (parts_at (drop taken opening) (drop place steps)) ≡ end_from 0 (parts_at opening steps)

  pub opened : length opening ≤ taken → Comes → Some place ≡ end_of (parts_at opening steps)
  opened h come =
      let e : place ≡ place + 0 = omega arith in
      ap (λ n. Some n) e
      ∙ sym (ap (λ o. end_from place (parts_at o (drop place steps))) (drop_of_length-le opening h))
      ∙ come
      ∙ from_start (parts_at opening steps)

  pub unopened : length steps ≤ place → taken < length opening → Comes → None ≡ end_of (parts_at opening steps)
  unopened h more come =
      sym (ap₂ (λ o s. end_from place (parts_at o s)) (drop_more opening taken Publish more) (drop_of_length-le steps h))
      ∙ come
      ∙ from_start (parts_at opening steps)

  module _ (s o : Step) (in_steps : place < length steps) (in_opening : taken < length opening) (s_is : s ≡ get_or steps place s) (o_is : o ≡ get_or opening taken o) (come : Comes) where
    at_step : (b c : Bool) → same_step s o ≡ b → is_publish s ≡ c → end_from place (goes s o (drop (taken + 1) opening) (drop (place + 1) steps) b c) ≡ end_from 0 (parts_at opening steps)
    at_step b c e f =
        sym (ap₂ (λ b c. end_from place (goes s o (drop (taken + 1) opening) (drop (place + 1) steps) b c)) e f)
        ∙ sym (ap₂ (λ o s. end_from place (parts_at o s)) (drop_item opening taken o in_opening o_is) (drop_item steps place s in_steps s_is))
        ∙ come

    pub matched : same_step s o ≡ true → end_from (place + 1) (parts_at (drop (taken + 1) opening) (drop (place + 1) steps)) ≡ end_from 0 (parts_at opening steps)
    matched e = sym (one_more place s (parts_at (drop (taken + 1) opening) (drop (place + 1) steps))) ∙ at_step true (is_publish s) e refl

    pub skipped : same_step s o ≡ false → is_publish s ≡ true → end_from (place + 1) (parts_at (drop taken opening) (drop (place + 1) steps)) ≡ end_from 0 (parts_at opening steps)
    skipped e f =
        ap (λ l. end_from (place + 1) (parts_at l (drop (place + 1) steps))) (drop_item opening taken o in_opening o_is)
        ∙ sym (one_more place s (parts_at (o ∷ drop (taken + 1) opening) (drop (place + 1) steps)))
        ∙ at_step false true e f

    pub stopped : same_step s o ≡ false → is_publish s ≡ false → None ≡ end_of (parts_at opening steps)
    stopped e f = at_step false false e f ∙ from_start (parts_at opening steps)

-- the last step
pub ends_last : (steps : List Step) (n : ℕ) (x : Step) → n + 1 ≡ length steps → x ≡ get_or steps n x → ends_with_publish steps ≡ is_publish x
ends_last [] n x h e = absurd (omega (arith, h))
ends_last (s ∷ []) zero x h e = ap is_publish (sym e)
ends_last (s ∷ []) (suc n) x h e = absurd (omega (arith, h))
ends_last (s ∷ t ∷ steps) zero x h e = absurd (omega (arith, h))
ends_last (s ∷ t ∷ steps) (suc n) x h e = ends_last (t ∷ steps) n x (omega (arith, h)) e
