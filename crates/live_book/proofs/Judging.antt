-- The tests together are the definition of a live run.
use Rattle.std.proofs.Common.{◌≡◌, ℕ, suc, ◌+◌, ◌-◌, ◌==◌, nat_le, Bool, true, false, not, ◌&&◌, cond, List, [], ◌∷◌}
use Rattle.std.proofs.Common.{◌++◌, length, drop, take, Option, None, Some, IfSome, IfOk, refl, sym, ap, ap₂, ◌∙◌, arith}
use Rattle.std.proofs.Math.Seq.{drop-append_seam}
use Rattle.std.specs.declared.result.Result.{Result}
use Rattle.std.specs.declared.result.Result.TheVariants.{Ok, Err}
use Rattle.std.proofs.lemmas.List.{length-drop, take_all}
use Rattle.std.specs.List.{list_all, position_or_len, slice_range}
use Rattle.std.proofs.lemmas.Option.{same_Some}
use Rattle.lemmas.proofs.Tests.{and_assoc, and-false, and-true}
use Rattle.br_model.specs.declared.steps.Step.{Step}
use Rattle.br_model.specs.declared.transcript.Line.{Line}
use Rattle.br_model.specs.Plane.Runs.{run}
use Rattle.br_model.specs.Plane.World.{World}
use Rattle.br_model.specs.Program.LiveRun.{Parts, ends_with_publish, from_frame, is_drained, is_frame, is_live_by, is_live_run}
use Rattle.br_model.specs.Program.LiveRun.{is_publish, may_drain, parts_at, same_frames, same_order, until_frame, with_first}
use Rattle.br_model.specs.Program.Runs.{setup_of}
use Rattle.br_model.specs.Program.SameSteps.{same_step}
use Rattle.br_model.specs.Text.Scenario.{Scenario}
use Rattle.live_book.specs.declared.drained.Remains.{Remains}
use Rattle.live_book.specs.Ends.{IsBook, is_idle}
use Rattle.live_book.specs.Reading.{is_published, may_change, was_refused}
use Rattle.live_book.proofs.Openings.{end_of}
use Rattle.live_book.proofs.BookLines.{nothing_in, read_chips, read_published}

-- the steps before the first frame

until_take : (xs : List Step) → until_frame xs ≡ take (position_or_len is_frame xs) xs
until_take [] = refl
until_take (x ∷ xs) = elim (is_frame x) as (λ b. cond b [] (x ∷ until_frame xs) ≡ take (cond (not b) (1 + position_or_len is_frame xs) 0) (x ∷ xs)) [
  | true ↦ refl
  | false ↦ let e : suc (position_or_len is_frame xs) ≡ 1 + position_or_len is_frame xs = omega arith in ap (λ (l : List Step). x ∷ l) (until_take xs) ∙ ap (λ n. take n (x ∷ xs)) e
]

from_drop : (xs : List Step) → from_frame xs ≡ drop (position_or_len is_frame xs) xs
from_drop [] = refl
from_drop (x ∷ xs) = elim (is_frame x) as (λ b. cond b (x ∷ xs) (from_frame xs) ≡ drop (cond (not b) (1 + position_or_len is_frame xs) 0) (x ∷ xs)) [
  | true ↦ refl
  | false ↦ let e : suc (position_or_len is_frame xs) ≡ 1 + position_or_len is_frame xs = omega arith in from_drop xs ∙ ap (λ n. drop n (x ∷ xs)) e
]

-- the first part and the later steps are all

abbrev Splits : List Step → Parts → Type 0
Splits steps p = steps ≡ p.first ++ p.later

with_one : (s : Step) (steps : List Step) (r : Option Parts) → IfSome r (Splits steps) → IfSome (with_first s r) (Splits (s ∷ steps))
with_one s steps None h = tt
with_one s steps (Some p) h = ap (λ (l : List Step). s ∷ l) h

split : (opening steps : List Step) → IfSome (parts_at opening steps) (Splits steps)
split [] steps = refl
split (o ∷ opening) [] = tt
split (o ∷ opening) (s ∷ steps) =
    elim (same_step s o) as (λ b. IfSome (cond b (with_first s (parts_at opening steps)) (cond (is_publish s) (with_first s (parts_at (o ∷ opening) steps)) None)) (Splits (s ∷ steps))) [
      | true ↦ with_one s steps (parts_at opening steps) (split opening steps)
      | false ↦ elim (is_publish s) as (λ c. IfSome (cond c (with_first s (parts_at (o ∷ opening) steps)) None) (Splits (s ∷ steps))) [
        | true ↦ with_one s steps (parts_at (o ∷ opening) steps) (split (o ∷ opening) steps)
        | false ↦ tt
      ]
    ]

-- together

three : (a b c d : Bool) → (a && (b && (c && d))) ≡ ((a && (b && c)) && d)
three true true c d = refl
three true false c d = refl
three false b c d = refl

module _ (sc : Scenario) (given steps : List Step) (told : List Line) (left : Remains) (book : IsBook sc given steps told left) where
  abbrev at_end : World
  at_end = (run (setup_of sc.roster) steps).0

  -- what is left to do
  drained : is_drained (setup_of sc.roster) steps at_end ≡ (is_idle left && list_all (was_refused steps told) left.reporting)
  drained =
      ap₂ (λ a b. a && b) (sym (nothing_in at_end.waiting) ∙ ap (λ n. n == 0) (sym book.rest.waiting))
      (ap₂ (λ a b. a && b) (sym (nothing_in at_end.held) ∙ ap (λ n. n == 0) (sym book.rest.held))
      (ap₂ (λ a b. a && b) (ap (λ n. n == 0) (sym book.rest.pending))
      (sym (read_chips (setup_of sc.roster) steps at_end.chips) ∙ ap₂ (λ (t : List Line) (r : List ℕ). list_all (was_refused steps t) r) (sym book.lines) (sym book.rest.reporting))))
      ∙ three (left.waiting == 0) (left.held == 0) (left.pending == 0) (list_all (was_refused steps told) left.reporting)

  module _ (opening : ℕ) (before : opening ≡ position_or_len is_frame given) where
    opens : until_frame sc.steps ≡ take opening given
    opens = ap until_frame (sym book.own) ∙ until_take given ∙ ap (λ n. take n given) (sym before)

    goes_on : from_frame sc.steps ≡ drop opening given
    goes_on = ap from_frame (sym book.own) ∙ from_drop given ∙ ap (λ n. drop n given) (sym before)

    no_part : (r : Option Parts) → None ≡ end_of r → false ≡ is_live_by sc steps r
    no_part None h = refl
    no_part (Some p) h = absurd (cc)

    -- without a first part it is none
    pub without : None ≡ end_of (parts_at (take opening given) steps) → false ≡ is_live_run steps sc
    unfolding is_live_run
    without h = no_part (parts_at (take opening given) steps) h ∙ ap (λ (l : List Step). is_live_by sc steps (parts_at l steps)) (sym opens)

    module _ (n drain : ℕ) (drains : (k : ℕ) → list_all may_drain (drop k steps) ≡ nat_le drain k) where
      abbrev pub settled : Bool
      settled = list_all (is_published (may_change steps n drain)) told && (ends_with_publish steps && (is_idle left && list_all (was_refused steps told) left.reporting))

      abbrev pub in_order : Bool
      in_order = same_frames (drop n steps) (drop opening given) && same_order (drop n steps) (drop opening given)

      by_part : (r : Option Parts) → Some n ≡ end_of r → IfSome r (Splits steps) → is_live_by sc steps r ≡ (in_order && settled)
      by_part None h splits = absurd (cc)
      by_part (Some p) h splits =
          let count : n ≡ length p.first = same_Some n (length p.first) h in
          let later : p.later ≡ drop n steps = sym (ap (drop n) splits ∙ ap (λ m. drop m (p.first ++ p.later)) count ∙ drop-append_seam p.first p.later) in
          ap₂ (λ a b. a && b) (ap₂ same_frames later goes_on)
          (ap₂ (λ a b. a && b) (ap₂ same_order later goes_on)
          (ap₂ (λ a b. a && b)
          (sym (ap (list_all (is_published (may_change steps n drain))) book.lines ∙ read_published (setup_of sc.roster) steps p.first p.later n drain splits count drains))
          (ap (λ b. ends_with_publish steps && b) drained)))
          ∙ and_assoc (same_frames (drop n steps) (drop opening given)) (same_order (drop n steps) (drop opening given)) settled

      pub whole : Some n ≡ end_of (parts_at (take opening given) steps) → is_live_run steps sc ≡ (in_order && settled)
      unfolding is_live_run
      whole h = ap (λ (l : List Step). is_live_by sc steps (parts_at l steps)) opens ∙ by_part (parts_at (take opening given) steps) h (split (take opening given) steps)

-- not settled
pub unsettled : (live order all : Bool) → live ≡ (order && all) → all ≡ false → false ≡ live
unsettled live order all is not_so = sym (is ∙ ap (λ b. order && b) not_so ∙ and-false order)

-- settled
pub as_ordered : (live order all same : Bool) → live ≡ (order && all) → all ≡ true → same ≡ order → same ≡ live
as_ordered live order all same is so found = found ∙ sym (is ∙ ap (λ b. order && b) so ∙ and-true order)

pub if_ok : {E : Type 0} (r : Result Bool E) (P Q : Bool → Type 0) → IfOk r P → ((b : Bool) → P b → Q b) → IfOk r Q
if_ok (Ok b) P Q h gives = gives b h
if_ok (Err e) P Q h gives = tt

-- what stands behind so many steps
pub to_end : (xs : List Step) (n : ℕ) → slice_range xs n (length xs) ≡ drop n xs
to_end xs n = take_all (length xs - n) (drop n xs) (omega (arith, length-drop n xs))
