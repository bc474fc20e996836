-- The same steps in each lane are the same frames at each port and the same ordered steps.
use Rattle.std.proofs.Common.{◌≡◌, ℕ, zero, suc, ◌&&◌, Bool, true, false, List, ◌++◌, refl}
use Rattle.std.specs.Cmp.{first_so, second_so}
use Rattle.std.specs.List.{filter}
use Rattle.std.proofs.lemmas.Bool.{and_from}
use Rattle.br_model.specs.declared.steps.Step.{Step}
use Rattle.br_model.specs.Program.LiveRun.{is_ordered, same_frames, same_order}
use Rattle.br_model.proofs.Program.SameFrames.{frames_in, frames_same}
use Rattle.br_model.proofs.Program.SameSteps.{steps_decide}
use Rattle.live_book.specs.Lanes.{is_in_lane}

abbrev AreSame : List Step → List Step → Type 0
AreSame xs ys = (q : ℕ) → filter (is_in_lane q) xs ≡ filter (is_in_lane q) ys

pub all_same : (xs ys : List Step) → AreSame xs ys → (same_frames xs ys && same_order xs ys) ≡ true
all_same xs ys same =
    and_from (same_frames xs ys) (same_order xs ys) (frames_in xs ys (xs ++ ys) (λ q. same (suc q))) ((steps_decide (filter is_ordered xs) (filter is_ordered ys)).1 (same zero))

lane_same : (xs ys : List Step) (q : ℕ) → same_frames xs ys ≡ true → same_order xs ys ≡ true → filter (is_in_lane q) xs ≡ filter (is_in_lane q) ys
lane_same xs ys zero frames order = (steps_decide (filter is_ordered xs) (filter is_ordered ys)).0 order
lane_same xs ys (suc q) frames order = frames_same q xs ys frames

pub one_differs : (xs ys : List Step) (q : ℕ) → (filter (is_in_lane q) xs ≡ filter (is_in_lane q) ys → ⊥) → (same_frames xs ys && same_order xs ys) ≡ false
one_differs xs ys q other = by_both (same_frames xs ys && same_order xs ys) refl
  where
    by_both : (b : Bool) → (same_frames xs ys && same_order xs ys) ≡ b → b ≡ false
    by_both true h = absurd (other (lane_same xs ys q (first_so (same_frames xs ys) (same_order xs ys) h) (second_so (same_frames xs ys) (same_order xs ys) h)))
    by_both false h = refl
