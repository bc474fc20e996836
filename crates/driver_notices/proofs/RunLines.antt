-- What the lines of a run say: its changes, its queue, and what comes to a chip.
use Rattle.std.proofs.Common.{◌≡◌, ℕ, ◌+◌, List, [], ◌∷◌, ◌++◌, length, map, refl, sym, ap, subst, ◌∙◌, arith}
use Rattle.std.specs.List.{enumerate_from, flat_map, fold}
use Rattle.std.proofs.lemmas.Grind.{flat_map-append}
use Rattle.std.proofs.lemmas.List.{map-append}
use Rattle.std.proofs.lemmas.List.Elements.{filter-append}
use Rattle.std.proofs.lemmas.List.Sums.{fold-append}
use Rattle.br_model.specs.declared.change.Change.{Change}
use Rattle.br_model.specs.declared.domains.Edition.{Edition}
use Rattle.br_model.specs.declared.steps.Step.{Step}
use Rattle.br_model.specs.Plane.Runs.{run, then_step}
use Rattle.br_model.specs.Plane.Steps.{world_step}
use Rattle.br_model.specs.Plane.World.{World, Stepped, first_world}
use Rattle.br_model.specs.Table.Change.{deferred}
use Rattle.br_model.specs.Table.Cut.{deferred_count, deferred_of}
use Rattle.br_model.specs.Table.Setup.{Setup}
use Rattle.br_model.specs.Theorems.Applied.{accepted_in, applied, applied_in, then_applied}
use Rattle.br_model.specs.Theorems.Invariants.{IsWorld}
use Rattle.br_model.proofs.Plane.Applied.{run-setup, step-setup}
use Rattle.br_model.proofs.Plane.Growing.{enumerate-append}
use Rattle.br_model.proofs.Plane.Kept.{first-world, step-world}
use Rattle.driver_notices.specs.declared.line.NoticeLine.{NoticeLine}
use Rattle.driver_notices.specs.Notices.{lines, lines_in, notes}
use Rattle.driver_notices.specs.Views.{accepted_by, numbered, queue, queued_by, reached_by}
use Rattle.driver_notices.proofs.StepLines.{numbered_from, step-accepted, step-grows, step-queued, step-reached}

-- The world goes on as in a run.
pub notes-world : (x : World × List NoticeLine) (y : Stepped) (steps : List Step) → x.0 ≡ y.0 → (fold notes x steps).0 ≡ (fold then_step y steps).0
notes-world x y [] same = same
notes-world x y (step ∷ steps) same = notes-world (notes x step) (then_step y step) steps (ap (λ w. (world_step w step).0) same)

pub first-notes : (setup : Setup) (steps : List Step) → (fold notes (first_world setup, []) steps).0 ≡ (run setup steps).0
unfolding run
first-notes setup steps = notes-world (first_world setup, []) (first_world setup, []) steps refl

-- with one step more
pub lines-push : (setup : Setup) (steps : List Step) (step : Step) → lines setup (steps ++ step ∷ []) ≡ lines setup steps ++ lines_in (run setup steps).0 step
unfolding lines
lines-push setup steps step =
    let first : World × List NoticeLine = (first_world setup, []) in
    ap (λ (x : World × List NoticeLine). x.1) (fold-append notes first steps (step ∷ []))
    ∙ ap (λ (w : World). (fold notes first steps).1 ++ lines_in w step) (first-notes setup steps)

-- What each step keeps holds at the end.
module _ (P : World → List NoticeLine → Type 0) (keeps : (w : World) (ls : List NoticeLine) (step : Step) → IsWorld w → P w ls → P (world_step w step).0 (ls ++ lines_in w step)) where
  fold-keeps : (x : World × List NoticeLine) (steps : List Step) → IsWorld x.0 → P x.0 x.1 → P (fold notes x steps).0 (fold notes x steps).1
  fold-keeps x [] k p = p
  fold-keeps x (step ∷ steps) k p = fold-keeps (notes x step) steps (step-world x.0 step k) (keeps x.0 x.1 step k p)

  pub run-keeps : (setup : Setup) (steps : List Step) → P (first_world setup) [] → P (run setup steps).0 (lines setup steps)
  unfolding lines
  run-keeps setup steps p =
      subst (λ w. P w (fold notes (first_world setup, []) steps).1) (first-notes setup steps) (fold-keeps (first_world setup, []) steps (first-world setup) p)

-- Changes.

Tells : World → List NoticeLine → Type 0
Tells w ls = flat_map accepted_by ls ≡ w.history

tells : (w : World) (ls : List NoticeLine) (step : Step) → IsWorld w → Tells w ls → Tells (world_step w step).0 (ls ++ lines_in w step)
unfolding Tells
tells w ls step k p =
    flat_map-append accepted_by ls (lines_in w step)
    ∙ ap (λ (l : List Change). l ++ flat_map accepted_by (lines_in w step)) p
    ∙ ap (λ (l : List Change). w.history ++ l) (step-accepted w step)
    ∙ sym (step-grows w step)

pub run-told : (setup : Setup) (steps : List Step) → flat_map accepted_by (lines setup steps) ≡ (run setup steps).0.history
unfolding Tells
run-told setup steps = run-keeps Tells tells setup steps refl

-- The queue.

pub queue-numbered : (edition : Edition) (h : List Change) → queue edition h ≡ numbered_from 0 (deferred_of edition h)
queue-numbered edition h = all (enumerate_from 0 (deferred_of edition h))
  where
    all : (xs : List (ℕ × Change)) → map numbered (map (λ x. record { ticket = x.0; change = x.1 }) xs) ≡ map (λ x. (x.0 + 1, x.1)) xs
    all [] = refl
    all (x ∷ xs) = ap (λ l. (x.0 + 1, x.1) ∷ l) (all xs)

numbered-append : (n : ℕ) (cs ds : List Change) → numbered_from n (cs ++ ds) ≡ numbered_from n cs ++ numbered_from (n + length cs) ds
numbered-append n cs ds =
    ap (map (λ x. (x.0 + 1, x.1))) (enumerate-append n cs ds)
    ∙ map-append (λ x. (x.0 + 1, x.1)) (enumerate_from n cs) (enumerate_from (n + length cs) ds)

-- from the first number on
pub numbered-behind : (cs ds : List Change) → numbered_from 0 (cs ++ ds) ≡ numbered_from 0 cs ++ numbered_from (length cs) ds
numbered-behind cs ds =
    let e : 0 + length cs ≡ length cs = omega arith in
    numbered-append 0 cs ds ∙ ap (λ n. numbered_from 0 cs ++ numbered_from n ds) e

queue-append : (edition : Edition) (h cs : List Change) → queue edition (h ++ cs) ≡ queue edition h ++ numbered_from (deferred_count edition h) (deferred_of edition cs)
queue-append edition h cs =
    queue-numbered edition (h ++ cs)
    ∙ ap (numbered_from 0) (filter-append (deferred edition) h cs)
    ∙ numbered-behind (deferred_of edition h) (deferred_of edition cs)
    ∙ ap (λ l. l ++ numbered_from (deferred_count edition h) (deferred_of edition cs)) (sym (queue-numbered edition h))

Queues : World → List NoticeLine → Type 0
Queues w ls = flat_map queued_by ls ≡ queue w.setup.domains.edition w.history

queues : (w : World) (ls : List NoticeLine) (step : Step) → IsWorld w → Queues w ls → Queues (world_step w step).0 (ls ++ lines_in w step)
unfolding Queues
queues w ls step k p =
    flat_map-append queued_by ls (lines_in w step)
    ∙ ap (λ l. l ++ flat_map queued_by (lines_in w step)) p
    ∙ ap (λ l. queue w.setup.domains.edition w.history ++ l) (step-queued w step)
    ∙ sym (queue-append w.setup.domains.edition w.history (accepted_in w step))
    ∙ ap (queue w.setup.domains.edition) (sym (step-grows w step))
    ∙ ap (λ (s : Setup). queue s.domains.edition (world_step w step).0.history) (sym (step-setup w step))

pub run-queued : (setup : Setup) (steps : List Step) → flat_map queued_by (lines setup steps) ≡ queue setup.domains.edition (run setup steps).0.history
unfolding Queues
run-queued setup steps =
    run-keeps Queues queues setup steps refl ∙ ap (λ (s : Setup). queue s.domains.edition (run setup steps).0.history) (run-setup setup steps)

-- What comes to the chip of a domain.

reached-fold : (dom : ℕ) (x : World × List NoticeLine) (y : World × List Change) (steps : List Step) → x.0 ≡ y.0 → flat_map (reached_by dom) x.1 ≡ y.1
    → flat_map (reached_by dom) (fold notes x steps).1 ≡ (fold (then_applied dom) y steps).1
reached-fold dom x y [] same is = is
reached-fold dom x y (step ∷ steps) same is =
    reached-fold dom (notes x step) (then_applied dom y step) steps (ap (λ w. (world_step w step).0) same)
    (flat_map-append (reached_by dom) x.1 (lines_in x.0 step)
    ∙ ap (λ (l : List Change). l ++ flat_map (reached_by dom) (lines_in x.0 step)) is
    ∙ ap (λ (l : List Change). y.1 ++ l) (step-reached x.0 step dom ∙ ap (λ w. applied_in dom w step) same))

pub run-reached : (setup : Setup) (steps : List Step) (dom : ℕ) → flat_map (reached_by dom) (lines setup steps) ≡ applied setup dom steps
unfolding lines applied
run-reached setup steps dom = reached-fold dom (first_world setup, []) (first_world setup, []) steps refl refl
