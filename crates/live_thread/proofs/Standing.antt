-- What calls say of the plane of a past, of the past itself.
use Rattle.std.proofs.Common.{◌≡◌, ◌≢◌, ℕ, ◌+◌, ◌<◌, Bool, true, false, List, [], length, Option, Some, refl, sym, ◌∙◌, ap, subst, option_map}
use Rattle.std.proofs.Common.{◌∷◌, ◌≤◌, arith, drop, get_or, slice_get}
use Rattle.std.specs.Cmp.{first_so, second_so}
use Rattle.std.specs.List.{list_all}
use Rattle.lemmas.proofs.Lists.{drop_item}
use Rattle.br_model.specs.Control.Learning.{Triple}
use Rattle.br_model.specs.Plane.Runs.{pending_of, run}
use Rattle.br_model.specs.Plane.World.{Stepped, chip_at}
use Rattle.br_model.specs.declared.steps.Step.{Step}
use Rattle.br_model.proofs.Plane.Running.{run_none}
use Rattle.br_model.specs.Table.Domains.{Domains, has_chip}
use Rattle.br_model.specs.Table.Setup.{Setup}
use Rattle.br_model.proofs.Plane.Applied.{run-setup}
use Rattle.plane_core.specs.Planes.{PlaneState}
use Rattle.plane_record.specs.Pasts.{Past, state_of, world_of}
use Rattle.live_thread.specs.Draining.{Drains, HasTold, HasTurned, Keeps}
use Rattle.live_thread.specs.Worlds.{IsIdle}
use Rattle.live_thread.proofs.Drains.{drains_setup}
use Rattle.live_thread.proofs.Loops.{ReportsBelow, TurnsBelow, reports_chip, reports_past, turns_chip, turns_past}
use Rattle.live_thread.proofs.Telling.{first_of}

-- so many frames wait
pub waits : (p : Past) (plane : PlaneState) (n : ℕ) → plane ≡ state_of p → n ≡ length plane.world.waiting → n ≡ length (world_of p).waiting
waits p plane n is e = e ∙ ap (λ (s : PlaneState). length s.world.waiting) is

-- the setup stays
pub still_has : (start now : Past) (dom : ℕ) → Drains start now → has_chip start.setup.domains dom ≡ true → has_chip now.setup.domains dom ≡ true
still_has start now dom d there = ap (λ (s : Setup). has_chip s.domains dom) (drains_setup start now d) ∙ there

pub still_there : (start now : Past) (plane : PlaneState) (dom : ℕ) → plane ≡ state_of now → Drains start now → has_chip start.setup.domains dom ≡ true → has_chip plane.world.setup.domains dom ≡ true
still_there start now plane dom is d there =
    ap (λ (s : PlaneState). has_chip s.world.setup.domains dom) is
    ∙ (ap (λ (s : Setup). has_chip s.domains dom) (run-setup now.setup now.steps) ∙ still_has start now dom d there)

-- so many changes are pending
pub counted : (p : Past) (plane : PlaneState) (dom n : ℕ) → plane ≡ state_of p → option_map (pending_of plane.world) (chip_at plane.world dom) ≡ Some n
    → option_map (pending_of (world_of p)) (chip_at (world_of p) dom) ≡ Some n
counted p plane dom n is e = ap (λ (s : PlaneState). option_map (pending_of s.world) (chip_at s.world dom)) (sym is) ∙ e

-- the oldest report
pub first_is : (p : Past) (plane : PlaneState) (dom : ℕ) (x : Option Triple) → plane ≡ state_of p → option_map (λ c. slice_get c.reports 0) (chip_at plane.world dom) ≡ Some x → first_of p dom ≡ Some x
first_is p plane dom x is e = ap (λ (s : PlaneState). option_map (λ c. slice_get c.reports 0) (chip_at s.world dom)) (sym is) ∙ e

-- a chip of the domain of this number, and none
pub reports_next : (start now next : Past) (dom n : ℕ) → dom ≡ n → Drains now next → Keeps now next → HasTold next dom → ((d : ℕ) → d ≢ dom → HasTold now d → HasTold next d)
    → ReportsBelow start now n → ReportsBelow start next (n + 1)
reports_next start now next dom n same drains keeps at others r =
    subst (λ k. ReportsBelow start now k → ReportsBelow start next (k + 1)) same (reports_chip start now next dom drains keeps at others) r

pub reports_none_there : (start now : Past) (domains : Domains) (dom n : ℕ) → dom ≡ n → start.setup.domains ≡ domains → has_chip domains dom ≡ false → ReportsBelow start now n
    → ReportsBelow start now (n + 1)
reports_none_there start now domains dom n same own none r = subst (λ k. ReportsBelow start now k → ReportsBelow start now (k + 1)) same (reports_past start now domains dom own none) r

pub turns_next : (start now next : Past) (dom n : ℕ) → dom ≡ n → Drains now next → Keeps now next → ((d : ℕ) → HasTold now d → HasTold next d) → HasTurned next dom
    → ((d : ℕ) → d ≢ dom → HasTurned now d → HasTurned next d) → TurnsBelow start now n → TurnsBelow start next (n + 1)
turns_next start now next dom n same drains keeps told at others r =
    subst (λ k. TurnsBelow start now k → TurnsBelow start next (k + 1)) same (turns_chip start now next dom drains keeps told at others) r

pub turns_none_there : (start now : Past) (domains : Domains) (dom n : ℕ) → dom ≡ n → start.setup.domains ≡ domains → has_chip domains dom ≡ false → TurnsBelow start now n
    → TurnsBelow start now (n + 1)
turns_none_there start now domains dom n same own none r = subst (λ k. TurnsBelow start now k → TurnsBelow start now (k + 1)) same (turns_past start now domains dom own none) r

-- the chips of these domains
pub has_own : (start now : Past) (domains : Domains) (dom : ℕ) → Drains start now → start.setup.domains ≡ domains → has_chip domains dom ≡ true → has_chip now.setup.domains dom ≡ true
has_own start now domains dom d own there = still_has start now dom d (ap (λ (x : Domains). has_chip x dom) own ∙ there)

module _ {X : Type 0} (f : X → Bool) (xs : List X) (i : ℕ) (x : X) (there : i < length xs) (is : x ≡ get_or xs i x) (all : list_all f (drop i xs) ≡ true) where
  both : list_all f (x ∷ drop (i + 1) xs) ≡ true
  both = ap (list_all f) (sym (drop_item xs i x there is)) ∙ all

  pub first_from : f x ≡ true
  first_from = first_so (f x) (list_all f (drop (i + 1) xs)) both

  pub rest_from : list_all f (drop (i + 1) xs) ≡ true
  rest_from = second_so (f x) (list_all f (drop (i + 1) xs)) both

-- before the first step
pub idle_first : (p : Past) → p.steps ≡ [] → IsIdle (world_of p)
idle_first p none = subst IsIdle (sym (ap (λ (l : List Step). (run p.setup l).0) none ∙ ap (λ (x : Stepped). x.0) (run_none p.setup))) (record { waiting = refl; held = refl })

-- all domains were gone through
pub reports_five : (start now : Past) (n : ℕ) → 5 ≤ n → ReportsBelow start now n → ReportsBelow start now 5
reports_five start now n far r = record { drains = r.drains; keeps = r.keeps; told = λ d less. r.told d (omega (arith, less, far)) }

pub turns_five : (start now : Past) (n : ℕ) → 5 ≤ n → TurnsBelow start now n → TurnsBelow start now 5
turns_five start now n far r = record { drains = r.drains; keeps = r.keeps; told = r.told; turned = λ d less. r.turned d (omega (arith, less, far)) }
