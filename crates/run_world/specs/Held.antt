-- What is kept of the frames that are held.
use Rattle.std.specs.Prelude.{◌≡◌, ◌≢◌, ℕ, List, [], ◌∷◌}
use Rattle.std.specs.BTreeMap.{get}
use Rattle.std.specs.Ordering.{nat_cmp}
use Rattle.std.specs.declared.option.Option.{Option}
use Rattle.std.specs.declared.option.Option.TheVariants.{Some}
use Rattle.br_model.specs.Plane.Serving.{held_with}
use Rattle.br_model.specs.Plane.World.{World, Waiting, Holding}
use Rattle.run_world.specs.declared.held.Verdicts.{Verdicts}
use Rattle.forward_rules.specs.declared.soft_tables.Verdict.{Verdict}
use Rattle.plane_core.specs.Planes.{DecidesAt, DecidesFloor}

-- the verdict that is kept of the frame with this id
abbrev pub verdict_of : Verdicts → ℕ → Option Verdict
verdict_of verdicts id = get nat_cmp verdicts.by_id id

-- this id has another one, or none, and the others have theirs
pub record Puts (old new : Verdicts) (id : ℕ) (verdict : Option Verdict) : Type 0 where
  pub here : verdict_of new id ≡ verdict
  pub others : (other : ℕ) → other ≢ id → verdict_of new other ≡ verdict_of old other

abbrev pub AreSame : Verdicts → Verdicts → Type 0
AreSame old new = (id : ℕ) → verdict_of new id ≡ verdict_of old id

-- Of each held frame the verdict is kept that its floor's table gives.
pub record AreDecided (w : World) (verdicts : Verdicts) : Type 0 where
  pub each : (id : ℕ) (x : Holding) → held_with w id ≡ Some x → DecidesFloor w x (verdict_of verdicts id)

-- The verdict of the oldest frame that waits is kept, by what is published.
abbrev pub KeepsOldest : World → List Waiting → Verdicts → Verdicts → Type 0
KeepsOldest w [] old new = AreSame old new
KeepsOldest w (f ∷ later) old new = (verdict : Verdict) × DecidesAt w f w.published verdict × Puts old new f.id (Some verdict)
