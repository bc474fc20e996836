-- What a plan comes to, by the definitions.
use Rattle.std.specs.Prelude.{◌≡◌, ◌<◌, ◌^◌, true, [], IfSome, IsSome}
use Rattle.std.specs.declared.option.Option.{Option}
use Rattle.std.specs.declared.option.Option.TheVariants.{None, Some}
use Rattle.std.specs.declared.result.Result.{Result}
use Rattle.std.specs.declared.result.Result.TheVariants.{Ok, Err}
use Rattle.br_model.specs.declared.steps.Refusal.{Refusal}
use Rattle.br_model.specs.Control.Control.{Control, renewed}
use Rattle.br_model.specs.Control.Course.{Course, makes_all}
use Rattle.br_model.specs.Control.Learning.{Address}
use Rattle.br_model.specs.Table.Limits.{all_fit}
use Rattle.br_model.specs.Data.Maps.{pair_cmp, get}
use Rattle.br_model.specs.Table.Table.{Table}
use Rattle.br_model.specs.Control.TreeReaction.{tells_tree}
use Rattle.bridge_state.specs.declared.faults.EventFault.{EventFault}
use Rattle.bridge_state.specs.declared.faults.EventFault.TheVariants.{Refused, NoMemory}
use Rattle.bridge_state.specs.declared.plan.Plan.{Plan}
use Rattle.bridge_state.specs.declared.state.State.{State}
use Rattle.bridge_state.specs.Standing.{clocked, control_of, table_of}

abbrev pub renewed_at : Control → Option Address → Control
renewed_at c None = c
renewed_at c (Some key) = renewed c key

-- the control state once the clock is set and the entry is renewed
abbrev pub prepared : Control → Plan → Control
prepared c p = renewed_at (clocked p.clock c) p.renewed

-- the course of the plan
abbrev pub planned : Table → Control → Plan → Course
planned t c p = tells_tree p.tree_event (makes_all (record { table = t; control = prepared c p; changes = []; messages = [] }) p.changes.items)

-- What a plan can rest on: its moment is early, the entry that it renews is there, and its changes fit.
pub record IsSound (t : Table) (p : Plan) : Type 0 where
  pub early : p.clock.now < 2 ^ 53
  pub there : IfSome p.renewed (λ key. IsSome (get pair_cmp t.addr key))
  pub fits : all_fit t p.changes.items ≡ true

-- A sound plan for what the definition says, or the refusal that it says.
abbrev pub Plans : Table → Control → Result Plan EventFault → Result Course Refusal → Type 0
Plans t c (Ok p) answer = (answer ≡ Ok (planned t c p)) × IsSound t p
Plans t c (Err (Refused why)) answer = answer ≡ Err why
Plans t c (Err NoMemory) answer = Unit {0}

-- the same, where this state stands
abbrev pub PlansAt : State → Result Plan EventFault → Result Course Refusal → Type 0
PlansAt s answer course = Plans (table_of s) (control_of s) answer course
