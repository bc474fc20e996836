-- What becomes of a bridge that hears a message behind what a frame teaches.
use Rattle.std.proofs.Common.{◌≡◌, ◌≤◌, ◌<◌, if◌then◌else◌, ◌+◌, Bool, true, List, [], ◌++◌, fold, length, None, sym, ap, subst, ◌∙◌}
use Rattle.std.proofs.lemmas.Bool.{le-leb, lt-leb}
use Rattle.std.proofs.lemmas.List.{append-nil}
use Rattle.std.specs.List.{list_all}
use Rattle.std.specs.declared.result.Result.{Result}
use Rattle.std.specs.declared.result.Result.TheVariants.{Ok, Err}
use Rattle.br_model.specs.declared.steps.Refusal.{Refusal}
use Rattle.br_model.specs.declared.steps.Refusal.TheVariants.{HistoryFull}
use Rattle.br_model.specs.declared.transcript.Line.{Line}
use Rattle.br_model.specs.Table.Change.{is_of_address}
use Rattle.br_model.specs.Control.Control.{keeps_up}
use Rattle.br_model.specs.Control.Course.{Course}
use Rattle.br_model.specs.Theorems.EndsTied.{IsTied}
use Rattle.br_model.specs.Table.Limits.{most_changes}
use Rattle.br_model.specs.Plane.World.{control_lines}
use Rattle.br_model.specs.Control.Reaction.{Reaction, in_room}
use Rattle.br_model.specs.Control.Snooping.{fastleave}
use Rattle.br_model.specs.Table.Table.{Table, table, apply}
use Rattle.br_model.specs.Forward.Targets.{has_flag}
use Rattle.bridge_state.specs.declared.faults.EventFault.{EventFault}
use Rattle.bridge_state.specs.declared.plan.Plan.{Plan}
use Rattle.bridge_state.specs.declared.snooping.Speaker.{Speaker}
use Rattle.bridge_state.specs.declared.state.State.{State}
use Rattle.bridge_core.specs.Answers.{Reacts}
use Rattle.bridge_state.specs.Hearing.{Hears}
use Rattle.bridge_core.specs.Kept.{Controlled}
use Rattle.bridge_state.specs.Plans.{IsSound, planned, prepared}
use Rattle.bridge_state.specs.Standing.{clocked, table_of}
use Rattle.bridge_core.proofs.Accepting.{untold}
use Rattle.bridge_state.proofs.Endings.{same_ends, same_ports, tied-but_addresses}
use Rattle.bridge_state.proofs.Reactions.{same_clock, renewed_clock, renewed_ends}

-- the ends of a bridge are tied, as those of what it keeps are
pub tied_as : (state : State) (seen old : Controlled) → seen ≡ old → table_of state ≡ table seen.history → IsTied (table_of state) seen.control.ends → IsTied (table old.history) old.control.ends
tied_as state seen old view at tied = subst (λ (b : Controlled). IsTied (table b.history) b.control.ends) view (subst (λ (t : Table). IsTied t seen.control.ends) at tied)

module _ (old : Controlled) (p : Plan) where
  -- once the plan is carried out
  abbrev pub learned : Course
  learned = record { table = fold apply (table old.history) p.changes.items; control = fold keeps_up (prepared old.control p) p.changes.items; changes = p.changes.items; messages = [] }

  module _ (s : Speaker) (addresses : list_all is_of_address p.changes.items ≡ true) (clock : p.clock.now ≡ s.moment) (leaves : has_flag (table old.history) s.port fastleave ≡ s.fastleave) where
    pub heard_now : learned.control.now ≡ s.moment
    heard_now = same_clock (prepared old.control p) p.changes.items ∙ renewed_clock (clocked p.clock old.control) p.renewed ∙ clock

    pub leaves_so : has_flag learned.table s.port fastleave ≡ s.fastleave
    leaves_so = ap (λ t. has_flag t s.port fastleave) (same_ports (table old.history) p.changes.items addresses) ∙ leaves

    pub hears : IsTied (table old.history) old.control.ends → Hears s old.control.ends learned
    hears tied = record {
      tied = tied-but_addresses (table old.history) learned.table old.control.ends (same_ports (table old.history) p.changes.items addresses) tied;
      ends = same_ends (prepared old.control p) p.changes.items addresses ∙ renewed_ends (clocked p.clock old.control) p.renewed;
      now = heard_now;
      leaves = leaves_so;
    }

  module _ (sound : IsSound (table old.history) p) (quiet : p.tree_event ≡ None) (does : Course → Course) where
    abbrev answer : Result Reaction Refusal
    answer = in_room old.history (Ok (does (planned (table old.history) old.control p)))

    pub refused : most_changes < length old.history + length (does learned).changes → answer ≡ Err HistoryFull
    refused many =
        ap (λ (r : Course). in_room old.history (Ok (does r))) (untold (table old.history) old.control p sound quiet)
        ∙ ap (λ (b : Bool). if b then Ok (record { changes = (does learned).changes; control = (does learned).control; messages = (does learned).messages }) else Err HistoryFull) (lt-leb _ _ many)

    pub reacts : (x : Course) → does learned ≡ x → x.messages ≡ [] → length old.history + length x.changes ≤ most_changes → (new : Controlled)
        → new ≡ record old { history = old.history ++ x.changes; control = x.control }
        → (lines : List Line) (done : Result (Unit {0}) EventFault) → done ≡ Ok tt → Reacts old new lines lines done answer
    reacts x is silent few new goes lines done ok =
        subst (λ (d : Result (Unit {0}) EventFault). Reacts old new lines lines d answer) (sym ok) (
          record { changes = x.changes; control = x.control; messages = x.messages },
          ap (λ (r : Course). in_room old.history (Ok (does r))) (untold (table old.history) old.control p sound quiet)
              ∙ ap (λ (r : Course). in_room old.history (Ok r)) is
              ∙ ap (λ (b : Bool). if b then Ok (record { changes = x.changes; control = x.control; messages = x.messages }) else Err HistoryFull) (le-leb _ _ few),
          goes,
          sym (append-nil lines) ∙ ap (λ ms. lines ++ control_lines old.setup.own ms) (sym silent),
        )
