-- What a message of IGMP or MLD does to a course of which these are the ends.
use Rattle.std.specs.Prelude.{ℕ, ◌≡◌, true, not, List, [], ◌∷◌, ◌++◌}
use Rattle.std.specs.List.{fold, list_all}
use Rattle.std.specs.declared.option.Option.{Option}
use Rattle.std.specs.declared.option.Option.TheVariants.{None, Some}
use Rattle.br_model.specs.declared.bpdu.BpduMsg.{BpduMsg}
use Rattle.br_model.specs.declared.change.Asks.{Asks}
use Rattle.br_model.specs.declared.change.Asks.TheVariants as asks
use Rattle.br_model.specs.declared.change.Change.{Change}
use Rattle.br_model.specs.declared.frame.McastMsg.{McastMsg}
use Rattle.br_model.specs.declared.frame.McastMsg.TheVariants.{Plain, Payload, Query, Report, Leave, Records, Unrecognized}
use Rattle.br_model.specs.Table.Change.{is_of_address}
use Rattle.br_model.specs.Control.Control.{ends_with}
use Rattle.br_model.specs.Control.Course.{Course}
use Rattle.br_model.specs.Control.Ends.{Ends, keys}
use Rattle.br_model.specs.Theorems.EndsTied.{IsTied}
use Rattle.br_model.specs.Table.GroupPairs.{has_room}
use Rattle.br_model.specs.Table.Limits.{all_fit}
use Rattle.br_model.specs.Control.Snooping.{fastleave, said}
use Rattle.br_model.specs.Table.Table.{apply}
use Rattle.br_model.specs.Forward.Targets.{has_flag}
use Rattle.bridge_state.specs.declared.snooping.Speaker.{Speaker}
use Rattle.bridge_state.specs.declared.state.State.{State}
use Rattle.bridge_state.specs.Standing.{course_of, table_of}

-- The course stands where the speaker is heard, with these ends.
pub record Hears (s : Speaker) (e : Ends) (r : Course) : Type 0 where
  pub tied : IsTied r.table e
  pub ends : r.control.ends ≡ e
  pub now : r.control.now ≡ s.moment
  pub leaves : has_flag r.table s.port fastleave ≡ s.fastleave

-- The course goes on by these changes, which fit, and then has these ends.
pub record GoesOn (r next : Course) (e : Ends) (made : List Change) : Type 0 where
  pub table : next.table ≡ fold apply r.table made
  pub control : next.control ≡ ends_with r.control e
  pub changes : next.changes ≡ r.changes ++ made
  pub messages : next.messages ≡ r.messages
  pub fits : all_fit r.table made ≡ true
  -- none is of an address
  pub prompt : list_all (λ c. not (is_of_address c)) made ≡ true

-- Each course that hears the speaker goes on so.
abbrev pub Leads : Speaker → Ends → Ends → List Change → (Course → Course) → Type 0
Leads s old new made does = (r : Course) → Hears s old r → GoesOn r (does r) new made × Hears s new (does r)

abbrev pub list_of : Option Change → List Change
list_of None = []
list_of (Some c) = c ∷ []

-- These changes were added, and so it leads.
abbrev pub Adds : Speaker → Ends → Ends → List Change → List Change → (Course → Course) → Type 0
Adds s old new before after does = (made : List Change) × (after ≡ before ++ made) × Leads s old new made does

-- how many changes the message makes at most
abbrev pub most : McastMsg → ℕ
most Plain = 0
most (Payload group) = 0
most (Query six counted) = 2
most (Report group) = 1
most (Leave group) = 1
most (Records six first count) = count
most Unrecognized = 0

-- what the speaker's message does
abbrev pub says : Speaker → List ℕ → McastMsg → Course → Course
says s bytes m r = said s.port s.vid bytes m r

-- The speaker speaks now, by the flag of its port.
pub record IsHeard (state : State) (s : Speaker) : Type 0 where
  pub now : s.moment ≡ state.clock.now
  pub leaves : has_flag (table_of state) s.port fastleave ≡ s.fastleave

-- These changes were added, and a course from the one state, whatever it made before, leads to the other by them.
abbrev pub LeadsTo : State → State → List Change → List Change → (Course → Course) → Type 0
LeadsTo old new before after does =
    (added : List Change) × (after ≡ before ++ added)
    × ((made : List Change) (out : List (ℕ × BpduMsg)) → does (course_of old made out) ≡ course_of new (made ++ added) out)

-- there is room for the membership that is asked for, if one is
abbrev pub HasRoom : Ends → Asks → Type 0
HasRoom e asks.Nothing = Unit {0}
HasRoom e (asks.State state) = Unit {0}
HasRoom e (asks.GroupRoom vid group) = has_room (keys e.groups) vid group ≡ true
HasRoom e (asks.AddressRoom vid mac) = Unit {0}

-- what the frame's message does, where somebody says it
abbrev pub snoops_by : Option Speaker → List ℕ → McastMsg → Course → Course
snoops_by None bytes m r = r
snoops_by (Some s) bytes m r = said s.port s.vid bytes m r
