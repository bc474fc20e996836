-- What is read for a run by workers, and what the run gives.
use Rattle.std.specs.Prelude.{◌≡◌, ℕ, nat_le, Bool, true, false, ◌&&◌, List, IfSome, String, string_bytes}
use Rattle.std.specs.List.{list_all}
use Rattle.std.specs.Option.{option_map_or}
use Rattle.std.specs.declared.alloc.Global.{Global}
use Rattle.std.specs.Io.KnownBytes.{Consumes}
use Rattle.std.specs.declared.option.Option.{Option}
use Rattle.std.specs.declared.option.Option.TheVariants.{None, Some}
use Rattle.std.specs.declared.result.Result.{Result}
use Rattle.std.specs.declared.result.Result.TheVariants.{Ok, Err}
use Rattle.br_model.specs.declared.scenario.LineWhy.{LineWhy}
use Rattle.br_model.specs.declared.steps.Step.{Step}
use Rattle.br_model.specs.Plane.Traits.{traits}
use Rattle.br_model.specs.Program.LiveRun.{is_live_run}
use Rattle.br_model.specs.Program.LiveText.{live_text}
use Rattle.br_model.specs.Program.Outcomes.{HoldsNoEnd, scenario_lines}
use Rattle.br_model.specs.Program.Runs.{bad_told}
use Rattle.br_model.specs.Table.Limits.{most_live_bytes}
use Rattle.br_model.specs.Text.Operands.{last_id, last_point}
use Rattle.br_model.specs.Text.Roster.{Roster}
use Rattle.br_model.specs.Text.Scenario.{Scenario, Ended, Bad, scenario}
use Rattle.br_model.specs.Text.ScenarioText.{has_line}
use Rattle.scenario_reader.specs.declared.reader.Last.{Last}
use Rattle.scenario_reader.specs.declared.reader.Last.TheVariants as lasts
use Rattle.scenario_reader.specs.Whole.{SaysWhole, WholeState}
use Rattle.run_status.specs.declared.stop.Stop.{Stop}
use Rattle.run_status.specs.declared.stop.Stop.TheVariants.{ReadFault, NoMemory, TooLong}
use Rattle.scenario_runner.specs.Playing.{Below, Filled}

-- A scenario that has ended: these bytes of it were taken, and say this.
pub record IsRead (left now : Option (List ℕ)) (x : WholeState) : Type 0 where
  pub input : List ℕ
  pub read : Consumes left now input
  pub says : SaysWhole false input x
  pub lines : x.close ≡ lasts.Ended → list_all (has_line x.roster.ports) x.steps ≡ true
  pub whole : IfSome left (λ bytes. scenario bytes ≡ scenario input)
  pub within : IfSome left (λ bytes. ¬ HoldsNoEnd scenario_lines most_live_bytes bytes)

-- it hasn't, or memory lacks
abbrev pub StopsLiving : Option (List ℕ) → Option (List ℕ) → Stop → Type 0
StopsLiving left now ReadFault = (text : List ℕ) × Below left most_live_bytes now text
StopsLiving left now TooLong = (text : List ℕ) × Filled left most_live_bytes now text
StopsLiving left now NoMemory = (input : List ℕ) × Consumes left now input

abbrev pub ReadsLive : Option (List ℕ) → Option (List ℕ) → Result WholeState Stop → Type 0
ReadsLive left now (Ok x) = IsRead left now x
ReadsLive left now (Err stop) = StopsLiving left now stop

-- what workers may give of a scenario with these steps
abbrev pub IsLiveText : Roster → List Step → List ℕ → Type 0
IsLiveText roster steps text =
    (sc : Scenario) → sc.roster ≡ roster → sc.steps ≡ steps
    → (taken : List Step) × (is_live_run taken sc ≡ true) × (list_all (has_line roster.ports) taken ≡ true) × (text ≡ live_text sc taken)

-- whether the numbers of a post have no more than 32 bits
abbrev pub are_small : ℕ → Option ℕ → Bool
are_small id None = nat_le id last_id
are_small id (Some point) = nat_le id last_id && nat_le point last_point

abbrev pub is_numbered : Step → Bool
is_numbered step = option_map_or (λ post. are_small post.0 post.1) (traits step).post true

-- the text is what workers give of the scenario
pub record Lived (left now : Option (List ℕ)) (text : List ℕ) : Type 0 where
  pub input : List ℕ
  pub read : Consumes left now input
  pub ends : (scenario input).ending ≡ Ended
  pub steps : List Step
  pub live : is_live_run steps (scenario input) ≡ true
  pub written : list_all (has_line (scenario input).roster.ports) steps ≡ true
  pub text_is : text ≡ live_text (scenario input) steps
  pub whole : IfSome left (λ bytes. scenario bytes ≡ scenario input)
  pub within : IfSome left (λ bytes. ¬ HoldsNoEnd scenario_lines most_live_bytes bytes)

-- or tells of its bad line
pub record ToldBad (left now : Option (List ℕ)) (text : List ℕ) (n : ℕ) (why : LineWhy) : Type 0 where
  pub input : List ℕ
  pub read : Consumes left now input
  pub ends : (scenario input).ending ≡ Bad n why
  pub text_is : text ≡ bad_told input
  pub whole : IfSome left (λ bytes. scenario bytes ≡ scenario input)
  pub within : IfSome left (λ bytes. ¬ HoldsNoEnd scenario_lines most_live_bytes bytes)

abbrev pub AnsweredLive : Option (List ℕ) → Option (List ℕ) → List ℕ → Last → Type 0
AnsweredLive left now text lasts.Ended = Lived left now text
AnsweredLive left now text (lasts.Bad n why) = ToldBad left now text n why

abbrev pub YieldsLive : Option (List ℕ) → Option (List ℕ) → Result (Last × String Global) Stop → Type 0
YieldsLive left now (Ok x) = AnsweredLive left now (string_bytes x.1) x.0
YieldsLive left now (Err stop) = StopsLiving left now stop
