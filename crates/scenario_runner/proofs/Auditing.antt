-- The audit of a session at its end.
use Rattle.std.proofs.Common.{◌≡◌, List, ℕ, Option, None, Some, refl, sym, ap, ◌∙◌}
use Rattle.br_model.specs.declared.domains.Edition.TheVariants.{One}
use Rattle.br_model.specs.Plane.Runs.{run}
use Rattle.br_model.specs.Plane.World.{World, Stepped, first_world}
use Rattle.br_model.specs.Program.Runs.{run_of, setup_of}
use Rattle.br_model.specs.Text.Roster.{Entry, Roster, domains_of}
use Rattle.br_model.specs.Text.Scenario.{Scenario, Ending, scenario}
use Rattle.br_model.proofs.Plane.Running.{run_none}
use Rattle.chip_audit.specs.Lines.{audited, audited_at, audited_text}
use Rattle.scenario_reader.specs.declared.reader.Last.{Last}
use Rattle.scenario_reader.specs.declared.reader.Last.TheVariants as lasts
use Rattle.scenario_runner.specs.declared.session.Session.{Session}
use Rattle.scenario_reader.specs.Reading.{ending_of}
use Rattle.scenario_runner.specs.Halting.{Answered, Told}
use Rattle.scenario_runner.specs.Session as session
use Rattle.scenario_runner.proofs.Ends.{Same}

pub audited_same : Same audited
unfolding audited Same
audited_same a b e = ap (λ (s : Scenario). audited_at s.ending s) e

-- before the first step nothing depends on the edition, or on the bridge's address
first_text : (named : List Entry) (a b : Roster) → a.ports ≡ b.ports → audited_text named (first_world (setup_of a)) ≡ audited_text named (first_world (setup_of b))
first_text named a b same = ap (λ (ports : List Entry). audited_text named (first_world (record { domains = domains_of One ports; own = 0 }))) same

world_text : (s : Scenario) (roster : Roster) (w : Option World) → roster.ports ≡ s.roster.ports → session.IsWorld s w
    → audited_text s.roster.ports (session.world_of roster w) ≡ audited_text s.roster.ports (run_of s).0
world_text s roster None same none =
    first_text s.roster.ports roster s.roster same
    ∙ ap (audited_text s.roster.ports) (sym (ap (λ (x : Stepped). x.0) (ap (run (setup_of s.roster)) none ∙ run_none (setup_of s.roster))))
world_text s roster (Some w) same is = ap (audited_text s.roster.ports) is.0

audit_is : (s : Scenario) (x : Session) (last : Last) → session.Agrees s x → session.audit_or_bad last x.reader.roster x.world ≡ audited_at (ending_of last) s
audit_is s x lasts.Ended h =
    ap (λ (ports : List Entry). audited_text ports (session.world_of x.reader.roster x.world)) h.ports ∙ world_text s x.reader.roster x.world h.ports h.world
audit_is s x (lasts.Bad n why) h = refl

answer_is : (input : List ℕ) (d : Ending) → (scenario input).ending ≡ d → audited_at d (scenario input) ≡ audited input
unfolding audited
answer_is input d e = ap (λ (d : Ending). audited_at d (scenario input)) (sym e)

-- the audit of a session that was told all
pub audited_by : (left now : Option (List ℕ)) (x : Session) (all text : List ℕ) (last : Last) → Told left now x all last → text ≡ session.audit_or_bad last x.reader.roster x.world
    → Answered audited left now text last
audited_by left now x all text last t is = record {
  input = t.answered.input;
  read = t.answered.read;
  ends = t.answered.ends;
  answers = is ∙ audit_is (scenario t.answered.input) x last t.agrees ∙ answer_is t.answered.input (ending_of last) t.answered.ends;
  whole = t.answered.whole;
  within = t.answered.within;
}
