use Rattle.std.proofs.Common.{◌≡◌, true, List, ℕ, [], sym, ap, ◌∙◌, subst}
use Rattle.std.specs.List.{list_all}
use Rattle.br_model.specs.declared.steps.Step.{Step}
use Rattle.br_model.specs.Program.Checks.{difference}
use Rattle.br_model.specs.Program.Runs.{setup_of}
use Rattle.br_model.specs.Table.Domains.{chip_domains}
use Rattle.br_model.specs.Table.Setup.{Setup}
use Rattle.br_model.specs.Text.Declarations.{are_declared}
use Rattle.br_model.specs.Text.LineForms.{comes_by_line}
use Rattle.br_model.specs.Text.Roster.{Roster}
use Rattle.transcript_check.specs.Besides.{IsBeside}
use Rattle.transcript_check.proofs.Comparisons.{lines_give, told_whole}
use Rattle.transcript_check.proofs.checking.compare.Goals as goal

pub compare_steps-requires-clause-stands : goal.compare_steps-requires-clause-stands
compare_steps-requires-clause-stands c = (c.args.transcript.now, record { domains = c.domains.result; own = c.own.result }, [], c.in_ok-beside.ensures)

pub compare_steps-requires-clause-by_line : goal.compare_steps-requires-clause-by_line
compare_steps-requires-clause-by_line c =
    let beside = c.in_ok-beside.beside in
    let says = c.requires.says in
    let own : Setup = record { domains = c.domains.result; own = c.own.result } in
    let declares : own ≡ setup_of c.roster-roster.result.now = λ i. record { domains = c.domains.ensures.value i; own = c.own.ensures i } in
    ap (λ (l : List Step). list_all (comes_by_line true (chip_domains beside.world.value.setup.domains)) l) c.into_steps.ensures
    ∙ lines_give beside.world.value.setup c.args.scenario says.0 (c.in_ok-beside.ensures.setup_is ∙ declares ∙ ap setup_of c.roster-roster.ensures)
    (ap (λ (r : Roster). are_declared r.ports) (sym c.roster-roster.ensures) ∙ c.domains.ensures.declared) says.1

pub end-requires : goal.end-requires
end-requires c =
    (c.in_ok-compare_steps.ensures c.args.transcript.now (record { domains = c.domains.result; own = c.own.result }) [] c.in_ok-beside.ensures).stands

pub returns : goal.returns
returns c = λ bytes says ended.
    let x = c.args.scenario in
    let t = c.args.transcript.now in
    let b = c.compare_steps.new.beside in
    let own : Setup = record { domains = c.domains.result; own = c.own.result } in
    let declares : own ≡ setup_of c.roster-roster.result.now = λ i. record { domains = c.domains.ensures.value i; own = c.own.ensures i } in
    let there : IsBeside t own c.into_steps.result.items b.world.value b.cursor b.differs = c.in_ok-compare_steps.ensures t own [] c.in_ok-beside.ensures in
    let here : IsBeside t (setup_of x.roster) x.steps b.world.value b.cursor b.differs =
    subst (λ (s : Setup). IsBeside t s x.steps b.world.value b.cursor b.differs) (declares ∙ ap setup_of c.roster-roster.ensures)
    (subst (λ (steps : List Step). IsBeside t own steps b.world.value b.cursor b.differs) c.into_steps.ensures there) in
    ap (λ (text : List ℕ). difference text t) (told_whole bytes x says ended)
    ∙ c.in_ok-difference.ensures t (setup_of x.roster) x.steps here
    ∙ sym c.answer_of.ensures
