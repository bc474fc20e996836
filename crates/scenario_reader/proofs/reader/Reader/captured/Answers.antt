use Rattle.std.proofs.Common.{◌≡◌, Ok, length, ap, sym, subst, ◌∙◌}
use Rattle.br_model.specs.Text.Scenario.{captured}
use Rattle.br_model.specs.Wire.Captures.{packets}
use Rattle.br_model.specs.Text.Roster.{chips_of}
use Rattle.scenario_reader.specs.Reading.{ReaderState}
use Rattle.scenario_reader.specs.Section.{ComeByLine}
use Rattle.scenario_reader.proofs.reader.Reader.captured.Goals as goal

pub returns-in-Ok : goal.returns-in-Ok
returns-in-Ok c =
    let section = c.args.section.now in
    let steps = c.in-Ok.steps.items in
    let gives = c.in-Ok.ensures.gives in
    let at = c.self.inside.roster.ports in
    subst (λ (x : ReaderState). (captured x.roster.ports (packets section (length x.roster.ports)) ≡ Ok steps) × ComeByLine (chips_of x.roster.ports) steps) c.self.view_is
    (ap (captured at) gives.1 ∙ ap Ok (sym gives.2), c.in-Ok.ensures.by_line)
