use Rattle.std.proofs.Common.{true, List, sym, ap, ◌∙◌}
use Rattle.std.specs.List.{list_all}
use Rattle.br_model.specs.declared.steps.Step.{Step}
use Rattle.br_model.specs.Table.Domains.{chip_domains}
use Rattle.br_model.specs.Text.LineForms.{comes_by_line}
use Rattle.plane_record.specs.Pasts.{Past}
use Rattle.plane_record.proofs.ran.Ran.book.Goals as goal

pub returns-clause-by_line : goal.returns-clause-by_line
returns-clause-by_line g c =
    ap (λ (steps : List Step). list_all (comes_by_line true (chip_domains c.args.self.setup.domains)) steps) c.of.ensures
    ∙ (ap (λ (p : Past). list_all (comes_by_line true (chip_domains p.setup.domains)) c.self.inside.steps.items) (sym c.self.view_is) ∙ c.self.invariant.1)
