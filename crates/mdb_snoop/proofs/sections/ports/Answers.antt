use Rattle.std.proofs.Common.{ap, ◌∙◌}
use Rattle.br_model.specs.Control.Ends.{keys}
use Rattle.mdb_snoop.proofs.Questions.{ports-at, ports-gap}
use Rattle.mdb_snoop.proofs.sections.ports.Goals as goal

pub returns-in-Ok : goal.returns-in-Ok
returns-in-Ok g c =
    let at = c.in-Ok.ensures.found in
    c.ports.ensures ∙ ap (λ s. keys s.1) (at.reads _) ∙ ports-at _ _ _ at

pub returns-in-Err : goal.returns-in-Err
returns-in-Err g c = c.empty.ensures ∙ ports-gap _ _ _ c.in-Err.ensures.gap
