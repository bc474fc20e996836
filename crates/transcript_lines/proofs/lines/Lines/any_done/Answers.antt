use Rattle.std.proofs.Common.{ap, ◌∙◌}
use Rattle.std.specs.List.{list_any}
use Rattle.br_model.specs.Plane.LineTraits.{is_done}
use Rattle.transcript_lines.proofs.RowLaws.{rows_done}
use Rattle.transcript_lines.proofs.lines.Lines.any_done.Goals as goal

pub returns : goal.returns
returns c = c.any_done.ensures ∙ rows_done c.parts.result.1.now c.parts.result.0.now ∙ ap (list_any is_done) c.parts.ensures
