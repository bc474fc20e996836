use Rattle.std.proofs.Common.{ap}
use Rattle.transcript_lines.specs.Rows.{Listed}
use Rattle.plane_parts.proofs.Adding.{whole}
use Rattle.plane_core.proofs.plane.Plane.report.Goals as goal

pub returns-clause-ok : goal.returns-clause-ok
returns-clause-ok c = whole _ _ _ (ap (λ (l : Listed). l.lines) c.new-lines.ensures) c.in_ok-report_to.ensures.ok
