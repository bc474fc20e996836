use Rattle.std.proofs.Common.{List, ℕ, ap, subst}
use Rattle.br_model.specs.declared.steps.Step.TheVariants.{Rx}
use Rattle.transcript_lines.specs.Rows.{Listed}
use Rattle.plane_parts.specs.Added.{Added}
use Rattle.plane_core.specs.Planes.{Steps}
use Rattle.plane_parts.proofs.Adding.{whole}
use Rattle.plane_core.proofs.plane.Plane.enter.Goals as goal

pub returns-clause-step : goal.returns-clause-step
returns-clause-step c =
    whole _ _ _ (ap (λ (l : Listed). l.lines) c.new-lines.ensures)
    (subst (λ (b : List ℕ). Added (Steps c.args.self.now c.enter_to.new.self (Rx c.args.p b)) c.new-lines.result.lines c.enter_to.new.lines.lines) c.in_ok-bytes.ensures c.in_ok-pass.ensures.step)
