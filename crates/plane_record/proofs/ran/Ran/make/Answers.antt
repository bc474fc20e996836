use Rattle.std.proofs.Common.{List, sym, ap, subst}
use Rattle.br_model.specs.declared.steps.Step.{Step}
use Rattle.br_model.specs.declared.transcript.Line.{Line}
use Rattle.transcript_lines.specs.Rows.{Listed}
use Rattle.plane_record.proofs.Recording.{IsRan, ran-first}
use Rattle.plane_record.proofs.ran.Ran.make.Goals as goal

pub invariant_of-result : goal.invariant_of-result
invariant_of-result c =
    subst (λ (x : List Step × List Line). IsRan c.args.p x.0 x.1) (λ i. (sym c.new.ensures.items i, sym (ap (λ (l : Listed). l.lines) c.new-2.ensures) i)) (ran-first c.args.p c.requires)
