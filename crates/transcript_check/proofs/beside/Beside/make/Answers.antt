use Rattle.std.proofs.Common.{◌∷◌, ◌++◌, [], codes, subst}
use Rattle.br_model.specs.Program.Checks.{lines_in}
use Rattle.transcript_check.specs.Comparing.{Compares, Standing}
use Rattle.transcript_check.proofs.Besides.{begun}
use Rattle.transcript_check.proofs.beside.Beside.make.Goals as goal

pub returns : goal.returns
returns c =
    begun c.args.transcript.now (record { domains = c.args.domains; own = c.args.own }) c.in_ok-first_world.field-0.value c.compare.new.self c.in_ok-differs.differs c.in_ok-first_world.ensures
    (subst (λ (s : Standing). Compares s c.compare.new.self (lines_in (codes "transcript 1" ++ 10 ∷ [])) c.in_ok-differs.differs) c.over-cursor.ensures c.in_ok-differs.ensures)
