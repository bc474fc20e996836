use Rattle.mdb_snoop.proofs.Questions.{push-next}
use Rattle.mdb_snoop.proofs.sections.push_all.Goals as goal

pub loop-number-preserved : goal.loop-number-preserved
loop-number-preserved c =
    push-next (λ p. (c.args.vid, c.args.group, p)) c.in-Some.number c.loop-number.yielded c.args.out.now.items _ _ c.loop-number.invariant c.in_ok-push_member.ensures
