use Rattle.transcript_lines.specs.Rows.{at}
use Rattle.run_world.proofs.entered.Entered.hear_row.Goals as goal

pub returns-in-Sent : goal.returns-in-Sent
returns-in-Sent c = λ askers keeps.
    rw c.in-Sent.is (c.hear_sent.ensures askers c.in-Sent.untagged (at c.args.arena.now c.in-Sent.plain) (at c.args.arena.now c.in-Sent.tagged) keeps)
