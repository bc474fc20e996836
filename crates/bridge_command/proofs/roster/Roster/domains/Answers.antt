use Rattle.bridge_command.proofs.Declaring.{not_host, taken}
use Rattle.bridge_command.proofs.roster.Roster.domains.Goals as goal

pub set-requires : goal.set-requires
set-requires c = not_host c.args.self.now.ports c.loop-i.i c.len-i-end.ensures.declared c.in-Some.ensures

pub loop-i-preserved : goal.loop-i-preserved
loop-i-preserved c = (taken c.args.self.now.edition c.loop-i.domains c.set.new.self c.args.self.now.ports c.loop-i.i c.loop-i.invariant.0 c.in-Some.ensures c.set.ensures, c.loop-i.invariant.1)
