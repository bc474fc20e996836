use Rattle.std.proofs.Common.{sym, ◌∙◌, arith}
use Rattle.bridge_command.proofs.Places.{domain_here, domain_further, no_domain}
use Rattle.bridge_command.proofs.roster.Roster.has_port_in.Goals as goal

pub returns-then-is_in : goal.returns-then-is_in
returns-then-is_in c = sym (domain_here c.args.self.now.ports c.loop-i.i c.args.dom (sym c.if-is_in.ensures)) ∙ c.loop-i.invariant.0

pub loop-i-preserved : goal.loop-i-preserved
loop-i-preserved c =
    (domain_further c.args.self.now.ports c.loop-i.i c.args.dom (omega (arith, c.loop-i-test.true, c.loop-i.invariant.1)) (sym c.if-is_in.ensures) ∙ c.loop-i.invariant.0, c.loop-i.invariant.1)

pub returns : goal.returns
returns c = sym (no_domain c.args.self.now.ports c.loop-i.i c.args.dom (omega (arith, c.loop-i-test.false, c.loop-i.invariant.1))) ∙ c.loop-i.invariant.0
