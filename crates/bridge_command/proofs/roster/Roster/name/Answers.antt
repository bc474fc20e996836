use Rattle.std.proofs.Common.{sym, ◌∙◌, arith}
use Rattle.std.proofs.lemmas.Option.{IfSome_then}
use Rattle.bridge_command.proofs.Places.{here, is_there, named_here, further}
use Rattle.bridge_command.proofs.roster.Roster.name.Goals as goal

pub returns-then-is_at-clause-found : goal.returns-then-is_at-clause-found
returns-then-is_at-clause-found c =
    let at = sym c.if-is_at.ensures in
    c.name_at.ensures.found ∙ is_there c.args.self.now.ports c.loop-i.i c.args.port at ∙ sym (here c.args.self.now.ports c.loop-i.i c.args.port at) ∙ c.loop-i.invariant.0

pub returns-then-is_at-clause-value : goal.returns-then-is_at-clause-value
returns-then-is_at-clause-value c =
    IfSome_then c.name_at.result c.name_at.ensures.value
    (λ name h. named_here c.args.self.now.ports c.loop-i.i c.args.port name.now (sym c.if-is_at.ensures) h ∙ c.loop-i.invariant.1)

pub loop-i-preserved : goal.loop-i-preserved
loop-i-preserved c =
    let on = further c.args.self.now.ports c.loop-i.i c.args.port (omega (arith, c.loop-i-test.true, c.loop-i.invariant.2)) (sym c.if-is_at.ensures) in
    (on.0 ∙ c.loop-i.invariant.0, on.1 ∙ c.loop-i.invariant.1, c.loop-i.invariant.2)
