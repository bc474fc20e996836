use Rattle.std.proofs.Common.{sym, ◌∙◌, arith}
use Rattle.std.proofs.lemmas.List.{take_all}
use Rattle.br_model.proofs.domains.copy_of.Goals as goal

pub returns : goal.returns
returns c = sym (take_all c.loop-i.i c.loop-i.copy (omega (arith, c.type_inv.places, c.loop-i.invariant.long, c.loop-i-test.false))) ∙ c.loop-i.invariant.same
    ∙ take_all c.loop-i.i c.args.places.now (omega (arith, c.type_inv.places, c.loop-i-test.false))
