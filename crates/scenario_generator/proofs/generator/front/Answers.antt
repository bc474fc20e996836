use Rattle.std.specs.Fmt.{digits}
use Rattle.std.proofs.Common.{◌≡◌, refl, arith}
use Rattle.scenario_generator.proofs.generator.front.Goals as goal

pub returns-in-0-clause-text : goal.returns-in-0-clause-text
unfolding digits
returns-in-0-clause-text c = rw c.in-0.is refl

pub returns-in-1-clause-text : goal.returns-in-1-clause-text
unfolding digits
returns-in-1-clause-text c = rw c.in-1.is refl

pub returns-in-2-clause-text : goal.returns-in-2-clause-text
unfolding digits
returns-in-2-clause-text c = rw c.in-2.is refl

pub returns-in-3-clause-text : goal.returns-in-3-clause-text
unfolding digits
returns-in-3-clause-text c = rw c.in-3.is refl

pub returns-in-4-clause-text : goal.returns-in-4-clause-text
unfolding digits
returns-in-4-clause-text c = rw c.in-4.is refl

pub returns-in_default-clause-text : goal.returns-in_default-clause-text
unfolding digits
returns-in_default-clause-text c = let e : c.args.p ≡ 5 = omega arith in rw e refl
