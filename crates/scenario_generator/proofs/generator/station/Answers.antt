use Rattle.std.proofs.Common.{◌≡◌, refl, arith}
use Rattle.scenario_generator.proofs.generator.station.Goals as goal

pub returns-in-0-clause-text : goal.returns-in-0-clause-text
returns-in-0-clause-text c = rw c.in-0.is refl

pub returns-in-1-clause-text : goal.returns-in-1-clause-text
returns-in-1-clause-text c = rw c.in-1.is refl

pub returns-in-2-clause-text : goal.returns-in-2-clause-text
returns-in-2-clause-text c = rw c.in-2.is refl

pub returns-in-3-clause-text : goal.returns-in-3-clause-text
returns-in-3-clause-text c = rw c.in-3.is refl

pub returns-in-4-clause-text : goal.returns-in-4-clause-text
returns-in-4-clause-text c = rw c.in-4.is refl

pub returns-in-5-clause-text : goal.returns-in-5-clause-text
returns-in-5-clause-text c = rw c.in-5.is refl

pub returns-in-6-clause-text : goal.returns-in-6-clause-text
returns-in-6-clause-text c = rw c.in-6.is refl

pub returns-in_default-clause-text : goal.returns-in_default-clause-text
returns-in_default-clause-text c = let e : c.args.s ≡ 7 = omega arith in rw e refl
