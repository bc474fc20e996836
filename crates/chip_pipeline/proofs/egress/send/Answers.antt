use Rattle.std.proofs.Common.{subst}
use Rattle.chip_pipeline.specs.declared.lookup.Way.TheVariants.{Nowhere, One, Many}
use Rattle.chip_pipeline.specs.Ways.{IsWay}
use Rattle.chip_pipeline.proofs.Leaving.{nowhere-out}
use Rattle.chip_pipeline.proofs.egress.send.Goals as goal

pub returns-in-Nowhere : goal.returns-in-Nowhere
returns-in-Nowhere c d dom t head msg at way =
    let w : IsWay d dom t c.args.port c.args.vid head msg Nowhere = subst (IsWay d dom t c.args.port c.args.vid head msg) c.in-Nowhere.is way in
    nowhere-out d t c.args.port c.args.vid head msg c.nothing.result w.0 w.1 c.nothing.ensures

pub returns-in-One : goal.returns-in-One
returns-in-One c d dom t head msg at way =
    let w : IsWay d dom t c.args.port c.args.vid head msg (One c.in-One.goal) = subst (IsWay d dom t c.args.port c.args.vid head msg) c.in-One.is way in
    c.send_to.ensures d dom t head msg at w

pub returns-in-Many : goal.returns-in-Many
returns-in-Many c d dom t head msg at way =
    let w : IsWay d dom t c.args.port c.args.vid head msg (Many c.in-Many.fan) = subst (IsWay d dom t c.args.port c.args.vid head msg) c.in-Many.is way in
    c.send_by.ensures d dom t head msg at w.0 w.1
