use Rattle.open_addressing.proofs.Zipped.{padded-make}
use Rattle.open_addressing.proofs.dense.Pairs.make.Goals as goal

pub returns : goal.returns
returns g c = padded-make c.args.count c.in_ok-pairs.pairs.items c.args.blank c.in_ok-pairs.ensures.items
