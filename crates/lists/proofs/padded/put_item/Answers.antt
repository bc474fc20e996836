use Rattle.std.proofs.Common.{◌+◌, ◌-◌, length, arith}
use Rattle.lists.proofs.Filling.{padded-put, length-put}
use Rattle.lists.proofs.padded.put_item.Goals as goal

pub returns-clause-items : goal.returns-clause-items
returns-clause-items g c n =
    padded-put c.args.blank n c.args.items.now.items c.lay.new.items.items c.args.i (c.args.i + 1 - length c.args.items.now.items) c.args.item c.lay.ensures.items (omega (arith, c.lay.ensures.long))

pub returns-clause-len : goal.returns-clause-len
returns-clause-len g c n = length-put c.args.blank n c.args.items.now.items c.lay.new.items.items c.args.i c.args.item c.lay.ensures.items
