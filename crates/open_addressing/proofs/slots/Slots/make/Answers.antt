use Rattle.std.proofs.Common.{length, ap, ◌∙◌, arith}
use Rattle.std.proofs.lemmas.List.{length-replicate}
use Rattle.open_addressing.specs.Laid.{nowhere}
use Rattle.open_addressing.proofs.Laid.{slots-none, laid-none}
use Rattle.open_addressing.proofs.slots.Slots.make.Goals as goal

pub returns : goal.returns
returns c = slots-none c.args.len c.in_ok-places.places.items c.in_ok-laid.laid.items c.in_ok-laid.ensures.items

pub invariant_of-result : goal.invariant_of-result
invariant_of-result c =
    let are = c.in_ok-places.ensures.items_if_clones_equal (λ y e. e) in
    let long = ap length are ∙ length-replicate c.div_ceil-blocks.result nowhere in
    let many = c.div_ceil-blocks.ensures in
    (laid-none c.div_ceil-blocks.result c.in_ok-places.places.items c.in_ok-laid.laid.items are c.in_ok-laid.ensures.items (omega arith), omega arith, omega (arith, c.in_ok-laid.ensures.capacity))
