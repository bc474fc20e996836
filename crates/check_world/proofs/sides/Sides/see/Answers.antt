use Rattle.check_world.proofs.Reacting.{chips_before, places_before, sides_after}
use Rattle.check_world.proofs.sides.Sides.see.Goals as goal

pub follow-requires-clause-cuts : goal.follow-requires-clause-cuts
follow-requires-clause-cuts c =
    let e = c.in_ok-from.ensures in
    chips_before c.self.inside.bridge c.see.new.self c.self.inside.cuts c.self.inside.updates c.self.inside.point e.reacts.0 c.in_ok-from.from c.self.invariant e.reacts.2 e.from

pub follow-requires-clause-updates : goal.follow-requires-clause-updates
follow-requires-clause-updates c =
    let e = c.in_ok-from.ensures in
    places_before c.self.inside.bridge c.see.new.self c.self.inside.cuts c.self.inside.updates c.self.inside.point e.reacts.0 c.in_ok-from.from c.self.invariant e.reacts.2 e.from

pub invariant_of-self-2 : goal.invariant_of-self-2
invariant_of-self-2 c =
    let e = c.in_ok-from.ensures in
    sides_after c.self.inside.bridge c.see.new.self c.self.inside.cuts c.self.inside.updates c.self.inside.point e.reacts.0 c.in_ok-from.from c.self.invariant e.reacts.2 e.from
    c.follow.new.cuts c.follow.new.updates c.follow.ensures.cuts c.follow.ensures.updates
