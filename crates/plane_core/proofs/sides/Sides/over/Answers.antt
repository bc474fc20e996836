use Rattle.std.proofs.Common.{refl}
use Rattle.plane_core.proofs.Reacting.{sides_first}
use Rattle.plane_core.proofs.sides.Sides.over.Goals as goal

pub invariant_of-result : goal.invariant_of-result
invariant_of-result c =
    let begun = c.requires.begun in
    sides_first c.args.begun.0 c.args.begun.1 c.args.begun.2 c.args.board (record { domains = c.args.board.board.domains; own = c.args.begun.0.setup.own })
    begun.bridge_is begun.follows begun.places_are c.requires.object c.requires.pending refl
