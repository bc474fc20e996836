use Rattle.std.proofs.Common.{ℕ, ◌*◌, ◌∙◌, ap₂, List, arith, get_or, ◌&&◌}
use Rattle.port_sets.specs.Numbers.{numbers_below, has_number}
use Rattle.port_sets.proofs.Words.{members-and, AreWords-and}
use Rattle.port_sets.proofs.PortSet.and.Goals as goal

pub invariant_of-result : goal.invariant_of-result
invariant_of-result g c =
    AreWords-and g.row.W c.self.inside.words c.loop-i.words (λ j. get_or c.other.inside.words j 0) c.self.invariant c.loop-i.invariant.sized (λ j low. c.loop-i.invariant.done j (omega arith))

pub returns : goal.returns
returns g c =
    members-and g.row.W c.self.inside.words c.other.inside.words c.loop-i.words (λ j low. c.loop-i.invariant.done j (omega arith))
    ∙ ap₂ (λ (a b : List ℕ). numbers_below (64 * g.row.W) (λ m. has_number a m && has_number b m)) c.self.view_is c.other.view_is
