use Rattle.std.proofs.Common.{ℕ, ◌*◌, ◌∙◌, ap₂, List, arith, ◌||◌}
use Rattle.port_sets.specs.Numbers.{numbers_below, has_number}
use Rattle.port_sets.proofs.Words.{members-or, AreWords-or}
use Rattle.port_sets.proofs.PortSet.or.Goals as goal

pub invariant_of-result : goal.invariant_of-result
invariant_of-result g c =
    AreWords-or g.row.W c.self.inside.words c.other.inside.words c.loop-i.words c.self.invariant c.other.invariant c.loop-i.invariant.sized (λ j low. c.loop-i.invariant.done j (omega arith))

pub returns : goal.returns
returns g c =
    members-or g.row.W c.self.inside.words c.other.inside.words c.loop-i.words (λ j low. c.loop-i.invariant.done j (omega arith))
    ∙ ap₂ (λ (a b : List ℕ). numbers_below (64 * g.row.W) (λ m. has_number a m || has_number b m)) c.self.view_is c.other.view_is
