use Rattle.std.proofs.Common.{ℕ, ◌*◌, ◌∙◌, ap₂, List, arith, get_or, w64, ◌&&◌, not}
use Rattle.std.specs.Int.{bit_not}
use Rattle.port_sets.specs.Numbers.{numbers_below, has_number}
use Rattle.port_sets.proofs.Words.{members-minus, AreWords-and}
use Rattle.port_sets.proofs.PortSet.minus.Goals as goal

pub invariant_of-result : goal.invariant_of-result
invariant_of-result g c =
    AreWords-and g.row.W c.self.inside.words c.loop-i.words (λ j. bit_not w64 (get_or c.other.inside.words j 0)) c.self.invariant c.loop-i.invariant.sized
    (λ j low. c.loop-i.invariant.done j (omega arith))

pub returns : goal.returns
returns g c =
    members-minus g.row.W c.self.inside.words c.other.inside.words c.loop-i.words c.other.invariant (λ j low. c.loop-i.invariant.done j (omega arith))
    ∙ ap₂ (λ (a b : List ℕ). numbers_below (64 * g.row.W) (λ m. has_number a m && not (has_number b m))) c.self.view_is c.other.view_is
