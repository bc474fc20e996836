use Rattle.std.proofs.Common.{ℕ, ◌*◌, ◌==◌, ◌&&◌, not, ◌∙◌, List, ap, arith}
use Rattle.port_sets.specs.Numbers.{numbers_below, has_number}
use Rattle.port_sets.specs.Words.{members}
use Rattle.port_sets.proofs.Words.{members-without, members-without_above}
use Rattle.port_sets.proofs.PortSet.without.Goals as goal
use Rattle.port_sets.proofs.PortSet.without.Goals.{then-place, else-place}

pub returns : goal.returns
returns g c =
    elim c.if-place.branch [
      | then-place w ↦ ap (members g.row.W) w.words-is ∙ members-without g.row.W c.self.inside.words c.args.n (omega (arith, w.if-place.true, c.self.invariant.0))
      | else-place w ↦ ap (members g.row.W) w.words-is ∙ members-without_above g.row.W c.self.inside.words c.args.n (omega (arith, w.if-place.false))
    ]
    ∙ ap (λ (ns : List ℕ). numbers_below (64 * g.row.W) (λ m. has_number ns m && not (m == c.args.n))) c.self.view_is
