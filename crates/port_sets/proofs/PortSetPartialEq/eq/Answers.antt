use Rattle.std.proofs.Common.{◌∙◌, ap₂}
use Rattle.std.specs.Prelude.{nat_eq}
use Rattle.std.specs.Cmp.Lexicographic.{pointwise}
use Rattle.port_sets.proofs.Words.{pointwise-members}
use Rattle.port_sets.proofs.PortSetPartialEq.eq.Goals as goal

pub returns : goal.returns
returns g c =
    c.eq.ensures
    ∙ pointwise-members g.row.W c.self.inside.words c.other.inside.words c.self.invariant c.other.invariant
    ∙ ap₂ (pointwise nat_eq) c.self.view_is c.other.view_is
