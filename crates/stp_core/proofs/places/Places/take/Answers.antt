use Rattle.std.proofs.Common.{◌∙◌, ℕ, List, None, set, ap}
use Rattle.std.specs.Ordering.{nat_cmp}
use Rattle.br_model.specs.declared.tree.TreePort.{TreePort}
use Rattle.br_model.specs.Data.Maps.{without}
use Rattle.stp_core.specs.Places.{entries_at}
use Rattle.stp_core.proofs.Reading.{empty-without, without_at}
use Rattle.stp_core.proofs.places.Places.take.Goals as goal

pub returns : goal.returns
returns c =
    ap (λ (n : ℕ). entries_at 0 (set c.self.inside.slots n None)) c.from.ensures
    ∙ without_at c.args.p c.self.inside.slots
    ∙ ap (λ (es : List (ℕ × TreePort)). without nat_cmp es c.args.p) c.self.view_is

pub invariant_of-self : goal.invariant_of-self
invariant_of-self c = empty-without c.self.inside.used c.from.result c.self.inside.slots c.self.invariant
