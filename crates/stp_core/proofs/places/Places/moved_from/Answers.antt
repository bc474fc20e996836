use Rattle.std.proofs.Common.{◌==◌, ◌∙◌, ℕ, List, not, ap}
use Rattle.std.specs.List.{filter}
use Rattle.br_model.specs.declared.tree.TreePort.{TreePort}
use Rattle.br_model.specs.Tree.Tree.{numbers, state_at}
use Rattle.stp_core.specs.Settling.{state_in}
use Rattle.stp_core.proofs.Reading.{moved_is}
use Rattle.stp_core.proofs.places.Places.moved_from.Goals as goal

pub returns : goal.returns
returns c old had =
    c.ports_where.ensures
    ∙ moved_is c.args.before.now old c.self.inside.slots had
    ∙ ap (λ (es : List (ℕ × TreePort)). filter (λ p. not (state_at old p == state_in es p)) (numbers es)) c.self.view_is
