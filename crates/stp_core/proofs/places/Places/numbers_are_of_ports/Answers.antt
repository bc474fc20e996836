use Rattle.std.proofs.Common.{ℕ, ◌≤◌, List, subst}
use Rattle.std.specs.List.{All}
use Rattle.br_model.specs.declared.tree.TreePort.{TreePort}
use Rattle.br_model.specs.Table.Domains.{last_port}
use Rattle.br_model.specs.Tree.Tree.{numbers}
use Rattle.stp_core.proofs.places.Places.numbers_are_of_ports.Goals as goal

pub returns : goal.returns
returns c = subst (λ (es : List (ℕ × TreePort)). All (λ n. n ≤ last_port) (numbers es)) c.self.view_is c.numbers_are_of_ports.ensures
