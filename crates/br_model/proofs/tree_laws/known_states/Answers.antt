use Rattle.br_model.proofs.Trees.Kept.{known-first, known-kept, known-at}
use Rattle.br_model.proofs.tree_laws.known_states.Goals as goal

pub returns : goal.returns
returns c = record { first = known-first; kept = known-kept; read = known-at }
