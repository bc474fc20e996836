use Rattle.cut_walk.proofs.Walks.{first_walk, walk_fits, walk_more, walk_turn}
use Rattle.cut_walk.proofs.laws.walks.Goals as goal

pub returns : goal.returns
returns c = record { first = first_walk; fits = walk_fits; turn = walk_turn; more = walk_more }
