use Rattle.lemmas.proofs.Lists.{get_or-zeros}
use Rattle.port_sets.proofs.Words.{no_members}
use Rattle.port_sets.proofs.PortSet.empty.Goals as goal

pub returns : goal.returns
returns g c = no_members g.row.W _ (λ j low. get_or-zeros g.row.W j)
