use Rattle.br_model.proofs.Table.CutFits.{synchronous-fits, turn-fits}
use Rattle.br_model.proofs.cut_laws.cut_fits.Goals as goal

pub returns : goal.returns
returns c = record { synchronous = synchronous-fits; deferred = turn-fits }
