use Rattle.br_model.proofs.Wire.Bpdus.{bpdu-written}
use Rattle.br_model.proofs.tree_laws.written_bpdu.Goals as goal

pub returns : goal.returns
returns c = bpdu-written
