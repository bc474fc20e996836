use Rattle.br_model.proofs.Worked.Tree.{bpdu_at_a_chip_port}
use Rattle.br_model.proofs.tree_laws.bpdu_at_a_chip_port.Goals as goal

pub returns : goal.returns
returns c = bpdu_at_a_chip_port
