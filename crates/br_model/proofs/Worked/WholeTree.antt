-- Worked runs of a bridge with its spanning tree on, computed by the definitions.
use Rattle.std.proofs.Common.{◌≡◌, refl}
use Rattle.br_model.specs.Program.Runs.{told}
use Rattle.br_model.specs.Worked.Tree.{bpdu_at_a_chip_port_text, bpdu_at_a_chip_port_told, tie_and_lost_root_text, tie_and_lost_root_told}
use Rattle.br_model.proofs.Worked.Computing.{computing_tree}

pub bpdu_at_a_chip_port : told bpdu_at_a_chip_port_text ≡ bpdu_at_a_chip_port_told
unfolding computing_tree
bpdu_at_a_chip_port = refl

pub tie_and_lost_root : told tie_and_lost_root_text ≡ tie_and_lost_root_told
unfolding computing_tree
tie_and_lost_root = refl
