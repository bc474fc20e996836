-- Worked runs of a bridge with a chip, computed by the definitions.
use Rattle.std.proofs.Common.{◌≡◌, refl}
use Rattle.br_model.specs.Program.Runs.{told}
use Rattle.br_model.specs.Worked.Chip.{unknown_unicast_split_text, unknown_unicast_split_told, two_points_differ_text, two_points_differ_told, moved_to_a_foreign_port_text}
use Rattle.br_model.specs.Worked.Chip.{moved_to_a_foreign_port_told, moved_to_a_chip_port_text, moved_to_a_chip_port_told, port_down_and_up_text, port_down_and_up_told, isolated_ingress_text}
use Rattle.br_model.specs.Worked.Chip.{isolated_ingress_told, plain_ingress_text, plain_ingress_told, bits_follow_a_foreign_port_text, bits_follow_a_foreign_port_told, sweep_text, sweep_told}
use Rattle.br_model.specs.Worked.Chip.{hit_by_a_frame_text, hit_by_a_frame_told, refusals_without_post_text, refusals_without_post_told}
use Rattle.br_model.specs.Worked.Hold.{hold_told, hold_lines, no_chip_told, no_chip_lines}
use Rattle.br_model.proofs.Worked.Computing.{computing}

pub unknown_unicast_split : told unknown_unicast_split_text ≡ unknown_unicast_split_told
unfolding computing
unknown_unicast_split = refl

pub two_points_differ : told two_points_differ_text ≡ two_points_differ_told
unfolding computing
two_points_differ = refl

pub moved_to_a_foreign_port : told moved_to_a_foreign_port_text ≡ moved_to_a_foreign_port_told
unfolding computing
moved_to_a_foreign_port = refl

pub moved_to_a_chip_port : told moved_to_a_chip_port_text ≡ moved_to_a_chip_port_told
unfolding computing
moved_to_a_chip_port = refl

pub port_down_and_up : told port_down_and_up_text ≡ port_down_and_up_told
unfolding computing
port_down_and_up = refl

pub isolated_ingress : told isolated_ingress_text ≡ isolated_ingress_told
unfolding computing
isolated_ingress = refl

pub plain_ingress : told plain_ingress_text ≡ plain_ingress_told
unfolding computing
plain_ingress = refl

pub bits_follow_a_foreign_port : told bits_follow_a_foreign_port_text ≡ bits_follow_a_foreign_port_told
unfolding computing
bits_follow_a_foreign_port = refl

pub sweep : told sweep_text ≡ sweep_told
unfolding computing
sweep = refl

pub hit_by_a_frame : told hit_by_a_frame_text ≡ hit_by_a_frame_told
unfolding computing
hit_by_a_frame = refl

pub refusals_without_post : told refusals_without_post_text ≡ refusals_without_post_told
unfolding computing
refusals_without_post = refl

pub hold : hold_told ≡ hold_lines
unfolding computing
hold = refl

pub no_chip : no_chip_told ≡ no_chip_lines
unfolding computing
no_chip = refl
