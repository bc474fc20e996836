-- Worked runs, computed by the definitions.
use Rattle.std.proofs.Common.{◌≡◌, refl}
use Rattle.br_model.specs.Program.Runs.{told}
use Rattle.br_model.specs.Worked.Rows.{first_frame_text, first_frame_told, first_refusals_text, first_refusals_told, empty_scenario_text, empty_scenario_told}
use Rattle.br_model.specs.Worked.Vlans.{priority_tag_text, priority_tag_told, edges_of_the_vlan_range_text, edges_of_the_vlan_range_told, isolated_ports_text, isolated_ports_told}
use Rattle.br_model.specs.Worked.Addresses.{address_moves_text, address_moves_told, local_address_text, local_address_told, published_point_text}
use Rattle.br_model.specs.Worked.Addresses.{published_point_told, destination_on_its_ingress_port_text, destination_on_its_ingress_port_told, ageing_text, ageing_told}
use Rattle.br_model.proofs.Worked.Computing.{computing}

pub first_frame : told first_frame_text ≡ first_frame_told
unfolding computing
first_frame = refl

pub first_refusals : told first_refusals_text ≡ first_refusals_told
unfolding computing
first_refusals = refl

pub empty_scenario : told empty_scenario_text ≡ empty_scenario_told
unfolding computing
empty_scenario = refl

pub priority_tag : told priority_tag_text ≡ priority_tag_told
unfolding computing
priority_tag = refl

pub edges_of_the_vlan_range : told edges_of_the_vlan_range_text ≡ edges_of_the_vlan_range_told
unfolding computing
edges_of_the_vlan_range = refl

pub isolated_ports : told isolated_ports_text ≡ isolated_ports_told
unfolding computing
isolated_ports = refl

pub address_moves : told address_moves_text ≡ address_moves_told
unfolding computing
address_moves = refl

pub local_address : told local_address_text ≡ local_address_told
unfolding computing
local_address = refl

pub published_point : told published_point_text ≡ published_point_told
unfolding computing
published_point = refl

pub destination_on_its_ingress_port : told destination_on_its_ingress_port_text ≡ destination_on_its_ingress_port_told
unfolding computing
destination_on_its_ingress_port = refl

pub ageing : told ageing_text ≡ ageing_told
unfolding computing
ageing = refl
