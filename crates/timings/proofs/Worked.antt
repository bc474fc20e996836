-- Worked inputs, computed.
use Rattle.std.proofs.Common.{◌≡◌, refl}
use Rattle.std.specs.Prelude.{map, take}
use Rattle.std.specs.Fmt.{digits}
use Rattle.br_model.specs.Plane.Runs.{run}
use Rattle.br_model.specs.Control.Reaction.{react}
use Rattle.br_model.specs.Forward.Leave.{all_ports, egress_ports, leave, ports_out}
use Rattle.br_model.specs.Tree.Sending.{drops_put_off, transmit}
use Rattle.br_model.specs.Tree.States.{states_follow, states_move}
use Rattle.br_model.specs.Tree.Step.{settled, tree_step}
use Rattle.br_model.specs.Tree.Timers.{forgets}
use Rattle.br_model.specs.Tree.Vectors.{roles, root_of}
use Rattle.br_model.specs.Wire.Messages.{message}
use Rattle.br_model.specs.Text.Operands.{chip_domain, device, flag, group, hex, mac, new_name, new_port, number, port_name, port_number}
use Rattle.br_model.specs.Text.Scenario.{Ended, Going, front, read, scenario_by, behind_end}
use Rattle.br_model.specs.Text.LineForms.{line_says}
use Rattle.timings.specs.ExplainText.{explain_of}
use Rattle.timings.specs.Greedy.{explain}
use Rattle.timings.specs.InputLines.{observation_lines, question_lines, question_so_far}
use Rattle.timings.specs.Inputs.{observation_so_far, line_asks, line_tells, observation, question}
use Rattle.timings.specs.Outcomes.{outcomes}
use Rattle.timings.specs.OutcomesText.{outcomes_of}
use Rattle.timings.specs.Worked.{bad_lines, bad_observations, is_bad, kept_flooding, kept_flooding_says, meanwhile, meanwhile_says, moved_twice, moved_twice_says}

pub outcomes-meanwhile : outcomes_of meanwhile ≡ meanwhile_says
unfolding digits run react all_ports egress_ports leave ports_out drops_put_off transmit states_follow states_move settled tree_step forgets roles root_of message chip_domain device flag group hex mac new_name new_port number port_name port_number front read scenario_by behind_end line_says line_asks line_tells observation question explain outcomes explain_of outcomes_of
outcomes-meanwhile = refl

pub explains-late : explain_of moved_twice ≡ moved_twice_says
unfolding digits run react all_ports egress_ports leave ports_out drops_put_off transmit states_follow states_move settled tree_step forgets roles root_of message chip_domain device flag group hex mac new_name new_port number port_name port_number front read scenario_by behind_end line_says line_asks line_tells observation question explain outcomes explain_of outcomes_of
explains-late = refl

pub refutes-not-late : explain_of kept_flooding ≡ kept_flooding_says
unfolding digits run react all_ports egress_ports leave ports_out drops_put_off transmit states_follow states_move settled tree_step forgets roles root_of message chip_domain device flag group hex mac new_name new_port number port_name port_number front read scenario_by behind_end line_says line_asks line_tells observation question explain outcomes explain_of outcomes_of
refutes-not-late = refl

pub refuses-bad : map explain_of bad_observations ≡ map is_bad bad_lines
unfolding digits run react all_ports egress_ports leave ports_out drops_put_off transmit states_follow states_move settled tree_step forgets roles root_of message chip_domain device flag group hex mac new_name new_port number port_name port_number front read scenario_by behind_end line_says line_asks line_tells observation question explain outcomes explain_of outcomes_of
refuses-bad = refl

pub observation-goes-on : observation_lines.so_far (take 200 moved_twice) ≡ Going
unfolding digits run react all_ports egress_ports leave ports_out drops_put_off transmit states_follow states_move settled tree_step forgets roles root_of message chip_domain device flag group hex mac new_name new_port number port_name port_number front read scenario_by behind_end line_says line_asks line_tells observation question explain outcomes explain_of outcomes_of observation_so_far question_so_far
observation-goes-on = refl

pub observation-ends : observation_lines.so_far moved_twice ≡ Ended
unfolding digits run react all_ports egress_ports leave ports_out drops_put_off transmit states_follow states_move settled tree_step forgets roles root_of message chip_domain device flag group hex mac new_name new_port number port_name port_number front read scenario_by behind_end line_says line_asks line_tells observation question explain outcomes explain_of outcomes_of observation_so_far question_so_far
observation-ends = refl

pub question-goes-on : question_lines.so_far (take 300 meanwhile) ≡ Going
unfolding digits run react all_ports egress_ports leave ports_out drops_put_off transmit states_follow states_move settled tree_step forgets roles root_of message chip_domain device flag group hex mac new_name new_port number port_name port_number front read scenario_by behind_end line_says line_asks line_tells observation question explain outcomes explain_of outcomes_of observation_so_far question_so_far
question-goes-on = refl

pub question-ends : question_lines.so_far meanwhile ≡ Ended
unfolding digits run react all_ports egress_ports leave ports_out drops_put_off transmit states_follow states_move settled tree_step forgets roles root_of message chip_domain device flag group hex mac new_name new_port number port_name port_number front read scenario_by behind_end line_says line_asks line_tells observation question explain outcomes explain_of outcomes_of observation_so_far question_so_far
question-ends = refl
