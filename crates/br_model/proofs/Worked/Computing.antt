-- One name to unfold where a proof computes with the definitions.
use Rattle.std.specs.Fmt.{digits}
use Rattle.br_model.specs.Program.Generator.{made, frames_from}
use Rattle.br_model.specs.Forward.Leave.{all_ports, egress_ports, ports_out, leave}
use Rattle.br_model.specs.Text.LineForms.{line_says}
use Rattle.br_model.specs.Program.Listings.{listed}
use Rattle.br_model.specs.Wire.Messages.{message}
use Rattle.br_model.specs.Text.Operands.{number, chip_domain, new_port, new_name, port_number, port_name, device, mac, group, hex, flag}
use Rattle.br_model.specs.Plane.Runs.{run}
use Rattle.br_model.specs.Control.Reaction.{react}
use Rattle.br_model.specs.Program.Checks.{checked, check_answer}
use Rattle.br_model.specs.Program.LiveRun.{is_live_run}
use Rattle.br_model.specs.Program.Runs.{told, told_by}
use Rattle.br_model.specs.Program.LiveText.{steps_scenario}
use Rattle.br_model.specs.Wire.Captures.{cut, read as read_blocks}
use Rattle.br_model.specs.Text.Scenario.{behind_end, front, read, scenario_by}
use Rattle.br_model.specs.Program.Summary.{summary}
use Rattle.br_model.specs.Tree.Sending.{transmit, drops_put_off}
use Rattle.br_model.specs.Tree.States.{states_follow, states_move}
use Rattle.br_model.specs.Tree.Step.{settled, tree_step}
use Rattle.br_model.specs.Tree.Timers.{forgets}
use Rattle.br_model.specs.Tree.Vectors.{root_of, roles}

-- `unfolding computing` lets `refl` compute a whole run
unfoldable pub computing : Unit {0}
unfolding digits message all_ports egress_ports ports_out leave line_says number chip_domain new_port new_name port_number port_name device mac group hex flag react told run front read
    scenario_by tree_step
computing = tt

-- and this one a run in which the spanning tree is on
unfoldable pub computing_tree : Unit {0}
unfolding computing root_of roles forgets states_follow states_move transmit drops_put_off settled
computing_tree = tt

-- and this one a run with a capture
unfoldable pub computing_captures : Unit {0}
unfolding computing cut read_blocks
computing_captures = tt

-- and these the answers of the other commands
unfoldable pub computing_commands : Unit {0}
unfolding computing listed made frames_from summary
computing_commands = tt

-- and this one those of `check`
unfoldable pub computing_checks : Unit {0}
unfolding computing told_by behind_end checked check_answer
computing_checks = tt

-- and these those of `live`
unfoldable pub computing_live : Unit {0}
unfolding computing is_live_run steps_scenario
computing_live = tt
