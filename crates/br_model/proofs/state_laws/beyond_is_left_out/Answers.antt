use Rattle.br_model.proofs.Control.StatesFit.{is-made, beyond-left, unknown-left, run-known}
use Rattle.br_model.proofs.state_laws.beyond_is_left_out.Goals as goal

pub returns : goal.returns
returns c = record { made = is-made; beyond = beyond-left; unknown = unknown-left; run = run-known }
