use Rattle.br_model.proofs.Worked.Endings.{within, beyond, unfed_within, unfed_beyond}
use Rattle.br_model.proofs.ending_laws.ends_at_the_limit.Goals as goal

pub returns : goal.returns
returns c = record { within = within; beyond = beyond; unfed = unfed_within; unfed_beyond = unfed_beyond }
