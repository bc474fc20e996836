-- Worked runs, computed by the definitions.
use Rattle.std.proofs.Common.{◌≡◌, refl}
use Rattle.br_model.proofs.Worked.Computing.{computing}
use Rattle.mcast_querier.specs.Queries.{checksum}
use Rattle.mcast_querier.specs.Runs.{queried, sent}
use Rattle.mcast_querier.specs.Worked.{nine, ten, nine_six, due_moments_text, due_moments_told, yields_text, yields_told}

unfoldable querying : Unit {0}
unfolding computing checksum queried sent
querying = tt

pub querier_due_moments : queried nine nine_six due_moments_text ≡ due_moments_told
unfolding querying
querier_due_moments = refl

pub querier_yields : queried ten nine_six yields_text ≡ yields_told
unfolding querying
querier_yields = refl
