-- Worked runs, computed by the definitions.
use Rattle.std.proofs.Common.{◌≡◌, refl}
use Rattle.br_model.proofs.Worked.Computing.{computing, computing_tree}
use Rattle.driver_notices.specs.Notices.{lines, notices_of}
use Rattle.driver_notices.specs.Worked.{bad_notices, bad_text, station_notices, station_text, two_queues_notices, two_queues_text}

unfoldable noting : Unit {0}
unfolding computing computing_tree lines notices_of
noting = tt

pub station : notices_of station_text ≡ station_notices
unfolding noting
station = refl

pub two_queues : notices_of two_queues_text ≡ two_queues_notices
unfolding noting
two_queues = refl

pub bad_line : notices_of bad_text ≡ bad_notices
unfolding noting
bad_line = refl
