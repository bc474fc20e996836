-- Worked live runs, computed by the definitions.
use Rattle.std.proofs.Common.{◌≡◌, refl}
use Rattle.br_model.specs.Worked.LiveRuns.{judged, may_be, may_not_be, six_times, twelve_times_not, workers_written, workers_lines}
use Rattle.br_model.proofs.Worked.Computing.{computing_live}

pub live : judged may_be ≡ six_times
unfolding computing_live
live = refl

pub not_live : judged may_not_be ≡ twelve_times_not
unfolding computing_live
not_live = refl

pub written : workers_written ≡ workers_lines
unfolding computing_live
written = refl
