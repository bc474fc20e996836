use Rattle.chip_audit.proofs.Calm.{calm-offloaded, calm-stale}
use Rattle.chip_audit.proofs.laws.with_nothing_pending.Goals as goal

pub returns : goal.returns
returns c = record { offloaded = calm-offloaded; stale = calm-stale }
