use Rattle.chip_audit.proofs.Computed as computed
use Rattle.chip_audit.proofs.laws.stale_entry.Goals as goal

pub returns : goal.returns
returns c = record { before = computed.stale_entry; after = computed.told_chip }
