use Rattle.chip_audit.proofs.Computed as computed
use Rattle.chip_audit.proofs.laws.put_again.Goals as goal

pub returns : goal.returns
returns c = computed.put_again
