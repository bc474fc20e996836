use Rattle.chip_audit.proofs.Marking.{updates-lead}
use Rattle.chip_audit.proofs.laws.updates_lead_to_the_bridge.Goals as goal

pub returns : goal.returns
returns c = updates-lead
