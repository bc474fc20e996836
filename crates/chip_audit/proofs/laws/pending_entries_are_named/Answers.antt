use Rattle.chip_audit.proofs.Marking.{offloaded-named}
use Rattle.chip_audit.proofs.laws.pending_entries_are_named.Goals as goal

pub returns : goal.returns
returns c edition history k key there = offloaded-named edition k history key there
