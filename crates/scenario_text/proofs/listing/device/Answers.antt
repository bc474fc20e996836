use Rattle.std.proofs.Common.{sym}
use Rattle.scenario_text.proofs.Listed.{no_device}
use Rattle.scenario_text.proofs.listing.device.Goals as goal

pub returns-in-None : goal.returns-in-None
returns-in-None c = no_device c.args.roster.now.ports c.args.port (sym c.if-is_host.ensures) (sym c.in-None.ensures.found)
