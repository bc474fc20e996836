use Rattle.timings.proofs.Watching.{watched-blind, watched-others}
use Rattle.timings.proofs.explain_laws.watched_ports.Goals as goal

pub returns : goal.returns
returns c = record { blind = watched-blind; others = watched-others }
