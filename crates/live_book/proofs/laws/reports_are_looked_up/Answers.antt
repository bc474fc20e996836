use Rattle.live_book.proofs.Reporting.{reporting_is}
use Rattle.live_book.proofs.laws.reports_are_looked_up.Goals as goal

pub returns : goal.returns
returns c = reporting_is
