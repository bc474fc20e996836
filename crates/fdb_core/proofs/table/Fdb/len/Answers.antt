use Rattle.std.proofs.Common.{◌∙◌}
use Rattle.open_addressing.proofs.Pairs.{ascending-by_pair}
use Rattle.fdb_core.proofs.table.Fdb.len.Goals as goal

pub returns-clause-ascending : goal.returns-clause-ascending
returns-clause-ascending c = rw (← c.self.view_is) (ascending-by_pair c.self.inside.entries.entries ∙ c.len.ensures.ascending)
