use Rattle.std.proofs.Common.{rules, ap, ◌∙◌}
use Rattle.port_sets.specs.Words.{members}
use Rattle.chip_tables.proofs.Packing.{words-written, before-words, four}
use Rattle.chip_tables.proofs.rows.write_ports.Goals as goal

pub returns-clause-ports : goal.returns-clause-ports
returns-clause-ports g c =
    ap (members 4) (words-written _ _ _ _ _ _ _ _ _ _ c.set.ensures c.set-2.ensures c.set-3.ensures c.set-4.ensures (search rules) (search rules) (search rules) (search rules)
    ∙ four c.words.result c.words.ensures.len) ∙ c.words.ensures.members

pub returns-clause-before : goal.returns-clause-before
returns-clause-before g c = before-words _ _ _ _ _ _ _ _ _ _ c.set.ensures c.set-2.ensures c.set-3.ensures c.set-4.ensures
