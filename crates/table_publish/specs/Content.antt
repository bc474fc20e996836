-- What a publication does to what is published.
use Rattle.std.specs.Prelude.{◌≡◌, ◌+◌, ◌%◌, length, fold, if◌then◌else◌}
use Rattle.br_model.specs.declared.change.Change.{Change}
use Rattle.br_model.specs.Table.Limits.{fits, AreWithin}
use Rattle.br_model.specs.Table.Table.{Table, apply, table}
use Rattle.table_publish.specs.Object.{changes_of, AllFull}
use Rattle.table_publish.specs.declared.content.Published.{Published}
use Rattle.table_publish.specs.declared.content.Operation.{Operation}

-- the table after a change; a change that doesn't fit is left out
abbrev pub taken : Table → Change → Table
taken t c = if fits t c then apply t c else t

abbrev pub after : Published → Operation → Published
after p o = record {
  tables = fold taken p.tables o.changes.list;
  len = (p.len + length o.changes.list) % 18446744073709551616;
  batches = o.batches;
  seen = o.seen;
}

-- the tables and the numbers are those of the batches that were seen
pub record IsTable (p : Published) : Type 0 where
  pub tables : p.tables ≡ table (changes_of p.seen.log)
  pub len : p.len ≡ length (changes_of p.seen.log)
  pub batches : p.batches ≡ length p.seen.log
  pub full : AllFull p.seen.log
  pub within : AreWithin (changes_of p.seen.log)
