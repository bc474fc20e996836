-- What holds of a board's fields, of its publications.
use Rattle.std.proofs.Common.{◌+◌, ◌≤◌, length, ap, subst, arith, length-append}
use Rattle.br_model.specs.Table.Limits.{most_changes}
use Rattle.table_publish.specs.Object.{AllFull, IsPublished, changes_of, object_of}
use Rattle.table_publish.specs.Shelved.{IsShelved}
use Rattle.table_publish.specs.declared.board.Board.TheInside.{Inside}
use Rattle.table_publish.proofs.Objects.{published_of}
use Rattle.table_publish.proofs.Publishing.{length-full}

pub shelved_full : (b : Inside) → IsShelved b → AllFull b.seen.log
shelved_full b h = subst AllFull (ap (λ s. s.log) h.shown) h.table.full

pub shelved_published : (b : Inside) → IsShelved b → IsPublished (object_of b.seen.log)
shelved_published b h = published_of b.seen.log (shelved_full b h)

pub shelved_few : (b : Inside) → IsShelved b → length b.pending.list + b.len ≤ most_changes
shelved_few b h = omega (arith, h.fit.few, h.len, length-append (changes_of b.seen.log) b.pending.list)

pub shelved_batches : (b : Inside) → IsShelved b → b.batches ≤ most_changes
shelved_batches b h = omega (arith, h.batches, h.len, shelved_few b h, length-full b.seen.log (shelved_full b h))
