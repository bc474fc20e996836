use Rattle.std.proofs.Common.{ℕ, List, drop}
use Rattle.std.proofs.lemmas.List.{drop-drop, take_rest}
use Rattle.run_io.proofs.Pieces.{read_front, read_end}
use Rattle.run_io.proofs.sources.MemSourceSource.read.Goals as goal

pub returns-clause-bytes : goal.returns-clause-bytes
returns-clause-bytes c =
    let left : List ℕ = drop c.self.inside.at c.self.inside.bytes.items in
    let count = rw (c.deref-2.ensures.value, take_rest) at c.min-count.ensures in
    let copied = rw (c.deref-2.ensures.value, take_rest) at c.copy_from_slice.ensures.after in
    rw (← c.self.view_is, copied, ← drop-drop c.min-count.result c.self.inside.at c.self.inside.bytes.items)
    (read_front left c.args.into.now c.min-count.result count, read_end left c.args.into.now c.min-count.result count)
