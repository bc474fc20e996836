use Rattle.std.proofs.Common.{◌≡◌, ℕ, List, IsTrue, map, ap, sym, subst, ◌∙◌, arith}
use Rattle.std.specs.List.{list_all}
use Rattle.fdb_core.specs.Fdb.{Table, keys_where, is_at_port}
use Rattle.open_addressing.specs.Pairs.{unpacked}
use Rattle.fdb_core.specs.Packing.{is_key}
use Rattle.fdb_core.proofs.ByAddress.{keys-where, keys_where-by_address}
use Rattle.fdb_core.specs.Counts.{count_at}
use Rattle.fdb_core.proofs.Counts.{no_keys}
use Rattle.fdb_core.proofs.table.Fdb.numbers_at.Goals as goal

-- the walk
pub returns-clause-keys : goal.returns-clause-keys
returns-clause-keys c =
    subst (λ (ns : List ℕ). IsTrue (list_all is_key ns)) (sym c.in_ok-all.ensures) (keys-where (is_at_port c.args.port) c.self.inside.entries.entries c.self.invariant.keys)

pub returns-clause-value : goal.returns-clause-value
returns-clause-value c =
    ap (λ (ns : List ℕ). map unpacked ns) c.in_ok-all.ensures ∙ keys_where-by_address (is_at_port c.args.port) c.self.inside.entries.entries
    ∙ ap (λ (t : Table). keys_where (is_at_port c.args.port) t.entries) c.self.view_is

-- none
pub returns-then-of-eq0-clause-value : goal.returns-then-of-eq0-clause-value
returns-then-of-eq0-clause-value c =
    let es = c.self.inside.entries.entries in
    let zero_there : count_at c.args.port es ≡ 0 = (let all = c.self.invariant.counted.counted c.args.port in let one = c.of.ensures in omega arith) in
    ap (λ (ns : List ℕ). map unpacked ns) (c.new-none.ensures.items ∙ sym (no_keys c.args.port es zero_there)) ∙ keys_where-by_address (is_at_port c.args.port) es
    ∙ ap (λ (t : Table). keys_where (is_at_port c.args.port) t.entries) c.self.view_is
