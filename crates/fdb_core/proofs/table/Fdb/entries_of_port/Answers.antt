use Rattle.std.proofs.Common.{ℕ, List, IsTrue, map, ap, sym, subst, ◌∙◌}
use Rattle.std.specs.List.{list_all}
use Rattle.open_addressing.specs.Pairs.{unpacked}
use Rattle.fdb_core.specs.Packing.{is_key}
use Rattle.fdb_core.proofs.table.Fdb.entries_of_port.Goals as goal

pub unpack_all-requires : goal.unpack_all-requires
unpack_all-requires c = subst (λ (ns : List ℕ). IsTrue (list_all is_key ns)) (sym c.deref.ensures.value) c.in_ok-numbers.ensures.keys

pub returns : goal.returns
returns c = c.of.ensures ∙ c.in_ok-keys.ensures ∙ ap (λ (ns : List ℕ). map unpacked ns) c.deref.ensures.value ∙ c.in_ok-numbers.ensures.value
