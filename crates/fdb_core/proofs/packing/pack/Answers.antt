use Rattle.std.proofs.Common.{IsTrue, sym, subst}
use Rattle.open_addressing.specs.Pairs.{packed}
use Rattle.fdb_core.specs.Packing.{is_key}
use Rattle.fdb_core.proofs.ByAddress.{key-packed}
use Rattle.fdb_core.proofs.packing.pack.Goals as goal

pub returns-clause-value : goal.returns-clause-value
unfolding packed
returns-clause-value c = c.in_vlan.ensures.value

pub returns-clause-is_key : goal.returns-clause-is_key
returns-clause-is_key c =
    subst (λ n. IsTrue (is_key n)) (sym (returns-clause-value c)) (key-packed (c.args.vid, c.args.mac) c.in_vlan.ensures.below c.in_vlan.ensures.low c.in_vlan.ensures.high)
