use Rattle.std.proofs.Common.{◌<◌, length, set, ap, ◌∙◌, subst, List, ℕ, arith}
use Rattle.chip_tables.specs.Rows.{Rows, vlan_of}
use Rattle.chip_tables.proofs.Banks.{reads-set}
use Rattle.chip_tables.proofs.tables.Tables.set_vlan.Goals as goal

pub returns-clause-row : goal.returns-clause-row
returns-clause-row c =
    let same = ap (λ (t : Rows). t.vlans) c.self.view_is in
    reads-set vlan_of c.args.self.now.vlans c.put.new.self c.from.result c.args.vid c.pack_vlan.result c.args.r (c.from.ensures ∙ c.number.ensures.value)
    (subst (λ (xs : List ℕ). c.from.result < length xs) same (omega (arith, c.put.ensures.len, c.from.ensures, c.number.ensures.value, c.number.ensures.high)))
    (c.put.ensures.value ∙ ap (λ (xs : List ℕ). set xs c.from.result c.pack_vlan.result) same) c.pack_vlan.ensures
