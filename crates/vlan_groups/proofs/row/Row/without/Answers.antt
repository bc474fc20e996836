use Rattle.std.proofs.Common.{◌≡◌, ℕ, cond, None, refl, subst, arith}
use Rattle.std.specs.Prelude.{◌==◌}
use Rattle.vlan_groups.specs.declared.row.Row.{Row}
use Rattle.vlan_groups.specs.Rows.{at_port}
use Rattle.vlan_groups.proofs.RowLaws.{at-without}
use Rattle.vlan_groups.proofs.row.Row.without.Goals as goal

pub returns : goal.returns
returns c =
    let row : Row = c.args.self.now in
    let made : Row = record { members = c.without.result; untagged = row.untagged } in
    subst (λ p. (q : ℕ) → at_port made q ≡ cond (q == p) None (at_port row q)) c.number.ensures.value
    (at-without row made c.number.result (omega arith) c.without.ensures refl)
