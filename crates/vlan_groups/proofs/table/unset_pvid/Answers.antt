use Rattle.std.proofs.Common.{◌≡◌, ℕ, ◌+◌, cond, List, true, false, Some, sym, ap, ◌∙◌, arith}
use Rattle.std.specs.Prelude.{◌==◌}
use Rattle.std.specs.Option.{option_eq}
use Rattle.std.specs.Ordering.{nat_cmp}
use Rattle.br_model.specs.Table.Domains.{entries_from}
use Rattle.br_model.specs.Data.Maps.{get, without}
use Rattle.vlan_groups.proofs.Pvids.{entries-clear}
use Rattle.vlan_groups.proofs.table.unset_pvid.Goals as goal

pub returns-then-eq : goal.returns-then-eq
returns-then-eq c =
    let m : List (ℕ × ℕ) = entries_from 0 c.args.pvids.now in
    let port : 0 + c.from.result ≡ c.args.p = omega arith in
    let test : option_eq (λ x y. x == y) (get nat_cmp m c.args.p) (Some c.args.v) ≡ true =
    sym (c.eq.ensures ∙ ap (λ o. option_eq (λ x y. x == y) o (Some c.args.v)) c.pvid_of.ensures) ∙ c.if-eq.true in
    entries-clear 0 c.from.result c.args.pvids.now
    ∙ ap (λ q. without nat_cmp m q) port
    ∙ sym (ap (λ b. cond b (without nat_cmp m c.args.p) m) test)

pub returns-else-eq : goal.returns-else-eq
returns-else-eq c =
    let m : List (ℕ × ℕ) = entries_from 0 c.args.pvids.now in
    let test : option_eq (λ x y. x == y) (get nat_cmp m c.args.p) (Some c.args.v) ≡ false =
    sym (c.eq.ensures ∙ ap (λ o. option_eq (λ x y. x == y) o (Some c.args.v)) c.pvid_of.ensures) ∙ c.if-eq.false in
    sym (ap (λ b. cond b (without nat_cmp m c.args.p) m) test)
