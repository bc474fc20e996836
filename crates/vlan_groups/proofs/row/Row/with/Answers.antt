use Rattle.std.proofs.Common.{◌≡◌, ℕ, ◌<◌, cond, List, Some, sym, ap, subst, ◌∙◌, arith}
use Rattle.std.specs.Prelude.{◌==◌}
use Rattle.br_model.specs.Table.Domains.{port_places}
use Rattle.port_sets.specs.Numbers.{has_number}
use Rattle.vlan_groups.specs.declared.row.Row.{Row}
use Rattle.vlan_groups.specs.Rows.{at_port}
use Rattle.vlan_groups.proofs.RowLaws.{at-with, untagged-with, untagged-without}
use Rattle.vlan_groups.proofs.row.Row.with.Goals as goal
use Rattle.vlan_groups.proofs.row.Row.with.Goals.{then-untagged, else-untagged}

pub returns : goal.returns
returns c =
    let row : Row = c.args.self.now in
    let n : ℕ = c.number-number.result in
    let made : Row = record { members = c.with.result; untagged = c.if-untagged.result } in
    let untagged : (q : ℕ) → q < port_places → has_number made.untagged q ≡ cond (q == n) c.args.untagged (has_number row.untagged q) = λ q low. elim c.if-untagged.branch [
      | then-untagged w ↦
          ap (λ (ns : List ℕ). has_number ns q) w.result-is
          ∙ untagged-with n row.untagged _ w.with-then-untagged.ensures q low
          ∙ ap (λ b. cond (q == n) b (has_number row.untagged q)) (sym w.if-untagged.true)
      | else-untagged w ↦
          ap (λ (ns : List ℕ). has_number ns q) w.result-is
          ∙ untagged-without n row.untagged _ w.without.ensures q low
          ∙ ap (λ b. cond (q == n) b (has_number row.untagged q)) (sym w.if-untagged.false)
    ] in
    subst (λ p. (q : ℕ) → at_port made q ≡ cond (q == p) (Some c.args.untagged) (at_port row q)) c.number-number.ensures.value
    (at-with row made n c.args.untagged (omega arith) c.with.ensures untagged)
