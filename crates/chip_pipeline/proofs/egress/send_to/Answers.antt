use Rattle.std.proofs.Common.{◌≡◌, ℕ, false, true, ◌||◌, List, sym, ap, ap₂, ◌∙◌}
use Rattle.std.specs.Prelude.{◌==◌}
use Rattle.chip_tables.specs.declared.rows.PortRow.{PortRow}
use Rattle.chip_tables.specs.Stands.{is_own, ports_where}
use Rattle.port_sets.specs.Numbers.{has_number}
use Rattle.chip_pipeline.proofs.Leaving.{one-drop, one-forward, one-trap}
use Rattle.chip_pipeline.proofs.egress.send_to.Goals as goal

pub returns-then-not-may_take : goal.returns-then-not-may_take
returns-then-not-may_take c d dom t head msg at leads =
    one-drop d t c.args.port c.args.vid c.args.goal head msg c.nothing.result leads (sym (c.may_take.ensures d dom t at.stands) ∙ c.if-not-may_take.true) c.nothing.ensures

pub returns-then-is_own : goal.returns-then-is_own
returns-then-is_own c d dom t head msg at leads =
    let own : is_own d dom c.args.goal ≡ true = sym (c.is_own.ensures ∙ ap (λ (r : PortRow). r.own) (at.stands.ports c.args.goal leads.below)) ∙ c.if-is_own.true in
    one-forward d dom c.args.tables.now t c.args.port c.args.vid c.args.goal head msg c.with.result at leads (sym (c.may_take.ensures d dom t at.stands) ∙ c.if-not-may_take.false) own
    (c.with.ensures ∙ ap₂ (λ n (xs : List ℕ). ports_where (λ q. (q == n) || has_number xs q)) c.number.ensures.value c.empty.ensures)

pub returns-else-is_own : goal.returns-else-is_own
returns-else-is_own c d dom t head msg at leads =
    let away : is_own d dom c.args.goal ≡ false = sym (c.is_own.ensures ∙ ap (λ (r : PortRow). r.own) (at.stands.ports c.args.goal leads.below)) ∙ c.if-is_own.false in
    one-trap d dom c.args.tables.now t c.args.port c.args.vid c.args.goal head msg c.nothing-else-is_own.result at leads (sym (c.may_take.ensures d dom t at.stands)
    ∙ c.if-not-may_take.false) away c.nothing-else-is_own.ensures
