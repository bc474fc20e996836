use Rattle.std.proofs.Common.{Some, None, cond, sym, ap, ◌∙◌}
use Rattle.hwdom_chips.specs.Sweep.{unseen}
use Rattle.hwdom_chips.proofs.sweep.unseen.Goals as goal

pub returns-then-is_unhit : goal.returns-then-is_unhit
returns-then-is_unhit c d dom t place ports at =
    sym (ap (unseen d dom c.args.reports.now.hits) (sym (c.extern_at.ensures place at) ∙ c.in_ok-vid.was)
    ∙ ap (λ b. cond b (Some (c.in_ok-vid.vid, c.in_ok-vid.mac, c.in_ok-vid.row.port)) None) (sym (c.is_unhit.ensures d dom t ports) ∙ c.if-is_unhit.true))

pub returns-else-is_unhit : goal.returns-else-is_unhit
returns-else-is_unhit c d dom t place ports at =
    sym (ap (unseen d dom c.args.reports.now.hits) (sym (c.extern_at.ensures place at) ∙ c.in_ok-vid.was)
    ∙ ap (λ b. cond b (Some (c.in_ok-vid.vid, c.in_ok-vid.mac, c.in_ok-vid.row.port)) None) (sym (c.is_unhit.ensures d dom t ports) ∙ c.if-is_unhit.false))
