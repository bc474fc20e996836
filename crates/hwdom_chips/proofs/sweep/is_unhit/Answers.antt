use Rattle.std.proofs.Common.{Bool, not, ◌&&◌, sym, ap, ◌∙◌}
use Rattle.br_model.specs.Data.Maps.{pair_cmp, has}
use Rattle.hwdom_chips.proofs.sweep.is_unhit.Goals as goal

pub returns-then-is_own : goal.returns-then-is_own
returns-then-is_own c d dom t ports =
    let hit : Bool = has pair_cmp c.args.reports.now.hits (c.args.vid, c.args.mac) in
    ap not c.has.ensures ∙ sym (ap (λ x. x && not hit) (sym (c.is_own.ensures d dom t ports) ∙ c.if-is_own.true))

pub returns-else-is_own : goal.returns-else-is_own
returns-else-is_own c d dom t ports =
    let hit : Bool = has pair_cmp c.args.reports.now.hits (c.args.vid, c.args.mac) in
    c.if-is_own.false ∙ sym (ap (λ x. x && not hit) (sym (c.is_own.ensures d dom t ports) ∙ c.if-is_own.false))
