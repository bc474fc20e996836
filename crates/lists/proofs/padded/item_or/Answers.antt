use Rattle.std.proofs.Common.{sym, ◌∙◌, arith}
use Rattle.std.proofs.lemmas.List.{get_or_default, get_or_past}
use Rattle.lists.proofs.Filling.{padded-at}
use Rattle.lists.proofs.padded.item_or.Goals as goal

pub returns-then-i-items : goal.returns-then-i-items
returns-then-i-items g c =
    let is = c.index-items-i.is ∙ get_or_default c.args.items.now c.args.i c.index-items-i.result c.args.blank (omega arith) in
    record { value = is; padded = λ n h. is ∙ sym (padded-at c.args.blank n c.args.items.now c.args.i h) }

pub returns-else-i-items : goal.returns-else-i-items
returns-else-i-items g c =
    let is = sym (get_or_past c.args.items.now c.args.i c.args.blank (omega arith)) in
    record { value = is; padded = λ n h. is ∙ sym (padded-at c.args.blank n c.args.items.now c.args.i h) }
