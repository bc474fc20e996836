use Rattle.std.proofs.Common.{◌+◌, ◌<◌, sym, ap, ap₂, ◌∙◌, subst}
use Rattle.br_model.specs.Plane.Chip.{applies}
use Rattle.br_model.specs.Table.Limits.{most_changes}
use Rattle.chip_driver.specs.Drives.{Drives, IsTaken}
use Rattle.hwdom_chips.specs.Chips.{ChipState}
use Rattle.learn_report.specs.Reports.{chip_of}
use Rattle.hwdom_chips.proofs.chip.Chip.turn.Goals as goal

pub address-requires-clause-taken : goal.address-requires-clause-taken
address-requires-clause-taken c = subst (λ (s : ChipState). IsTaken s.driver c.args.update.now.change) (sym c.self.view_is) c.requires.taken

pub address-requires-clause-next : goal.address-requires-clause-next
address-requires-clause-next c = c.requires.next ∙ sym (ap (λ (s : ChipState). s.chip.count) c.self.view_is)

pub address-requires-clause-count : goal.address-requires-clause-count
address-requires-clause-count c = subst (λ (s : ChipState). s.chip.count < most_changes) (sym c.self.view_is) c.requires.count

pub returns-clause-ok : goal.returns-clause-ok
returns-clause-ok c =
    let dom = c.self.inside.driver.dom in
    let k = c.self.inside.driver.count in
    ap₂ (λ n m. chip_of n m c.hit.new.reports) c.address.ensures.dom c.address.ensures.count
    ∙ c.in_ok-hit.ensures.ok dom (k + 1) ∙ c.entry_put.ensures (chip_of dom (k + 1) c.self.inside.reports) ∙ ap (λ (s : ChipState). applies s.chip c.args.update.now.change) c.self.view_is

pub returns-clause-rows : goal.returns-clause-rows
returns-clause-rows c domains t before = c.address.ensures.drives domains t (subst (λ (s : ChipState). Drives domains s.driver t) (sym c.self.view_is) before)

pub returns-clause-dom : goal.returns-clause-dom
returns-clause-dom c = c.address.ensures.dom ∙ ap (λ (s : ChipState). s.driver.dom) c.self.view_is
