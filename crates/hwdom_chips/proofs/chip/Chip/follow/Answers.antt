use Rattle.std.proofs.Common.{◌≤◌, ℕ, take, refl, sym, ap, ap₂, ◌∙◌, subst}
use Rattle.br_model.specs.declared.domains.Edition.{Edition}
use Rattle.br_model.specs.Table.Cut.{cut, deferred_count}
use Rattle.br_model.specs.Table.Domains.{Domains}
use Rattle.br_model.specs.Table.Table.{table}
use Rattle.chip_driver.specs.Drives.{Drives}
use Rattle.hwdom_chips.specs.Chips.{ChipState, IsChip, IsCut}
use Rattle.learn_report.specs.Reports.{chip_of}
use Rattle.hwdom_chips.proofs.Following.{still_applied}
use Rattle.hwdom_chips.proofs.chip.Chip.follow.Goals as goal

pub tell_from-requires-clause-stands : goal.tell_from-requires-clause-stands
tell_from-requires-clause-stands c =
    let d = c.args.domains.now in
    let before = subst (IsChip d (take c.args.from c.args.history.now)) (sym c.self.view_is) c.requires.stands in
    subst (λ (e : Edition). IsCut e (take c.args.from c.args.history.now) c.self.inside.driver) (sym c.edition.ensures)
    (record { domains = d; count = c.self.inside.driver.count; applied = before.applied; rows = before.rows })

pub returns-clause-stands : goal.returns-clause-stands
returns-clause-stands c =
    let d = c.args.domains.now in
    let h = c.args.history.now in
    let before = subst (IsChip d (take c.args.from h)) (sym c.self.view_is) c.requires.stands in
    let told = subst (λ (e : Edition). (domains : Domains) (k : ℕ) → k ≤ deferred_count e (take c.args.from h)
    → Drives domains c.self.inside.driver (table (cut e (take c.args.from h) k)) → Drives domains c.tell_from.new.driver (table (cut e h k))) c.edition.ensures c.tell_from.ensures.told in
    record {
      rows = subst (λ count. Drives d c.tell_from.new.driver (table (cut d.edition h count))) (sym c.tell_from.ensures.count) (told d c.self.inside.driver.count before.applied before.rows);
      dom = refl;
      applied =
          subst (λ count. count ≤ deferred_count d.edition h) (sym c.tell_from.ensures.count) (still_applied d.edition h c.args.from c.self.inside.driver.count before.applied);
    }

pub returns-clause-chip : goal.returns-clause-chip
returns-clause-chip c =
    ap₂ (λ dom count. chip_of dom count c.self.inside.reports) c.tell_from.ensures.dom c.tell_from.ensures.count ∙ ap (λ (s : ChipState). s.chip) c.self.view_is
