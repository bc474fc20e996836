use Rattle.std.proofs.Common.{ap, sym, ◌∙◌}
use Rattle.std.proofs.lemmas.Result.{on_ok_weaker}
use Rattle.br_model.specs.declared.change.Change.{Change}
use Rattle.br_model.specs.Table.Change.{address_part}
use Rattle.chip_audit.specs.Marks.{entries_after}
use Rattle.chip_audit.proofs.Waiting.{no-update, update-is}
use Rattle.chip_audit.proofs.auditing.follow_update.Goals as goal

pub returns-in-Some : goal.returns-in-Some
returns-in-Some c =
    let w = c.args.p.now.world in
    on_ok_weaker c.follow.result
    (λ e x at. e
    ∙ ap (λ (d : Change). entries_after c.args.entries.now.entries (address_part d))
    (update-is w.setup.domains.edition w.history c.args.ticket c.in-Some.update x (sym c.in-Some.is ∙ c.update.ensures) at))
    c.follow.ensures

pub returns-in-None : goal.returns-in-None
returns-in-None c = λ x at.
    let w = c.args.p.now.world in
    absurd (no-update w.setup.domains.edition w.history c.args.ticket x (sym c.in-None.is ∙ c.update.ensures) at)
