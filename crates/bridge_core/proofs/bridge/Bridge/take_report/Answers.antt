use Rattle.std.proofs.Common.{◌≡◌, ◌≤◌, true, false, length, refl, sym, ap, subst, ◌∙◌}
use Rattle.br_model.specs.Control.Learning.{Address}
use Rattle.br_model.specs.Table.Limits.{most_changes}
use Rattle.br_model.specs.Table.Table.{Table, table}
use Rattle.bridge_core.specs.Kept.{Controlled}
use Rattle.bridge_state.specs.Lessons.{is_taken}
use Rattle.bridge_core.proofs.Accepting.{carried_one, carried_still}
use Rattle.bridge_state.proofs.Reactions.{report_of, fits_report, report_taken, report_left}
use Rattle.bridge_core.proofs.bridge.Bridge.take_report.Goals as goal

pub returns-then-not-is_taken : goal.returns-then-not-is_taken
returns-then-not-is_taken c =
    let old = c.args.self.now in
    let key : Address = (c.args.vid, c.args.mac) in
    let at = c.self.invariant.0 ∙ ap (λ (b : Controlled). table b.history) c.self.view_is in
    let few = subst (λ (b : Controlled). length b.history ≤ most_changes) c.self.view_is c.self.invariant.1 in
    let left = subst (λ (t : Table). is_taken t key c.args.port ≡ false) at (sym c.is_taken.ensures ∙ c.if-not-is_taken.true) in
    carried_still old _ _ old.control few (report_left (table old.history) old.control key c.args.port left) refl

pub returns : goal.returns
returns c =
    let old = c.args.self.now in
    let key : Address = (c.args.vid, c.args.mac) in
    let at = c.self.invariant.0 ∙ ap (λ (b : Controlled). table b.history) c.self.view_is in
    let taken = subst (λ (t : Table). is_taken t key c.args.port ≡ true) at (sym c.is_taken.ensures ∙ c.if-not-is_taken.false) in
    carried_one old _ (report_of key c.args.port) _ (fits_report (table old.history) key c.args.port taken)
    (report_taken (table old.history) old.control key c.args.port taken) _ c.make_change.ensures
