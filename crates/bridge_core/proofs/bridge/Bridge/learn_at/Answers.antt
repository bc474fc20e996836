use Rattle.std.proofs.Common.{◌≡◌, ◌≤◌, [], ◌∷◌, length, sym, ap, subst, ◌∙◌}
use Rattle.br_model.specs.Control.Control.{renewed}
use Rattle.br_model.specs.Control.Learning.{Address}
use Rattle.br_model.specs.Table.Limits.{most_changes}
use Rattle.br_model.specs.Table.Table.{Table, table}
use Rattle.bridge_state.specs.declared.learning.Lesson.TheVariants.{Known, Renewed, News}
use Rattle.bridge_core.specs.Answers.{Makes}
use Rattle.bridge_core.specs.Kept.{Controlled}
use Rattle.bridge_state.specs.Lessons.{lesson_of}
use Rattle.bridge_state.specs.Standing.{control_of}
use Rattle.bridge_core.proofs.Accepting.{carried_one, carried_still}
use Rattle.bridge_state.proofs.Reactions.{learns_known, learns_renewed, learns_news, fits_news, put_of}
use Rattle.bridge_core.proofs.bridge.Bridge.learn_at.Goals as goal

pub returns-in-Known : goal.returns-in-Known
returns-in-Known c =
    let old = c.args.self.now in
    let key : Address = (c.args.vid, c.args.mac) in
    let at = c.self.invariant.0 ∙ ap (λ (b : Controlled). table b.history) c.self.view_is in
    let few = subst (λ (b : Controlled). length b.history ≤ most_changes) c.self.view_is c.self.invariant.1 in
    let lesson = subst (λ (t : Table). Known ≡ lesson_of t key c.args.port) at c.in-Known.ensures.lesson in
    carried_still old _ _ old.control few (learns_known (table old.history) old.control key c.args.port lesson)
    (λ i. record {
      setup = ap (λ (b : Controlled). b.setup) c.self.view_is i;
      history = ap (λ (b : Controlled). b.history) c.self.view_is i;
      control = (c.in-Known.ensures.control ∙ ap (λ (b : Controlled). b.control) c.self.view_is) i;
    })

pub returns-in-Renewed : goal.returns-in-Renewed
returns-in-Renewed c =
    let old = c.args.self.now in
    let key : Address = (c.args.vid, c.args.mac) in
    let at = c.self.invariant.0 ∙ ap (λ (b : Controlled). table b.history) c.self.view_is in
    let few = subst (λ (b : Controlled). length b.history ≤ most_changes) c.self.view_is c.self.invariant.1 in
    let lesson = subst (λ (t : Table). Renewed ≡ lesson_of t key c.args.port) at c.in-Renewed.ensures.lesson in
    carried_still old _ _ (renewed old.control key) few (sym (learns_renewed (table old.history) old.control key c.args.port lesson))
    (λ i. record {
      setup = ap (λ (b : Controlled). b.setup) c.self.view_is i;
      history = ap (λ (b : Controlled). b.history) c.self.view_is i;
      control = (c.in-Renewed.ensures.control ∙ ap (λ (b : Controlled). renewed b.control key) c.self.view_is) i;
    })

pub returns-in-News : goal.returns-in-News
returns-in-News c =
    let old = c.args.self.now in
    let key : Address = (c.args.vid, c.args.mac) in
    let at = c.self.invariant.0 ∙ ap (λ (b : Controlled). table b.history) c.self.view_is in
    let lesson = subst (λ (t : Table). News ≡ lesson_of t key c.args.port) at c.in-News.ensures.lesson in
    let mid : Controlled = record {
      setup = record { domains = c.self.inside.domains; own = c.self.inside.own };
      history = c.self.inside.history.items;
      control = control_of c.learn.new.state;
    }
    in
    let same : mid ≡ old = λ i. record {
      setup = ap (λ (b : Controlled). b.setup) c.self.view_is i;
      history = ap (λ (b : Controlled). b.history) c.self.view_is i;
      control = (c.in-News.ensures.control ∙ ap (λ (b : Controlled). b.control) c.self.view_is) i;
    }
    in
    carried_one old _ (put_of key c.args.port) _ (fits_news (table old.history) old.control key c.args.port lesson)
    (learns_news (table old.history) old.control key c.args.port lesson) c.make_change.result
    (subst (λ (b : Controlled). Makes b c.make_change.new.self b.control (put_of key c.args.port ∷ []) c.make_change.result) same c.make_change.ensures)
