use Rattle.std.proofs.Common.{◌≡◌, ◌&&◌, cond, None, sym, ap, ◌∙◌}
use Rattle.br_model.specs.Forward.Admission.{admit, has_valid_source, is_forwarding}
use Rattle.chip_pipeline.proofs.Passing.{none-sent, tree-sent}
use Rattle.chip_pipeline.proofs.pipeline.forward.Goals as goal

pub returns-then-is_for_tree : goal.returns-then-is_for_tree
returns-then-is_for_tree c d dom table at is =
    let admitted : c.admitted-admitted.result ≡ admit table c.args.p c.args.h.now =
    c.admitted-admitted.ensures.vid d dom table at.stands ∙ ap (λ o. cond (is_forwarding table c.args.p && has_valid_source c.args.h.now) o None) is in
    tree-sent d table c.args.p c.args.h.now c.args.m.now c.admitted-admitted.result c.nowhere.result c.nowhere.ensures (sym (c.is_for_tree.ensures d dom table at.stands) ∙ c.if-is_for_tree.true) admitted

pub returns-in-Some : goal.returns-in-Some
returns-in-Some c d dom table at is =
    let admitted : c.admitted-admitted.result ≡ admit table c.args.p c.args.h.now =
    c.admitted-admitted.ensures.vid d dom table at.stands ∙ ap (λ o. cond (is_forwarding table c.args.p && has_valid_source c.args.h.now) o None) is in
    c.forward_in.ensures d dom table at (sym (c.is_for_tree.ensures d dom table at.stands) ∙ c.if-is_for_tree.false) (sym c.in-Some.is ∙ admitted)

pub returns-in-None : goal.returns-in-None
returns-in-None c d dom table at is =
    let admitted : c.admitted-admitted.result ≡ admit table c.args.p c.args.h.now =
    c.admitted-admitted.ensures.vid d dom table at.stands ∙ ap (λ o. cond (is_forwarding table c.args.p && has_valid_source c.args.h.now) o None) is in
    none-sent d table c.args.p c.args.h.now c.args.m.now c.nowhere-in-None.result c.nowhere-in-None.ensures (sym (c.is_for_tree.ensures d dom table at.stands) ∙ c.if-is_for_tree.false)
    (sym c.in-None.is ∙ admitted)
