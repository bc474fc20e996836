use Rattle.std.proofs.Common.{◌≡◌, ◌<◌, ◌^◌, refl, sym, ap, subst, ◌∙◌}
use Rattle.std.specs.declared.result.Result.TheVariants.{Ok}
use Rattle.br_model.specs.Control.Control.{Control}
use Rattle.br_model.specs.Control.Course.{Course}
use Rattle.br_model.specs.Control.TreeReaction.{heard}
use Rattle.br_model.specs.Table.Table.{Table, table}
use Rattle.bridge_state.specs.declared.state.Clock.{Clock}
use Rattle.bridge_core.specs.Answers.{CarriesOut, standing}
use Rattle.bridge_core.specs.Kept.{Controlled}
use Rattle.bridge_state.specs.Standing.{clocked}
use Rattle.bridge_core.proofs.Seeing.{sees-told, sound-alone, tells_alone}
use Rattle.bridge_core.proofs.bridge.Bridge.take_frame.Goals as goal

pub accept_told-requires-clause-sound : goal.accept_told-requires-clause-sound
accept_told-requires-clause-sound c =
    let old = c.args.self.now in
    let p = c.telling-plan.result in
    let is = c.telling-plan.ensures in
    let control = ap (λ (b : Controlled). b.control) c.self.view_is in
    let early = subst (λ (k : Clock). k.now < 2 ^ 53) (sym is.clock) c.self.invariant.3 in
    let clock : clocked p.clock old.control ≡ old.control = ap (λ (k : Clock). clocked k old.control) is.clock ∙ subst (λ (x : Control). clocked c.self.inside.state.clock x ≡ x) control refl in
    sound-alone old p c.in-Some.event early clock is.renewed is.changes is.told

pub returns-in-Some-clause-carries_out : goal.returns-in-Some-clause-carries_out
returns-in-Some-clause-carries_out c =
    let old = c.args.self.now in
    let p = c.telling-plan.result in
    let is = c.telling-plan.ensures in
    let control = ap (λ (b : Controlled). b.control) c.self.view_is in
    let early = subst (λ (k : Clock). k.now < 2 ^ 53) (sym is.clock) c.self.invariant.3 in
    let clock : clocked p.clock old.control ≡ old.control = ap (λ (k : Clock). clocked k old.control) is.clock ∙ subst (λ (x : Control). clocked c.self.inside.state.clock x ≡ x) control refl in
    let at = c.self.invariant.0 ∙ ap (λ (b : Controlled). table b.history) c.self.view_is in
    let heard_so = ap (λ (t : Table). heard t c.args.port c.args.bytes.now c.args.head.now) (sym at) ∙ sym c.heard.ensures ∙ c.in-Some.is in
    let comes = sym (tells_alone old p c.in-Some.event early clock is.renewed is.changes is.told)
    ∙ sees-told old.setup (standing old) c.args.port c.args.bytes.now c.args.head.now c.in-Some.event heard_so in
    subst (λ (x : Course). CarriesOut old c.accept_told.new.self c.args.lines.now.lines c.accept_told.new.lines.lines c.accept_told.result (Ok x)) comes c.accept_told.ensures.carries_out

pub take_untold-requires-clause-untold : goal.take_untold-requires-clause-untold
take_untold-requires-clause-untold c =
    let at = c.self.invariant.0 ∙ ap (λ (b : Controlled). table b.history) c.self.view_is in
    ap (λ (t : Table). heard t c.args.port c.args.bytes.now c.args.head.now) (sym at) ∙ sym c.heard.ensures ∙ c.in-None.is
