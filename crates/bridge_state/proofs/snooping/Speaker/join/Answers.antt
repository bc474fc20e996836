use Rattle.std.proofs.Common.{[], ◌∷◌, sym, subst, ◌∙◌}
use Rattle.br_model.specs.declared.change.Change.TheVariants.{GroupJoin}
use Rattle.br_model.specs.Control.Ends.{Ends}
use Rattle.br_model.specs.Control.Snooping.{joins}
use Rattle.bridge_state.specs.Hearing.{Leads}
use Rattle.bridge_state.proofs.Hearing.{joins-new, joins-renewed}
use Rattle.bridge_state.proofs.snooping.Speaker.join.Goals as goal

pub returns-then-not-has : goal.returns-then-not-has
returns-then-not-has c =
    let s = c.args.self.now in
    subst (λ (x : Ends). Leads s c.args.groups.now x (GroupJoin s.port s.vid c.args.group ∷ []) (joins s.port s.vid c.args.group)) (sym c.join.ensures.groups)
    (joins-new s c.args.groups.now c.args.group (sym c.is_link_local.ensures ∙ c.if-is_link_local.false) (sym c.has_room.ensures ∙ c.if-not-has_room.false) (sym c.has.ensures ∙ c.if-not-has.true))

pub returns : goal.returns
returns c =
    let s = c.args.self.now in
    subst (λ (x : Ends). Leads s c.args.groups.now x [] (joins s.port s.vid c.args.group)) (sym c.join-2.ensures.groups)
    (joins-renewed s c.args.groups.now c.args.group (sym c.is_link_local.ensures ∙ c.if-is_link_local.false) (sym c.has_room.ensures ∙ c.if-not-has_room.false) (sym c.has.ensures ∙ c.if-not-has.false)
    (sym c.dynamic.ensures ∙ c.if-not-dynamic.false))
