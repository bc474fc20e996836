use Rattle.std.proofs.Common.{[], ◌∷◌, sym, subst, ◌∙◌}
use Rattle.br_model.specs.declared.change.Change.TheVariants.{GroupPart}
use Rattle.br_model.specs.Control.Ends.{Ends}
use Rattle.br_model.specs.Control.Snooping.{leaves}
use Rattle.bridge_state.specs.Hearing.{Leads}
use Rattle.bridge_state.proofs.Hearing.{leaves-fast, leaves-soon}
use Rattle.bridge_state.proofs.snooping.Speaker.leave.Goals as goal

pub returns-then-self : goal.returns-then-self
returns-then-self c =
    let s = c.args.self.now in
    subst (λ (x : Ends). Leads s c.args.groups.now x (GroupPart s.port s.vid c.args.group ∷ []) (leaves s.port s.vid c.args.group)) (sym c.part.ensures.groups)
    (leaves-fast s c.args.groups.now c.args.group (sym c.dynamic.ensures ∙ c.if-not-dynamic.false) c.if-self.true)

pub returns : goal.returns
returns c =
    let s = c.args.self.now in
    subst (λ (x : Ends). Leads s c.args.groups.now x [] (leaves s.port s.vid c.args.group)) (sym c.leave_soon.ensures.groups)
    (leaves-soon s c.args.groups.now c.args.group (sym c.dynamic.ensures ∙ c.if-not-dynamic.false) c.if-self.false)
