use Rattle.std.proofs.Common.{true, false, [], ◌∷◌, refl, sym, subst, ◌∙◌}
use Rattle.br_model.specs.declared.change.Change.TheVariants.{Router}
use Rattle.br_model.specs.Control.Ends.{Ends}
use Rattle.br_model.specs.Control.Snooping.{router_heard}
use Rattle.bridge_state.specs.Hearing.{Leads}
use Rattle.bridge_state.proofs.Hearing.{router-known, router-new, turned}
use Rattle.bridge_state.proofs.snooping.Speaker.router.Goals as goal

pub returns-then-router_seen : goal.returns-then-router_seen
returns-then-router_seen c =
    let s = c.args.self.now in
    subst (λ (x : Ends). Leads s c.args.groups.now x (Router s.port true ∷ []) (router_heard s.port)) (sym (c.router_seen.ensures.heard s.moment refl))
    (router-new s c.args.groups.now (turned _ false (sym c.router_seen.ensures.seen ∙ c.if-router_seen.true)))

pub returns : goal.returns
returns c =
    let s = c.args.self.now in
    subst (λ (x : Ends). Leads s c.args.groups.now x [] (router_heard s.port)) (sym (c.router_seen.ensures.heard s.moment refl))
    (router-known s c.args.groups.now (turned _ true (sym c.router_seen.ensures.seen ∙ c.if-router_seen.false)))
