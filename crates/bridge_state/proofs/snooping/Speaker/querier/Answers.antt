use Rattle.std.proofs.Common.{true, false, [], ◌∷◌, refl, sym, subst, ◌∙◌}
use Rattle.br_model.specs.declared.change.Change.TheVariants.{Querier}
use Rattle.br_model.specs.Control.Ends.{Ends}
use Rattle.br_model.specs.Control.Snooping.{querier_heard}
use Rattle.bridge_state.specs.Hearing.{Leads}
use Rattle.bridge_state.proofs.Hearing.{querier-known, querier-new, turned}
use Rattle.bridge_state.proofs.snooping.Speaker.querier.Goals as goal

pub returns-then-querier_seen : goal.returns-then-querier_seen
returns-then-querier_seen c =
    let s = c.args.self.now in
    subst (λ (x : Ends). Leads s c.args.groups.now x (Querier c.args.six true ∷ []) (querier_heard c.args.six)) (sym (c.querier_seen.ensures.heard s.moment refl))
    (querier-new s c.args.groups.now c.args.six (turned _ false (sym c.querier_seen.ensures.seen ∙ c.if-querier_seen.true)))

pub returns : goal.returns
returns c =
    let s = c.args.self.now in
    subst (λ (x : Ends). Leads s c.args.groups.now x [] (querier_heard c.args.six)) (sym (c.querier_seen.ensures.heard s.moment refl))
    (querier-known s c.args.groups.now c.args.six (turned _ true (sym c.querier_seen.ensures.seen ∙ c.if-querier_seen.false)))
