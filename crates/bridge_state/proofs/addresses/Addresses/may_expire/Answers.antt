use Rattle.std.proofs.Common.{◌+◌, ◌<◌, sym, ap, ◌∙◌, arith}
use Rattle.std.proofs.lemmas.Bool.Decides.{nat_tests}
use Rattle.bridge_state.specs.Entries.{Entries, old_keys}
use Rattle.bridge_state.proofs.Moments.{none_old, old_as}
use Rattle.bridge_state.proofs.addresses.Addresses.may_expire.Goals as goal

pub returns-in-Some-clause-none : goal.returns-in-Some-clause-none
returns-in-Some-clause-none c = λ no.
    let es = c.self.inside.fdb.entries in
    let h : c.args.now < c.self.inside.oldest + c.args.hold = grind (arith, nat_tests, c.in-Some.ensures) in
    sym (old_as c.args.now c.args.hold c.self.inside.oldest es c.self.invariant.ascending ∙ ap (λ (s : Entries). old_keys c.args.now c.args.hold s) c.self.view_is)
    ∙ none_old c.self.inside.oldest c.args.now c.args.hold es h c.self.invariant.bounded

pub returns-in-None-clause-none : goal.returns-in-None-clause-none
returns-in-None-clause-none c = λ no.
    let es = c.self.inside.fdb.entries in
    let h : c.args.now < c.self.inside.oldest + c.args.hold = omega (arith, c.in-None.ensures) in
    sym (old_as c.args.now c.args.hold c.self.inside.oldest es c.self.invariant.ascending ∙ ap (λ (s : Entries). old_keys c.args.now c.args.hold s) c.self.view_is)
    ∙ none_old c.self.inside.oldest c.args.now c.args.hold es h c.self.invariant.bounded
