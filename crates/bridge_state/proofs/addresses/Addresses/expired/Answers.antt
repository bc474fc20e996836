use Rattle.std.proofs.Common.{◌≡◌, List, IfOk, ap, subst, ◌∙◌}
use Rattle.br_model.specs.Control.Learning.{Address}
use Rattle.bridge_state.specs.Entries.{Entries, old_keys}
use Rattle.bridge_state.proofs.Moments.{old_as}
use Rattle.bridge_state.proofs.addresses.Addresses.expired.Goals as goal

pub returns : goal.returns
returns c =
    subst (λ (ks : List Address). IfOk c.expired.result (λ l. l ≡ ks))
    (old_as c.args.now c.args.hold c.self.inside.oldest c.self.inside.fdb.entries c.self.invariant.ascending ∙ ap (λ (s : Entries). old_keys c.args.now c.args.hold s) c.self.view_is) c.expired.ensures
