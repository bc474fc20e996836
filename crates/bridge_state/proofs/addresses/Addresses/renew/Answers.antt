use Rattle.std.proofs.Common.{ap, is_some, min, true, ◌≡◌, ◌∙◌}
use Rattle.br_model.specs.Control.Learning.{Address}
use Rattle.br_model.specs.Data.Maps.{pair_cmp, get, put}
use Rattle.bridge_state.specs.Entries.{Entries}
use Rattle.bridge_state.proofs.Moments.{renewed-kept, there-told}
use Rattle.bridge_state.proofs.addresses.Addresses.renew.Goals as goal

pub renew-requires : goal.renew-requires
renew-requires c =
    there-told c.self.inside.fdb.entries (c.args.vid, c.args.mac) (ap (λ (s : Entries). is_some (get pair_cmp s.addr (c.args.vid, c.args.mac))) c.self.view_is ∙ c.requires)

pub invariant_of-self : goal.invariant_of-self
invariant_of-self c =
    let k : Address = (c.args.vid, c.args.mac) in
    let there : is_some (get pair_cmp c.self.inside.fdb.entries k) ≡ true = there-told c.self.inside.fdb.entries k (ap (λ (s : Entries). is_some (get pair_cmp s.addr k)) c.self.view_is
    ∙ c.requires) in
    rw c.min-self-inside.ensures (renewed-kept c.self.inside.fdb _ k c.self.inside.oldest c.args.now there c.renew.ensures.entries c.self.invariant)

pub returns : goal.returns
returns c =
    let k : Address = (c.args.vid, c.args.mac) in
    let addr = c.renew.ensures.addresses ∙ ap (λ (s : Entries). s.addr) c.self.view_is in
    let updated = c.renew.ensures.moments ∙ ap (λ (s : Entries). put pair_cmp s.updated k c.args.now) c.self.view_is in
    let oldest = c.min-self-inside.ensures ∙ ap (λ (s : Entries). min s.oldest c.args.now) c.self.view_is in
    λ i. record { addr = addr i; updated = updated i; oldest = oldest i }
