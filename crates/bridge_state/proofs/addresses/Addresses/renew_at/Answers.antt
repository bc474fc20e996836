use Rattle.std.proofs.Common.{◌≡◌, ℕ, Option, None, Some, option_map, cond, min, refl, ap, sym, ◌∙◌}
use Rattle.br_model.specs.Control.Learning.{Address}
use Rattle.br_model.specs.Data.Maps.{pair_cmp, get, put}
use Rattle.fdb_core.specs.declared.entries.Entry.{Entry}
use Rattle.fdb_core.specs.Fdb.{place, moments, is_dynamic_at, is_one}
use Rattle.bridge_state.specs.Entries.{Entries, is_renewed_by}
use Rattle.bridge_state.proofs.Moments.{if_renewed-kept}
use Rattle.bridge_state.proofs.addresses.Addresses.renew_at.Goals as goal

pub invariant_of-self : goal.invariant_of-self
invariant_of-self c =
    rw c.min-self-inside.ensures
    (if_renewed-kept c.self.inside.fdb _ (is_dynamic_at c.args.port) (c.args.vid, c.args.mac) c.renew_at.result c.self.inside.oldest c.args.now c.renew_at.ensures.entries c.self.invariant)

renews : (port : ℕ) (o : Option Entry) → is_one (is_dynamic_at port) o ≡ is_renewed_by port (option_map place o)
renews port None = refl
renews port (Some e) = refl

pub returns-clause-place : goal.returns-clause-place
returns-clause-place c =
    c.place_of.ensures ∙ sym c.renew_at.ensures.address ∙ ap (λ (s : Entries). get pair_cmp s.addr (c.args.vid, c.args.mac)) c.self.view_is

pub returns-clause-entries : goal.returns-clause-entries
returns-clause-entries c =
    let k : Address = (c.args.vid, c.args.mac) in
    let port = c.args.port in
    let ms = moments c.self.inside.fdb.entries in
    let addr = c.renew_at.ensures.addresses ∙ ap (λ (s : Entries). s.addr) c.self.view_is in
    let updated = c.renew_at.ensures.moments
    ∙ ap (λ b. cond b (put pair_cmp ms k c.args.now) ms) (renews port c.renew_at.result ∙ ap (is_renewed_by port) (sym c.place_of.ensures))
    ∙ ap (λ (s : Entries). cond (is_renewed_by port c.place_of.result) (put pair_cmp s.updated k c.args.now) s.updated) c.self.view_is in
    let oldest = c.min-self-inside.ensures ∙ ap (λ (s : Entries). min s.oldest c.args.now) c.self.view_is in
    λ i. record { addr = addr i; updated = updated i; oldest = oldest i }
