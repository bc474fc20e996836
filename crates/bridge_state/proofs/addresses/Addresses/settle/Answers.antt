use Rattle.std.proofs.Common.{ℕ, IsTrue, ap, sym, subst, ◌∙◌}
use Rattle.std.specs.Option.{unwrap_or}
use Rattle.fdb_core.specs.Fdb.{all_from, oldest}
use Rattle.bridge_state.specs.Entries.{Entries, exact_bound, last_moment}
use Rattle.bridge_state.proofs.Moments.{bounded_by, entries_told}
use Rattle.bridge_state.proofs.addresses.Addresses.settle.Goals as goal

pub invariant_of-self : goal.invariant_of-self
invariant_of-self c =
    record {
      room = c.self.invariant.room;
      ascending = c.self.invariant.ascending;
      bounded = subst (λ (m : ℕ). IsTrue (all_from m c.self.inside.fdb.entries)) (sym c.unwrap_or-self-inside.ensures) (c.oldest.ensures.first _ (bounded_by _ c.oldest.result));
    }

pub returns : goal.returns
returns c =
    let es = c.self.inside.fdb.entries in
    let found = c.unwrap_or-self-inside.ensures ∙ ap (λ o. unwrap_or o last_moment) (c.oldest.ensures.value ∙ ap oldest (sym (entries_told c.self.inside.oldest es c.self.invariant.ascending)))
    ∙ ap exact_bound c.self.view_is in
    λ i. record { addr = ap (λ (s : Entries). s.addr) c.self.view_is i; updated = ap (λ (s : Entries). s.updated) c.self.view_is i; oldest = found i }
