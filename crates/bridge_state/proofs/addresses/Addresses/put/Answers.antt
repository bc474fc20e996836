use Rattle.std.proofs.Common.{IsTrue, ◌||◌, ap, is_some, length, nat_lt, refl, sym, subst, ◌∙◌}
use Rattle.br_model.specs.Table.Limits.{most_addresses}
use Rattle.br_model.specs.Data.Maps.{pair_cmp, get}
use Rattle.fdb_core.specs.Fdb.{Table}
use Rattle.bridge_state.specs.Entries.{Entries}
use Rattle.bridge_state.proofs.Moments.{ascending-put, from-put, room-absent}
use Rattle.bridge_state.proofs.addresses.Addresses.put.Goals as goal

pub put-requires : goal.put-requires
put-requires c = λ none.
    let es = c.self.inside.fdb.entries in
    let fits = subst (λ (s : Entries). IsTrue (is_some (get pair_cmp s.addr (c.args.vid, c.args.mac)) || nat_lt (length s.addr) most_addresses)) (sym c.self.view_is) c.requires in
    rw c.self.invariant.room (room-absent es (c.args.vid, c.args.mac) none fits)

pub invariant_of-self : goal.invariant_of-self
invariant_of-self c =
    let es = c.self.inside.fdb.entries in
    record {
      room = ap (λ (t : Table). t.room) c.put.ensures.entries ∙ c.self.invariant.room;
      ascending = rw c.put.ensures.entries (ascending-put es _ _ c.self.invariant.ascending);
      bounded = rw (c.put.ensures.entries, c.min-self-inside.ensures) (from-put c.self.inside.oldest c.args.now _ _ es refl c.self.invariant.bounded);
    }
