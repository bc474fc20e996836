use Rattle.std.proofs.Common.{ap, not, ◌∙◌}
use Rattle.std.specs.Ordering.{eq_by_cmp}
use Rattle.br_model.specs.Data.Maps.{pair_cmp}
use Rattle.fdb_core.specs.Fdb.{Table}
use Rattle.bridge_state.proofs.Moments.{from-filter, ascending-without}
use Rattle.bridge_state.proofs.addresses.Addresses.take.Goals as goal

pub invariant_of-self : goal.invariant_of-self
invariant_of-self c =
    let es = c.self.inside.fdb.entries in
    record {
      room = ap (λ (t : Table). t.room) c.take.ensures.rest ∙ c.self.invariant.room;
      ascending = rw c.take.ensures.rest (ascending-without es (c.args.vid, c.args.mac) c.self.invariant.ascending);
      bounded = rw c.take.ensures.rest (from-filter c.self.inside.oldest (λ e. not (eq_by_cmp pair_cmp (c.args.vid, c.args.mac) e.0)) es c.self.invariant.bounded);
    }
