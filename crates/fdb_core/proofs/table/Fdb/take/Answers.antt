use Rattle.std.proofs.Common.{◌≡◌, ℕ, List, not, ap, sym, subst, ◌∙◌}
use Rattle.std.specs.Ordering.{nat_cmp, eq_by_cmp}
use Rattle.std.specs.FinMap.Entries as entries
use Rattle.std.specs.FinMap.Entries.{is_sorted, is_sorted-where_key}
use Rattle.std.proofs.lemmas.Float.{T_from_true}
use Rattle.lemmas.proofs.Tests.{true_from_T}
use Rattle.br_model.specs.Data.Maps.{pair_cmp, get, without}
use Rattle.open_addressing.specs.Finite as numbers
use Rattle.fdb_core.specs.declared.entries.Entry.{Entry}
use Rattle.fdb_core.specs.Fdb.{Table, place}
use Rattle.fdb_core.specs.Packing.{by_address, AreKeys}
use Rattle.open_addressing.proofs.Pairs.{get-by_pair, without-by_pair}
use Rattle.fdb_core.specs.Counts.{AreCounts}
use Rattle.fdb_core.specs.Places.{IsTold}
use Rattle.fdb_core.proofs.ByAddress.{Key, keys-filter}
use Rattle.fdb_core.proofs.Kept.{found-some, counted-without}
use Rattle.fdb_core.proofs.Places.{tells-without}
use Rattle.fdb_core.proofs.Addresses.{told, told-without}
use Rattle.fdb_core.proofs.table.Fdb.take.Goals as goal

pub remove-requires : goal.remove-requires
remove-requires c = found-some c.self.inside.ports.counts c.self.inside.entries.entries c.self.invariant.counted c.self.invariant.sorted c.pack.result c.take-taken.result c.take-taken.ensures.value

pub invariant_of-self : goal.invariant_of-self
invariant_of-self c =
    let es = c.self.inside.entries.entries in
    let key = c.pack.result in
    let kept = c.self.invariant in
    let left : List (ℕ × Entry) = entries.where_key nat_cmp (λ q. not (eq_by_cmp nat_cmp key q)) es in
    let is : c.take-taken.new.self.entries ≡ left = ap (λ (t : numbers.Table Entry). t.entries) c.take-taken.ensures.rest in
    record {
      keys = subst AreKeys (sym is) (keys-filter (λ (e : ℕ × Entry). not (eq_by_cmp nat_cmp key e.0)) es kept.keys);
      sorted = ap (is_sorted nat_cmp) is ∙ true_from_T _ (is_sorted-where_key nat_cmp (λ q. not (eq_by_cmp nat_cmp key q)) es (T_from_true _ kept.sorted));
      counted = subst (λ (l : List (ℕ × Entry)). AreCounts c.remove.new.self.counts l) (sym is)
          (subst (λ (l : List ℕ). AreCounts l left) (sym c.remove.ensures) (counted-without c.self.inside.ports.counts es kept.counted kept.sorted key c.take-taken.result c.take-taken.ensures.value));
      told = c.settle.ensures.told
          (subst (λ (l : List (ℕ × Entry)). IsTold c.self.inside.ages.complete c.self.inside.ages.latest c.self.inside.ages.places.items l) (sym is)
          (λ complete. tells-without key c.self.inside.ages.latest c.self.inside.ages.places.items es (kept.told complete)));
      settled = c.settle.ensures.settled;
    }

pub returns-clause-entry : goal.returns-clause-entry
returns-clause-entry c =
    let es = c.self.inside.entries.entries in
    c.take-taken.ensures.value ∙ ap (λ q. entries.find nat_cmp q es) c.pack.ensures.value ∙ sym (get-by_pair (c.args.vid, c.args.mac) c.pack.ensures.below es)
    ∙ ap (λ (t : Table). get pair_cmp t.entries (c.args.vid, c.args.mac)) c.self.view_is

pub returns-clause-rest : goal.returns-clause-rest
returns-clause-rest c =
    let k : Key = (c.args.vid, c.args.mac) in
    let m = c.self.inside.entries in
    let view : numbers.Table Entry → Table = λ t. record { entries = by_address t.entries; room = t.room } in
    let made : List (Key × Entry) → Table = λ es. record { entries = es; room = m.room } in
    let takes : Table → Table = λ t. record { entries = without pair_cmp t.entries k; room = t.room } in
    ap view c.take-taken.ensures.rest ∙ ap (λ q. made (by_address (entries.where_key nat_cmp (λ x. not (eq_by_cmp nat_cmp q x)) m.entries))) c.pack.ensures.value
    ∙ ap made (sym (without-by_pair k c.pack.ensures.below m.entries)) ∙ ap takes c.self.view_is

pub returns-clause-addresses : goal.returns-clause-addresses
returns-clause-addresses c =
    ap (λ (t : Table). told place t.entries) (returns-clause-rest c) ∙ told-without place c.args.self.now.entries (c.args.vid, c.args.mac)

pub returns-clause-moments : goal.returns-clause-moments
returns-clause-moments c =
    ap (λ (t : Table). told (λ e. e.updated) t.entries) (returns-clause-rest c) ∙ told-without (λ e. e.updated) c.args.self.now.entries (c.args.vid, c.args.mac)
