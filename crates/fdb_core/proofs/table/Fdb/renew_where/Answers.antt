use Rattle.std.proofs.Common.{◌≡◌, ℕ, ◌<◌, ◌^◌, List, Option, None, Some, refl, true, cond, ap, sym, subst, ◌∙◌}
use Rattle.std.specs.Ordering.{nat_cmp}
use Rattle.std.specs.FinMap.Entries as entries
use Rattle.std.specs.FinMap.Entries.{is_sorted, is_sorted-put}
use Rattle.std.proofs.lemmas.Cmp.{nat_cmp_total}
use Rattle.std.proofs.lemmas.Float.{T_from_true}
use Rattle.lemmas.proofs.Tests.{true_from_T}
use Rattle.br_model.specs.Data.Maps.{pair_cmp, get, put, is_ascending}
use Rattle.open_addressing.specs.Finite as numbers
use Rattle.open_addressing.specs.Pairs.{packed}
use Rattle.open_addressing.proofs.Pairs.{get-by_pair, put-by_pair, ascending-by_pair}
use Rattle.fdb_core.specs.declared.entries.Entry.{Entry}
use Rattle.fdb_core.specs.Counts.{AreCounts}
use Rattle.fdb_core.specs.Fdb.{Table}
use Rattle.fdb_core.specs.Packing.{by_address, AreKeys}
use Rattle.fdb_core.proofs.ByAddress.{Key, keys-put}
use Rattle.fdb_core.proofs.Kept.{counted-renewed}
use Rattle.fdb_core.proofs.Addresses.{if_renewed-same}
use Rattle.fdb_core.proofs.table.Fdb.renew_where.Goals as goal

-- what is found at the number of a key is there by VLAN and address
found_at : (es : List (ℕ × Entry)) (room : ℕ) (t : Table) (k : Key) (q : ℕ) (o : Option Entry) → record { entries = by_address es; room = room } ≡ t
    → k.1 < 2 ^ 48 → q ≡ packed k → entries.find nat_cmp q es ≡ o → get pair_cmp t.entries k ≡ o
found_at es room t k q o is below packs found =
    sym (ap (λ (t : Table). get pair_cmp t.entries k) is) ∙ get-by_pair k below es ∙ ap (λ n. entries.find nat_cmp n es) (sym packs) ∙ found

pub returns-in_err-i-clause-entry : goal.returns-in_err-i-clause-entry
returns-in_err-i-clause-entry g c =
    c.from_residual.ensures
    ∙ sym (found_at c.self.inside.entries.entries c.self.inside.entries.room c.args.self.now (c.args.vid, c.args.mac) c.pack-key.result None c.self.view_is
    c.pack-key.ensures.below c.pack-key.ensures.value (c.in_err-i.ensures.absent refl))

pub returns-then-old-moment-clause-entry : goal.returns-then-old-moment-clause-entry
returns-then-old-moment-clause-entry g c =
    let es = c.self.inside.entries.entries in
    sym (found_at es c.self.inside.entries.room c.args.self.now (c.args.vid, c.args.mac) c.pack-key.result (Some c.value_in-old.result) c.self.view_is
    c.pack-key.ensures.below c.pack-key.ensures.value (ap (λ q. entries.find nat_cmp q es) (sym c.in_ok-i.ensures.found.1) ∙ c.value_in-old.ensures))

pub returns-then-old-moment-clause-entries : goal.returns-then-old-moment-clause-entries
returns-then-old-moment-clause-entries g c =
    let es = c.self.inside.entries.entries in
    let now = c.args.self.now in
    let k : Key = (c.args.vid, c.args.mac) in
    let is = found_at es c.self.inside.entries.room now k c.pack-key.result (Some c.value_in-old.result) c.self.view_is
    c.pack-key.ensures.below c.pack-key.ensures.value (ap (λ q. entries.find nat_cmp q es) (sym c.in_ok-i.ensures.found.1) ∙ c.value_in-old.ensures) in
    let up : is_ascending pair_cmp now.entries ≡ true =
    ap (λ (t : Table). is_ascending pair_cmp t.entries) (sym c.self.view_is) ∙ ascending-by_pair es ∙ c.self.invariant.sorted in
    ap (λ (l : List (Key × Entry)). record { entries = l; room = now.room })
    (sym (if_renewed-same (g.T.Test.passes c.args.test.now) now.entries k c.value_in-old.result c.args.moment up is c.if-old-moment.true))

pub returns-then-not-passes-clause-entry : goal.returns-then-not-passes-clause-entry
returns-then-not-passes-clause-entry g c =
    let es = c.self.inside.entries.entries in
    sym (found_at es c.self.inside.entries.room c.args.self.now (c.args.vid, c.args.mac) c.pack-key.result (Some c.value_in-old.result) c.self.view_is
    c.pack-key.ensures.below c.pack-key.ensures.value (ap (λ q. entries.find nat_cmp q es) (sym c.in_ok-i.ensures.found.1) ∙ c.value_in-old.ensures))

pub invariant_of-self : goal.invariant_of-self
invariant_of-self g c =
    let es = c.self.inside.entries.entries in
    let key = c.pack-key.result in
    let kept = c.self.invariant in
    let entry = c.renewed-entry.result in
    let is : c.put_in.new.entries.entries ≡ entries.put nat_cmp key entry es = ap (λ (t : numbers.Table Entry). t.entries) c.put_in.ensures.entries in
    let found : entries.find nat_cmp key es ≡ Some c.value_in-old.result = ap (λ q. entries.find nat_cmp q es) (sym c.in_ok-i.ensures.found.1) ∙ c.value_in-old.ensures in
    record {
      keys = subst AreKeys (sym is) (keys-put key entry es c.pack-key.ensures.is_key kept.keys);
      sorted = ap (is_sorted nat_cmp) is ∙ true_from_T _ (is_sorted-put nat_cmp nat_cmp_total key entry es (T_from_true _ kept.sorted));
      counted = subst (λ (l : List (ℕ × Entry)). AreCounts c.self.inside.ports.counts l) (sym (is ∙ ap (λ (e : Entry). entries.put nat_cmp key e es) c.renewed-entry.ensures))
          (counted-renewed c.self.inside.ports.counts es kept.counted kept.sorted key c.value_in-old.result c.args.moment found);
      told = c.put_in.ensures.told kept.told;
      settled = c.put_in.ensures.settled;
    }

pub returns-clause-entry : goal.returns-clause-entry
returns-clause-entry g c =
    let es = c.self.inside.entries.entries in
    sym (found_at es c.self.inside.entries.room c.args.self.now (c.args.vid, c.args.mac) c.pack-key.result (Some c.value_in-old.result) c.self.view_is
    c.pack-key.ensures.below c.pack-key.ensures.value (ap (λ q. entries.find nat_cmp q es) (sym c.in_ok-i.ensures.found.1) ∙ c.value_in-old.ensures))

pub returns-clause-entries : goal.returns-clause-entries
returns-clause-entries g c =
    let k : Key = (c.args.vid, c.args.mac) in
    let m = c.self.inside.entries in
    let now = c.args.self.now in
    let entry = c.renewed-entry.result in
    let view : numbers.Table Entry → Table = λ t. record { entries = by_address t.entries; room = t.room } in
    let made : List (Key × Entry) → Table = λ es. record { entries = es; room = m.room } in
    let puts : Table → Table = λ t. record { entries = put pair_cmp t.entries k entry; room = t.room } in
    let passes : g.T.Test.passes c.args.test.now c.value_in-old.result ≡ true = sym c.passes.ensures ∙ c.if-not-passes.false in
    ap view c.put_in.ensures.entries ∙ ap (λ q. made (by_address (entries.put nat_cmp q entry m.entries))) c.pack-key.ensures.value
    ∙ ap made (sym (put-by_pair k c.pack-key.ensures.below entry m.entries)) ∙ ap puts c.self.view_is
    ∙ ap (λ (e : Entry). record { entries = put pair_cmp now.entries k e; room = now.room }) c.renewed-entry.ensures
    ∙ ap (λ b. record { entries = cond b (put pair_cmp now.entries k (record c.value_in-old.result { updated = c.args.moment })) now.entries; room = now.room }) (sym passes)
