use Rattle.std.proofs.Common.{◌≡◌, ℕ, List, Option, length, get_or, ap, sym, subst, ◌∙◌, arith}
use Rattle.std.specs.Ordering.{nat_cmp}
use Rattle.std.specs.FinMap.Entries as entries
use Rattle.std.specs.FinMap.Entries.{is_sorted, is_sorted-put}
use Rattle.std.proofs.lemmas.Cmp.{nat_cmp_total}
use Rattle.std.proofs.lemmas.Float.{T_from_true}
use Rattle.lemmas.proofs.Tests.{true_from_T}
use Rattle.br_model.specs.Data.Maps.{pair_cmp, get, put}
use Rattle.open_addressing.specs.Finite as numbers
use Rattle.fdb_core.specs.declared.entries.Entry.{Entry}
use Rattle.fdb_core.specs.Fdb.{Table, place}
use Rattle.fdb_core.proofs.Addresses.{told, told-put}
use Rattle.fdb_core.specs.Packing.{by_address, AreKeys}
use Rattle.open_addressing.proofs.Pairs.{get-by_pair, put-by_pair, length-by_pair}
use Rattle.fdb_core.specs.Counts.{AreCounts, one_more}
use Rattle.fdb_core.specs.Places.{IsTold, news_of}
use Rattle.fdb_core.proofs.ByAddress.{Key, keys-put}
use Rattle.fdb_core.proofs.Kept.{found-some, fewer, counted-put}
use Rattle.fdb_core.proofs.table.Fdb.put.Goals as goal

pub insert-old-requires-clause-room : goal.insert-old-requires-clause-room
insert-old-requires-clause-room c none =
    let k : Key = (c.args.vid, c.args.mac) in
    let es = c.self.inside.entries.entries in
    let found = sym (ap (λ (t : Table). get pair_cmp t.entries k) c.self.view_is) ∙ get-by_pair k c.pack-key.ensures.below es
    ∙ ap (λ q. entries.find nat_cmp q es) (sym c.pack-key.ensures.value) in
    let long : length es ≡ length c.args.self.now.entries = sym (length-by_pair es) ∙ ap (λ (t : Table). length t.entries) c.self.view_is in
    let room : c.self.inside.entries.room ≡ c.args.self.now.room = ap (λ (t : Table). t.room) c.self.view_is in
    let h = c.requires (found ∙ none) in
    omega arith

pub remove-requires : goal.remove-requires
remove-requires c =
    let found = c.insert-old.ensures.old in
    found-some c.self.inside.ports.counts c.self.inside.entries.entries c.self.invariant.counted c.self.invariant.sorted c.pack-key.result c.insert-old.result found

pub add-requires : goal.add-requires
add-requires c =
    let found = c.insert-old.ensures.old in
    let es = c.self.inside.entries.entries in
    let cs = c.self.inside.ports.counts in
    let lt = fewer cs es c.self.invariant.counted c.self.invariant.sorted c.pack-key.result c.args.entry c.insert-old.result found in
    let count = ap (λ (l : List ℕ). get_or l c.args.entry.port 0) c.remove.ensures in
    let long : length c.insert-old.new.self.entries ≡ length (entries.put nat_cmp c.pack-key.result c.args.entry es) = ap (λ (t : numbers.Table Entry). length t.entries) c.insert-old.ensures.entries in
    let all = c.len-len.ensures.value in
    omega arith

pub note-requires : goal.note-requires
note-requires c = c.pack-key.ensures.is_key

pub invariant_of-self : goal.invariant_of-self
invariant_of-self c =
    let found = c.insert-old.ensures.old in
    let es = c.self.inside.entries.entries in
    let cs = c.self.inside.ports.counts in
    let key = c.pack-key.result in
    let kept = c.self.invariant in
    let is : c.insert-old.new.self.entries ≡ entries.put nat_cmp key c.args.entry es = ap (λ (t : numbers.Table Entry). t.entries) c.insert-old.ensures.entries in
    record {
      keys = subst AreKeys (sym is) (keys-put key c.args.entry es c.pack-key.ensures.is_key kept.keys);
      sorted = ap (is_sorted nat_cmp) is ∙ true_from_T _ (is_sorted-put nat_cmp nat_cmp_total key c.args.entry es (T_from_true _ kept.sorted));
      counted = subst (λ (l : List (ℕ × Entry)). AreCounts c.add.new.self.counts l) (sym is)
          (subst (λ (l : List ℕ). AreCounts l (entries.put nat_cmp key c.args.entry es)) (sym (c.add.ensures.value ∙ ap (one_more c.args.entry.port) c.remove.ensures))
          (counted-put cs es kept.counted kept.sorted key c.args.entry c.insert-old.result found c.add.ensures.within));
      told = c.settle.ensures.told
          (subst (λ (l : List (ℕ × Entry)). IsTold c.note.new.self.complete c.note.new.self.latest c.note.new.self.places.items l) (sym is)
          (c.note.ensures es c.args.entry (c.news.ensures ∙ ap (λ (o : Option Entry). news_of o c.args.entry) found) (c.make_room.ensures kept.told)));
      settled = c.settle.ensures.settled;
    }

pub returns-clause-entries : goal.returns-clause-entries
returns-clause-entries c =
    let k : Key = (c.args.vid, c.args.mac) in
    let m = c.self.inside.entries in
    let view : numbers.Table Entry → Table = λ t. record { entries = by_address t.entries; room = t.room } in
    let made : List (Key × Entry) → Table = λ es. record { entries = es; room = m.room } in
    let puts : Table → Table = λ t. record { entries = put pair_cmp t.entries k c.args.entry; room = t.room } in
    ap view c.insert-old.ensures.entries ∙ ap (λ q. made (by_address (entries.put nat_cmp q c.args.entry m.entries))) c.pack-key.ensures.value
    ∙ ap made (sym (put-by_pair k c.pack-key.ensures.below c.args.entry m.entries)) ∙ ap puts c.self.view_is

pub returns-clause-addresses : goal.returns-clause-addresses
returns-clause-addresses c =
    ap (λ (t : Table). told place t.entries) (returns-clause-entries c) ∙ told-put place c.args.self.now.entries (c.args.vid, c.args.mac) c.args.entry

pub returns-clause-moments : goal.returns-clause-moments
returns-clause-moments c =
    ap (λ (t : Table). told (λ e. e.updated) t.entries) (returns-clause-entries c) ∙ told-put (λ e. e.updated) c.args.self.now.entries (c.args.vid, c.args.mac) c.args.entry
