use Rattle.std.proofs.Common.{◌≡◌, ℕ, true, List, IsTrue, map, ap, sym, subst, ◌∙◌}
use Rattle.std.specs.List.{list_all}
use Rattle.fdb_core.specs.Fdb.{Table, keys_where, is_expired}
use Rattle.open_addressing.specs.Finite.{keys_where as numbers_where}
use Rattle.open_addressing.specs.Pairs.{unpacked}
use Rattle.fdb_core.specs.Packing.{is_key}
use Rattle.fdb_core.proofs.ByAddress.{keys-where, keys_where-by_address}
use Rattle.fdb_core.proofs.Numbers.{is_among, sorted_once}
use Rattle.fdb_core.proofs.Places.{over_is}
use Rattle.fdb_core.proofs.table.Fdb.numbers_over.Goals as goal

-- the walk
pub returns-clause-keys : goal.returns-clause-keys
returns-clause-keys c =
    subst (λ (ns : List ℕ). IsTrue (list_all is_key ns)) (sym c.in_ok-all.ensures) (keys-where (is_expired c.args.now c.args.hold) c.self.inside.entries.entries c.self.invariant.keys)

pub returns-clause-value : goal.returns-clause-value
returns-clause-value c =
    ap (λ (ns : List ℕ). map unpacked ns) c.in_ok-all.ensures ∙ keys_where-by_address (is_expired c.args.now c.args.hold) c.self.inside.entries.entries
    ∙ ap (λ (t : Table). keys_where (is_expired c.args.now c.args.hold) t.entries) c.self.view_is

-- the places
pub returns-then-is_complete-clause-keys : goal.returns-then-is_complete-clause-keys
returns-then-is_complete-clause-keys c =
    let t = is_expired c.args.now c.args.hold in
    let es = c.self.inside.entries.entries in
    let ages = c.self.inside.ages in
    let complete : ages.complete ≡ true = cc in
    let is : c.dedup.new.self.items ≡ numbers_where t es = sorted_once t es c.in_ok-numbers.numbers.items c.sort_unstable.new.self.items c.dedup.new.self.items c.self.invariant.sorted
    c.sort_unstable.ensures.permutation c.sort_unstable.ensures.sorted c.dedup.ensures.filtered
    (λ q. ap (is_among q) c.in_ok-numbers.ensures ∙ over_is es c.args.hold c.args.now ages.latest q ages.places.items (c.self.invariant.told complete)) in
    subst (λ (ns : List ℕ). IsTrue (list_all is_key ns)) (sym is) (keys-where t es c.self.invariant.keys)

pub returns-then-is_complete-clause-value : goal.returns-then-is_complete-clause-value
returns-then-is_complete-clause-value c =
    let t = is_expired c.args.now c.args.hold in
    let es = c.self.inside.entries.entries in
    let ages = c.self.inside.ages in
    let complete : ages.complete ≡ true = cc in
    let is : c.dedup.new.self.items ≡ numbers_where t es = sorted_once t es c.in_ok-numbers.numbers.items c.sort_unstable.new.self.items c.dedup.new.self.items c.self.invariant.sorted
    c.sort_unstable.ensures.permutation c.sort_unstable.ensures.sorted c.dedup.ensures.filtered
    (λ q. ap (is_among q) c.in_ok-numbers.ensures ∙ over_is es c.args.hold c.args.now ages.latest q ages.places.items (c.self.invariant.told complete)) in
    ap (λ (ns : List ℕ). map unpacked ns) is ∙ keys_where-by_address t es ∙ ap (λ (u : Table). keys_where t u.entries) c.self.view_is
