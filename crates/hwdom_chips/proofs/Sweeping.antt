-- What a sweep finds in the address rows, once it is sorted, are the entries of the table.
use Rattle.std.proofs.Common.{◌≡◌, ℕ, zero, suc, ◌<◌, ◌≤◌, Bool, true, false, ◌&&◌, cond, Option, None, Some, List, [], ◌∷◌, length, map, filter, filter_map, take, slice_get, IsPermutation}
use Rattle.std.proofs.Common.{IsSorted, refl, sym, ap, ◌∙◌, arith}
use Rattle.std.proofs.lemmas.Option.{same_Some}
use Rattle.std.specs.List.{cons_option, AllByRecursion}
use Rattle.std.specs.List.Sorted.{IsStrictlySortedBy}
use Rattle.std.specs.Ordering.{is_eq, is_gt, nat_cmp, ordering_reverse, ordering_then}
use Rattle.std.specs.Cmp.{IsTotalOrder}
use Rattle.std.specs.declared.cmp.Ordering.{Ordering}
use Rattle.std.specs.declared.cmp.Ordering.TheVariants.{Less, Equal}
use Rattle.std.proofs.lemmas.Cmp.{tied_itself, then_total, on_total, nat_cmp_total}
use Rattle.std.proofs.lemmas.Map.Lookups.{exact_unsigned}
use Rattle.lemmas.proofs.Orders.{then-equal}
use Rattle.br_model.specs.declared.change.Kind.{Kind}
use Rattle.br_model.specs.Plane.Chip.{Chip, unhit}
use Rattle.br_model.specs.Table.Domains.{Domains}
use Rattle.br_model.specs.Control.Learning.{Address, Triple, is_extern}
use Rattle.br_model.specs.Data.Maps.{pair_cmp, get}
use Rattle.br_model.specs.Table.Table.{Table, with_addresses}
use Rattle.br_model.proofs.Data.PairKeys.{pair_total}
use Rattle.chip_tables.specs.declared.rows.AddressRow.{AddressRow}
use Rattle.chip_tables.specs.Rows.{Rows, extern_if, extern_at, IsPlaced}
use Rattle.chip_tables.specs.Stands.{address_wanted, AddressesStand}
use Rattle.hwdom_chips.specs.Sweep.{is_unhit, unseen}
use Rattle.hwdom_chips.proofs.Arranged.{times, Low, Ascends, low_more, given-moved, arranged}

abbrev Entries : Type 0
Entries = List (Address × AddressRow)

abbrev keys : Entries → List Address
keys es = map (λ e. e.0) es

-- the entries find their own values
abbrev FindOwn : Entries → Entries → Type 0
FindOwn es fs = AllByRecursion (λ f. get pair_cmp es f.0 ≡ Some f.1) fs

own-behind : (e : Address × AddressRow) (es fs : Entries) → AllByRecursion (λ k. pair_cmp e.0 k ≡ Less) (keys fs) → FindOwn es fs → FindOwn (e ∷ es) fs
own-behind e es [] low own = tt
own-behind e es (f ∷ fs) low own = (
  ap (λ r. cond (is_eq r) (Some e.1) (get pair_cmp es f.0)) (pair_total.antisymm f.0 e.0 ∙ ap ordering_reverse low.0) ∙ own.0,
  own-behind e es fs low.1 own.1,
)

find-own : (es : Entries) → IsStrictlySortedBy pair_cmp (keys es) → FindOwn es es
unfolding IsStrictlySortedBy
find-own [] rise = tt
find-own (e ∷ es) rise = (ap (λ r. cond (is_eq r) (Some e.1) (get pair_cmp es e.0)) (tied_itself pair_total e.0), own-behind e es es rise.0 (find-own es rise.1))

-- stations in the order of VLAN, address and port

abbrev triple_cmp : Triple → Triple → Ordering
triple_cmp x y = ordering_then (ordering_then (nat_cmp x.0 y.0) (nat_cmp x.1 y.1)) (nat_cmp x.2 y.2)

triple_total : IsTotalOrder triple_cmp
triple_total = then_total (then_total (on_total (λ s. s.0) nat_cmp_total) (on_total (λ s. s.1) nat_cmp_total)) (on_total (λ s. s.2) nat_cmp_total)

same_triple : (x y : Triple) → triple_cmp x y ≡ Equal → x ≡ y
same_triple x y e =
    let last = then-equal (ordering_then (nat_cmp x.0 y.0) (nat_cmp x.1 y.1)) (nat_cmp x.2 y.2) e in
    let first = then-equal (nat_cmp x.0 y.0) (nat_cmp x.1 y.1) last.0 in
    λ i. (exact_unsigned x.0 y.0 first.0 i, exact_unsigned x.1 y.1 first.1 i, exact_unsigned x.2 y.2 last.1 i)

abbrev row_of : Address × (ℕ × Kind) → Address × AddressRow
row_of e = (e.0, address_wanted e.1)

abbrev triple : Address × AddressRow → Triple
triple e = (e.0.0, e.0.1, e.1.port)

module _ (d : Domains) (c : Chip) where
  abbrev pub at_place : Rows → Option Address → Option Triple
  at_place rows place = unseen d c.dom c.hits (extern_at rows place)

  abbrev at_key : Rows → Address → Option Triple
  at_key rows k = at_place rows (Some k)

  abbrev passes : Address × AddressRow → Bool
  passes e = is_extern e.1.kind && is_unhit d c.dom c.hits e.0 e.1.port

  abbrev swept : Entries → List Triple
  swept es = map triple (filter passes es)

  kept : (e : Address × AddressRow) (es : Entries) → cons_option (unseen d c.dom c.hits (extern_if e.0 (Some e.1))) (swept es) ≡ swept (e ∷ es)
  kept e es = by (is_extern e.1.kind)
    where
      pick : (b : Bool) → cons_option (cond {A = Option Triple} b (Some (triple e)) None) (swept es) ≡ map triple (cond b (e ∷ filter passes es) (filter passes es))
      pick true = refl
      pick false = refl

      by : (a : Bool) → cons_option (unseen d c.dom c.hits (cond {A = Option (Address × AddressRow)} a (Some (e.0, e.1)) None)) (swept es)
          ≡ map triple (cond (a && is_unhit d c.dom c.hits e.0 e.1.port) (e ∷ filter passes es) (filter passes es))
      by true = pick (is_unhit d c.dom c.hits e.0 e.1.port)
      by false = refl

  found : (rows : Rows) (es : Entries) → FindOwn rows.addresses es → filter_map (at_key rows) (keys es) ≡ swept es
  found rows [] own = refl
  found rows (e ∷ es) own =
      ap (λ o. cons_option (unseen d c.dom c.hits (extern_if e.0 o)) (filter_map (at_key rows) (keys es))) own.0
      ∙ ap (cons_option (unseen d c.dom c.hits (extern_if e.0 (Some e.1)))) (found rows es own.1) ∙ kept e es

  wanted : (t : Table) (es : List (Address × (ℕ × Kind))) → swept (map row_of es) ≡ unhit d (with_addresses t es) c
  wanted t [] = refl
  wanted t (e ∷ es) = by (wanted t es) (passes (row_of e))
    where
      by : swept (map row_of es) ≡ unhit d (with_addresses t es) c → (b : Bool) → map triple (cond b (row_of e ∷ filter passes (map row_of es)) (filter passes (map row_of es)))
          ≡ map (λ f. triple (row_of f)) (cond b (e ∷ filter (λ f. passes (row_of f)) es) (filter (λ f. passes (row_of f)) es))
      by rest true = ap (λ (l : List Triple). triple (row_of e) ∷ l) rest
      by rest false = rest

  -- what is found at the places is what is found at the keys that stand there
  used : (rows : Rows) (places : List (Option Address)) → filter_map (at_place rows) places ≡ filter_map (at_key rows) (filter_map (λ place. place) places)
  used rows [] = refl
  used rows (None ∷ places) = used rows places
  used rows (Some k ∷ places) = ap (cons_option (at_key rows k)) (used rows places)

  -- places behind which no key stands
  pub before : (rows : Rows) (n : ℕ) (places : List (Option Address)) → ((i : ℕ) → n ≤ i → i < length places → slice_get places i ≡ Some None)
      → filter_map (at_place rows) (take n places) ≡ filter_map (at_place rows) places
  before rows zero [] none = refl
  before rows (suc n) [] none = refl
  before rows zero (place ∷ places) none =
      let blank : Some place ≡ Some None = none 0 (omega arith) (omega arith) in
      before rows 0 places (λ i past below. none (suc i) (omega arith) (omega (arith, below)))
      ∙ sym (ap (λ p. cons_option (at_place rows p) (filter_map (at_place rows) places)) (same_Some place None blank))
  before rows (suc n) (place ∷ places) none =
      ap (cons_option (at_place rows place)) (before rows n places (λ i past below. none (suc i) (omega (arith, past)) (omega (arith, below))))

  low : (e : Address × AddressRow) (es : Entries) → AllByRecursion (λ k. pair_cmp e.0 k ≡ Less) (keys es) → Low triple_cmp (triple e) (swept es)
  low e [] below = λ q there. absurd (omega arith)
  low e (f ∷ es) below =
      let first : is_gt (triple_cmp (triple e) (triple f)) ≡ false = ap (λ r. is_gt (ordering_then r (nat_cmp e.1.port f.1.port))) below.0 in
      let rest = low e es below.1 in
      elim (passes f) as (λ b. Low triple_cmp (triple e) (map triple (cond b (f ∷ filter passes es) (filter passes es)))) [
        | true ↦ low_more triple_cmp triple_total same_triple (triple e) (triple f) (swept es) first rest
        | false ↦ rest
      ]

  ascends : (es : Entries) → IsStrictlySortedBy pair_cmp (keys es) → Ascends triple_cmp (swept es)
  unfolding IsStrictlySortedBy
  ascends [] rise = tt
  ascends (e ∷ es) rise =
      let first = low e es rise.0 in
      let rest = ascends es rise.1 in
      elim (passes e) as (λ b. Ascends triple_cmp (map triple (cond b (e ∷ filter passes es) (filter passes es)))) [
        | true ↦ (first, rest)
        | false ↦ rest
      ]

  -- what is found at all places of rows that stand for the table, in order
  pub all-swept : (rows : Rows) (t : Table) (stations sorted : List Triple) → AddressesStand rows t → IsPlaced rows → stations ≡ filter_map (at_place rows) rows.places
      → IsPermutation stations sorted → IsSorted triple_cmp sorted → sorted ≡ unhit d t c
  all-swept rows t stations sorted stand placed are moved in_order =
      arranged triple_cmp triple_total same_triple stations sorted (swept rows.addresses) moved in_order (ascends rows.addresses placed.ascending)
      (λ q.
      ap (times triple_cmp q) (are ∙ used rows rows.places)
      ∙ given-moved triple_cmp (at_key rows) q (filter_map (λ place. place) rows.places) (keys rows.addresses) placed.moved
      ∙ ap (times triple_cmp q) (found rows rows.addresses (find-own rows.addresses placed.ascending)))
      ∙ ap swept stand ∙ wanted t t.addr
