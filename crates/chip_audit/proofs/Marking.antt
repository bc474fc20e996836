-- The entries after a chip's rows and updates that it hasn't applied, and which of them the chip has.
use Rattle.std.proofs.Common.{◌≡◌, ℕ, zero, suc, ◌+◌, ◌<◌, ◌≤◌, Bool, true, false, T, not, cond, ◌||◌, ◌&&◌, Some}
use Rattle.std.proofs.Common.{None, Option, List, [], ◌∷◌, ◌++◌, length, take, drop, refl, sym, ap, subst, ◌∙◌, append-nil, arith}
use Rattle.std.specs.Prelude.{nat_lt}
use Rattle.std.specs.List.{filter, fold, slice_get}
use Rattle.std.specs.Option.{is_some, option_and_then, option_map, option_map_or}
use Rattle.std.specs.Ordering.{eq_by_cmp}
use Rattle.std.specs.FinMap.Entries.{is_sorted, is_sorted-put, is_sorted-where_key, find-put, find-where_key, same_entries}
use Rattle.std.proofs.Math.Bool.{or-false}
use Rattle.std.proofs.Math.Seq.{drop-nil}
use Rattle.std.proofs.lemmas.Bool.{ltb-false, ltb-true}
use Rattle.std.proofs.lemmas.List.{drop-append-le, take-append-drop, take_all, take_more}
use Rattle.std.proofs.lemmas.List.Elements.{filter-append}
use Rattle.std.proofs.lemmas.List.Folds.{list_any-append}
use Rattle.std.proofs.lemmas.List.Sums.{fold-append}
use Rattle.std.proofs.lemmas.Option.{get_or_from_slice_get, slice_get_within}
use Rattle.lemmas.proofs.Tests.{or-true, by_test, cond-not}
use Rattle.br_model.specs.declared.change.Change.{Change}
use Rattle.br_model.specs.declared.change.Kind.{Kind}
use Rattle.br_model.specs.declared.change.Update.{Update}
use Rattle.br_model.specs.declared.domains.Edition.{Edition}
use Rattle.br_model.specs.Data.Maps.{pair_cmp, get}
use Rattle.br_model.specs.Table.Change.{address_part, deferred}
use Rattle.br_model.specs.Table.Cut.{cut, deferred_at, deferred_count, deferred_of, synchronous_of, under_ticket}
use Rattle.br_model.specs.Table.Table.{Table, apply, start, table}
use Rattle.br_model.proofs.Table.Cuts.{cut-all, cut-turn, deferred_of-cut, synchronous_of-cut, table-sorted}
use Rattle.br_model.proofs.Data.PairKeys.{pair_total, same_cmp}
use Rattle.neigh_netlink.specs.Neighbours.{Key}
use Rattle.neigh_netlink.specs.Offloaded.{is_of_key, last_update, offloaded, put_by, puts_among}
use Rattle.neigh_netlink.proofs.LastUpdates.{all-ascend, by-changes, get-apply, get-table, last_update-push, puts, synchronous-other}
use Rattle.neigh_netlink.proofs.Mapped.{ascending-mapped, eq-turned, get-mapped, map-same}
use Rattle.chip_audit.specs.declared.entries.Found.{Found}
use Rattle.chip_audit.specs.Audits.{Row, entries_of, found, is_stale, same_place, stale}
use Rattle.chip_audit.specs.Marks.{Entries, all_offloaded, entries_after, entries_at, is_at, is_gone, is_named, marked, stands_after, updates_from}

-- Names of updates.

named-more : (cs : List Change) (c : Change) (q : Key) → is_named (cs ++ c ∷ []) q ≡ (is_named cs q || is_of_key q c)
named-more cs c q = list_any-append (is_of_key q) cs (c ∷ []) ∙ ap (λ b. is_named cs q || b) (or-false (is_of_key q c))

-- a change more, where it is among those from a place on, and where it isn't

drop-within : (k : ℕ) (xs : List Change) (c : Change) → k ≤ length xs → drop k (xs ++ c ∷ []) ≡ drop k xs ++ c ∷ []
drop-within k xs c within = drop-append-le k xs (c ∷ []) within

drop-past : (k : ℕ) (xs : List Change) (c : Change) → length xs < k → (drop k (xs ++ c ∷ []) ≡ []) × (drop k xs ≡ [])
drop-past zero xs c past = absurd (omega (arith, past))
drop-past (suc k) [] c past = (drop-nil k, refl)
drop-past (suc k) (x ∷ xs) c past = drop-past k xs c (omega (arith, past))

module _ (edition : Edition) (k : ℕ) where
  abbrev later : List Change → List Change
  later h = drop k (deferred_of edition h)

  abbrev is_late : Option Update → Bool
  is_late o = option_map_or (λ (u : Update). not (nat_lt u.ticket k)) o false

  further : (h : List Change) (c : Change) → deferred_of edition (h ++ c ∷ []) ≡ deferred_of edition h ++ cond (deferred edition c) (c ∷ []) []
  further h c = filter-append (deferred edition) h (c ∷ [])

  -- the last update of an entry is one of those from the k-th on exactly where one of these is of the entry
  named-late : (q : Key) (h : List Change) → is_named (later h) q ≡ is_late (last_update edition h q)
  named-late q h = by-changes (λ h. is_named (later h) q ≡ is_late (last_update edition h q)) (ap (λ (l : List Change). is_named l q) (drop-nil k)) next h
    where
      next : (h : List Change) (c : Change) → is_named (later h) q ≡ is_late (last_update edition h q) → is_named (later (h ++ c ∷ [])) q ≡ is_late (last_update edition (h ++ c ∷ []) q)
      next h c before =
          ap (λ l. is_named (drop k l) q) (further h c)
          ∙ by (deferred edition c) (is_of_key q c) refl refl
          ∙ ap is_late (sym (last_update-push edition h c q))
        where
          there : is_of_key q c ≡ true → is_named (drop k (deferred_of edition h ++ c ∷ [])) q ≡ not (nat_lt (deferred_count edition h) k)
          there its = by_test (nat_lt (deferred_count edition h) k)
              (λ less. (let past : deferred_count edition h < k = ltb-true (deferred_count edition h) k less in
              ap (λ l. is_named l q) (drop-past k (deferred_of edition h) c past).0 ∙ sym (ap not less)))
              (λ no. (let within : k ≤ deferred_count edition h = ltb-false (deferred_count edition h) k no in
              ap (λ l. is_named l q) (drop-within k (deferred_of edition h) c within) ∙ named-more (later h) c q ∙ ap (λ b. is_named (later h) q || b) its ∙ or-true (is_named (later h) q)
              ∙ sym (ap not no)))

          elsewhere : is_of_key q c ≡ false → is_named (drop k (deferred_of edition h ++ c ∷ [])) q ≡ is_named (later h) q
          elsewhere other = by_test (nat_lt (deferred_count edition h) k)
              (λ less. (let past : deferred_count edition h < k = ltb-true (deferred_count edition h) k less in
              ap (λ l. is_named l q) ((drop-past k (deferred_of edition h) c past).0 ∙ sym (drop-past k (deferred_of edition h) c past).1)))
              (λ no. (let within : k ≤ deferred_count edition h = ltb-false (deferred_count edition h) k no in
              ap (λ l. is_named l q) (drop-within k (deferred_of edition h) c within) ∙ named-more (later h) c q ∙ ap (λ b. is_named (later h) q || b) other ∙ or-false (is_named (later h) q)))

          by : (late its : Bool) → deferred edition c ≡ late → is_of_key q c ≡ its
              → is_named (drop k (deferred_of edition h ++ cond late (c ∷ []) [])) q ≡ is_late (cond its (Some (under_ticket (deferred_count edition h) c)) (last_update edition h q))
          by true true d its = there its
          by true false d other = elsewhere other ∙ before
          by false true d its = (let none : is_of_key q c ≡ false = synchronous-other edition q c d in let both : true ≡ false = sym its ∙ none in absurd (cc))
          by false false d other = ap (λ l. is_named (drop k l) q) (append-nil (deferred_of edition h)) ∙ before

  -- So an entry that stands is offloaded exactly where no update from the k-th on is of it.
  pub offloaded-unnamed : (h : List Change) (q : Key) (x : ℕ × Kind) → get pair_cmp (table h).addr q ≡ Some x → offloaded edition h k q ≡ not (is_named (later h) q)
  offloaded-unnamed h q x stands =
      by (last_update edition h q) (sym (get-table edition h q) ∙ stands) ∙ sym (ap not (named-late q h))
    where
      not-not : (b : Bool) → b ≡ not (not b)
      not-not true = refl
      not-not false = refl

      by : (o : Option Update) → option_and_then put_by o ≡ Some x → option_map_or (puts_among k) o false ≡ not (is_late o)
      by None none = absurd (cc)
      by (Some u) puts_it = ap (λ o. is_some o && nat_lt u.ticket k) puts_it ∙ not-not (nat_lt u.ticket k)

  pub offloaded-named : (h : List Change) (q : Key) → is_some (get pair_cmp (table h).addr q) ≡ true → offloaded edition h k q ≡ not (is_named (later h) q)
  offloaded-named h q there = by (get pair_cmp (table h).addr q) refl there
    where
      by : (o : Option (ℕ × Kind)) → get pair_cmp (table h).addr q ≡ o → is_some o ≡ true → offloaded edition h k q ≡ not (is_named (later h) q)
      by None is some = absurd (cc)
      by (Some x) is some = offloaded-unnamed h q x is

-- a chip's table, changed by the updates that it hasn't applied
pub updates-lead : (edition : Edition) (h : List Change) (k : ℕ) → (fold apply (table (cut edition h k)) (drop k (deferred_of edition h))).addr ≡ (table h).addr
updates-lead edition h k =
    let ds : List Change = deferred_of edition h in
    let at_once : Table = fold apply start (synchronous_of edition h) in
    let cut_is : table (cut edition h k) ≡ fold apply at_once (take k ds) =
    table-sorted edition (cut edition h k) ∙ fold-append apply start (synchronous_of edition (cut edition h k)) (deferred_of edition (cut edition h k))
    ∙ (λ i. fold apply (fold apply start (synchronous_of-cut edition h k i)) (deferred_of-cut edition h k i)) in
    let whole : table h ≡ fold apply at_once ds = table-sorted edition h ∙ fold-append apply start (synchronous_of edition h) ds in
    let same : fold apply (table (cut edition h k)) (drop k ds) ≡ table h =
    ap (λ t. fold apply t (drop k ds)) cut_is ∙ sym (fold-append apply at_once (take k ds) (drop k ds)) ∙ ap (fold apply at_once) (take-append-drop k ds) ∙ sym whole in
    ap (λ (t : Table). t.addr) same

-- An update more.

get-stands : (es : Entries) (k : Key) (o : Option (ℕ × Kind)) (q : Key)
    → get pair_cmp (stands_after es k o) q ≡ cond (eq_by_cmp pair_cmp q k) (option_map (marked false) o) (get pair_cmp es q)
get-stands es k (Some x) q = find-put pair_cmp pair_total q k (marked false x) es
get-stands es k None q =
    find-where_key pair_cmp (λ p. not (eq_by_cmp pair_cmp k p)) q (λ p tie. ap (λ r. not (eq_by_cmp pair_cmp k r)) (sym (same_cmp q p tie))) es
    ∙ ap (λ b. cond (not b) (get pair_cmp es q) None) (eq-turned q k)
    ∙ cond-not (eq_by_cmp pair_cmp q k) (get pair_cmp es q) None

get-after : (es : Entries) (part : Option (Key × Option (ℕ × Kind))) (q : Key) → get pair_cmp (entries_after es part) q
    ≡ cond (option_map_or (λ p. eq_by_cmp pair_cmp q p.0) part false) (option_map (marked false) (option_and_then (λ p. p.1) part)) (get pair_cmp es q)
get-after es None q = refl
get-after es (Some p) q = get-stands es p.0 p.1 q

after-ascends : (es : Entries) (part : Option (Key × Option (ℕ × Kind))) → T (is_sorted pair_cmp es) → T (is_sorted pair_cmp (entries_after es part))
after-ascends es None up = up
after-ascends es (Some p) up = by p.0 p.1
  where
    by : (k : Key) (o : Option (ℕ × Kind)) → T (is_sorted pair_cmp (stands_after es k o))
    by k (Some x) = is_sorted-put pair_cmp pair_total k (marked false x) es up
    by k None = is_sorted-where_key pair_cmp (λ q. not (eq_by_cmp pair_cmp k q)) es up

pub table-ascends : (h : List Change) → T (is_sorted pair_cmp (table h).addr)
table-ascends h = all-ascend start h tt

module _ (edition : Edition) (h : List Change) (k : ℕ) where
  abbrev mark : ℕ → Key → ℕ × Kind → Found
  mark j q x = marked (not (is_named (updates_from edition h k j) q)) x

  abbrev at : ℕ → Entries
  at j = entries_at edition h k j

  get-at : (j : ℕ) (q : Key) → get pair_cmp (at j) q ≡ option_map (mark j q) (get pair_cmp (table (cut edition h (k + j))).addr q)
  get-at j q = get-mapped (mark j) (table (cut edition h (k + j))).addr q

  at-ascends : (j : ℕ) → T (is_sorted pair_cmp (at j))
  at-ascends j = subst T (sym (ascending-mapped (mark j) (table (cut edition h (k + j))).addr)) (table-ascends (cut edition h (k + j)))

  -- none
  pub entries-first : all_offloaded (table (cut edition h k)).addr ≡ at 0
  entries-first = let none : k ≡ k + 0 = omega arith in ap (λ n. all_offloaded (table (cut edition h n)).addr) none

  -- one more
  pub entries-next : (j : ℕ) (d : Change) → deferred_at edition h (k + j) ≡ Some d → at (j + 1) ≡ entries_after (at j) (address_part d)
  entries-next j d is =
      same_entries pair_cmp pair_total same_cmp (at (j + 1)) (entries_after (at j) (address_part d)) (at-ascends (j + 1)) (after-ascends (at j) (address_part d) (at-ascends j))
      (λ q.
      get-at (j + 1) q
      ∙ ap (λ (t : Table). option_map (mark (j + 1) q) (get pair_cmp t.addr q)) turned
      ∙ ap (option_map (mark (j + 1) q)) (get-apply (table (cut edition h (k + j))) d q)
      ∙ by q (is_of_key q d) refl
      ∙ ap (λ o. cond (is_of_key q d) (option_map (marked false) (puts d)) o) (sym (get-at j q))
      ∙ sym (get-after (at j) (address_part d) q))
    where
      turned : table (cut edition h (k + (j + 1))) ≡ apply (table (cut edition h (k + j))) d
      turned = let step : k + (j + 1) ≡ k + j + 1 = omega arith in ap (λ n. table (cut edition h n)) step ∙ cut-turn edition h (k + j) d is

      here : slice_get (drop k (deferred_of edition h)) j ≡ Some d
      here = at-drop k (deferred_of edition h) j ∙ is
        where
          at-drop : (k : ℕ) (xs : List Change) (j : ℕ) → slice_get (drop k xs) j ≡ slice_get xs (k + j)
          at-drop zero xs j = let e : j ≡ 0 + j = omega arith in ap (slice_get xs) e
          at-drop (suc k) [] j = refl
          at-drop (suc k) (x ∷ xs) j = at-drop k xs j ∙ (let e : suc (k + j) ≡ suc k + j = omega arith in ap (slice_get (x ∷ xs)) e)

      more : updates_from edition h k (j + 1) ≡ updates_from edition h k j ++ d ∷ []
      more = take_more (drop k (deferred_of edition h)) j d (slice_get_within (drop k (deferred_of edition h)) j d here)
          ∙ ap (λ c. take j (drop k (deferred_of edition h)) ++ c ∷ []) (get_or_from_slice_get (drop k (deferred_of edition h)) j d d here)

      named : (q : Key) → is_named (updates_from edition h k (j + 1)) q ≡ (is_named (updates_from edition h k j) q || is_of_key q d)
      named q = ap (λ l. is_named l q) more ∙ named-more (updates_from edition h k j) d q

      by : (q : Key) (b : Bool) → is_of_key q d ≡ b
          → option_map (mark (j + 1) q) (cond b (puts d) (get pair_cmp (table (cut edition h (k + j))).addr q))
          ≡ cond b (option_map (marked false) (puts d)) (option_map (mark j q) (get pair_cmp (table (cut edition h (k + j))).addr q))
      by q true its = map-same (mark (j + 1) q) (marked false) (puts d)
          (λ x. ap (λ b. marked (not b) x) (named q ∙ ap (λ b. is_named (updates_from edition h k j) q || b) its ∙ or-true (is_named (updates_from edition h k j) q)))
      by q false other = map-same (mark (j + 1) q) (mark j q) (get pair_cmp (table (cut edition h (k + j))).addr q)
          (λ x. ap (λ b. marked (not b) x) (named q ∙ ap (λ b. is_named (updates_from edition h k j) q || b) other ∙ or-false (is_named (updates_from edition h k j) q)))

  entries-ascend : T (is_sorted pair_cmp (entries_of edition h k))
  entries-ascend = subst T (sym (ascending-mapped (found edition h k) (table h).addr)) (table-ascends h)

  -- all
  pub entries-last : (j : ℕ) → deferred_count edition h ≤ k + j → at j ≡ entries_of edition h k
  entries-last j all =
      same_entries pair_cmp pair_total same_cmp (at j) (entries_of edition h k) (at-ascends j) entries-ascend
      (λ q. get-at j q ∙ ap (λ l. option_map (mark j q) (get pair_cmp (table l).addr q)) (cut-all edition h (k + j) all) ∙ by q (get pair_cmp (table h).addr q) refl
      ∙ sym (get-mapped (found edition h k) (table h).addr q))
    where
      few : (k : ℕ) (xs : List Change) → length xs ≤ k + j → length (drop k xs) ≤ j
      few zero xs h = omega (arith, h)
      few (suc k) [] h = omega arith
      few (suc k) (x ∷ xs) h = few k xs (omega (arith, h))

      whole : updates_from edition h k j ≡ drop k (deferred_of edition h)
      whole = take_all j (drop k (deferred_of edition h)) (few k (deferred_of edition h) all)

      by : (q : Key) (o : Option (ℕ × Kind)) → get pair_cmp (table h).addr q ≡ o → option_map (mark j q) o ≡ option_map (found edition h k q) o
      by q None is = refl
      by q (Some x) is = ap (λ b. Some (marked b x)) (ap (λ l. not (is_named l q)) whole ∙ sym (offloaded-unnamed edition k h q x is))

  -- Stale entries.

  gone-stale : (e : Row) → is_gone (entries_of edition h k) e ≡ is_stale (table h) e
  gone-stale e =
      ap (λ o. not (is_at e.1 o)) (get-mapped (found edition h k) (table h).addr e.0) ∙ by (get pair_cmp (table h).addr e.0)
    where
      by : (o : Option (ℕ × Kind)) → not (is_at e.1 (option_map (found edition h k e.0) o)) ≡ not (option_map_or (λ place. same_place place e.1) o false)
      by None = refl
      by (Some x) = refl

  pub all-stale : (es : Entries) (rows gone : List Row) (chip : Table) → es ≡ entries_of edition h k → rows ≡ chip.addr → gone ≡ filter (is_gone es) rows → gone ≡ stale (table h) chip
  all-stale es rows gone chip es_are rows_are are =
      are ∙ (λ i. filter (is_gone (es_are i)) (rows_are i)) ∙ ap (λ (p : Row → Bool). filter p chip.addr) (λ i e. gone-stale e i)
