-- The memberships that rows tell.
use Rattle.std.proofs.Common.{◌≡◌, ◌≢◌, ℕ, zero, suc, ◌+◌, ◌<◌, ◌≤◌, Bool, true, false, not, ◌&&◌, ◌||◌, cond, T, List, [], ◌∷◌, ◌++◌}
use Rattle.std.proofs.Common.{map, length, get_or, set, replicate, Option, None, Some, is_some, refl, sym, ap, ap₂, subst, ◌∙◌, arith, inl, inr, get_or-set_same, get_or-set_other}
use Rattle.std.specs.Prelude.{◌==◌, nat_lt}
use Rattle.std.specs.List.{filter, range_with_len}
use Rattle.std.specs.Ordering.{nat_cmp, eq_by_cmp, is_lt, ordering_then}
use Rattle.std.specs.Cmp.{nat_cmp_is}
use Rattle.std.specs.declared.cmp.Ordering.TheVariants.{Less, Equal}
use Rattle.std.specs.FinMap.Entries.{below_all, is_sorted, is_sorted-put, is_sorted-where_key, find-put, find-where_key, same_entries}
use Rattle.std.proofs.Math.Bool.{and-false}
use Rattle.std.proofs.lemmas.Bool.{eqb-true, eq-eqb, ne_eqb, cases_lt}
use Rattle.std.proofs.lemmas.Bool.Decides.{eqb_tells}
use Rattle.std.proofs.lemmas.List.{map-append, map-id, append-nil, get_or_default}
use Rattle.std.proofs.lemmas.List.Elements.{filter-append}
use Rattle.std.proofs.lemmas.List.FromFn.{filter_of_map_range_with_len_more}
use Rattle.lemmas.proofs.Tests.{T_and, is_some-cond}
use Rattle.br_model.specs.Data.Maps.{pair_cmp, get, put, without}
use Rattle.br_model.specs.Table.Domains.{port_places}
use Rattle.port_sets.specs.Numbers.{numbers_below, has_number}
use Rattle.port_sets.proofs.Numbers.{numbers_below-filter, none_below}
use Rattle.lists.specs.Padded.{padded}
use Rattle.vlan_groups.specs.declared.row.Row.{Row}
use Rattle.vlan_groups.specs.Rows.{ports_where, no_ports, at_port, memberships, memberships_from}
use Rattle.vlan_groups.specs.Vlans.{vids_of}
use Rattle.br_model.proofs.Data.PairKeys.{Key, pair_total, same_cmp, eq-pair}
use Rattle.vlan_groups.proofs.RowLaws.{has-ports_where, at-low, at-high}

abbrev Memberships : Type 0
Memberships = List (Key × Bool)

-- the row that is read in a slice of the rows
pub row-read : {rows slice : List Row} (place : ℕ) (row : Row) → slice ≡ rows → row ≡ get_or (padded no_ports 4094 slice) place row → row ≡ get_or (padded no_ports 4094 rows) place row
row-read place row is read = subst (λ (rs : List Row). row ≡ get_or (padded no_ports 4094 rs) place row) is read

at-no_ports : (p : ℕ) → at_port no_ports p ≡ None
at-no_ports p = ap (λ b. cond b (Some false) None) (and-false (nat_lt p port_places))

-- ---- at a key

get-block : (n v p : ℕ) (u : ℕ → Bool) (xs : List ℕ) (rest : Memberships)
    → get pair_cmp (map (λ q. ((n, q), u q)) xs ++ rest) (v, p) ≡ cond ((v == n) && has_number xs p) (Some (u p)) (get pair_cmp rest (v, p))
get-block n v p u [] rest = sym (ap (λ b. cond b (Some (u p)) (get pair_cmp rest (v, p))) (and-false (v == n)))
get-block n v p u (x ∷ xs) rest =
    ap₂ (λ b o. cond b (Some (u x)) o) (eq-pair v p n x) (get-block n v p u xs rest)
    ∙ by (v == n) (p == x) refl
  where
    by : (here same : Bool) → (p == x) ≡ same → cond (here && same) (Some (u x)) (cond (here && has_number xs p) (Some (u p)) (get pair_cmp rest (v, p)))
        ≡ cond (here && (same || has_number xs p)) (Some (u p)) (get pair_cmp rest (v, p))
    by true true e = ap (λ y. Some (u y)) (sym (eqb-true p x e))
    by true false e = refl
    by false same e = refl

get-row : (n v p : ℕ) (row : Row) (rest : Memberships) → get pair_cmp (memberships n row ++ rest) (v, p)
    ≡ cond ((v == n) && (nat_lt p port_places && has_number row.members p)) (Some (has_number row.untagged p)) (get pair_cmp rest (v, p))
get-row n v p row rest =
    get-block n v p (has_number row.untagged) (ports_where (has_number row.members)) rest
    ∙ ap (λ b. cond ((v == n) && b) (Some (has_number row.untagged p)) (get pair_cmp rest (v, p))) (has-ports_where (has_number row.members) p)

get-before : (rows : List Row) (n v p : ℕ) → v < n → get pair_cmp (memberships_from n rows) (v, p) ≡ None
get-before [] n v p h = refl
get-before (row ∷ rows) n v p h =
    get-row n v p row (memberships_from (n + 1) rows)
    ∙ ap (λ b. cond (b && (nat_lt p port_places && has_number row.members p)) (Some (has_number row.untagged p)) (get pair_cmp (memberships_from (n + 1) rows) (v, p))) (ne_eqb v n (omega arith))
    ∙ get-before rows (n + 1) v p (omega arith)

pub get-memberships : (rows : List Row) (n k p : ℕ) → get pair_cmp (memberships_from n rows) (n + k, p) ≡ at_port (get_or rows k no_ports) p
get-memberships [] n zero p = sym (at-no_ports p)
get-memberships [] n (suc k) p = sym (at-no_ports p)
get-memberships (row ∷ rows) n zero p =
    get-row n (n + 0) p row (memberships_from (n + 1) rows)
    ∙ ap₂ (λ b o. cond (b && (nat_lt p port_places && has_number row.members p)) (Some (has_number row.untagged p)) o) (eq-eqb (n + 0) n (omega arith))
    (get-before rows (n + 1) (n + 0) p (omega arith))
get-memberships (row ∷ rows) n (suc k) p =
    let e : n + suc k ≡ (n + 1) + k = omega arith in
    get-row n (n + suc k) p row (memberships_from (n + 1) rows)
    ∙ ap (λ b. cond (b && (nat_lt p port_places && has_number row.members p)) (Some (has_number row.untagged p)) (get pair_cmp (memberships_from (n + 1) rows) (n + suc k, p)))
    (ne_eqb (n + suc k) n (λ x. omega arith))
    ∙ ap (λ v. get pair_cmp (memberships_from (n + 1) rows) (v, p)) e
    ∙ get-memberships rows (n + 1) k p

-- ---- in order

below_append : (k : Key) (xs ys : Memberships) → T (below_all pair_cmp k xs) → T (below_all pair_cmp k ys) → T (below_all pair_cmp k (xs ++ ys))
below_append k [] ys g h = h
below_append k (x ∷ xs) ys g h = both_of (is_lt (pair_cmp k x.0)) (below_all pair_cmp k xs) (below_all pair_cmp k (xs ++ ys)) g (λ r. below_append k xs ys r h)
  where
    both_of : (a b c : Bool) → T (a && b) → (T b → T c) → T (a && c)
    both_of true b c p f = f p
    both_of false b c p f = p

less_vid : (n m q r : ℕ) → n < m → T (is_lt (pair_cmp (n, q) (m, r)))
less_vid n m q r h = subst (λ o. T (is_lt (ordering_then o (nat_cmp q r)))) (nat_cmp_is n m Less h) tt

less_port : (n q r : ℕ) → q < r → T (is_lt (pair_cmp (n, q) (n, r)))
less_port n q r h =
    subst (λ o. T (is_lt (ordering_then o (nat_cmp q r)))) (nat_cmp_is n n Equal refl)
    (subst (λ o. T (is_lt o)) (nat_cmp_is q r Less h) tt)

below_block : (n m q : ℕ) (u : ℕ → Bool) (xs : List ℕ) → n < m → T (below_all pair_cmp (n, q) (map (λ r. ((m, r), u r)) xs))
below_block n m q u [] h = tt
below_block n m q u (x ∷ xs) h = T_and _ _ (less_vid n m q x h) (below_block n m q u xs h)

below_later : (rows : List Row) (n m q : ℕ) → n < m → T (below_all pair_cmp (n, q) (memberships_from m rows))
below_later [] n m q h = tt
below_later (row ∷ rows) n m q h =
    below_append (n, q) (memberships m row) (memberships_from (m + 1) rows)
    (below_block n m q (has_number row.untagged) (ports_where (has_number row.members)) h)
    (below_later rows n (m + 1) q (omega arith))

-- the entries of the ports from a on
abbrev ports_from : ℕ → (ℕ → Bool) → (ℕ → Bool) → ℕ → ℕ → Memberships
ports_from n test u a len = map (λ q. ((n, q), u q)) (filter test (range_with_len a len))

below_ports : (n b : ℕ) (test u : ℕ → Bool) (a len : ℕ) → b < a → T (below_all pair_cmp (n, b) (ports_from n test u a len))
below_ports n b test u a zero h = tt
below_ports n b test u a (suc len) h =
    let rest = below_ports n b test u (a + 1) len (omega arith) in
    elim (test a) as (λ t. T (below_all pair_cmp (n, b) (map (λ q. ((n, q), u q)) (cond t (a ∷ filter test (range_with_len (a + 1) len)) (filter test (range_with_len (a + 1) len)))))) [
      | true ↦ T_and _ _ (less_port n b a h) rest
      | false ↦ rest
    ]

sorted_ports : (n : ℕ) (test u : ℕ → Bool) (a len : ℕ) (rest : Memberships) → ((q : ℕ) → T (below_all pair_cmp (n, q) rest)) → T (is_sorted pair_cmp rest)
    → T (is_sorted pair_cmp (ports_from n test u a len ++ rest))
sorted_ports n test u a zero rest above h = h
sorted_ports n test u a (suc len) rest above h =
    let later = sorted_ports n test u (a + 1) len rest above h in
    elim (test a) as (λ t. T (is_sorted pair_cmp (map (λ q. ((n, q), u q)) (cond t (a ∷ filter test (range_with_len (a + 1) len)) (filter test (range_with_len (a + 1) len))) ++ rest))) [
      | true ↦ T_and _ _ (below_append (n, a) (ports_from n test u (a + 1) len) rest (below_ports n a test u (a + 1) len (omega arith)) (above a)) later
      | false ↦ later
    ]

pub sorted-memberships : (rows : List Row) (n : ℕ) → T (is_sorted pair_cmp (memberships_from n rows))
sorted-memberships [] n = tt
sorted-memberships (row ∷ rows) n =
    subst (λ (ns : List ℕ). T (is_sorted pair_cmp (map (λ q. ((n, q), has_number row.untagged q)) ns ++ memberships_from (n + 1) rows)))
    (sym (numbers_below-filter (has_number row.members) port_places))
    (sorted_ports n (has_number row.members) (has_number row.untagged) 0 port_places (memberships_from (n + 1) rows) (λ q. below_later rows n (n + 1) q (omega arith))
    (sorted-memberships rows (n + 1)))

-- ---- a new row at place k, which differs at port p alone

pub get-set : (rows : List Row) (k : ℕ) (row : Row) (p : ℕ) (o : Option Bool) → k < length rows
    → ((q : ℕ) → at_port row q ≡ cond (q == p) o (at_port (get_or rows k no_ports) q))
    → (v q : ℕ) → get pair_cmp (memberships_from 1 (set rows k row)) (v, q) ≡ cond (eq_by_cmp pair_cmp (v, q) (1 + k, p)) o (get pair_cmp (memberships_from 1 rows) (v, q))
get-set rows k row p o within h zero q =
    get-before (set rows k row) 1 0 q (omega arith)
    ∙ sym (ap (λ b. cond b o (get pair_cmp (memberships_from 1 rows) (0, q))) (eq-pair 0 q (1 + k) p ∙ ap (λ b. b && (q == p)) (ne_eqb 0 (1 + k) (λ e. omega arith)))
    ∙ get-before rows 1 0 q (omega arith))
get-set rows k row p o within h (suc j) q =
    ap (λ v. get pair_cmp (memberships_from 1 (set rows k row)) (v, q)) place
    ∙ get-memberships (set rows k row) 1 j q
    ∙ elim (eqb_tells j k) [
      | inl e ↦
          ap (λ (r : Row). at_port r q) (ap (λ i. get_or (set rows k row) i no_ports) e.1 ∙ get_or-set_same rows k row no_ports within)
          ∙ h q
          ∙ ap₂ (λ b i. cond b o (at_port (get_or rows i no_ports) q)) (sym (eq-pair (suc j) q (1 + k) p ∙ ap (λ b. b && (q == p)) (eq-eqb (suc j) (1 + k) (omega (arith, e.1))))) (sym e.1)
      | inr e ↦
          ap (λ (r : Row). at_port r q) (get_or-set_other rows k j row no_ports e.1)
          ∙ ap (λ b. cond b o (at_port (get_or rows j no_ports) q)) (sym (eq-pair (suc j) q (1 + k) p ∙ ap (λ b. b && (q == p)) (ne_eqb (suc j) (1 + k) (λ x. e.1 (omega arith)))))
    ]
    ∙ ap (cond (eq_by_cmp pair_cmp (suc j, q) (1 + k, p)) o) (sym (ap (λ v. get pair_cmp (memberships_from 1 rows) (v, q)) place ∙ get-memberships rows 1 j q))
  where
    place : suc j ≡ 1 + j
    place = omega arith

pub memberships-put : (rows : List Row) (k : ℕ) (row : Row) (p : ℕ) (u : Bool) → k < length rows
    → ((q : ℕ) → at_port row q ≡ cond (q == p) (Some u) (at_port (get_or rows k no_ports) q))
    → memberships_from 1 (set rows k row) ≡ put pair_cmp (memberships_from 1 rows) (1 + k, p) u
memberships-put rows k row p u within h =
    same_entries pair_cmp pair_total same_cmp _ _
    (sorted-memberships (set rows k row) 1)
    (is_sorted-put pair_cmp pair_total (1 + k, p) u (memberships_from 1 rows) (sorted-memberships rows 1))
    (λ x. get-set rows k row p (Some u) within h x.0 x.1 ∙ sym (find-put pair_cmp pair_total x (1 + k, p) u (memberships_from 1 rows)))

pub memberships-without : (rows : List Row) (k : ℕ) (row : Row) (p : ℕ) → k < length rows
    → ((q : ℕ) → at_port row q ≡ cond (q == p) None (at_port (get_or rows k no_ports) q))
    → memberships_from 1 (set rows k row) ≡ without pair_cmp (memberships_from 1 rows) (1 + k, p)
memberships-without rows k row p within h =
    same_entries pair_cmp pair_total same_cmp _ _
    (sorted-memberships (set rows k row) 1)
    (is_sorted-where_key pair_cmp (λ x. not (eq_by_cmp pair_cmp (1 + k, p) x)) (memberships_from 1 rows) (sorted-memberships rows 1))
    (λ x.
    get-set rows k row p None within h x.0 x.1
    ∙ turn (eq_by_cmp pair_cmp x (1 + k, p)) (eq_by_cmp pair_cmp (1 + k, p) x) (get pair_cmp (memberships_from 1 rows) x) (symmetric x)
    ∙ sym (find-where_key pair_cmp (λ y. not (eq_by_cmp pair_cmp (1 + k, p) y)) x (λ y tie. ap (λ (z : Key). not (eq_by_cmp pair_cmp (1 + k, p) z)) (sym (same_cmp x y tie)))
    (memberships_from 1 rows)))
  where
    turn : (b c : Bool) (o : Option Bool) → b ≡ c → cond b None o ≡ cond (not c) o None
    turn true true o e = refl
    turn false false o e = refl
    turn true false o e = absurd (cc)
    turn false true o e = absurd (cc)

    symmetric : (x : Key) → eq_by_cmp pair_cmp x (1 + k, p) ≡ eq_by_cmp pair_cmp (1 + k, p) x
    symmetric x = eq-pair x.0 x.1 (1 + k) p ∙ ap₂ ◌&&◌ (turned x.0 (1 + k)) (turned x.1 p) ∙ sym (eq-pair (1 + k) p x.0 x.1)
      where
        turned : (a b : ℕ) → (a == b) ≡ (b == a)
        turned a b = elim (eqb_tells a b) [ inl e ↦ eq-eqb a b e.1 ∙ sym (eq-eqb b a (sym e.1)) | inr e ↦ ne_eqb a b e.1 ∙ sym (ne_eqb b a (λ x. e.1 (sym x))) ]

-- ---- no memberships

pub memberships-none : (n m : ℕ) (row : Row) → row.members ≡ [] → memberships_from n (replicate m row) ≡ []
memberships-none n zero row e = refl
memberships-none n (suc m) row e =
    ap₂ (λ (ns : List ℕ) (es : Memberships). map (λ q. ((n, q), has_number row.untagged q)) ns ++ es)
    (none_below (has_number row.members) port_places (λ q low. ap (λ (ns : List ℕ). has_number ns q) e))
    (memberships-none (n + 1) m row e)

-- ---- the VLANs of a port

vids-append : (xs ys : Memberships) (p : ℕ) → vids_of (xs ++ ys) p ≡ vids_of xs p ++ vids_of ys p
vids-append xs ys p = ap (map (λ e. e.0.0)) (filter-append (λ e. e.0.1 == p) xs ys) ∙ map-append (λ e. e.0.0) (filter (λ e. e.0.1 == p) xs) (filter (λ e. e.0.1 == p) ys)

vids_none : (n p : ℕ) (test u : ℕ → Bool) (a len : ℕ) → ((q : ℕ) → a ≤ q → q < a + len → q ≢ p) → vids_of (ports_from n test u a len) p ≡ []
vids_none n p test u a zero h = refl
vids_none n p test u a (suc len) h =
    let rest = vids_none n p test u (a + 1) len (λ q low high. h q (omega arith) (omega arith)) in
    elim (test a) as (λ t. vids_of (map (λ q. ((n, q), u q)) (cond t (a ∷ filter test (range_with_len (a + 1) len)) (filter test (range_with_len (a + 1) len)))) p ≡ []) [
      | true ↦
          ap (λ b. map (λ (e : Key × Bool). e.0.0)
          (cond b (((n, a), u a) ∷ filter (λ e. e.0.1 == p) (ports_from n test u (a + 1) len)) (filter (λ e. e.0.1 == p) (ports_from n test u (a + 1) len))))
          (ne_eqb a p (h a (omega arith) (omega arith))) ∙ rest
      | false ↦ rest
    ]

vids_at : (n p : ℕ) (test u : ℕ → Bool) (a len : ℕ) → a ≤ p → p < a + len → vids_of (ports_from n test u a len) p ≡ cond (test p) (n ∷ []) []
vids_at n p test u a zero low high = absurd (omega arith)
vids_at n p test u a (suc len) low high = elim (eqb_tells a p) [
  | inl e ↦
      let rest = vids_none n p test u (a + 1) len (λ q low _ same. absurd (omega (arith, e.1))) in
      (elim (test a) as (λ t. vids_of (map (λ q. ((n, q), u q)) (cond t (a ∷ filter test (range_with_len (a + 1) len)) (filter test (range_with_len (a + 1) len)))) p ≡ cond t (n ∷ []) []) [
        | true ↦
            ap (λ b. map (λ (x : Key × Bool). x.0.0)
            (cond b (((n, a), u a) ∷ filter (λ x. x.0.1 == p) (ports_from n test u (a + 1) len)) (filter (λ x. x.0.1 == p) (ports_from n test u (a + 1) len)))) (eq-eqb a p e.1)
            ∙ ap (λ vs. n ∷ vs) rest
        | false ↦ rest
      ])
      ∙ ap (λ q. cond (test q) (n ∷ []) []) e.1
  | inr e ↦
      let rest = vids_at n p test u (a + 1) len (omega (arith, e.1)) (omega arith) in
      elim (test a) as (λ t. vids_of (map (λ q. ((n, q), u q)) (cond t (a ∷ filter test (range_with_len (a + 1) len)) (filter test (range_with_len (a + 1) len)))) p ≡ cond (test p) (n ∷ []) []) [
        | true ↦
            ap (λ b. map (λ (x : Key × Bool). x.0.0)
            (cond b (((n, a), u a) ∷ filter (λ x. x.0.1 == p) (ports_from n test u (a + 1) len)) (filter (λ x. x.0.1 == p) (ports_from n test u (a + 1) len)))) (ne_eqb a p e.1) ∙ rest
        | false ↦ rest
      ]
]

vids-row : (n p : ℕ) (row : Row) → vids_of (memberships n row) p ≡ cond (is_some (at_port row p)) (n ∷ []) []
vids-row n p row =
    ap (λ (ns : List ℕ). vids_of (map (λ q. ((n, q), has_number row.untagged q)) ns) p) (numbers_below-filter (has_number row.members) port_places)
    ∙ elim (cases_lt p port_places) [
      | inl low ↦
          vids_at n p (has_number row.members) (has_number row.untagged) 0 port_places (omega arith) (omega arith)
          ∙ ap (λ b. cond b (n ∷ []) []) (sym (ap is_some (at-low row p low) ∙ is_some-cond (has_number row.members p) (has_number row.untagged p)))
      | inr high ↦
          vids_none n p (has_number row.members) (has_number row.untagged) 0 port_places (λ q low below same. absurd (omega arith))
          ∙ ap (λ (o : Option Bool). cond (is_some o) (n ∷ []) []) (sym (at-high row p (omega arith)))
    ]

-- the VLANs of a port are those of whose rows it is a member
pub vids-from : (rows : List Row) (n p : ℕ) (test : ℕ → Bool) → ((k : ℕ) → k < length rows → test (n + k) ≡ is_some (at_port (get_or rows k no_ports) p))
    → vids_of (memberships_from n rows) p ≡ filter test (range_with_len n (length rows))
vids-from [] n p test h = refl
vids-from (row ∷ rows) n p test h =
    let rest : vids_of (memberships_from (n + 1) rows) p ≡ filter test (range_with_len (n + 1) (length rows)) =
    vids-from rows (n + 1) p test (λ k low. let e : (n + 1) + k ≡ n + suc k = omega arith in ap test e ∙ h (suc k) (omega arith)) in
    let here : is_some (at_port row p) ≡ test n = sym (h zero (omega arith)) ∙ ap test (let e : n + 0 ≡ n = omega arith in e) in
    vids-append (memberships n row) (memberships_from (n + 1) rows) p
    ∙ ap₂ (λ (xs ys : List ℕ). xs ++ ys) (vids-row n p row ∙ ap (λ b. cond b (n ∷ []) []) here) rest
    ∙ by (test n)
  where
    by : (b : Bool)
        → cond b (n ∷ []) [] ++ filter test (range_with_len (n + 1) (length rows)) ≡ cond b (n ∷ filter test (range_with_len (n + 1) (length rows)))
        (filter test (range_with_len (n + 1) (length rows)))
    by true = refl
    by false = refl

-- neither the first number nor the last passes
pub between : (m most : ℕ) (test : ℕ → Bool) → m + 2 ≡ most → test 0 ≡ false → test (m + 1) ≡ false → filter test (range_with_len 1 m) ≡ numbers_below most test
between m most test sized first last =
    let place : 1 + m ≡ m + 1 = omega arith in
    sym (append-nil (filter test (range_with_len 1 m)))
    ∙ ap (λ b. filter test (range_with_len 1 m) ++ cond b ((m + 1) ∷ []) []) (sym last)
    ∙ sym (one_more test 1 m (m + 1) place)
    ∙ ap (λ b. cond b (0 ∷ filter test (range_with_len 1 (m + 1))) (filter test (range_with_len 1 (m + 1)))) (sym first)
    ∙ ap (λ n. filter test (range_with_len 0 n)) (let e : suc (m + 1) ≡ most = omega (arith, sized) in e)
    ∙ sym (numbers_below-filter test most)
  where
    one_more : (t : ℕ → Bool) (a n j : ℕ) → a + n ≡ j → filter t (range_with_len a (n + 1)) ≡ filter t (range_with_len a n) ++ cond (t j) (j ∷ []) []
    one_more t a n j e =
        ap (filter t) (sym (map-id (range_with_len a (n + 1))))
        ∙ filter_of_map_range_with_len_more t (λ x. x) a n j e
        ∙ ap (λ (xs : List ℕ). filter t xs ++ cond (t j) (j ∷ []) []) (map-id (range_with_len a n))

-- ---- the row of a VLAN in a table

pub at-key : (rows : List Row) (k v p : ℕ) (row : Row) (vlans : Memberships) → k < length rows → k + 1 ≡ v → row ≡ get_or rows k row → memberships_from 1 rows ≡ vlans
    → at_port row p ≡ get pair_cmp vlans (v, p)
at-key rows k v p row vlans within at is shown =
    let place : 1 + k ≡ v = omega arith in
    ap (λ (r : Row). at_port r p) (is ∙ get_or_default rows k row no_ports within)
    ∙ sym (get-memberships rows 1 k p)
    ∙ ap₂ (λ (es : Memberships) w. get pair_cmp es (w, p)) shown place

pub added : (rows : List Row) (k v p : ℕ) (u : Bool) (row new : Row) (vlans : Memberships) → k < length rows → k + 1 ≡ v → row ≡ get_or rows k row
    → ((q : ℕ) → at_port new q ≡ cond (q == p) (Some u) (at_port row q)) → memberships_from 1 rows ≡ vlans
    → memberships_from 1 (set rows k new) ≡ put pair_cmp vlans (v, p) u
added rows k v p u row new vlans within at is h shown =
    let place : 1 + k ≡ v = omega arith in
    memberships-put rows k new p u within (λ q. h q ∙ ap (λ (r : Row). cond (q == p) (Some u) (at_port r q)) (is ∙ get_or_default rows k row no_ports within))
    ∙ ap₂ (λ (es : Memberships) w. put pair_cmp es (w, p) u) shown place

pub removed : (rows : List Row) (k v p : ℕ) (row new : Row) (vlans : Memberships) → k < length rows → k + 1 ≡ v → row ≡ get_or rows k row
    → ((q : ℕ) → at_port new q ≡ cond (q == p) None (at_port row q)) → memberships_from 1 rows ≡ vlans
    → memberships_from 1 (set rows k new) ≡ without pair_cmp vlans (v, p)
removed rows k v p row new vlans within at is h shown =
    let place : 1 + k ≡ v = omega arith in
    memberships-without rows k new p within (λ q. h q ∙ ap (λ (r : Row). cond (q == p) None (at_port r q)) (is ∙ get_or_default rows k row no_ports within))
    ∙ ap₂ (λ (es : Memberships) w. without pair_cmp es (w, p)) shown place

-- ---- tests that tell whether a call was refused

pub refused : (b : Bool) → b ≡ true → (true ≡ true → b ≡ true) × (b ≡ true → true ≡ true)
refused b e = (λ _. e, λ _. refl)

pub taken : (b : Bool) → b ≡ false → (false ≡ true → b ≡ true) × (b ≡ true → false ≡ true)
taken b e = (λ h. absurd (cc), λ h. sym e ∙ h)
