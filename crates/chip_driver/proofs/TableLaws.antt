-- What a change leaves, and what it makes, at a port and at a membership.
use Rattle.std.proofs.Common.{◌≡◌, ◌≢◌, ℕ, ◌<◌, Bool, true, false, not, ◌&&◌, ◌||◌, cond, Option, None, Some, List, [], ◌∷◌, refl, sym, ap, ap₂, ◌∙◌, arith}
use Rattle.std.specs.Prelude.{◌==◌, nat_lt}
use Rattle.std.specs.Option.{is_some, unwrap_or}
use Rattle.std.specs.Ordering.{nat_cmp, eq_by_cmp, match_ordering}
use Rattle.std.specs.declared.cmp.Ordering.{Ordering}
use Rattle.std.specs.declared.cmp.Ordering.TheVariants.{Less, Equal, Greater}
use Rattle.std.specs.Cmp.{unsigned_tied}
use Rattle.std.specs.FinMap.Entries.{find-put, find-where_key}
use Rattle.std.proofs.lemmas.Bool.{eq-eqb, ne_eqb, eqb-true, lt-ltb as is_lt}
use Rattle.std.proofs.lemmas.Cmp.{nat_cmp_total, eq_by_cmp_equiv}
use Rattle.std.proofs.lemmas.Map.Lookups.{exact_unsigned}
use Rattle.std.proofs.lemmas.Map.Views.{any-filter_same}
use Rattle.lemmas.proofs.Tests.{or_twice, or_swap}
use Rattle.lemmas.proofs.Orders.{is_eq-true}
use Rattle.br_model.specs.Table.Domains.{Domains}
use Rattle.br_model.specs.Forward.Admission.{member}
use Rattle.br_model.specs.Forward.Eligible.{untagged}
use Rattle.br_model.specs.Data.Maps.{pair_cmp, get, put, without, joined, parted, has}
use Rattle.br_model.specs.Table.Table.{Table, apply, default_flags, switched}
use Rattle.br_model.specs.declared.change.Change.TheVariants.{PortUp, PortDown, SetFlags, SetState, VlanAdd, VlanDel, Querier}
use Rattle.br_model.proofs.Data.PairKeys.{pair_total, same_cmp, eq-pair}
use Rattle.chip_tables.specs.declared.rows.PortRow.{PortRow}
use Rattle.chip_tables.specs.declared.rows.Control.{Control}
use Rattle.chip_tables.specs.Stands.{port_wanted, control_wanted, trap_wanted, trap_count}

-- ---- maps and sets of numbers

tied_alike : (k x q : ℕ) → nat_cmp q x ≡ Equal → not (eq_by_cmp nat_cmp k x) ≡ not (eq_by_cmp nat_cmp k q)
tied_alike k x q tie = ap (λ n. not (eq_by_cmp nat_cmp k n)) (sym (exact_unsigned q x tie))

module _ {X : Type 0} where
  pub get-put : (m : List (ℕ × X)) (k : ℕ) (x : X) (q : ℕ) → get nat_cmp (put nat_cmp m k x) q ≡ cond (q == k) (Some x) (get nat_cmp m q)
  get-put m k x q = find-put nat_cmp nat_cmp_total q k x m ∙ ap (λ b. cond b (Some x) (get nat_cmp m q)) (unsigned_tied q k)

  pub get-put_same : (m : List (ℕ × X)) (k : ℕ) (x : X) → get nat_cmp (put nat_cmp m k x) k ≡ Some x
  get-put_same m k x = get-put m k x k ∙ ap (λ b. cond b (Some x) (get nat_cmp m k)) (eq-eqb k k refl)

  pub get-put_other : (m : List (ℕ × X)) (k : ℕ) (x : X) (q : ℕ) → q ≢ k → get nat_cmp (put nat_cmp m k x) q ≡ get nat_cmp m q
  get-put_other m k x q other = get-put m k x q ∙ ap (λ b. cond b (Some x) (get nat_cmp m q)) (ne_eqb q k other)

  pub get-without : (m : List (ℕ × X)) (k q : ℕ) → get nat_cmp (without nat_cmp m k) q ≡ cond (not (k == q)) (get nat_cmp m q) None
  get-without m k q =
      find-where_key nat_cmp (λ n. not (eq_by_cmp nat_cmp k n)) q (λ x tie. tied_alike k x q tie) m ∙ ap (λ b. cond (not b) (get nat_cmp m q) None) (unsigned_tied k q)

  pub get-without_same : (m : List (ℕ × X)) (k : ℕ) → get nat_cmp (without nat_cmp m k) k ≡ None
  get-without_same m k = get-without m k k ∙ ap (λ b. cond (not b) (get nat_cmp m k) None) (eq-eqb k k refl)

  pub get-without_other : (m : List (ℕ × X)) (k q : ℕ) → q ≢ k → get nat_cmp (without nat_cmp m k) q ≡ get nat_cmp m q
  get-without_other m k q other = get-without m k q ∙ ap (λ b. cond (not b) (get nat_cmp m q) None) (ne_eqb k q (λ e. other (sym e)))

or_cond : (b c : Bool) → (b || c) ≡ cond b true c
or_cond true c = refl
or_cond false c = refl

and_cond : (b c : Bool) → (not b && c) ≡ cond b false c
and_cond true c = refl
and_cond false c = refl

pub has-joined : (s : List ℕ) (k q : ℕ) → has nat_cmp (joined nat_cmp s k) q ≡ (eq_by_cmp nat_cmp q k || has nat_cmp s q)
has-joined [] k q = refl
has-joined (x ∷ xs) k q = step (has-joined xs k q) (nat_cmp k x) refl
  where
    step : has nat_cmp (joined nat_cmp xs k) q ≡ (eq_by_cmp nat_cmp q k || has nat_cmp xs q) → (r : Ordering) → nat_cmp k x ≡ r
        → has nat_cmp (match_ordering r (k ∷ x ∷ xs) (x ∷ xs) (x ∷ joined nat_cmp xs k)) q ≡ (eq_by_cmp nat_cmp q k || (eq_by_cmp nat_cmp q x || has nat_cmp xs q))
    step rest Less is = refl
    step rest Equal is = or_twice (eq_by_cmp nat_cmp q x) (has nat_cmp xs q) ∙ ap (λ n. eq_by_cmp nat_cmp q n || (eq_by_cmp nat_cmp q x || has nat_cmp xs q)) (sym (exact_unsigned k x is))
    step rest Greater is = ap (λ b. eq_by_cmp nat_cmp q x || b) rest ∙ or_swap (eq_by_cmp nat_cmp q x) (eq_by_cmp nat_cmp q k) (has nat_cmp xs q)

pub has-joined_same : (s : List ℕ) (k : ℕ) → has nat_cmp (joined nat_cmp s k) k ≡ true
has-joined_same s k = has-joined s k k ∙ ap (λ b. b || has nat_cmp s k) (unsigned_tied k k ∙ eq-eqb k k refl)

pub has-joined_other : (s : List ℕ) (k q : ℕ) → q ≢ k → has nat_cmp (joined nat_cmp s k) q ≡ has nat_cmp s q
has-joined_other s k q other = has-joined s k q ∙ ap (λ b. b || has nat_cmp s q) (unsigned_tied q k ∙ ne_eqb q k other)

has-parted : (s : List ℕ) (k q : ℕ) → has nat_cmp (parted nat_cmp s k) q ≡ (not (eq_by_cmp nat_cmp k q) && has nat_cmp s q)
has-parted s k q =
    any-filter_same (eq_by_cmp nat_cmp q) (λ n. not (eq_by_cmp nat_cmp k n)) (not (eq_by_cmp nat_cmp k q))
    (λ n tie. ap (λ x. not (eq_by_cmp nat_cmp k x)) (sym (exact_unsigned q n (is_eq-true _ tie)))) s

pub has-parted_same : (s : List ℕ) (k : ℕ) → has nat_cmp (parted nat_cmp s k) k ≡ false
has-parted_same s k = has-parted s k k ∙ ap (λ b. not b && has nat_cmp s k) (unsigned_tied k k ∙ eq-eqb k k refl)

pub has-parted_other : (s : List ℕ) (k q : ℕ) → q ≢ k → has nat_cmp (parted nat_cmp s k) q ≡ has nat_cmp s q
has-parted_other s k q other = has-parted s k q ∙ ap (λ b. not b && has nat_cmp s q) (unsigned_tied k q ∙ ne_eqb k q (λ e. other (sym e)))

pub has-switched : (on : Bool) (s : List ℕ) (k q : ℕ) → has nat_cmp (switched on s k) q ≡ cond (q == k) on (has nat_cmp s q)
has-switched true s k q = has-joined s k q ∙ ap (λ b. b || has nat_cmp s q) (unsigned_tied q k) ∙ or_cond (q == k) (has nat_cmp s q)
has-switched false s k q =
    has-parted s k q ∙ ap (λ b. not b && has nat_cmp s q) ((eq_by_cmp_equiv nat_cmp_total).symm k q ∙ unsigned_tied q k) ∙ and_cond (q == k) (has nat_cmp s q)

-- ---- the row of a port, after each change

module _ (d : Domains) (dom : ℕ) (t : Table) (p : ℕ) (row : PortRow) (is : row ≡ port_wanted d dom t p) where
  pub written_state : (n : ℕ) → record row { state = n } ≡ port_wanted d dom (apply t (SetState p n)) p
  written_state n = ap₂ (λ (r : PortRow) o. record r { state = unwrap_or o 0 }) is (sym (get-put_same t.state p n))

  pub written_flags : (n : ℕ) → record row { flags = n } ≡ port_wanted d dom (apply t (SetFlags p n)) p
  written_flags n = ap₂ (λ (r : PortRow) o. record r { flags = unwrap_or o 0 }) is (sym (get-put_same t.flags p n))

  pub written_up : record row { up = true; flags = default_flags; state = 0 } ≡ port_wanted d dom (apply t (PortUp p)) p
  written_up =
      let a : row ≡ port_wanted d dom t p = is in
      let u : has nat_cmp (joined nat_cmp t.up p) p ≡ true = has-joined_same t.up p in
      let f : get nat_cmp (put nat_cmp t.flags p default_flags) p ≡ Some default_flags = get-put_same t.flags p default_flags in
      let s : get nat_cmp (put nat_cmp t.state p 0) p ≡ Some 0 = get-put_same t.state p 0 in
      rw (u, f, s, a) refl

  pub written_down : record row { up = false; flags = 0; state = 0 } ≡ port_wanted d dom (apply t (PortDown p)) p
  written_down =
      let a : row ≡ port_wanted d dom t p = is in
      let u : has nat_cmp (parted nat_cmp t.up p) p ≡ false = has-parted_same t.up p in
      let f : get nat_cmp (without nat_cmp t.flags p) p ≡ None = get-without_same t.flags p in
      let s : get nat_cmp (without nat_cmp t.state p) p ≡ None = get-without_same t.state p in
      rw (u, f, s, a) refl

module _ (d : Domains) (dom : ℕ) (t : Table) (p q : ℕ) (other : q ≢ p) where
  pub unwritten_state : (n : ℕ) → port_wanted d dom (apply t (SetState p n)) q ≡ port_wanted d dom t q
  unwritten_state n = ap (λ o. record (port_wanted d dom t q) { state = unwrap_or o 0 }) (get-put_other t.state p n q other)

  pub unwritten_flags : (n : ℕ) → port_wanted d dom (apply t (SetFlags p n)) q ≡ port_wanted d dom t q
  unwritten_flags n = ap (λ o. record (port_wanted d dom t q) { flags = unwrap_or o 0 }) (get-put_other t.flags p n q other)

  pub unwritten_up : port_wanted d dom (apply t (PortUp p)) q ≡ port_wanted d dom t q
  unwritten_up = rw (has-joined_other t.up p q other, get-put_other t.flags p default_flags q other, get-put_other t.state p 0 q other) refl

  pub unwritten_down : port_wanted d dom (apply t (PortDown p)) q ≡ port_wanted d dom t q
  unwritten_down = rw (has-parted_other t.up p q other, get-without_other t.flags p q other, get-without_other t.state p q other) refl

-- ---- memberships, and the VLAN of untagged frames

some_added : (b u : Bool) (o : Option Bool) → is_some (cond b (Some u) o) ≡ cond b true (is_some o)
some_added true u o = refl
some_added false u o = refl

value_added : (b u : Bool) (o : Option Bool) → unwrap_or (cond b (Some u) o) false ≡ cond b u (unwrap_or o false)
value_added true u o = refl
value_added false u o = refl

some_left : (b : Bool) (o : Option Bool) → is_some (cond (not b) o None) ≡ cond b false (is_some o)
some_left true o = refl
some_left false o = refl

value_left : (b : Bool) (o : Option Bool) → unwrap_or (cond (not b) o None) false ≡ cond b false (unwrap_or o false)
value_left true o = refl
value_left false o = refl

module _ (t : Table) (p v w q : ℕ) where
  added : (u : Bool) → get pair_cmp (put pair_cmp t.vlans (v, p) u) (w, q) ≡ cond ((w == v) && (q == p)) (Some u) (get pair_cmp t.vlans (w, q))
  added u = find-put pair_cmp pair_total (w, q) (v, p) u t.vlans ∙ ap (λ b. cond b (Some u) (get pair_cmp t.vlans (w, q))) (eq-pair w q v p)

  left : get pair_cmp (without pair_cmp t.vlans (v, p)) (w, q) ≡ cond (not ((w == v) && (q == p))) (get pair_cmp t.vlans (w, q)) None
  left =
      find-where_key pair_cmp (λ n. not (eq_by_cmp pair_cmp (v, p) n)) (w, q) (λ x tie. ap (λ n. not (eq_by_cmp pair_cmp (v, p) n)) (sym (same_cmp (w, q) x tie))) t.vlans
      ∙ ap (λ b. cond (not b) (get pair_cmp t.vlans (w, q)) None) ((eq_by_cmp_equiv pair_total).symm (v, p) (w, q) ∙ eq-pair w q v p)

  pub member_added : (u pvid : Bool) → member (apply t (VlanAdd p v u pvid)) q w ≡ cond ((w == v) && (q == p)) true (member t q w)
  member_added u pvid = ap is_some (added u) ∙ some_added ((w == v) && (q == p)) u (get pair_cmp t.vlans (w, q))

  pub untagged_added : (u pvid : Bool) → untagged (apply t (VlanAdd p v u pvid)) q w ≡ cond ((w == v) && (q == p)) u (untagged t q w)
  untagged_added u pvid = ap (λ o. unwrap_or o false) (added u) ∙ value_added ((w == v) && (q == p)) u (get pair_cmp t.vlans (w, q))

  pub member_left : member (apply t (VlanDel p v)) q w ≡ cond ((w == v) && (q == p)) false (member t q w)
  member_left = ap is_some left ∙ some_left ((w == v) && (q == p)) (get pair_cmp t.vlans (w, q))

  pub untagged_left : untagged (apply t (VlanDel p v)) q w ≡ cond ((w == v) && (q == p)) false (untagged t q w)
  untagged_left = ap (λ o. unwrap_or o false) left ∙ value_left ((w == v) && (q == p)) (get pair_cmp t.vlans (w, q))

module _ (m : List (ℕ × ℕ)) (p v : ℕ) where
  pub pvid_added : (pvid : Bool) → get nat_cmp (cond pvid (put nat_cmp m p v) m) p ≡ cond pvid (Some v) (get nat_cmp m p)
  pvid_added true = get-put_same m p v
  pvid_added false = refl

  pub pvid_added_other : (pvid : Bool) (q : ℕ) → q ≢ p → get nat_cmp (cond pvid (put nat_cmp m p v) m) q ≡ get nat_cmp m q
  pvid_added_other true q other = get-put_other m p v q other
  pvid_added_other false q other = refl

  pub pvid_left : (is : Bool) → get nat_cmp (cond is (without nat_cmp m p) m) p ≡ cond is None (get nat_cmp m p)
  pvid_left true = get-without_same m p
  pvid_left false = refl

  pub pvid_left_other : (is : Bool) (q : ℕ) → q ≢ p → get nat_cmp (cond is (without nat_cmp m p) m) q ≡ get nat_cmp m q
  pvid_left_other true q other = get-without_other m p q other
  pvid_left_other false q other = refl

-- ---- the control row and the traps

pub querier_after : (t : Table) (six on : Bool) (c : Control) → c ≡ control_wanted t → record c { four = cond six c.four on; six = cond six on c.six } ≡ control_wanted (apply t (Querier six on))
querier_after t true on c is =
    ap (λ (r : Control). record r { six = on }) is
    ∙ ap₂ (λ f s. record (control_wanted t) { four = f; six = s }) (sym (has-switched on t.queriers 6 4)) (sym (has-switched on t.queriers 6 6))
querier_after t false on c is =
    ap (λ (r : Control). record r { four = on }) is
    ∙ ap₂ (λ f s. record (control_wanted t) { four = f; six = s }) (sym (has-switched on t.queriers 4 4)) (sym (has-switched on t.queriers 4 6))

-- the traps from 16 on are switched
pub snoop_traps : (t : Table) (on : Bool) (i : ℕ) (old new : Bool) → i < trap_count → old ≡ trap_wanted t i → new ≡ cond (nat_lt i 21) (cond (nat_lt i 16) old on) old
    → new ≡ trap_wanted (record t { snoop = on }) i
snoop_traps t on i old new low is e =
    by (i == 0) (i == 1) (nat_lt i 16) (λ h. is_lt i 16 (let z : i ≡ 0 = eqb-true i 0 h in omega arith)) (λ h. is_lt i 16 (let z : i ≡ 1 = eqb-true i 1 h in omega arith)) is
    (e ∙ ap (λ b. cond b (cond (nat_lt i 16) old on) old) (is_lt i 21 low))
  where
    by : (a b c : Bool) → (a ≡ true → c ≡ true) → (b ≡ true → c ≡ true) → old ≡ cond a t.stp (cond b false (cond c true t.snoop)) → new ≡ cond c old on
        → new ≡ cond a t.stp (cond b false (cond c true on))
    by true b true h k is e = e ∙ is
    by false true true h k is e = e ∙ is
    by false false true h k is e = e ∙ is
    by true b false h k is e = absurd (let no : false ≡ true = h refl in cc)
    by false true false h k is e = absurd (let no : false ≡ true = k refl in cc)
    by false false false h k is e = e

-- the first trap is written
pub stp_traps : (t : Table) (on : Bool) (i : ℕ) (old new : Bool) → old ≡ trap_wanted t i → new ≡ cond (i == 0) on old → new ≡ trap_wanted (record t { stp = on }) i
stp_traps t on i old new is e = by (i == 0) _ is e
  where
    by : (a later : Bool) → old ≡ cond a t.stp later → new ≡ cond a on old → new ≡ cond a on later
    by true later is e = e
    by false later is e = e ∙ is
