-- Group rows are made anew, one after another.
use Rattle.std.proofs.Common.{◌≡◌, ℕ, ◌+◌, ◌≤◌, Bool, true, false, not, ◌&&◌, ◌||◌, cond, IsTrue, ◌↔◌, Option, None, Some, List, [], length, take, refl, sym, ap, ap₂, subst, ◌∙◌}
use Rattle.std.specs.Prelude.{is_some, slice_get}
use Rattle.std.specs.Ordering.{eq_by_cmp}
use Rattle.lemmas.proofs.Tests.{and-false, or-false, or-true}
use Rattle.port_sets.specs.Numbers.{has_number}
use Rattle.br_model.specs.declared.group.Group.{Group}
use Rattle.br_model.specs.Table.GroupPairs.{GroupPair, group_pair_cmp, group_pairs, max_pairs}
use Rattle.br_model.specs.Table.Groups.{Membership, membership_cmp}
use Rattle.br_model.specs.Data.Maps.{get, put, joined, parted, is_ascending}
use Rattle.mdb_snoop.specs.Database.{ports_in}
use Rattle.chip_tables.specs.declared.rows.FanRow.{FanRow}
use Rattle.chip_tables.specs.Rows.{Rows, vlan_at, groups_with}
use Rattle.chip_tables.specs.Stands.{IsVid}
use Rattle.chip_driver.specs.declared.shadow.Shadow.{Shadow}
use Rattle.chip_driver.specs.GroupRows.{has_pair, group_fan, AreUsed, GroupsFollow, RefreshesGroups}
use Rattle.chip_driver.specs.Shadows.{fan_to}
use Rattle.chip_driver.proofs.FanRows.{same_fans}
use Rattle.br_model.proofs.Table.GroupPairs.{pair-joined, pair-parted, pair_equal}
use Rattle.chip_driver.proofs.GroupRows.{count_is, find-written, ascending-written, find-freed, ascending-freed, among, among-pairs, among-next}
use Rattle.chip_driver.proofs.GroupRows.{among-past, among-all, among-one, same_pair, pair-ports, ports-joined, ports-parted}

-- the first pairs are done
pub record SoFar (test : GroupPair → Bool) (s : Shadow) (ms : List Membership) (i : ℕ) (old now : Rows) : Type 0 where
  pub at : (k : GroupPair) → get group_pair_cmp now.groups k ≡ cond (among (take i (group_pairs ms)) k && test k) (Some (group_fan s old ms k)) (get group_pair_cmp old.groups k)
  pub used : (k : GroupPair) → is_some (get group_pair_cmp now.groups k) ≡ has_pair ms k
  pub ascending : is_ascending group_pair_cmp now.groups ≡ true
  pub rest : now ≡ record old { groups = now.groups }

pub none_so_far : (test : GroupPair → Bool) (s : Shadow) (ms : List Membership) (old : Rows) → AreUsed ms old → SoFar test s ms 0 old old
none_so_far test s ms old used = record { at = λ k. refl; used = used.used; ascending = used.ascending; rest = refl }

pub all_so_far : (test : GroupPair → Bool) (s : Shadow) (ms : List Membership) (i : ℕ) (old now : Rows) → SoFar test s ms i old now → i ≡ length (group_pairs ms) → RefreshesGroups test s ms old now
all_so_far test s ms i old now so is = record {
  at = λ k. so.at k
      ∙ ap (λ b. cond (b && test k) (Some (group_fan s old ms k)) (get group_pair_cmp old.groups k)) (ap (λ n. among (take n (group_pairs ms)) k) is ∙ among-all (group_pairs ms) k ∙ among-pairs ms k);
  ascending = so.ascending;
  rest = so.rest;
}

module _ (test : GroupPair → Bool) (s : Shadow) (ms : List Membership) (i : ℕ) (j : GroupPair) (old now : Rows) (so : SoFar test s ms i old now) (here : slice_get (group_pairs ms) i ≡ Some j) where
  used_after : (row : FanRow) (k : GroupPair) → is_some (get group_pair_cmp (put group_pair_cmp now.groups j row) k) ≡ has_pair ms k
  used_after row k = ap is_some (find-written now.groups j k row) ∙ by (eq_by_cmp group_pair_cmp k j) refl
    where
      by : (b : Bool) → eq_by_cmp group_pair_cmp k j ≡ b → is_some (cond b (Some row) (get group_pair_cmp now.groups k)) ≡ has_pair ms k
      by true e = sym (ap (has_pair ms) (pair_equal k j e) ∙ sym (among-pairs ms j) ∙ among-one (group_pairs ms) i j here)
      by false e = so.used k

  pub room_so_far : (row : FanRow) → length (group_pairs ms) ≤ max_pairs → length (put group_pair_cmp now.groups j row) ≤ max_pairs
  room_so_far row few = subst (λ n. n ≤ max_pairs) (sym (count_is (put group_pair_cmp now.groups j row) ms (ascending-written now.groups j row so.ascending) (used_after row))) few

  pub next_written : (row : FanRow) (new : Rows) → test j ≡ true → row ≡ group_fan s now ms j → new.groups ≡ put group_pair_cmp now.groups j row → new ≡ record now { groups = new.groups }
      → SoFar test s ms (i + 1) old new
  next_written row new passes row_is written rest = record {
    at = λ k.
        ap (λ rows. get group_pair_cmp rows k) written ∙ find-written now.groups j k row ∙ by k (eq_by_cmp group_pair_cmp k j) refl (among (take i (group_pairs ms)) k) (so.at k)
        ∙ ap (λ b. cond (b && test k) (Some (group_fan s old ms k)) (get group_pair_cmp old.groups k)) (sym (among-next (group_pairs ms) i j k here));
    used = λ k. ap (λ rows. is_some (get group_pair_cmp rows k)) written ∙ used_after row k;
    ascending = ap (is_ascending group_pair_cmp) written ∙ ascending-written now.groups j row so.ascending;
    rest = rest ∙ ap (λ (r : Rows). record r { groups = new.groups }) so.rest;
  }
    where
      row_at : (k : GroupPair) → k ≡ j → row ≡ group_fan s old ms k
      row_at k same =
          row_is ∙ ap (λ (r : Rows). fan_to s (vlan_at r j.0).members (has_number (ports_in ms j.0 j.1))) so.rest
          ∙ ap (group_fan s old ms) (sym same)

      by : (k : GroupPair) (b : Bool) → eq_by_cmp group_pair_cmp k j ≡ b → (a : Bool)
          → get group_pair_cmp now.groups k ≡ cond (a && test k) (Some (group_fan s old ms k)) (get group_pair_cmp old.groups k)
          → cond b (Some row) (get group_pair_cmp now.groups k) ≡ cond ((a || eq_by_cmp group_pair_cmp k j) && test k) (Some (group_fan s old ms k)) (get group_pair_cmp old.groups k)
      by k true e a at =
          ap Some (row_at k (pair_equal k j e))
          ∙ sym (ap₂ (λ x y. cond ((a || x) && y) (Some (group_fan s old ms k)) (get group_pair_cmp old.groups k)) e (ap test (pair_equal k j e) ∙ passes)
          ∙ ap (λ b. cond (b && true) (Some (group_fan s old ms k)) (get group_pair_cmp old.groups k)) (or-true a))
      by k false e a at = at ∙ ap (λ b. cond (b && test k) (Some (group_fan s old ms k)) (get group_pair_cmp old.groups k)) (sym (ap (λ x. a || x) e ∙ or-false a))

  pub next_kept : test j ≡ false → SoFar test s ms (i + 1) old now
  next_kept fails = record {
    at = λ k.
        so.at k ∙ by k (eq_by_cmp group_pair_cmp k j) refl (among (take i (group_pairs ms)) k)
        ∙ ap (λ b. cond (b && test k) (Some (group_fan s old ms k)) (get group_pair_cmp old.groups k)) (sym (among-next (group_pairs ms) i j k here));
    used = so.used;
    ascending = so.ascending;
    rest = so.rest;
  }
    where
      by : (k : GroupPair) (b : Bool) → eq_by_cmp group_pair_cmp k j ≡ b → (a : Bool)
          → cond (a && test k) (Some (group_fan s old ms k)) (get group_pair_cmp old.groups k) ≡ cond ((a || eq_by_cmp group_pair_cmp k j) && test k) (Some (group_fan s old ms k))
          (get group_pair_cmp old.groups k)
      by k true e a =
          (let no : test k ≡ false = ap test (pair_equal k j e) ∙ fails in
          ap (λ x. cond x (Some (group_fan s old ms k)) (get group_pair_cmp old.groups k)) (ap (λ x. a && x) no ∙ and-false a
          ∙ sym (ap (λ x. (a || eq_by_cmp group_pair_cmp k j) && x) no ∙ and-false (a || eq_by_cmp group_pair_cmp k j))))
      by k false e a = ap (λ b. cond (b && test k) (Some (group_fan s old ms k)) (get group_pair_cmp old.groups k)) (sym (ap (λ x. a || x) e ∙ or-false a))

pub next_past : (test : GroupPair → Bool) (s : Shadow) (ms : List Membership) (i : ℕ) (old now : Rows) → SoFar test s ms i old now → slice_get (group_pairs ms) i ≡ None
    → SoFar test s ms (i + 1) old now
next_past test s ms i old now so none = record {
  at = λ k. so.at k ∙ ap (λ b. cond (b && test k) (Some (group_fan s old ms k)) (get group_pair_cmp old.groups k)) (sym (among-past (group_pairs ms) i k none));
  used = so.used;
  ascending = so.ascending;
  rest = so.rest;
}

-- ---- the rows follow again

pub used_of : (s : Shadow) (ms : List Membership) (old now : Rows) → GroupsFollow s ms old → now.groups ≡ old.groups → AreUsed ms now
used_of s ms old now follow same = record {
  used = λ k. ap (λ rows. is_some (get group_pair_cmp rows k)) same ∙ ap is_some (follow.at k) ∙ by (has_pair ms k) (group_fan s old ms k);
  ascending = ap (is_ascending group_pair_cmp) same ∙ follow.ascending;
}
  where
    by : (b : Bool) (x : FanRow) → is_some (cond b (Some x) None) ≡ b
    by true x = refl
    by false x = refl

pub groups_anew : (test : GroupPair → Bool) (s s' : Shadow) (ms : List Membership) (old mid new : Rows) → GroupsFollow s ms old → mid.groups ≡ old.groups
    → ((k : GroupPair) → test k ≡ false → group_fan s old ms k ≡ group_fan s' mid ms k) → RefreshesGroups test s' ms mid new → GroupsFollow s' ms new
groups_anew test s s' ms old mid new follow same kept refreshes = record {
  vids = follow.vids;
  at = λ k. refreshes.at k ∙ by k (has_pair ms k) refl (test k) refl (ap (λ rows. get group_pair_cmp rows k) same ∙ follow.at k);
  ascending = refreshes.ascending;
}
  where
    vlan : (k : GroupPair) → group_fan s' mid ms k ≡ group_fan s' new ms k
    vlan k = ap (λ (r : Rows). group_fan s' r ms k) (sym refreshes.rest)

    by : (k : GroupPair) (h : Bool) → has_pair ms k ≡ h → (b : Bool) → test k ≡ b → get group_pair_cmp mid.groups k ≡ cond (has_pair ms k) (Some (group_fan s old ms k)) None
        → cond (h && b) (Some (group_fan s' mid ms k)) (get group_pair_cmp mid.groups k) ≡ cond h (Some (group_fan s' new ms k)) None
    by k true is true passes before = ap Some (vlan k)
    by k true is false fails before = before ∙ ap (λ b. cond b (Some (group_fan s old ms k)) None) is ∙ ap Some (kept k fails ∙ vlan k)
    by k false is b test_is before = before ∙ ap (λ b. cond b (Some (group_fan s old ms k)) None) is

-- none is touched
pub groups_left : (test : GroupPair → Bool) (s : Shadow) (ms : List Membership) (old : Rows) → AreUsed ms old → ((k : GroupPair) → test k ≡ false) → RefreshesGroups test s ms old old
groups_left test s ms old used none = record {
  at = λ k. sym (ap (λ b. cond (has_pair ms k && b) (Some (group_fan s old ms k)) (get group_pair_cmp old.groups k)) (none k) ∙ by k (has_pair ms k));
  ascending = used.ascending;
  rest = refl;
}
  where
    by : (k : GroupPair) (b : Bool) → cond (b && false) (Some (group_fan s old ms k)) (get group_pair_cmp old.groups k) ≡ get group_pair_cmp old.groups k
    by k true = refl
    by k false = refl

-- tests that agree
pub groups_agree : (test test' : GroupPair → Bool) (s : Shadow) (ms : List Membership) (old new : Rows) → ((k : GroupPair) → test' k ≡ test k) → RefreshesGroups test s ms old new
    → RefreshesGroups test' s ms old new
groups_agree test test' s ms old new same refreshes = record {
  at = λ k. refreshes.at k ∙ ap (λ b. cond (has_pair ms k && b) (Some (group_fan s old ms k)) (get group_pair_cmp old.groups k)) (sym (same k));
  ascending = refreshes.ascending;
  rest = refreshes.rest;
}

pub groups_same : (s s' : Shadow) (ms : List Membership) (old new : Rows) → GroupsFollow s ms old → new.groups ≡ old.groups → ((k : GroupPair) → group_fan s old ms k ≡ group_fan s' new ms k)
    → GroupsFollow s' ms new
groups_same s s' ms old new follow same fan = record {
  vids = follow.vids;
  at = λ k. ap (λ rows. get group_pair_cmp rows k) same ∙ follow.at k ∙ ap (λ r. cond (has_pair ms k) (Some r) None) (fan k);
  ascending = ap (is_ascending group_pair_cmp) same ∙ follow.ascending;
}

-- ---- a member joins or parts

by_ports : (s : Shadow) (rows : Rows) (ms ms' : List Membership) (k : GroupPair) → ((q : ℕ) → has_number (ports_in ms k.0 k.1) q ≡ has_number (ports_in ms' k.0 k.1) q)
    → group_fan s rows ms k ≡ group_fan s rows ms' k
unfolding fan_to
by_ports s rows ms ms' k same = same_fans _ _ _ _ _ _ _ _ (λ q low. refl) (λ q low. same q) (λ q low. refl) (λ q low. refl)

-- one row is written or freed, and other pairs keep their members
pub one_changed : (s : Shadow) (ms ms' : List Membership) (j : GroupPair) (row : Option FanRow) (old new : Rows) → GroupsFollow s ms old → IsVid j.0
    → ((k : GroupPair) → eq_by_cmp group_pair_cmp k j ≡ false → has_pair ms' k ≡ has_pair ms k)
    → ((k : GroupPair) → eq_by_cmp group_pair_cmp k j ≡ false → (q : ℕ) → has_number (ports_in ms' k.0 k.1) q ≡ has_number (ports_in ms k.0 k.1) q)
    → row ≡ cond (has_pair ms' j) (Some (group_fan s old ms' j)) None
    → new.groups ≡ groups_with old j.0 j.1 row → new ≡ record old { groups = new.groups } → GroupsFollow s ms' new
one_changed s ms ms' j row old new follow in_range pairs ports row_is written rest = record {
  vids = λ k is. vid k (eq_by_cmp group_pair_cmp k j) refl is;
  at = λ k.
      ap (λ rows. get group_pair_cmp rows k) written ∙ find_with row k ∙ by k (eq_by_cmp group_pair_cmp k j) refl
      ∙ ap (λ (r : Rows). cond (has_pair ms' k) (Some (group_fan s r ms' k)) None) (sym rest);
  ascending = ap (is_ascending group_pair_cmp) written ∙ ascending_with row;
}
  where
    vid : (k : GroupPair) (b : Bool) → eq_by_cmp group_pair_cmp k j ≡ b → has_pair ms' k ≡ true → IsVid k.0
    vid k true e is = subst (λ (n : GroupPair). IsVid n.0) (sym (pair_equal k j e)) in_range
    vid k false e is = follow.vids k (sym (pairs k e) ∙ is)

    find_with : (o : Option FanRow) (k : GroupPair) → get group_pair_cmp (groups_with old j.0 j.1 o) k ≡ cond (eq_by_cmp group_pair_cmp k j) o (get group_pair_cmp old.groups k)
    find_with None k = find-freed old.groups j k
    find_with (Some x) k = find-written old.groups j k x

    ascending_with : (o : Option FanRow) → is_ascending group_pair_cmp (groups_with old j.0 j.1 o) ≡ true
    ascending_with None = ascending-freed old.groups j follow.ascending
    ascending_with (Some x) = ascending-written old.groups j x follow.ascending

    by : (k : GroupPair) (b : Bool) → eq_by_cmp group_pair_cmp k j ≡ b → cond b row (get group_pair_cmp old.groups k) ≡ cond (has_pair ms' k) (Some (group_fan s old ms' k)) None
    by k true e = row_is ∙ ap (λ n. cond (has_pair ms' n) (Some (group_fan s old ms' n)) None) (sym (pair_equal k j e))
    by k false e =
        follow.at k
        ∙ ap₂ (λ b r. cond b (Some r) None) (sym (pairs k e)) (by_ports s old ms ms' k (λ q. sym (ports k e q)))

module _ (s : Shadow) (ms ms' : List Membership) (v p : ℕ) (g : Group) where
  joined_pair : ms' ≡ joined membership_cmp ms (v, g, p) → (k : GroupPair) → eq_by_cmp group_pair_cmp k (v, g) ≡ false → has_pair ms' k ≡ has_pair ms k
  joined_pair is k other = ap (λ xs. has_pair xs k) is ∙ pair-joined ms (v, g, p) k ∙ ap (λ b. b || has_pair ms k) other

  joined_here : ms' ≡ joined membership_cmp ms (v, g, p) → has_pair ms' (v, g) ≡ true
  joined_here is = ap (λ xs. has_pair xs (v, g)) is ∙ pair-joined ms (v, g, p) (v, g) ∙ ap (λ b. b || has_pair ms (v, g)) (same_pair (v, g))

  pub joined_follow : (row : FanRow) (old new : Rows) → GroupsFollow s ms old → IsVid v → ms' ≡ joined membership_cmp ms (v, g, p) → row ≡ group_fan s old ms' (v, g)
      → new.groups ≡ groups_with old v g (Some row) → new ≡ record old { groups = new.groups } → GroupsFollow s ms' new
  joined_follow row old new follow in_range is row_is written rest =
      one_changed s ms ms' (v, g) (Some row) old new follow in_range (joined_pair is)
      (λ k other q. ap (λ xs. has_number (ports_in xs k.0 k.1) q) is ∙ ports-joined ms v p g k q other)
      (ap Some row_is ∙ ap (λ b. cond b (Some (group_fan s old ms' (v, g))) None) (sym (joined_here is))) written rest

  pub joined_room : (row : FanRow) (old : Rows) → GroupsFollow s ms old → ms' ≡ joined membership_cmp ms (v, g, p) → length (group_pairs ms') ≤ max_pairs
      → length (groups_with old v g (Some row)) ≤ max_pairs
  joined_room row old follow is few =
      subst (λ n. n ≤ max_pairs)
      (sym (count_is (put group_pair_cmp old.groups (v, g) row) ms' (ascending-written old.groups (v, g) row follow.ascending)
      (λ k. ap is_some (find-written old.groups (v, g) k row) ∙ by k (eq_by_cmp group_pair_cmp k (v, g)) refl)))
      few
    where
      used : AreUsed ms old
      used = used_of s ms old old follow refl

      by : (k : GroupPair) (b : Bool) → eq_by_cmp group_pair_cmp k (v, g) ≡ b → is_some (cond b (Some row) (get group_pair_cmp old.groups k)) ≡ has_pair ms' k
      by k true e = sym (ap (has_pair ms') (pair_equal k (v, g) e) ∙ joined_here is)
      by k false e = used.used k ∙ sym (joined_pair is k e)

  parted_pair : ms' ≡ parted membership_cmp ms (v, g, p) → (k : GroupPair) → eq_by_cmp group_pair_cmp k (v, g) ≡ false → has_pair ms' k ≡ has_pair ms k
  parted_pair is k other = ap (λ xs. has_pair xs k) is ∙ pair-parted ms (v, g, p) k other

  pub parted_follow : (row : Option FanRow) (old new : Rows) → GroupsFollow s ms old → IsVid v → ms' ≡ parted membership_cmp ms (v, g, p)
      → row ≡ cond (has_pair ms' (v, g)) (Some (group_fan s old ms' (v, g))) None
      → new.groups ≡ groups_with old v g row → new ≡ record old { groups = new.groups } → GroupsFollow s ms' new
  parted_follow row old new follow in_range is row_is written rest =
      one_changed s ms ms' (v, g) row old new follow in_range (parted_pair is)
      (λ k other q. ap (λ xs. has_number (ports_in xs k.0 k.1) q) is ∙ ports-parted ms v p g k q other)
      row_is written rest

  pub parted_room : (row : Option FanRow) (old : Rows) → GroupsFollow s ms old → ms' ≡ parted membership_cmp ms (v, g, p) → is_some row ≡ has_pair ms' (v, g)
      → length (group_pairs ms') ≤ max_pairs → length (groups_with old v g row) ≤ max_pairs
  parted_room row old follow is row_is few =
      subst (λ n. n ≤ max_pairs) (sym (count_is (groups_with old v g row) ms' (ascending row) (λ k. ap is_some (find row k) ∙ by k (eq_by_cmp group_pair_cmp k (v, g)) refl))) few
    where
      used : AreUsed ms old
      used = used_of s ms old old follow refl

      find : (o : Option FanRow) (k : GroupPair) → get group_pair_cmp (groups_with old v g o) k ≡ cond (eq_by_cmp group_pair_cmp k (v, g)) o (get group_pair_cmp old.groups k)
      find None k = find-freed old.groups (v, g) k
      find (Some x) k = find-written old.groups (v, g) k x

      ascending : (o : Option FanRow) → is_ascending group_pair_cmp (groups_with old v g o) ≡ true
      ascending None = ascending-freed old.groups (v, g) follow.ascending
      ascending (Some x) = ascending-written old.groups (v, g) x follow.ascending

      by : (k : GroupPair) (b : Bool) → eq_by_cmp group_pair_cmp k (v, g) ≡ b → is_some (cond b row (get group_pair_cmp old.groups k)) ≡ has_pair ms' k
      by k true e = row_is ∙ ap (has_pair ms') (sym (pair_equal k (v, g) e))
      by k false e = used.used k ∙ sym (parted_pair is k e)

-- the row of a pair by whether it has ports
pub row_or_none : (s : Shadow) (ms : List Membership) (old : Rows) (k : GroupPair) (empty : Bool) (row : Option FanRow) → IsTrue empty ↔ (ports_in ms k.0 k.1 ≡ [])
    → row ≡ cond empty None (Some (group_fan s old ms k)) → row ≡ cond (has_pair ms k) (Some (group_fan s old ms k)) None
row_or_none s ms old k empty row tells is = is ∙ turn empty ∙ ap (λ b. cond b (Some (group_fan s old ms k)) None) (sym (pair-ports ms k empty tells))
  where
    turn : (b : Bool) → cond b None (Some (group_fan s old ms k)) ≡ cond (not b) (Some (group_fan s old ms k)) None
    turn true = refl
    turn false = refl

pub some_row : (b : Bool) (x : FanRow) (row : Option FanRow) → row ≡ cond b (Some x) None → is_some row ≡ b
some_row true x row is = ap is_some is
some_row false x row is = ap is_some is

-- before any change there are none
pub follow_start : (s : Shadow) (ms : List Membership) (rows : Rows) → rows.groups ≡ [] → ms ≡ [] → GroupsFollow s ms rows
follow_start s ms rows empty none = record {
  vids = λ k is. absurd (let no : true ≡ false = sym is ∙ ap (λ xs. has_pair xs k) none in cc);
  at = λ k. ap (λ es. get group_pair_cmp es k) empty ∙ ap (λ xs. cond (has_pair xs k) (Some (group_fan s rows ms k)) None) (sym none);
  ascending = ap (is_ascending group_pair_cmp) empty;
}
