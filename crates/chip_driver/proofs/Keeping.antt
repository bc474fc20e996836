-- A row is written, and the driver is settled again.
use Rattle.std.proofs.Common.{◌≡◌, ◌≢◌, ℕ, ◌<◌, ◌≤◌, Bool, true, false, ◌&&◌, cond, ⊎_elim, List, refl, sym, ap, subst, ◌∙◌, arith}
use Rattle.std.specs.Prelude.{◌==◌}
use Rattle.std.proofs.lemmas.Bool.{eq-eqb, eqb-true}
use Rattle.std.proofs.lemmas.Bool.Decides.{eqb_tells}
use Rattle.lemmas.proofs.Tests.{and-true, and-false}
use Rattle.port_sets.specs.Numbers.{has_number}
use Rattle.br_model.specs.Table.Domains.{host, port_places}
use Rattle.br_model.specs.Forward.Targets.{flood, mcast_flood, bcast_flood, isolated}
use Rattle.chip_tables.specs.declared.rows.PortRow.{PortRow}
use Rattle.chip_tables.specs.declared.rows.VlanRow.{VlanRow}
use Rattle.chip_tables.specs.declared.rows.FanRow.{FanRow}
use Rattle.chip_tables.specs.Rows.{Rows, vlan_at, port_at, WritesPort, WritesVlan}
use Rattle.chip_tables.specs.Stands.{IsVid}
use Rattle.chip_driver.specs.declared.fans.Fan.{Fan}
use Rattle.chip_driver.specs.declared.shadow.Shadow.{Shadow}
use Rattle.chip_driver.specs.declared.shares.Shares.{Shares}
use Rattle.chip_driver.specs.declared.shares.Touched.{Touched}
use Rattle.vlan_groups.specs.Joined.{has_vlan, Switches}
use Rattle.chip_tables.specs.Flags.{row_has_flag}
use Rattle.chip_tables.specs.Writing.{switched_fan}
use Rattle.chip_driver.specs.Shadows.{Has, switched, row_forwards, row_floods, is_target, is_wanted, share_of, fan_to, fan_made}
use Rattle.chip_driver.specs.Shares.{shares_of, touched_of, Touches}
use Rattle.br_model.specs.Table.GroupPairs.{GroupPair}
use Rattle.br_model.specs.Table.Groups.{Membership}
use Rattle.chip_driver.specs.GroupRows.{is_member, group_fan}
use Rattle.chip_driver.specs.Renewing.{follows, Renews}
use Rattle.chip_driver.specs.Settled.{fan_at, Follows, Notes, Settled, Refreshes}
use Rattle.chip_driver.proofs.Sets.{has-where, switched_other}
use Rattle.chip_driver.proofs.FanRows.{SameAt, SameBut, kept_fan, kept_group, absent, absent_share, untargeted, share-in, switched_made, member_wanted, target_wanted}

-- ---- what depends on the rows of ports alone

pub follows_same : (s : Shadow) (old new : Rows) → ((q : ℕ) → port_at new q ≡ port_at old q) → Follows s old → Follows s new
follows_same s old new same follows = record {
  own = λ q low. follows.own q low ∙ ap (λ (r : PortRow). r.own) (sym (same q));
  forwarding = λ q low. follows.forwarding q low ∙ ap row_forwards (sym (same q));
  flood = λ q low. follows.flood q low ∙ ap (λ r. row_floods r flood) (sym (same q));
  mcast_flood = λ q low. follows.mcast_flood q low ∙ ap (λ r. row_floods r mcast_flood) (sym (same q));
  bcast_flood = λ q low. follows.bcast_flood q low ∙ ap (λ r. row_floods r bcast_flood) (sym (same q));
  isolated = λ q low. follows.isolated q low ∙ ap (λ r. row_has_flag r isolated) (sym (same q));
}

states_same : (old new : Rows) → ((q : ℕ) → port_at new q ≡ port_at old q) → ((q : ℕ) → q < port_places → (port_at old q).state ≤ 4) → (q : ℕ) → q < port_places → (port_at new q).state ≤ 4
states_same old new same states q low = subst (λ (r : PortRow). r.state ≤ 4) (sym (same q)) (states q low)

pub tells_at : (old new old' new' : Shares) (touched : Touched) → old ≡ old' → new ≡ new' → Touches old new touched → Touches old' new' touched
tells_at old new old' new' touched old_is new_is tells = subst (λ x. Touches x new' touched) old_is (subst (λ x. Touches old x touched) new_is tells)

-- ---- the rows of a port's VLANs are made anew that tell of a change of it

by_touched : (h t : Bool) (made kept : FanRow) → (h ≡ true → t ≡ false → kept ≡ made) → (h ≡ false → kept ≡ made) → cond (h && t) made kept ≡ made
by_touched true true made kept untouched apart = refl
by_touched true false made kept untouched apart = untouched refl refl
by_touched false t made kept untouched apart = apart refl

pub settled_anew : (s s' : Shadow) (j : List (List ℕ)) (p : ℕ) (touched : Touched) (old mid new : Rows) → p < port_places → Settled s j old → mid ≡ record old { ports = mid.ports }
    → s'.own ≡ s.own → ((q : ℕ) → q < port_places → q ≢ p → SameAt s s' q) → Touches (shares_of s p true) (shares_of s' p true) touched
    → Follows s' mid → ((q : ℕ) → q < port_places → (port_at mid q).state ≤ 4)
    → Refreshes (λ w k. has_vlan j p w && touched_of touched k) s' mid new → Settled s' j new
settled_anew s s' j p touched old mid new p_low settled mid_rest own same tells follows states refreshes = record {
  shadow = follows_same s' mid new (λ q. ap (λ (r : Rows). port_at r q) refreshes.rest) follows;
  joined = λ q vid low in_range. settled.joined q vid low in_range ∙ ap (λ (r : VlanRow). has_number r.members q) (sym (vlan vid));
  states = states_same mid new (λ q. ap (λ (r : Rows). port_at r q) refreshes.rest) states;
  fans = λ vid in_range fan.
      refreshes.fans vid in_range fan
      ∙ by_touched (has_vlan j p vid) (touched_of touched fan) _ _
      (λ is off. before vid in_range fan ∙ kept vid fan (here vid fan (settled.joined p vid p_low in_range) is off))
      (λ is. before vid in_range fan ∙ kept vid fan (there vid fan (settled.joined p vid p_low in_range) is))
      ∙ ap (λ (r : Rows). fan_made s' (vlan_at r vid).members fan) (sym refreshes.rest);
}
  where
    mid_vlan : (vid : ℕ) → vlan_at mid vid ≡ vlan_at old vid
    mid_vlan vid = ap (λ (r : Rows). vlan_at r vid) mid_rest

    vlan : (vid : ℕ) → vlan_at new vid ≡ vlan_at old vid
    vlan vid = ap (λ (r : Rows). vlan_at r vid) refreshes.rest ∙ mid_vlan vid

    before : (vid : ℕ) → IsVid vid → (fan : Fan) → fan_at mid vid fan ≡ fan_made s (vlan_at mid vid).members fan
    before vid in_range fan = ap (λ (r : Rows). fan_at r vid fan) mid_rest ∙ settled.fans vid in_range fan ∙ ap (λ (r : VlanRow). fan_made s r.members fan) (sym (mid_vlan vid))

    kept : (vid : ℕ) (fan : Fan)
        → share_of s p (has_number (vlan_at mid vid).members p) (is_target s (has_number (vlan_at mid vid).members p) fan p) ≡ share_of s' p (has_number (vlan_at mid vid).members p)
        (is_target s' (has_number (vlan_at mid vid).members p) fan p)
        → fan_made s (vlan_at mid vid).members fan ≡ fan_made s' (vlan_at mid vid).members fan
    kept vid fan = kept_fan p s s' (vlan_at mid vid).members (vlan_at mid vid).members (record { shadow = same; others = λ q low other. refl }) fan

    is_there : (vid : ℕ) (m : Bool) → has_vlan j p vid ≡ has_number (vlan_at old vid).members p → has_vlan j p vid ≡ m → m ≡ has_number (vlan_at mid vid).members p
    is_there vid m joined is = sym is ∙ joined ∙ ap (λ (r : VlanRow). has_number r.members p) (sym (mid_vlan vid))

    here : (vid : ℕ) (fan : Fan) → has_vlan j p vid ≡ has_number (vlan_at old vid).members p → has_vlan j p vid ≡ true → touched_of touched fan ≡ false
        → share_of s p (has_number (vlan_at mid vid).members p) (is_target s (has_number (vlan_at mid vid).members p) fan p) ≡ share_of s' p (has_number (vlan_at mid vid).members p)
        (is_target s' (has_number (vlan_at mid vid).members p) fan p)
    here vid fan joined is off =
        subst (λ m. share_of s p m (is_target s m fan p) ≡ share_of s' p m (is_target s' m fan p)) (is_there vid true joined is)
        (sym (share-in s p true fan) ∙ tells.fans fan off ∙ share-in s' p true fan)

    there : (vid : ℕ) (fan : Fan) → has_vlan j p vid ≡ has_number (vlan_at old vid).members p → has_vlan j p vid ≡ false
        → share_of s p (has_number (vlan_at mid vid).members p) (is_target s (has_number (vlan_at mid vid).members p) fan p) ≡ share_of s' p (has_number (vlan_at mid vid).members p)
        (is_target s' (has_number (vlan_at mid vid).members p) fan p)
    there vid fan joined is =
        subst (λ m. share_of s p m (is_target s m fan p) ≡ share_of s' p m (is_target s' m fan p)) (is_there vid false joined is)
        (absent s s' p fan (ap (λ (ns : List ℕ). has_number ns p) (sym own)))

-- Rows that follow the change are those that are made anew.
pub refreshed : (s s' : Shadow) (j : List (List ℕ)) (p : ℕ) (touched : Touched) (old mid new : Rows) → p < port_places → Settled s j old → mid ≡ record old { ports = mid.ports }
    → s'.own ≡ s.own → ((q : ℕ) → q < port_places → q ≢ p → SameAt s s' q) → Renews (λ w k. has_vlan j p w && touched_of touched k) (follows s' p true) mid new
    → Refreshes (λ w k. has_vlan j p w && touched_of touched k) s' mid new
refreshed s s' j p touched old mid new p_low settled mid_rest own same renews = record {
  fans = λ vid in_range k. renews.fans vid in_range k ∙ by vid in_range k (has_vlan j p vid) refl (touched_of touched k) (has_number s'.own p) refl;
  rest = renews.rest;
}
  where
    vlan : (vid : ℕ) → vlan_at mid vid ≡ vlan_at old vid
    vlan vid = ap (λ (r : Rows). vlan_at r vid) mid_rest

    before : (vid : ℕ) → IsVid vid → (k : Fan) → fan_at mid vid k ≡ fan_made s (vlan_at mid vid).members k
    before vid in_range k = ap (λ (r : Rows). fan_at r vid k) mid_rest ∙ settled.fans vid in_range k ∙ ap (λ (r : VlanRow). fan_made s r.members k) (sym (vlan vid))

    bit : (vid : ℕ) → IsVid vid → (k : Fan) → has_vlan j p vid ≡ true → is_wanted s' k p ≡ is_target s' (has_number (vlan_at mid vid).members p) k p
    bit vid in_range k is =
        sym (target_wanted s' k p)
        ∙ ap (λ m. is_target s' m k p) (sym is ∙ settled.joined p vid p_low in_range ∙ ap (λ (r : VlanRow). has_number r.members p) (sym (vlan vid)))

    by : (vid : ℕ) → IsVid vid → (k : Fan) (h : Bool) → has_vlan j p vid ≡ h → (t o : Bool) → has_number s'.own p ≡ o
        → cond (h && t) (cond o (switched_fan (fan_at mid vid k) p (is_wanted s' k p)) (fan_made s' (vlan_at mid vid).members k)) (fan_at mid vid k)
        ≡ cond (h && t) (fan_made s' (vlan_at mid vid).members k) (fan_at mid vid k)
    by vid in_range k true is true true here =
        ap (λ (row : FanRow). switched_fan row p (is_wanted s' k p)) (before vid in_range k)
        ∙ switched_made s s' p (vlan_at mid vid).members (vlan_at mid vid).members k (is_wanted s' k p) (ap (λ (ns : List ℕ). has_number ns p) (sym own) ∙ here) here
        (record { shadow = same; others = λ q low other. refl }) (bit vid in_range k is)
    by vid in_range k true is true false here = refl
    by vid in_range k true is false o here = refl
    by vid in_range k false is t o here = refl

-- ---- a port's row is written

cond_read : (read : PortRow → Bool) (b : Bool) (x y : PortRow) → cond b (read x) (read y) ≡ read (cond b x y)
cond_read read true x y = refl
cond_read read false x y = refl

state_written : (b : Bool) (x y : PortRow) → x.state ≤ 4 → y.state ≤ 4 → (cond b x y).state ≤ 4
state_written true x y hx hy = hx
state_written false x y hx hy = hy

pub states_written : (p : ℕ) (row : PortRow) (old mid : Rows) → WritesPort old mid p row → row.state ≤ 4 → ((q : ℕ) → q < port_places → (port_at old q).state ≤ 4) → (q : ℕ) → q < port_places
    → (port_at mid q).state ≤ 4
states_written p row old mid writes fits states q low = subst (λ (r : PortRow). r.state ≤ 4) (sym (writes q)) (state_written (q == p) row (port_at old q) fits (states q low))

own_stays : (p : ℕ) (row : PortRow) (old : Rows) → row.own ≡ (port_at old p).own → (q : ℕ) → (port_at old q).own ≡ (cond (q == p) row (port_at old q)).own
own_stays p row old own_is q =
    ⊎_elim
    (λ (same : ((q == p) ≡ true) × (q ≡ p)). ap (λ n. (port_at old n).own) same.1 ∙ sym own_is ∙ ap (λ b. (cond b row (port_at old q)).own) (sym same.0))
    (λ (apart : ((q == p) ≡ false) × (q ≢ p)). ap (λ b. (cond b row (port_at old q)).own) (sym apart.0))
    (eqb_tells q p)

follows_written : (s s' : Shadow) (p : ℕ) (row : PortRow) (old mid : Rows) → Follows s old → row.own ≡ (port_at old p).own → WritesPort old mid p row → Notes p row s s' → Follows s' mid
follows_written s s' p row old mid follows own_is writes notes = record {
  own = λ q low. ap (λ (ns : List ℕ). has_number ns q) notes.own ∙ follows.own q low ∙ own_stays p row old own_is q ∙ ap (λ (r : PortRow). r.own) (sym (writes q));
  forwarding = noted row_forwards s.forwarding s'.forwarding follows.forwarding notes.forwarding;
  flood = noted (λ r. row_floods r flood) s.flood s'.flood follows.flood notes.flood;
  mcast_flood = noted (λ r. row_floods r mcast_flood) s.mcast_flood s'.mcast_flood follows.mcast_flood notes.mcast_flood;
  bcast_flood = noted (λ r. row_floods r bcast_flood) s.bcast_flood s'.bcast_flood follows.bcast_flood notes.bcast_flood;
  isolated = noted (λ r. row_has_flag r isolated) s.isolated s'.isolated follows.isolated notes.isolated;
}
  where
    noted : (read : PortRow → Bool) (set set' : List ℕ) → Has set (λ q. read (port_at old q)) → set' ≡ switched set p (read row) → Has set' (λ q. read (port_at mid q))
    noted read set set' has is q low =
        has-where set' _ is q low ∙ ap (λ b. cond (q == p) (read row) b) (has q low) ∙ cond_read read (q == p) row (port_at old q) ∙ ap read (sym (writes q))

pub notes_same : (s s' : Shadow) (p : ℕ) (row : PortRow) → Notes p row s s' → (q : ℕ) → q < port_places → q ≢ p → SameAt s s' q
notes_same s s' p row notes q low other = record {
  own = ap (λ (ns : List ℕ). has_number ns q) (sym notes.own);
  forwarding = switched_other s'.forwarding s.forwarding p _ notes.forwarding q low other;
  flood = switched_other s'.flood s.flood p _ notes.flood q low other;
  mcast_flood = switched_other s'.mcast_flood s.mcast_flood p _ notes.mcast_flood q low other;
  bcast_flood = switched_other s'.bcast_flood s.bcast_flood p _ notes.bcast_flood q low other;
  isolated = switched_other s'.isolated s.isolated p _ notes.isolated q low other;
  routers = ap (λ (ns : List ℕ). has_number ns q) (sym notes.routers);
}

pub settled_port : (s s' : Shadow) (j : List (List ℕ)) (p : ℕ) (row : PortRow) (touched : Touched) (old mid new : Rows) → p < port_places → Settled s j old
    → row.own ≡ (port_at old p).own → row.state ≤ 4 → WritesPort old mid p row → mid ≡ record old { ports = mid.ports } → Notes p row s s'
    → Touches (shares_of s p true) (shares_of s' p true) touched → Refreshes (λ w k. has_vlan j p w && touched_of touched k) s' mid new → Settled s' j new
settled_port s s' j p row touched old mid new p_low settled own_is fits writes mid_rest notes tells refreshes =
    settled_anew s s' j p touched old mid new p_low settled mid_rest notes.own
    (notes_same s s' p row notes) tells
    (follows_written s s' p row old mid settled.shadow own_is writes notes)
    (states_written p row old mid writes fits settled.states)
    refreshes

-- ---- a router comes or goes

pub routed_same : (s : Shadow) (p : ℕ) (routers : List ℕ) (on : Bool) → routers ≡ switched s.routers p on → (q : ℕ) → q < port_places → q ≢ p → SameAt s (record s { routers = routers }) q
routed_same s p routers on is q low other =
    record { own = refl; forwarding = refl; flood = refl; mcast_flood = refl; bcast_flood = refl; isolated = refl; routers = switched_other routers s.routers p on is q low other }

pub settled_router : (s : Shadow) (j : List (List ℕ)) (p : ℕ) (routers : List ℕ) (on : Bool) (touched : Touched) (old new : Rows) → p < port_places → Settled s j old
    → routers ≡ switched s.routers p on
    → Touches (shares_of s p true) (shares_of (record s { routers = routers }) p true) touched
    → Refreshes (λ w k. has_vlan j p w && touched_of touched k) (record s { routers = routers }) old new → Settled (record s { routers = routers }) j new
settled_router s j p routers on touched old new p_low settled is tells refreshes =
    settled_anew s (record s { routers = routers }) j p touched old old new p_low settled refl refl (routed_same s p routers on is) tells
    (record {
      own = settled.shadow.own;
      forwarding = settled.shadow.forwarding;
      flood = settled.shadow.flood;
      mcast_flood = settled.shadow.mcast_flood;
      bcast_flood = settled.shadow.bcast_flood;
      isolated = settled.shadow.isolated;
    })
    settled.states refreshes

-- ---- a membership is switched

shadow_same : (s : Shadow) (q : ℕ) → SameAt s s q
shadow_same s q = record { own = refl; forwarding = refl; flood = refl; mcast_flood = refl; bcast_flood = refl; isolated = refl; routers = refl }

member_same : (s : Shadow) (p : ℕ) (members members' : List ℕ) (on : Bool) → members' ≡ switched members p on → SameBut p s s members members'
member_same s p members members' on is = record { shadow = λ q low other. shadow_same s q; others = λ q low other. switched_other members' members p on is q low other }

switched_here : (members members' : List ℕ) (p : ℕ) (on : Bool) → p < port_places → members' ≡ switched members p on → on ≡ has_number members' p
switched_here members members' p on low is = sym (has-where members' _ is p low ∙ ap (λ b. cond b on (has_number members p)) (eq-eqb p p refl))

-- Rows that follow it are those that are made anew.
pub refreshed_member : (s : Shadow) (j : List (List ℕ)) (p v : ℕ) (on : Bool) (row : VlanRow) (touched : Touched) (old mid new : Rows) → p < port_places → has_number s.own host ≡ false
    → Settled s j old → row.members ≡ switched (vlan_at old v).members p on → WritesVlan old mid v row → mid ≡ record old { vlans = mid.vlans }
    → Renews (λ w k. (w == v) && touched_of touched k) (follows s p on) mid new → Refreshes (λ w k. (w == v) && touched_of touched k) s mid new
refreshed_member s j p v on row touched old mid new p_low elsewhere settled is writes mid_rest renews = record {
  fans = λ vid in_range k. renews.fans vid in_range k ∙ by vid in_range k (vid == v) refl (touched_of touched k) (has_number s.own p) refl;
  rest = renews.rest;
}
  where
    before : (vid : ℕ) → IsVid vid → (k : Fan) → fan_at mid vid k ≡ fan_made s (vlan_at old vid).members k
    before vid in_range k = ap (λ (r : Rows). fan_at r vid k) mid_rest ∙ settled.fans vid in_range k

    now : (vid : ℕ) → (vid == v) ≡ true → (vlan_at mid vid).members ≡ switched (vlan_at old vid).members p on
    now vid at =
        ap (λ (r : VlanRow). r.members) (writes vid ∙ ap (λ b. cond b row (vlan_at old vid)) at)
        ∙ is ∙ ap (λ n. switched (vlan_at old n).members p on) (sym (eqb-true vid v at))

    bit : (vid : ℕ) (k : Fan) → (vid == v) ≡ true → has_number s.own p ≡ true → (on && is_wanted s k p) ≡ is_target s (has_number (vlan_at mid vid).members p) k p
    bit vid k at here =
        member_wanted s k p on elsewhere here
        ∙ ap (λ m. is_target s m k p) (switched_here (vlan_at old vid).members (vlan_at mid vid).members p on p_low (now vid at))

    by : (vid : ℕ) → IsVid vid → (k : Fan) (h : Bool) → (vid == v) ≡ h → (t o : Bool) → has_number s.own p ≡ o
        → cond (h && t) (cond o (switched_fan (fan_at mid vid k) p (on && is_wanted s k p)) (fan_made s (vlan_at mid vid).members k)) (fan_at mid vid k)
        ≡ cond (h && t) (fan_made s (vlan_at mid vid).members k) (fan_at mid vid k)
    by vid in_range k true at true true here =
        ap (λ (row : FanRow). switched_fan row p (on && is_wanted s k p)) (before vid in_range k)
        ∙ switched_made s s p (vlan_at old vid).members (vlan_at mid vid).members k (on && is_wanted s k p) here here
        (member_same s p (vlan_at old vid).members (vlan_at mid vid).members on (now vid at)) (bit vid k at here)
    by vid in_range k true at true false here = refl
    by vid in_range k true at false o here = refl
    by vid in_range k false at t o here = refl

pub settled_member : (s : Shadow) (j j' : List (List ℕ)) (p v : ℕ) (on : Bool) (row : VlanRow) (touched : Touched) (old mid new : Rows) → p < port_places → v < 4096 → Settled s j old
    → row.members ≡ switched (vlan_at old v).members p on → WritesVlan old mid v row → mid ≡ record old { vlans = mid.vlans } → Switches j j' p v on
    → Touches (shares_of s p (has_number (vlan_at old v).members p)) (shares_of s p on) touched
    → Refreshes (λ w k. (w == v) && touched_of touched k) s mid new → Settled s j' new
settled_member s j j' p v on row touched old mid new p_low v_low settled is writes mid_rest switches tells refreshes = record {
  shadow = follows_same s old new port settled.shadow;
  joined = λ q vid low in_range.
      switches q vid (omega arith) ∙ ap (λ b. cond ((q == p) && (vid == v)) on b) (settled.joined q vid low in_range)
      ∙ ⊎_elim
      (λ (same : ((vid == v) ≡ true) × (vid ≡ v)). here q vid low same.0 same.1)
      (λ (apart : ((vid == v) ≡ false) × (vid ≢ v)). there q vid apart.0)
      (eqb_tells vid v)
      ∙ ap (λ (r : VlanRow). has_number r.members q) (sym (vlan vid));
  states = states_same old new port settled.states;
  fans = λ vid in_range fan.
      refreshes.fans vid in_range fan
      ∙ by_touched (vid == v) (touched_of touched fan) _ _
      (λ at off. before vid in_range fan ∙ changed vid fan at off)
      (λ at. before vid in_range fan ∙ ap (λ (r : VlanRow). fan_made s r.members fan) (sym (writes vid ∙ ap (λ b. cond b row (vlan_at old vid)) at)))
      ∙ ap (λ (r : Rows). fan_made s (vlan_at r vid).members fan) (sym refreshes.rest);
}
  where
    port : (q : ℕ) → port_at new q ≡ port_at old q
    port q = ap (λ (r : Rows). port_at r q) refreshes.rest ∙ ap (λ (r : Rows). port_at r q) mid_rest

    vlan : (vid : ℕ) → vlan_at new vid ≡ cond (vid == v) row (vlan_at old vid)
    vlan vid = ap (λ (r : Rows). vlan_at r vid) refreshes.rest ∙ writes vid

    here : (q vid : ℕ) → q < port_places → (vid == v) ≡ true → vid ≡ v
        → cond ((q == p) && (vid == v)) on (has_number (vlan_at old vid).members q) ≡ has_number (cond (vid == v) row (vlan_at old vid)).members q
    here q vid low test same =
        ap (λ b. cond ((q == p) && b) on (has_number (vlan_at old vid).members q)) test
        ∙ ap (λ b. cond b on (has_number (vlan_at old vid).members q)) (and-true (q == p))
        ∙ ap (λ n. cond (q == p) on (has_number (vlan_at old n).members q)) same
        ∙ sym (has-where row.members _ is q low)
        ∙ ap (λ b. has_number (cond b row (vlan_at old vid)).members q) (sym test)

    there : (q vid : ℕ) → (vid == v) ≡ false → cond ((q == p) && (vid == v)) on (has_number (vlan_at old vid).members q) ≡ has_number (cond (vid == v) row (vlan_at old vid)).members q
    there q vid test =
        ap (λ b. cond ((q == p) && b) on (has_number (vlan_at old vid).members q)) test
        ∙ ap (λ b. cond b on (has_number (vlan_at old vid).members q)) (and-false (q == p))
        ∙ ap (λ b. has_number (cond b row (vlan_at old vid)).members q) (sym test)

    before : (vid : ℕ) → IsVid vid → (fan : Fan) → fan_at mid vid fan ≡ fan_made s (vlan_at old vid).members fan
    before vid in_range fan = ap (λ (r : Rows). fan_at r vid fan) mid_rest ∙ settled.fans vid in_range fan

    share : (fan : Fan) → touched_of touched fan ≡ false
        → share_of s p (has_number (vlan_at old v).members p) (is_target s (has_number (vlan_at old v).members p) fan p) ≡ share_of s p (has_number row.members p)
        (is_target s (has_number row.members p) fan p)
    share fan off =
        subst (λ m. share_of s p (has_number (vlan_at old v).members p) (is_target s (has_number (vlan_at old v).members p) fan p) ≡ share_of s p m (is_target s m fan p))
        (switched_here (vlan_at old v).members row.members p on p_low is)
        (sym (share-in s p (has_number (vlan_at old v).members p) fan) ∙ tells.fans fan off ∙ share-in s p on fan)

    changed : (vid : ℕ) (fan : Fan) → (vid == v) ≡ true → touched_of touched fan ≡ false → fan_made s (vlan_at old vid).members fan ≡ fan_made s (vlan_at mid vid).members fan
    changed vid fan at off =
        ap (λ n. fan_made s (vlan_at old n).members fan) (eqb-true vid v at)
        ∙ kept_fan p s s (vlan_at old v).members row.members (member_same s p (vlan_at old v).members row.members on is) fan (share fan off)
        ∙ ap (λ (r : VlanRow). fan_made s r.members fan) (sym (writes vid ∙ ap (λ b. cond b row (vlan_at old vid)) at))

-- ---- group rows are written

pub settled_groups : (s : Shadow) (j : List (List ℕ)) (old new : Rows) → Settled s j old → new ≡ record old { groups = new.groups } → Settled s j new
settled_groups s j old new settled rest = subst (λ r. Settled s j r) (sym rest) (record {
  shadow = follows_same s old _ (λ q. refl) settled.shadow;
  joined = settled.joined;
  states = settled.states;
  fans = settled.fans;
})

-- the row of a port's untagged frames is written
pub settled_pvid : (s : Shadow) (j : List (List ℕ)) (p : ℕ) (row : PortRow) (old new : Rows) → p < port_places → Settled s j old → WritesPort old new p (record (port_at old p) { pvid = row.pvid })
    → new ≡ record old { ports = new.ports } → Settled s j new
settled_pvid s j p row old new p_low settled writes rest = record {
  shadow = record {
    own = λ q low. settled.shadow.own q low ∙ reads (λ r. r.own) q (λ o. refl);
    forwarding = λ q low. settled.shadow.forwarding q low ∙ reads row_forwards q (λ o. refl);
    flood = λ q low. settled.shadow.flood q low ∙ reads (λ r. row_floods r flood) q (λ o. refl);
    mcast_flood = λ q low. settled.shadow.mcast_flood q low ∙ reads (λ r. row_floods r mcast_flood) q (λ o. refl);
    bcast_flood = λ q low. settled.shadow.bcast_flood q low ∙ reads (λ r. row_floods r bcast_flood) q (λ o. refl);
    isolated = λ q low. settled.shadow.isolated q low ∙ reads (λ r. row_has_flag r isolated) q (λ o. refl);
  };
  joined = λ q vid low in_range. settled.joined q vid low in_range ∙ ap (λ (r : Rows). has_number (vlan_at r vid).members q) (sym rest);
  states = states_written p (record (port_at old p) { pvid = row.pvid }) old new writes (settled.states p p_low) settled.states;
  fans = λ vid in_range fan.
      ap (λ (r : Rows). fan_at r vid fan) rest ∙ settled.fans vid in_range fan ∙ ap (λ (r : Rows). fan_made s (vlan_at r vid).members fan) (sym rest);
}
  where
    reads : (read : PortRow → Bool) (q : ℕ) → ((o : PortRow) → read o ≡ read (record o { pvid = row.pvid })) → read (port_at old q) ≡ read (port_at new q)
    reads read q blind =
        ⊎_elim
        (λ (at : ((q == p) ≡ true) × (q ≡ p)). ap (λ n. read (port_at old n)) at.1 ∙ blind (port_at old p)
        ∙ ap (λ b. read (cond b (record (port_at old p) { pvid = row.pvid }) (port_at old q))) (sym at.0))
        (λ (off : ((q == p) ≡ false) × (q ≢ p)). ap (λ b. read (cond b (record (port_at old p) { pvid = row.pvid }) (port_at old q))) (sym off.0))
        (eqb_tells q p)
        ∙ ap read (sym (writes q))

-- ---- group rows that don't tell of a change

-- the row of a group stays where the port isn't a member of it, or has what it had
group_share : (s s' : Shadow) (p : ℕ) (m m' t touched : Bool) → (touched ≡ false → share_of s p m true ≡ share_of s' p m' true) → (touched && t) ≡ false → share_of s p m t ≡ share_of s' p m' t
group_share s s' p m m' true touched same off = same (sym (and-true touched) ∙ off)
group_share s s' p m m' false touched same off = untargeted s s' p m m'

-- of a port's row or of a router
pub port_kept : (s s' : Shadow) (p : ℕ) (touched : Touched) (ms : List Membership) (old mid : Rows) → ((q : ℕ) → q < port_places → q ≢ p → SameAt s s' q)
    → Touches (shares_of s p true) (shares_of s' p true) touched → has_number s.own p ≡ has_number s'.own p → ((vid : ℕ) → vlan_at mid vid ≡ vlan_at old vid)
    → (k : GroupPair) → (touched.groups && is_member ms p k) ≡ false → group_fan s old ms k ≡ group_fan s' mid ms k
port_kept s s' p touched ms old mid same tells own vlan k off =
    kept_group p s s' (vlan_at old k.0).members (vlan_at old k.0).members (record { shadow = same; others = λ q low other. refl }) (is_there ms k)
    (by (has_number (vlan_at old k.0).members p) (is_member ms p k) off)
    ∙ ap (λ (r : VlanRow). fan_to s' r.members (is_there ms k)) (sym (vlan k.0))
  where
    is_there : List Membership → GroupPair → ℕ → Bool
    is_there ms k q = is_member ms q k

    closed : (t : Bool) → share_of s p false t ≡ share_of s' p false t
    closed t = absent_share s s' p t own

    by : (m t : Bool) → (touched.groups && t) ≡ false → share_of s p m t ≡ share_of s' p m t
    by true t off = group_share s s' p true true t touched.groups tells.groups off
    by false t off = closed t

-- of a membership of a VLAN
pub vlan_kept : (s : Shadow) (p v : ℕ) (on : Bool) (row : VlanRow) (touched : Touched) (ms : List Membership) (old mid : Rows) → p < port_places → row.members ≡ switched (vlan_at old v).members p on
    → Touches (shares_of s p (has_number (vlan_at old v).members p)) (shares_of s p on) touched → ((vid : ℕ) → vlan_at mid vid ≡ cond (vid == v) row (vlan_at old vid))
    → (k : GroupPair) → (touched.groups && ((k.0 == v) && is_member ms p k)) ≡ false → group_fan s old ms k ≡ group_fan s mid ms k
vlan_kept s p v on row touched ms old mid p_low is tells writes k off =
    ⊎_elim
    (λ (at : ((k.0 == v) ≡ true) × (k.0 ≡ v)).
    ap (λ n. fan_to s (vlan_at old n).members (λ q. is_member ms q k)) at.1
    ∙ kept_group p s s (vlan_at old v).members row.members (member_same s p (vlan_at old v).members row.members on is) (λ q. is_member ms q k)
    (group_share s s p _ _ (is_member ms p k) touched.groups
    (λ quiet. tells.groups quiet ∙ ap (λ m. share_of s p m true) (switched_here (vlan_at old v).members row.members p on p_low is))
    (ap (λ b. touched.groups && (b && is_member ms p k)) (sym at.0) ∙ off))
    ∙ ap (λ (r : VlanRow). fan_to s r.members (λ q. is_member ms q k)) (sym (writes k.0 ∙ ap (λ b. cond b row (vlan_at old k.0)) at.0)))
    (λ (apart : ((k.0 == v) ≡ false) × (k.0 ≢ v)).
    ap (λ (r : VlanRow). fan_to s r.members (λ q. is_member ms q k)) (sym (writes k.0 ∙ ap (λ b. cond b row (vlan_at old k.0)) apart.0)))
    (eqb_tells k.0 v)
