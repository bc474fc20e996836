-- The rows of a settled driver stand for the table where its VLAN rows, its port rows and its routers do.
use Rattle.std.proofs.Common.{◌≡◌, ◌≢◌, ⊎_elim, true, false, cond, ℕ, ◌<◌, Bool, not, ◌&&◌, ◌||◌, List, map, Option, None, Some, refl, sym, ap, ap₂, subst, ◌∙◌}
use Rattle.std.specs.Prelude.{◌==◌}
use Rattle.std.specs.Ordering.{nat_cmp}
use Rattle.std.proofs.lemmas.Bool.Decides.{eqb_tells}
use Rattle.br_model.specs.declared.change.Kind.{Kind}
use Rattle.br_model.specs.Forward.Admission.{is_up, is_forwarding, member}
use Rattle.br_model.specs.Table.Domains.{Domains, host, port_places}
use Rattle.br_model.specs.Forward.Eligible.{untagged}
use Rattle.br_model.specs.Table.Groups as groups
use Rattle.br_model.specs.Data.Maps.{get, has}
use Rattle.br_model.specs.Table.Table.{Table}
use Rattle.br_model.specs.Table.Table as table
use Rattle.br_model.specs.Forward.Targets.{flood, mcast_flood, bcast_flood, isolated}
use Rattle.port_sets.specs.Numbers.{has_number}
use Rattle.chip_tables.specs.declared.rows.VlanRow.{VlanRow}
use Rattle.chip_tables.specs.declared.rows.PortRow.{PortRow}
use Rattle.chip_tables.specs.declared.rows.Flood.{Flood}
use Rattle.chip_tables.specs.declared.rows.Flood.TheVariants.{Unicast, Mcast, Bcast}
use Rattle.chip_tables.specs.Rows.{Rows, vlan_at, flood_at, router_at, port_at, trap_at, control_in, WritesPort, WritesVlan}
use Rattle.chip_tables.specs.Stands.{ports_where, is_flooded, is_routed, is_grouped, is_open, vlan_wanted, fan_wanted, port_wanted}
use Rattle.chip_tables.specs.Stands.{VlansStand, PortsStand, TrapsStand, ControlStands, address_wanted, AddressesStand, Stands}
use Rattle.chip_driver.specs.declared.fans.Fan.TheVariants.{Floods, Routers}
use Rattle.chip_driver.specs.declared.shadow.Shadow.{Shadow}
use Rattle.chip_tables.specs.Flags.{row_has_flag}
use Rattle.chip_driver.specs.Shadows.{Has, switched, switched_row, row_forwards, row_floods, floods_to, routes_to, opens, fan_to}
use Rattle.chip_driver.specs.GroupRows.{has_pair, group_fan, GroupsFollow}
use Rattle.chip_driver.specs.Settled.{Settled}
use Rattle.chip_driver.specs.declared.kept.Kept.{Kept}
use Rattle.chip_driver.specs.Keeping.{IsKept, IsRemade}
use Rattle.chip_driver.specs.Drives.{Driven, driven, KeepsRouters, Drives}
use Rattle.chip_driver.proofs.Sets.{has-where, same_ports}
use Rattle.chip_driver.proofs.GroupRows.{rows_stand, has-ports}
use Rattle.mdb_snoop.specs.Database.{ports_in}
use Rattle.br_model.specs.Table.GroupPairs.{GroupPair}
use Rattle.br_model.proofs.Forward.States.{forwarding-is}
use Rattle.chip_driver.proofs.FanRows.{same_fans}
use Rattle.chip_driver.proofs.TableLaws.{has-switched}

pub stands : (d : Domains) (dom : ℕ) (t : Table) (s : Shadow) (j : List (List ℕ)) (rows : Rows) → Settled s j rows → VlansStand rows t → PortsStand d dom rows t → KeepsRouters s.routers t
    → TrapsStand rows t → ControlStands rows t → AddressesStand rows t → GroupsFollow s t.groups rows → Stands d dom rows t
unfolding fan_to
stands d dom t s j rows settled vlans ports routers traps control addresses follow = record {
  vlans = vlans;
  floods = λ vid in_range f.
      settled.fans vid in_range (Floods f) ∙ ap (λ (r : VlanRow). fan_to s r.members (floods_to s r.members f)) (vlans vid in_range)
      ∙ wanted vid (floods_to s (vlan_wanted t vid).members f) (is_flooded t vid f) (floods vid f);
  routers = λ vid in_range.
      settled.fans vid in_range Routers ∙ ap (λ (r : VlanRow). fan_to s r.members (routes_to s r.members)) (vlans vid in_range)
      ∙ wanted vid (routes_to s (vlan_wanted t vid).members) (is_routed t vid) (λ q low. ap₂ (λ a b. a && b) (routers q low) (members vid q low));
  ports = ports;
  traps = traps;
  control = control;
  addresses = addresses;
  groups = rows_stand (λ k. fan_wanted d dom t k.0 (is_grouped t k.0 k.1)) rows.groups t.groups follow.ascending (λ k. follow.at k ∙ grouped k (has_pair t.groups k) refl);
}
  where
    members : (vid : ℕ) → Has (vlan_wanted t vid).members (λ q. member t q vid)
    members vid = has-where (vlan_wanted t vid).members (λ q. member t q vid) refl

    forwards : Has s.forwarding (is_forwarding t)
    forwards q low = settled.shadow.forwarding q low ∙ ap row_forwards (ports q low) ∙ ap (λ b. is_up t q && b) (forwarding-is (get nat_cmp t.state q))

    eligible : (vid q : ℕ) → q < port_places → opens s (vlan_wanted t vid).members q ≡ is_open t vid q
    eligible vid q low = ap₂ (λ m b. m && ((q == host) || b)) (members vid q low) (forwards q low)

    wanted : (vid : ℕ) (to target : ℕ → Bool) → ((q : ℕ) → q < port_places → to q ≡ target q) → fan_to s (vlan_wanted t vid).members to ≡ fan_wanted d dom t vid target
    wanted vid to target same =
        same_fans _ _ _ _ _ _ _ _ (λ q low. settled.shadow.own q low ∙ ap (λ (r : PortRow). r.own) (ports q low)) same (eligible vid)
        (λ q low. ap₂ (λ e b. e && ((q == host) || not b)) (eligible vid q low) (settled.shadow.isolated q low ∙ ap (λ r. row_has_flag r isolated) (ports q low)))

    grouped : (k : GroupPair) (b : Bool) → has_pair t.groups k ≡ b → cond b (Some (group_fan s rows t.groups k)) None ≡ cond b (Some (fan_wanted d dom t k.0 (is_grouped t k.0 k.1))) None
    grouped k true is =
        ap Some (ap (λ (r : VlanRow). fan_to s r.members (has_number (ports_in t.groups k.0 k.1))) (vlans k.0 (follow.vids k is))
        ∙ wanted k.0 (has_number (ports_in t.groups k.0 k.1)) (is_grouped t k.0 k.1) (λ q low. has-ports q k.0 k.1 t.groups))
    grouped k false is = refl

    floods : (vid : ℕ) (f : Flood) (q : ℕ) → q < port_places → floods_to s (vlan_wanted t vid).members f q ≡ is_flooded t vid f q
    floods vid Unicast q low = ap₂ (λ m b. m && b) (members vid q low) (settled.shadow.flood q low ∙ ap (λ r. row_floods r flood) (ports q low))
    floods vid Mcast q low = ap₂ (λ m b. (q == host) || (m && b)) (members vid q low) (settled.shadow.mcast_flood q low ∙ ap (λ r. row_floods r mcast_flood) (ports q low))
    floods vid Bcast q low = ap₂ (λ m b. (q == host) || (m && b)) (members vid q low) (settled.shadow.bcast_flood q low ∙ ap (λ r. row_floods r bcast_flood) (ports q low))

-- A port's row is written, and all else of the table stays.
pub drives_port : (d : Domains) (t : Table) (up : List ℕ) (flags state : List (ℕ × ℕ)) (p : ℕ) (row : PortRow) (old : Driven) (kept : Kept) → Drives d old t
    → IsKept kept → kept.shadow.routers ≡ old.routers → kept.groups ≡ old.groups → WritesPort old.rows kept.tables p row
    → IsRemade (record old.rows { ports = kept.tables.ports }) kept.tables
    → row ≡ port_wanted d old.dom (record t { up = up; flags = flags; state = state }) p
    → ((q : ℕ) → q ≢ p → port_wanted d old.dom (record t { up = up; flags = flags; state = state }) q ≡ port_wanted d old.dom t q)
    → Drives d (driven old.dom old.count kept) (record t { up = up; flags = flags; state = state })
drives_port d t up flags state p row old kept before is_kept routers_is groups_is writes rest written unwritten = record {
  rows = stands d old.dom _ kept.shadow kept.joined kept.tables is_kept.settled
      (λ vid in_range. ap (λ (r : Rows). vlan_at r vid) rest ∙ before.rows.vlans vid in_range)
      (λ q low.
      writes q
      ∙ ⊎_elim
      (λ (same : ((q == p) ≡ true) × (q ≡ p)). ap (λ b. cond b row (port_at old.rows q)) same.0 ∙ written
      ∙ ap (port_wanted d old.dom (record t { up = up; flags = flags; state = state })) (sym same.1))
      (λ (other : ((q == p) ≡ false) × (q ≢ p)). ap (λ b. cond b row (port_at old.rows q)) other.0 ∙ before.rows.ports q low ∙ sym (unwritten q other.1))
      (eqb_tells q p))
      (λ q low. ap (λ (ns : List ℕ). has_number ns q) routers_is ∙ before.routers q low)
      (λ i low. ap (λ (r : Rows). trap_at r i) rest ∙ before.rows.traps i low)
      (ap control_in rest ∙ before.rows.control)
      (ap (λ (r : Rows). r.addresses) rest ∙ before.rows.addresses)
      (subst (λ ms. GroupsFollow kept.shadow ms kept.tables) (groups_is ∙ before.groups) is_kept.follow);
  routers = λ q low. ap (λ (ns : List ℕ). has_number ns q) routers_is ∙ before.routers q low;
  groups = groups_is ∙ before.groups;
}

-- a set of which one port is switched, as a test says
switched_set : (set old : List ℕ) (p : ℕ) (on : Bool) (test test' : ℕ → Bool) → set ≡ switched old p on → Has old test
    → ((q : ℕ) → test' q ≡ cond (q == p) on (test q)) → set ≡ ports_where test'
switched_set set old p on test test' is has h = is ∙ same_ports _ _ (λ q low. ap (λ b. cond (q == p) on b) (has q low) ∙ sym (h q))

-- A router comes or goes.
pub drives_router : (d : Domains) (t : Table) (p : ℕ) (on : Bool) (old : Driven) (kept : Kept) → Drives d old t
    → IsKept kept → kept.shadow.routers ≡ switched old.routers p on → kept.groups ≡ old.groups
    → IsRemade old.rows kept.tables → Drives d (driven old.dom old.count kept) (record t { routers = table.switched on t.routers p })
drives_router d t p on old kept before is_kept routers_is groups_is rest = record {
  rows = stands d old.dom _ kept.shadow kept.joined kept.tables is_kept.settled
      (λ vid in_range. ap (λ (r : Rows). vlan_at r vid) rest ∙ before.rows.vlans vid in_range)
      (λ q low. ap (λ (r : Rows). port_at r q) rest ∙ before.rows.ports q low)
      routed
      (λ i low. ap (λ (r : Rows). trap_at r i) rest ∙ before.rows.traps i low)
      (ap control_in rest ∙ before.rows.control)
      (ap (λ (r : Rows). r.addresses) rest ∙ before.rows.addresses)
      (subst (λ ms. GroupsFollow kept.shadow ms kept.tables) (groups_is ∙ before.groups) is_kept.follow);
  routers = routed;
  groups = groups_is ∙ before.groups;
}
  where
    routed : KeepsRouters kept.shadow.routers (record t { routers = table.switched on t.routers p })
    routed q low = has-where kept.shadow.routers _ routers_is q low ∙ ap (λ b. cond (q == p) on b) (before.routers q low) ∙ sym (has-switched on t.routers p q)

-- One membership is switched, and the VLAN of the port's untagged frames is written.
pub record Membership (t t' : Table) (p v : ℕ) (on plain : Bool) : Type 0 where
  pub member : (vid q : ℕ) → member t' q vid ≡ cond ((vid == v) && (q == p)) on (member t q vid)
  pub untagged : (vid q : ℕ) → untagged t' q vid ≡ cond ((vid == v) && (q == p)) plain (untagged t q vid)
  pub other : (q : ℕ) → q ≢ p → get nat_cmp t'.pvid q ≡ get nat_cmp t.pvid q

pub vlans_switched : (t t' : Table) (p v : ℕ) (on plain : Bool) (row : VlanRow) (old mid : Rows) → VlansStand old t → Membership t t' p v on plain
    → row ≡ switched_row (vlan_at old v) p on plain → WritesVlan old mid v row → VlansStand mid t'
vlans_switched t t' p v on plain row old mid before change row_is writes vid in_range =
    writes vid ∙
    ⊎_elim (λ same. written same.0 same.1) (λ (apart : ((vid == v) ≡ false) × (vid ≢ v)). unwritten apart.0) (eqb_tells vid v)
  where
    has_members : Has (vlan_at old vid).members (λ q. member t q vid)
    has_members = has-where _ _ (ap (λ (r : VlanRow). r.members) (before vid in_range))

    has_untagged : Has (vlan_at old vid).untagged (λ q. untagged t q vid)
    has_untagged = has-where _ _ (ap (λ (r : VlanRow). r.untagged) (before vid in_range))

    written : (vid == v) ≡ true → vid ≡ v → cond (vid == v) row (vlan_at old vid) ≡ vlan_wanted t' vid
    written test is =
        ap (λ b. cond b row (vlan_at old vid)) test
        ∙ ap₂ (λ m u. record { members = m; untagged = u })
        (switched_set row.members (vlan_at old vid).members p on (λ q. member t q vid) (λ q. member t' q vid)
        (ap (λ (r : VlanRow). r.members) row_is ∙ ap (λ n. switched (vlan_at old n).members p on) (sym is)) has_members
        (λ q. change.member vid q ∙ ap (λ b. cond (b && (q == p)) on (member t q vid)) test))
        (switched_set row.untagged (vlan_at old vid).untagged p plain (λ q. untagged t q vid) (λ q. untagged t' q vid)
        (ap (λ (r : VlanRow). r.untagged) row_is ∙ ap (λ n. switched (vlan_at old n).untagged p plain) (sym is)) has_untagged
        (λ q. change.untagged vid q ∙ ap (λ b. cond (b && (q == p)) plain (untagged t q vid)) test))

    unwritten : (vid == v) ≡ false → cond (vid == v) row (vlan_at old vid) ≡ vlan_wanted t' vid
    unwritten test =
        ap (λ b. cond b row (vlan_at old vid)) test ∙ before vid in_range
        ∙ ap₂ (λ m u. record { members = m; untagged = u })
        (same_ports _ _ (λ q low. sym (change.member vid q ∙ ap (λ b. cond (b && (q == p)) on (member t q vid)) test)))
        (same_ports _ _ (λ q low. sym (change.untagged vid q ∙ ap (λ b. cond (b && (q == p)) plain (untagged t q vid)) test)))

pub drives_vlan : (d : Domains) (t : Table) (vlans : List ((ℕ × ℕ) × Bool)) (pvid : List (ℕ × ℕ)) (p v : ℕ) (on plain : Bool) (port : PortRow) (old : Driven) (mid : Rows) (kept : Kept)
    → Drives d old t → Membership t (record t { vlans = vlans; pvid = pvid }) p v on plain → IsKept kept → kept.shadow.routers ≡ old.routers → kept.groups ≡ old.groups
    → WritesVlan old.rows mid v (switched_row (vlan_at old.rows v) p on plain)
    → IsRemade (record old.rows { vlans = mid.vlans }) mid
    → WritesPort mid kept.tables p port → kept.tables ≡ record mid { ports = kept.tables.ports } → port ≡ port_wanted d old.dom (record t { vlans = vlans; pvid = pvid }) p
    → Drives d (driven old.dom old.count kept) (record t { vlans = vlans; pvid = pvid })
drives_vlan d t vlans pvid p v on plain port old mid kept before change is_kept routers_is groups_is writes_vlan mid_rest writes_port rest port_is = record {
  rows = stands d old.dom _ kept.shadow kept.joined kept.tables is_kept.settled
      (λ vid in_range. ap (λ (r : Rows). vlan_at r vid) rest ∙ vlans_switched t _ p v on plain _ old.rows mid before.rows.vlans change refl writes_vlan vid in_range)
      (λ q low.
      writes_port q
      ∙ ⊎_elim
      (λ (same : ((q == p) ≡ true) × (q ≡ p)). ap (λ b. cond b port (port_at mid q)) same.0 ∙ port_is ∙ ap (port_wanted d old.dom (record t { vlans = vlans; pvid = pvid })) (sym same.1))
      (λ (apart : ((q == p) ≡ false) × (q ≢ p)).
      ap (λ b. cond b port (port_at mid q)) apart.0 ∙ ap (λ (r : Rows). port_at r q) mid_rest ∙ before.rows.ports q low
      ∙ ap (λ o. record (port_wanted d old.dom t q) { pvid = o }) (sym (change.other q apart.1)))
      (eqb_tells q p))
      (λ q low. ap (λ (ns : List ℕ). has_number ns q) routers_is ∙ before.routers q low)
      (λ i low. ap (λ (r : Rows). trap_at r i) (rest ∙ ap (λ (r : Rows). record r { ports = kept.tables.ports }) mid_rest) ∙ before.rows.traps i low)
      (ap control_in (rest ∙ ap (λ (r : Rows). record r { ports = kept.tables.ports }) mid_rest) ∙ before.rows.control)
      (ap (λ (r : Rows). r.addresses) (rest ∙ ap (λ (r : Rows). record r { ports = kept.tables.ports }) mid_rest) ∙ before.rows.addresses)
      (subst (λ ms. GroupsFollow kept.shadow ms kept.tables) (groups_is ∙ before.groups) is_kept.follow);
  routers = λ q low. ap (λ (ns : List ℕ). has_number ns q) routers_is ∙ before.routers q low;
  groups = groups_is ∙ before.groups;
}

-- The traps and the control row are written.
pub drives_switches : (d : Domains) (t : Table) (queriers : List ℕ) (snoop stp : Bool) (routers : List ℕ) (old : Driven) (new : Rows) (traps_now control_now : List ℕ) → Drives d old t
    → new ≡ record old.rows { traps = traps_now; control = control_now } → routers ≡ old.routers
    → TrapsStand new (record t { queriers = queriers; snoop = snoop; stp = stp }) → ControlStands new (record t { queriers = queriers; snoop = snoop; stp = stp })
    → Drives d (record { dom = old.dom; count = old.count; rows = new; routers = routers; groups = old.groups }) (record t { queriers = queriers; snoop = snoop; stp = stp })
drives_switches d t queriers snoop stp routers old new traps_now control_now before rest routers_is traps control = record {
  rows = record {
    vlans = λ vid in_range. ap (λ (r : Rows). vlan_at r vid) rest ∙ before.rows.vlans vid in_range;
    floods = λ vid in_range f. ap (λ (r : Rows). flood_at r vid f) rest ∙ before.rows.floods vid in_range f;
    routers = λ vid in_range. ap (λ (r : Rows). router_at r vid) rest ∙ before.rows.routers vid in_range;
    ports = λ q low. ap (λ (r : Rows). port_at r q) rest ∙ before.rows.ports q low;
    traps = traps;
    control = control;
    addresses = ap (λ (r : Rows). r.addresses) rest ∙ before.rows.addresses;
    groups = ap (λ (r : Rows). r.groups) rest ∙ before.rows.groups;
  };
  routers = λ q low. ap (λ (ns : List ℕ). has_number ns q) routers_is ∙ before.routers q low;
  groups = before.groups;
}

-- The members of a group change, and its row.
pub drives_groups : (d : Domains) (t : Table) (groups : List groups.Membership) (old : Driven) (kept : Kept) → Drives d old t → IsKept kept → kept.shadow.routers ≡ old.routers
    → kept.tables ≡ record old.rows { groups = kept.tables.groups } → kept.groups ≡ groups
    → Drives d (driven old.dom old.count kept) (record t { groups = groups })
drives_groups d t groups old kept before is_kept routers_is rest is = record {
  rows = stands d old.dom _ kept.shadow kept.joined kept.tables is_kept.settled
      (λ vid in_range. ap (λ (r : Rows). vlan_at r vid) rest ∙ before.rows.vlans vid in_range)
      (λ q low. ap (λ (r : Rows). port_at r q) rest ∙ before.rows.ports q low)
      (λ q low. ap (λ (ns : List ℕ). has_number ns q) routers_is ∙ before.routers q low)
      (λ i low. ap (λ (r : Rows). trap_at r i) rest ∙ before.rows.traps i low)
      (ap control_in rest ∙ before.rows.control)
      (ap (λ (r : Rows). r.addresses) rest ∙ before.rows.addresses)
      (subst (λ ms. GroupsFollow kept.shadow ms kept.tables) is is_kept.follow);
  routers = λ q low. ap (λ (ns : List ℕ). has_number ns q) routers_is ∙ before.routers q low;
  groups = is;
}

-- The address rows are written.
pub drives_addresses : (d : Domains) (t : Table) (addr : List ((ℕ × ℕ) × (ℕ × Kind))) (old : Driven) (new : Rows) (places : List (Option (ℕ × ℕ))) → Drives d old t
    → new ≡ record old.rows { addresses = new.addresses; places = places }
    → new.addresses ≡ map (λ e. (e.0, address_wanted e.1)) addr → Drives d (record old { rows = new }) (record t { addr = addr })
drives_addresses d t addr old new places before rest addresses = record {
  rows = record {
    vlans = λ vid in_range. ap (λ (r : Rows). vlan_at r vid) rest ∙ before.rows.vlans vid in_range;
    floods = λ vid in_range f. ap (λ (r : Rows). flood_at r vid f) rest ∙ before.rows.floods vid in_range f;
    routers = λ vid in_range. ap (λ (r : Rows). router_at r vid) rest ∙ before.rows.routers vid in_range;
    ports = λ q low. ap (λ (r : Rows). port_at r q) rest ∙ before.rows.ports q low;
    traps = λ i low. ap (λ (r : Rows). trap_at r i) rest ∙ before.rows.traps i low;
    control = ap control_in rest ∙ before.rows.control;
    addresses = addresses;
    groups = ap (λ (r : Rows). r.groups) rest ∙ before.rows.groups;
  };
  routers = before.routers;
  groups = before.groups;
}
