-- The rows before any change stand for the start table.
use Rattle.std.proofs.Common.{◌≡◌, ◌≢◌, ℕ, zero, suc, ◌+◌, ◌*◌, ◌/◌, ◌%◌, ◌<◌, ◌≤◌, Bool, true, false, not, ◌&&◌}
use Rattle.std.proofs.Common.{◌||◌, cond, ⊎_elim, List, [], ◌∷◌, get_or, replicate, refl, sym, ap, ap₂, subst, ◌∙◌, arith}
use Rattle.std.specs.Prelude.{◌==◌, nat_lt}
use Rattle.std.specs.List.{list_any, range_with_len}
use Rattle.std.proofs.lemmas.Bool.{eqb-true, lt-ltb, le-ltb}
use Rattle.std.proofs.lemmas.Bool.Decides.{eqb_tells, nat_tests}
use Rattle.lemmas.proofs.Tests.{and-false}
use Rattle.port_sets.specs.Numbers.{has_number}
use Rattle.port_sets.proofs.Numbers.{none_below}
use Rattle.port_sets.proofs.Words.{no_members}
use Rattle.port_sets.specs.Words.{members}
use Rattle.br_model.specs.Table.DomainPorts.{ports_in}
use Rattle.br_model.specs.Table.Domains.{Domains, host, port_places}
use Rattle.br_model.specs.Table.Groups.{Membership}
use Rattle.br_model.specs.Table.Table.{Table, start}
use Rattle.br_model.specs.Forward.Targets.{flood, mcast_flood, bcast_flood, isolated}
use Rattle.chip_regs.proofs.Fields.{field-zero}
use Rattle.chip_tables.specs.declared.rows.FanRow.{FanRow}
use Rattle.chip_tables.specs.declared.rows.PortRow.{PortRow}
use Rattle.chip_tables.specs.declared.rows.VlanRow.{VlanRow}
use Rattle.chip_tables.specs.declared.rows.Flood.{Flood}
use Rattle.chip_tables.specs.declared.rows.Flood.TheVariants.{Unicast, Mcast, Bcast}
use Rattle.chip_tables.specs.Rows.{Rows, ports_from, vlan_of, fan_of, is_on, vlan_at, flood_at, router_at, port_at, trap_at, control_in, WritesVlan, WritesPort}
use Rattle.chip_tables.specs.Stands.{ports_where, some_port, trap_count, trap_wanted, is_own, VlansStand}
use Rattle.chip_tables.specs.Writing.{IsBlank}
use Rattle.chip_driver.specs.declared.fans.Fan.{Fan}
use Rattle.chip_driver.specs.declared.fans.Fan.TheVariants.{Floods, Routers}
use Rattle.chip_driver.specs.declared.shadow.Shadow.{Shadow}
use Rattle.chip_driver.specs.Drives.{Drives}
use Rattle.vlan_groups.specs.Joined.{block_count}
use Rattle.chip_driver.specs.Making.{idle, MarksOwn, SwitchesTraps}
use Rattle.chip_tables.specs.Flags.{row_has_flag}
use Rattle.chip_driver.specs.Shadows.{row_forwards, row_floods, floods_to, routes_to, opens, frees, fan_to, fan_made, switched_row}
use Rattle.chip_driver.specs.GroupRows.{GroupsFollow}
use Rattle.chip_driver.specs.Settled.{fan_at, Settled}
use Rattle.chip_driver.specs.Keeping.{IsRemade}
use Rattle.chip_tables.proofs.SomePort.{same_some}
use Rattle.chip_driver.proofs.Sets.{has-where}
use Rattle.chip_driver.proofs.GroupLoop.{follow_start}
use Rattle.chip_driver.proofs.Standing.{stands, vlans_switched}
use Rattle.chip_driver.proofs.Steps.{next_of}
use Rattle.chip_driver.proofs.TableLaws.{member_added, untagged_added}

-- ---- rows to which nothing was written

abbrev no_vlan : VlanRow
no_vlan = record { members = []; untagged = [] }

abbrev no_fan : FanRow
no_fan = record { ports = []; isolated = false; plain = false }

same_all : {A : Type 0} (n i : ℕ) (a : A) → get_or (replicate n a) i a ≡ a
same_all zero i a = refl
same_all (suc n) zero a = refl
same_all (suc n) (suc i) a = same_all n i a

no_bits : members 4 (0 ∷ 0 ∷ 0 ∷ 0 ∷ []) ≡ []
no_bits = no_members 4 (0 ∷ 0 ∷ 0 ∷ 0 ∷ []) (λ j low. same_all 4 j 0)

blank_ports : (at : ℕ) → ports_from 0 at ≡ []
blank_ports at = (λ i. members 4 (field-zero at 64 i ∷ field-zero (at + 64) 64 i ∷ field-zero (at + 128) 64 i ∷ field-zero (at + 192) 64 i ∷ [])) ∙ no_bits

blank_bit : (at : ℕ) → is_on 0 at ≡ false
blank_bit at = ap (λ n. n == 1) (field-zero at 1)

blank_vlan : vlan_of 0 ≡ no_vlan
blank_vlan = ap₂ (λ m u. record { members = m; untagged = u }) (blank_ports 0) (blank_ports 256)

blank_fan : fan_of 0 ≡ no_fan
blank_fan =
    ap (λ m. record { ports = m; isolated = is_on 0 256; plain = is_on 0 257 }) (blank_ports 0)
    ∙ ap₂ (λ i l. record { ports = []; isolated = i; plain = l }) (blank_bit 256) (blank_bit 257)

-- ---- the rows of ports and the traps

pub marked_one : (own : List ℕ) (n p : ℕ) (row : PortRow) (old mid new : Rows) → MarksOwn own n old mid → p ≡ n → row ≡ idle (has_number own n)
    → WritesPort mid new p row → new ≡ record mid { ports = new.ports } → MarksOwn own (n + 1) old new
marked_one own n p row old mid new marks is row_is writes rest = record {
  ports = λ q.
      writes q ∙ ap (λ k. cond (q == k) row (port_at mid q)) is ∙ ap (λ r. cond (q == n) row r) (marks.ports q)
      ∙ next_of q n row (idle (has_number own q)) (port_at old q) (λ same. row_is ∙ ap (λ k. idle (has_number own k)) (sym same));
  rest = rest ∙ ap (λ (r : Rows). record r { ports = new.ports }) marks.rest;
}

-- ---- no port takes a frame of a VLAN without members

any_nothing : (xs : List ℕ) → list_any (λ x. false) xs ≡ false
any_nothing [] = refl
any_nothing (x ∷ xs) = any_nothing xs

none_some : (p : ℕ → Bool) → ((q : ℕ) → q < port_places → p q ≡ false) → some_port p ≡ false
unfolding some_port
none_some p h = same_some p (λ q. false) h ∙ any_nothing (range_with_len 0 port_places)

nothing_of : (a b : Bool) → (a && (b && false)) ≡ false
nothing_of true true = refl
nothing_of true false = refl
nothing_of false b = refl

nobody : (s : Shadow) (to : ℕ → Bool) → ((q : ℕ) → q < port_places → (has_number s.own q && to q) ≡ false) → no_fan ≡ fan_to s [] to
unfolding fan_to
nobody s to none =
    let p : ports_where (λ q. has_number s.own q && to q) ≡ [] = none_below _ port_places none in
    let i : some_port (λ q. not (has_number s.own q) && (to q && frees s [] q)) ≡ false = none_some _ (λ q low. nothing_of (not (has_number s.own q)) (to q)) in
    let l : some_port (λ q. not (has_number s.own q) && (to q && opens s [] q)) ≡ false = none_some _ (λ q low. nothing_of (not (has_number s.own q)) (to q)) in
    cc

host_alone : (s : Shadow) → has_number s.own host ≡ false → (q : ℕ) → (has_number s.own q && ((q == host) || false)) ≡ false
host_alone s own_host q =
    ⊎_elim
    (λ (same : ((q == host) ≡ true) × (q ≡ host)). ap (λ b. b && ((q == host) || false)) (ap (has_number s.own) same.1 ∙ own_host))
    (λ (other : ((q == host) ≡ false) × (q ≢ host)). ap (λ b. has_number s.own q && (b || false)) other.0 ∙ and-false (has_number s.own q))
    (eqb_tells q host)

untargeted : (s : Shadow) (f : Flood) → has_number s.own host ≡ false → (q : ℕ) → q < port_places → (has_number s.own q && floods_to s [] f q) ≡ false
untargeted s Unicast own_host q low = and-false (has_number s.own q)
untargeted s Mcast own_host q low = host_alone s own_host q
untargeted s Bcast own_host q low = host_alone s own_host q

-- ---- a chip to which ports, traps and the control row were written

-- what the shadow is before any change
abbrev pub first_shadow : List ℕ → Shadow
first_shadow own = record { own = own; forwarding = []; flood = []; mcast_flood = []; bcast_flood = []; isolated = []; routers = [] }

-- the ports and the traps are written, and then the control row
record Begun (own : List ℕ) (blank rows : Rows) : Type 0 where
  ports : (q : ℕ) → q < port_places → port_at rows q ≡ idle (has_number own q)
  traps : (i : ℕ) → i < trap_count → trap_at rows i ≡ cond (nat_lt i 2) false true
  ports_now : List ℕ
  traps_now : List ℕ
  control_now : List ℕ
  rest : rows ≡ record blank { ports = ports_now; traps = traps_now; control = control_now }

begun : (own : List ℕ) (blank marked trapped rows : Rows) → IsBlank blank → MarksOwn own port_places blank marked → SwitchesTraps 2 21 true marked trapped
    → rows ≡ record trapped { control = rows.control } → Begun own blank rows
begun own blank marked trapped rows is_blank marks traps rest = record {
  ports = λ q low.
      ap (λ (r : Rows). port_at r q) (rest ∙ ap (λ (r : Rows). record r { control = rows.control }) traps.rest) ∙ marks.ports q
      ∙ ap (λ b. cond b (idle (has_number own q)) (port_at blank q)) (lt-ltb q port_places low);
  traps = λ i low.
      ap (λ (r : Rows). trap_at r i) rest ∙ traps.traps i
      ∙ ap (λ b. cond b (cond (nat_lt i 2) (trap_at marked i) true) (trap_at marked i)) (lt-ltb i 21 low)
      ∙ ap (λ b. cond (nat_lt i 2) b true) (ap (λ (r : Rows). trap_at r i) marks.rest ∙ ap (λ n. is_on n 0) (ap (λ (b : List ℕ). get_or b i 0) is_blank.traps ∙ same_all 21 i 0) ∙ blank_bit 0);
  ports_now = marked.ports;
  traps_now = trapped.traps;
  control_now = rows.control;
  rest = rest ∙ ap (λ (r : Rows). record r { control = rows.control }) traps.rest ∙ ap (λ (r : Rows). record r { traps = trapped.traps; control = rows.control }) marks.rest;
}

vlan_begun : (own : List ℕ) (blank rows : Rows) → IsBlank blank → Begun own blank rows → (vid : ℕ) → vlan_at rows vid ≡ no_vlan
vlan_begun own blank rows is_blank b vid =
    ap (λ (r : Rows). vlan_at r vid) b.rest ∙ ap vlan_of (ap (λ (bank : List ℕ). get_or bank vid 0) is_blank.vlans ∙ same_all 4096 vid 0) ∙ blank_vlan

flood_begun : (own : List ℕ) (blank rows : Rows) → IsBlank blank → Begun own blank rows → (vid : ℕ) (f : Flood) → flood_at rows vid f ≡ no_fan
flood_begun own blank rows is_blank b vid f = ap (λ (r : Rows). flood_at r vid f) b.rest ∙ by f
  where
    by : (f : Flood) → flood_at blank vid f ≡ no_fan
    by Unicast = ap fan_of (ap (λ (bank : List ℕ). get_or bank vid 0) is_blank.unicast ∙ same_all 4096 vid 0) ∙ blank_fan
    by Mcast = ap fan_of (ap (λ (bank : List ℕ). get_or bank vid 0) is_blank.mcast ∙ same_all 4096 vid 0) ∙ blank_fan
    by Bcast = ap fan_of (ap (λ (bank : List ℕ). get_or bank vid 0) is_blank.bcast ∙ same_all 4096 vid 0) ∙ blank_fan

router_begun : (own : List ℕ) (blank rows : Rows) → IsBlank blank → Begun own blank rows → (vid : ℕ) → router_at rows vid ≡ no_fan
router_begun own blank rows is_blank b vid =
    ap (λ (r : Rows). router_at r vid) b.rest ∙ ap fan_of (ap (λ (bank : List ℕ). get_or bank vid 0) is_blank.routers ∙ same_all 4096 vid 0) ∙ blank_fan

pub settled_start : (own : List ℕ) (s : Shadow) (joined : List (List ℕ)) (blank marked trapped rows : Rows) → IsBlank blank → MarksOwn own port_places blank marked
    → SwitchesTraps 2 21 true marked trapped
    → rows ≡ record trapped { control = rows.control } → s ≡ first_shadow own → joined ≡ replicate block_count [] → has_number own host ≡ false → Settled s joined rows
settled_start own s joined blank marked trapped rows is_blank marks traps rest s_is joined_is own_host =
    subst (λ x. Settled x joined rows) (sym s_is) (subst (λ j. Settled (first_shadow own) j rows) (sym joined_is) (record {
      shadow = record {
        own = λ q low. sym (ap (λ (r : PortRow). r.own) (b.ports q low));
        forwarding = λ q low. sym (ap row_forwards (b.ports q low));
        flood = λ q low. sym (ap (λ r. row_floods r flood) (b.ports q low));
        mcast_flood = λ q low. sym (ap (λ r. row_floods r mcast_flood) (b.ports q low));
        bcast_flood = λ q low. sym (ap (λ r. row_floods r bcast_flood) (b.ports q low));
        isolated = λ q low. sym (ap (λ r. row_has_flag r isolated) (b.ports q low));
      };
      joined = λ q vid low in_range. ap (λ (set : List ℕ). has_number set (vid % 64)) (same_all block_count (64 * q + vid / 64) []) ∙ sym (ap (λ (r : VlanRow). has_number r.members q) (vlan vid));
      states = λ q low. subst (λ (r : PortRow). r.state ≤ 4) (sym (b.ports q low)) (omega arith);
      fans = λ vid in_range fan. fans vid fan ∙ ap (λ (r : VlanRow). fan_made (first_shadow own) r.members fan) (sym (vlan vid));
    }))
  where
    b : Begun own blank rows
    b = begun own blank marked trapped rows is_blank marks traps rest

    vlan : (vid : ℕ) → vlan_at rows vid ≡ no_vlan
    vlan = vlan_begun own blank rows is_blank b

    fans : (vid : ℕ) (fan : Fan) → fan_at rows vid fan ≡ fan_made (first_shadow own) [] fan
    fans vid (Floods f) = flood_begun own blank rows is_blank b vid f ∙ nobody (first_shadow own) (floods_to (first_shadow own) [] f) (untargeted (first_shadow own) f own_host)
    fans vid Routers = router_begun own blank rows is_blank b vid ∙ nobody (first_shadow own) (routes_to (first_shadow own) []) (λ q low. and-false (has_number own q))

-- the table before the host is a member of its VLAN
abbrev no_members_yet : Table
no_members_yet = record start { vlans = [] }

first_trap : (i : ℕ) → cond (nat_lt i 2) false true ≡ trap_wanted start i
first_trap i =
    by (i == 0) (i == 1) (nat_lt i 16) (nat_lt i 2)
    (λ h. lt-ltb i 2 (let z : i ≡ 0 = eqb-true i 0 h in omega arith)) (λ h. lt-ltb i 2 (let z : i ≡ 1 = eqb-true i 1 h in omega arith))
    (λ p q. le-ltb i 2 (above i p q))
  where
    above : (i : ℕ) → (i == 0) ≡ false → (i == 1) ≡ false → 2 ≤ i
    above i p q = grind (arith, nat_tests)

    by : (a b c e : Bool) → (a ≡ true → e ≡ true) → (b ≡ true → e ≡ true) → (a ≡ false → b ≡ false → e ≡ false) → cond e false true ≡ cond a false (cond b false (cond c true true))
    by true b c e h k l = ap (λ x. cond x false true) (h refl)
    by false true c e h k l = ap (λ x. cond x false true) (k refl)
    by false false true e h k l = ap (λ x. cond x false true) (l refl refl)
    by false false false e h k l = ap (λ x. cond x false true) (l refl refl)

pub drives_start : (d : Domains) (dom : ℕ) (own : List ℕ) (s : Shadow) (joined : List (List ℕ)) (groups : List Membership) (blank marked trapped rows new : Rows) → IsBlank blank
    → MarksOwn own port_places blank marked → SwitchesTraps 2 21 true marked trapped
    → rows ≡ record trapped { control = rows.control } → control_in rows ≡ record { snooping = true; tree = false; four = false; six = false }
    → own ≡ ports_in d dom → s.routers ≡ []
    → Settled s joined new → WritesVlan rows new 1 (switched_row (vlan_at rows 1) host true true)
    → IsRemade (record rows { vlans = new.vlans }) new
    → groups ≡ [] → GroupsFollow s groups new → Drives d (record { dom = dom; count = 0; rows = new; routers = s.routers; groups = groups }) start
drives_start d dom own s joined groups blank marked trapped rows new is_blank marks traps rest control own_is routers_is settled writes new_rest groups_is follow = record {
  rows = stands d dom start s joined new settled vlans
      (λ q low.
      ap (λ (r : Rows). port_at r q) new_rest ∙ b.ports q low
      ∙ ap idle (has-where own _ own_is q low))
      (λ q low. ap (λ (ns : List ℕ). has_number ns q) routers_is)
      (λ i low. ap (λ (r : Rows). trap_at r i) new_rest ∙ b.traps i low ∙ first_trap i)
      (ap control_in new_rest ∙ control)
      (ap (λ (r : Rows). r.addresses) (new_rest
      ∙ ap (λ (r : Rows). record r { vlans = new.vlans; unicast = new.unicast; mcast = new.mcast; bcast = new.bcast; routers = new.routers; groups = new.groups }) b.rest) ∙ is_blank.addresses)
      (subst (λ ms. GroupsFollow s ms new) groups_is follow);
  routers = λ q low. ap (λ (ns : List ℕ). has_number ns q) routers_is;
  groups = groups_is;
}
  where
    b : Begun own blank rows
    b = begun own blank marked trapped rows is_blank marks traps rest

    nobody_there : VlansStand rows no_members_yet
    nobody_there vid in_range =
        vlan_begun own blank rows is_blank b vid
        ∙ ap₂ (λ m u. record { members = m; untagged = u }) (sym (none_below _ port_places (λ q low. refl))) (sym (none_below _ port_places (λ q low. refl)))

    vlans : VlansStand new start
    vlans =
        vlans_switched no_members_yet start host 1 true true _ rows new nobody_there
        (record {
          member = λ vid q. member_added no_members_yet host 1 vid q true false;
          untagged = λ vid q. untagged_added no_members_yet host 1 vid q true false;
          other = λ q other. refl;
        })
        refl writes

-- the host isn't among the chip's ports
pub host_off : (d : Domains) (dom : ℕ) (own : List ℕ) → own ≡ ports_in d dom → is_own d dom host ≡ false → has_number own host ≡ false
host_off d dom own own_is elsewhere = has-where own _ own_is host (omega arith) ∙ elsewhere

pub follow_made : (s : Shadow) (own : List ℕ) (groups : List Membership) (blank marked trapped rows : Rows) → IsBlank blank → MarksOwn own port_places blank marked
    → SwitchesTraps 2 21 true marked trapped
    → rows ≡ record trapped { control = rows.control } → groups ≡ [] → GroupsFollow s groups rows
follow_made s own groups blank marked trapped rows is_blank marks traps rest none =
    follow_start s groups rows (ap (λ (r : Rows). r.groups) (begun own blank marked trapped rows is_blank marks traps rest).rest ∙ is_blank.groups) none
