-- Where rows lead: the targets of frames to one station, to the host, and to many.
use Rattle.std.proofs.Common.{◌≡◌, ℕ, ◌<◌, Bool, true, false, not, ◌&&◌, ◌||◌, cond, Option, None, Some, option_map, List, [], ◌∷◌, refl, sym, ap, ap₂, ◌∙◌, arith, inl, inr}
use Rattle.std.specs.Prelude.{◌==◌}
use Rattle.std.specs.Option.{option_map_or}
use Rattle.std.specs.Ordering.{nat_cmp, eq_by_cmp}
use Rattle.std.specs.Cmp.{unsigned_tied}
use Rattle.std.proofs.lemmas.Bool.{cases_Bool, eqb-true, or_parts}
use Rattle.std.proofs.lemmas.Map.Lookups.{exact_unsigned}
use Rattle.std.proofs.lemmas.Map.Views.{any-filter_same}
use Rattle.lemmas.proofs.Tests.{and-false, cond_either, or-false}
use Rattle.lemmas.proofs.Orders.{is_eq-true}
use Rattle.br_model.specs.Forward.Admission.{is_up, is_forwarding, member}
use Rattle.br_model.specs.Table.Domains.{Domains, foreign, host, port_places}
use Rattle.br_model.specs.Forward.Eligible.{may}
use Rattle.br_model.specs.Data.Maps.{pair_cmp, get, has}
use Rattle.br_model.specs.Data.Numbers.{is_multicast, broadcast}
use Rattle.br_model.specs.Table.Table.{Table}
use Rattle.br_model.specs.Forward.Targets.{bridge_group_address, pause_address, is_for_the_host, has_flag, with_flag, targets, flood}
use Rattle.br_model.specs.Forward.Targets.{mcast_flood, bcast_flood, multicast_flood, isolated, port_of, snooped_targets, unicast_targets}
use Rattle.br_model.specs.declared.change.Kind.{Kind}
use Rattle.br_model.specs.declared.frame.Head.{Head}
use Rattle.br_model.specs.declared.frame.McastMsg.{McastMsg}
use Rattle.br_model.proofs.Forward.Stations.{other, not-reserved}
use Rattle.chip_tables.specs.declared.rows.AddressRow.{AddressRow}
use Rattle.chip_tables.specs.declared.rows.FanRow.{FanRow}
use Rattle.chip_tables.specs.declared.rows.Flood.{Flood}
use Rattle.chip_tables.specs.declared.rows.Flood.TheVariants.{Unicast, Mcast, Bcast}
use Rattle.chip_tables.specs.Rows.{Rows, flood_at}
use Rattle.chip_tables.specs.Stands.{IsVid, Stands, address_wanted, is_flooded}
use Rattle.chip_pipeline.specs.declared.lookup.Way.{Way}
use Rattle.chip_pipeline.specs.declared.lookup.Way.TheVariants.{Nowhere, One, Many}
use Rattle.chip_pipeline.specs.Passed.{AtChip}
use Rattle.chip_pipeline.specs.Ways.{IsMany, IsWay, Leads, entry_wanted, leaves_chip}
use Rattle.chip_pipeline.proofs.Reading.{foreign-is}

-- ---- truth values

needs : (h m a f z : Bool) → cond h m (a && (f && (m && z))) ≡ (m && cond h m (a && (f && (m && z))))
needs h true a f z = refl
needs true false a f z = refl
needs false false true true z = refl
needs false false true false z = refl
needs false false false f z = refl

-- what may take a frame is a member
pub needs-member : (t : Table) (p q vid : ℕ) → may t p q vid ≡ (member t q vid && may t p q vid)
needs-member t p q vid = needs (q == host) (member t q vid) (not (q == p)) (is_forwarding t q) (not (has_flag t p isolated && has_flag t q isolated))

-- a flag of a member that is up
flagged : (h m u f y : Bool) → y ≡ (m && y) → ((h || (m && (u && f))) && y) ≡ ((h || (f && u)) && y)
flagged true m u f y e = refl
flagged false true true true y e = refl
flagged false true true false y e = refl
flagged false true false true y e = refl
flagged false true false false y e = refl
flagged false false u f y e = sym (ap (λ b. (f && u) && b) e ∙ and-false (f && u))

-- ---- floods

has-with_flag : (t : Table) (flag q : ℕ) → has nat_cmp (with_flag t flag) q ≡ (has_flag t q flag && is_up t q)
has-with_flag t flag q =
    any-filter_same (eq_by_cmp nat_cmp q) (λ n. has_flag t n flag) (has_flag t q flag) (λ n tie. ap (λ x. has_flag t x flag) (sym (exact_unsigned q n (is_eq-true _ tie)))) t.up

-- the row of the flood to unknown stations
pub unicast-leads : (d : Domains) (dom : ℕ) (rows : Rows) (t : Table) (p vid : ℕ) (row : FanRow) (goals : List ℕ) → Stands d dom rows t → IsVid vid → row ≡ flood_at rows vid Unicast
    → goals ≡ with_flag t flood → Leads d dom t p vid row goals
unicast-leads d dom rows t p vid row goals stands range is flooded = record {
  target = is_flooded t vid Unicast;
  wanted = is ∙ stands.floods vid range Unicast;
  same = λ q low.
      flagged false (member t q vid) (is_up t q) (has_flag t q flood) (may t p q vid) (needs-member t p q vid)
      ∙ ap (λ b. b && may t p q vid) (sym (has-with_flag t flood q))
      ∙ ap (λ (xs : List ℕ). has nat_cmp xs q && may t p q vid) (sym flooded);
}

-- those of broadcasts and of other multicast frames, which the host has too
group-leads : (d : Domains) (dom : ℕ) (rows : Rows) (t : Table) (p vid flag : ℕ) (f : Flood) (row : FanRow) → Stands d dom rows t → IsVid vid → row ≡ flood_at rows vid f
    → ((q : ℕ) → is_flooded t vid f q ≡ ((q == host) || (member t q vid && (is_up t q && has_flag t q flag)))) → Leads d dom t p vid row (host ∷ with_flag t flag)
group-leads d dom rows t p vid flag f row stands range is of = record {
  target = is_flooded t vid f;
  wanted = is ∙ stands.floods vid range f;
  same = λ q low.
      ap (λ b. b && may t p q vid) (of q)
      ∙ flagged (q == host) (member t q vid) (is_up t q) (has_flag t q flag) (may t p q vid) (needs-member t p q vid)
      ∙ ap₂ (λ a b. (a || b) && may t p q vid) (sym (unsigned_tied q host)) (sym (has-with_flag t flag q));
}

pub mcast-leads : (d : Domains) (dom : ℕ) (rows : Rows) (t : Table) (p vid : ℕ) (row : FanRow) → Stands d dom rows t → IsVid vid → row ≡ flood_at rows vid Mcast
    → Leads d dom t p vid row (multicast_flood t)
mcast-leads d dom rows t p vid row stands range is = group-leads d dom rows t p vid mcast_flood Mcast row stands range is (λ q. refl)

pub bcast-leads : (d : Domains) (dom : ℕ) (rows : Rows) (t : Table) (p vid : ℕ) (row : FanRow) → Stands d dom rows t → IsVid vid → row ≡ flood_at rows vid Bcast
    → Leads d dom t p vid row (host ∷ with_flag t bcast_flood)
bcast-leads d dom rows t p vid row stands range is = group-leads d dom rows t p vid bcast_flood Bcast row stands range is (λ q. refl)

-- ---- stations

station-targets : (t : Table) (vid : ℕ) (head : Head) (msg : McastMsg) (o : Option (ℕ × Kind)) → is_multicast head.dst ≡ false → get pair_cmp t.addr (vid, head.dst) ≡ o
    → targets t vid head msg ≡ unicast_targets t o
station-targets t vid head msg o station is =
    simp (other head.dst bridge_group_address station refl, other head.dst pause_address station refl, not-reserved head.dst station, other head.dst broadcast station refl, station, is)

station-alone : (d : Domains) (t : Table) (p vid : ℕ) (head : Head) (o : Option (ℕ × Kind)) → is_multicast head.dst ≡ false → get pair_cmp t.addr (vid, head.dst) ≡ o
    → leaves_chip d t p vid head ≡ option_map_or (λ e. foreign d p (port_of e) && may t p (port_of e) vid) o false
station-alone d t p vid head o station is =
    ap₂ (λ r g. (r && may t p host vid) || (not g && option_map_or (λ e. foreign d p (port_of e) && may t p (port_of e) vid) (get pair_cmp t.addr (vid, head.dst)) false))
    (not-reserved head.dst station) station
    ∙ ap (λ (x : Option (ℕ × Kind)). option_map_or (λ e. foreign d p (port_of e) && may t p (port_of e) vid) x false) is

known-entry : (o : Option (ℕ × Kind)) (row : AddressRow) → Some row ≡ option_map address_wanted o → (e : ℕ × Kind) × ((o ≡ Some e) × (row ≡ address_wanted e))
known-entry None row h = absurd (cc)
known-entry (Some e) row h = (e, (refl, cc))

no-entry : (o : Option (ℕ × Kind)) → None ≡ option_map address_wanted o → o ≡ None
no-entry None h = refl
no-entry (Some e) h = absurd (cc)

pub known-way : (d : Domains) (dom : ℕ) (t : Table) (p vid q : ℕ) (head : Head) (msg : McastMsg) (row : AddressRow) → is_multicast head.dst ≡ false → Some row ≡ entry_wanted t vid head.dst
    → q ≡ port_of (row.port, row.kind) → q < port_places → IsWay d dom t p vid head msg (One q)
known-way d dom t p vid q head msg row station found is low =
    let e = known-entry (get pair_cmp t.addr (vid, head.dst)) row found in
    let same : q ≡ port_of e.0 = is ∙ ap (λ (r : AddressRow). port_of (r.port, r.kind)) e.1.1 in
    record {
      below = low;
      goal = station-targets t vid head msg (Some e.0) station e.1.0 ∙ ap (λ n. n ∷ []) (sym same);
      alone = station-alone d t p vid head (Some e.0) station e.1.0 ∙ ap (λ n. foreign d p n && may t p n vid) (sym same);
    }

pub unknown-way : (d : Domains) (dom : ℕ) (rows : Rows) (t : Table) (p vid : ℕ) (head : Head) (msg : McastMsg) (row : FanRow) → Stands d dom rows t → IsVid vid → is_multicast head.dst ≡ false
    → None ≡ entry_wanted t vid head.dst → row ≡ flood_at rows vid Unicast → IsWay d dom t p vid head msg (Many row)
unknown-way d dom rows t p vid head msg row stands range station none is =
    let absent = no-entry (get pair_cmp t.addr (vid, head.dst)) none in
    (unicast-leads d dom rows t p vid row (targets t vid head msg) stands range is (station-targets t vid head msg None station absent), station-alone d t p vid head None station absent)

-- ---- group addresses

abbrev pub for_nobody : Table → Head → Bool
for_nobody t head = (head.dst == bridge_group_address && t.stp) || head.dst == pause_address

-- a frame that isn't for the host by its address, nor to a station, stays for the chip to decide
stays : (d : Domains) (t : Table) (p vid : ℕ) (head : Head) → is_multicast head.dst ≡ true → is_for_the_host head.dst ≡ false → leaves_chip d t p vid head ≡ false
stays d t p vid head group other =
    ap₂ (λ r g. (r && may t p host vid) || (not g && option_map_or (λ e. foreign d p (port_of e) && may t p (port_of e) vid) (get pair_cmp t.addr (vid, head.dst)) false)) other group

nobody-host : (a : ℕ) (stp : Bool) → ((a == bridge_group_address && stp) || a == pause_address) ≡ true → is_for_the_host a ≡ false
nobody-host a stp h = elim (cases_Bool (a == bridge_group_address)) [
  | inl e ↦ ap is_for_the_host (eqb-true a bridge_group_address e)
  | inr e ↦ ap is_for_the_host (eqb-true a pause_address (sym (ap (λ b. (b && stp) || a == pause_address) e) ∙ h))
]

pub nowhere-way : (d : Domains) (dom : ℕ) (t : Table) (p vid : ℕ) (head : Head) (msg : McastMsg) → is_multicast head.dst ≡ true → for_nobody t head ≡ true → IsWay d dom t p vid head msg Nowhere
nowhere-way d dom t p vid head msg group nobody =
    (cond_either (head.dst == bridge_group_address && t.stp) (head.dst == pause_address) [] _ nobody, stays d t p vid head group (nobody-host head.dst t.stp nobody))

pub host-way : (d : Domains) (dom : ℕ) (rows : Rows) (t : Table) (p vid : ℕ) (head : Head) (msg : McastMsg) → AtChip d dom rows t p → is_multicast head.dst ≡ true → for_nobody t head ≡ false
    → is_for_the_host head.dst ≡ true
    → IsWay d dom t p vid head msg (One host)
host-way d dom rows t p vid head msg at group other reserved =
    let no = or_parts (head.dst == bridge_group_address && t.stp) (head.dst == pause_address) other in
    let away : foreign d p host ≡ true = foreign-is d dom p host at.own ∙ ap not (at.outside) in
    record {
      below = omega arith;
      goal = simp (no.0, no.1, reserved);
      alone =
          ap₂ (λ r g. (r && may t p host vid) || (not g && option_map_or (λ e. foreign d p (port_of e) && may t p (port_of e) vid) (get pair_cmp t.addr (vid, head.dst)) false)) reserved group
          ∙ or-false (may t p host vid)
          ∙ sym (ap (λ b. b && may t p host vid) away);
    }

pub many-way : (d : Domains) (dom : ℕ) (t : Table) (p vid : ℕ) (head : Head) (msg : McastMsg) (goals : List ℕ) (way : Way) → IsMany d dom t p vid goals way → targets t vid head msg ≡ goals
    → is_multicast head.dst ≡ true
    → is_for_the_host head.dst ≡ false → IsWay d dom t p vid head msg way
many-way d dom t p vid head msg goals Nowhere leads is group other = absurd leads
many-way d dom t p vid head msg goals (One q) leads is group other = absurd leads
many-way d dom t p vid head msg goals (Many row) leads is group other =
    (record { target = leads.target; wanted = leads.wanted; same = λ q low. leads.same q low ∙ ap (λ (xs : List ℕ). has nat_cmp xs q && may t p q vid) (sym is) }, stays d t p vid head group other)

pub broadcast-targets : (t : Table) (vid : ℕ) (head : Head) (msg : McastMsg) → for_nobody t head ≡ false → is_for_the_host head.dst ≡ false → (head.dst == broadcast) ≡ true
    → targets t vid head msg ≡ host ∷ with_flag t bcast_flood
broadcast-targets t vid head msg other reserved is =
    let no = or_parts (head.dst == bridge_group_address && t.stp) (head.dst == pause_address) other in
    simp (no.0, no.1, reserved, is)

pub group-targets : (t : Table) (vid : ℕ) (head : Head) (msg : McastMsg) → is_multicast head.dst ≡ true → for_nobody t head ≡ false → is_for_the_host head.dst ≡ false → (head.dst == broadcast) ≡ false
    → targets t vid head msg ≡ cond t.snoop (snooped_targets t vid msg) (multicast_flood t)
group-targets t vid head msg group other reserved isnt =
    let no = or_parts (head.dst == bridge_group_address && t.stp) (head.dst == pause_address) other in
    simp (no.0, no.1, reserved, isnt, group)
