-- A row of targets, from set to set.
use Rattle.std.proofs.Common.{◌≡◌, ◌≢◌, ⊎_elim, ℕ, ◌<◌, Bool, true, false, not, ◌&&◌, ◌||◌, cond, IsTrue, ◌↔◌, List, [], refl, sym, ap, ap₂, subst, ◌∙◌}
use Rattle.std.specs.Prelude.{◌==◌}
use Rattle.std.proofs.lemmas.Bool.Decides.{eqb_tells}
use Rattle.lemmas.proofs.Tests.{and_comm, and-true, and-false, and_last}
use Rattle.br_model.specs.Table.Domains.{host, port_places}
use Rattle.port_sets.specs.Numbers.{has_number}
use Rattle.chip_tables.specs.declared.rows.FanRow.{FanRow}
use Rattle.chip_tables.specs.declared.rows.Flood.TheVariants.{Unicast, Mcast, Bcast}
use Rattle.chip_tables.specs.Stands.{ports_where, some_port, fan}
use Rattle.chip_driver.specs.declared.fans.Fan.{Fan}
use Rattle.chip_driver.specs.declared.fans.Fan.TheVariants.{Floods, Routers}
use Rattle.chip_driver.specs.declared.fans.Sets.{Sets}
use Rattle.chip_driver.specs.declared.shadow.Shadow.{Shadow}
use Rattle.chip_driver.specs.declared.shares.Share.{Share}
use Rattle.chip_tables.specs.Writing.{switched_fan}
use Rattle.chip_driver.specs.Shadows.{Has, switched, is_target, is_wanted, is_open, is_free, share_of, opens, frees, fan_to, fan_made}
use Rattle.chip_driver.specs.Renewing.{AreSets, row_of}
use Rattle.chip_driver.specs.Shares.{shares_of, share_in}
use Rattle.chip_tables.proofs.SomePort.{same_some, some-none}
use Rattle.chip_driver.proofs.Sets.{has-where, same_ports}

-- rows by tests that agree at each port are one row
pub same_fans : (own own' target target' eligible eligible' free free' : ℕ → Bool)
    → ((q : ℕ) → q < port_places → own q ≡ own' q) → ((q : ℕ) → q < port_places → target q ≡ target' q)
    → ((q : ℕ) → q < port_places → eligible q ≡ eligible' q) → ((q : ℕ) → q < port_places → free q ≡ free' q)
    → fan own target eligible free ≡ fan own' target' eligible' free'
same_fans own own' target target' eligible eligible' free free' o t e f =
    let ports : ports_where (λ q. own q && target q) ≡ ports_where (λ q. own' q && target' q) = same_ports _ _ (λ q low. ap₂ (λ a b. a && b) (o q low) (t q low)) in
    let isolated : some_port (λ q. not (own q) && (target q && free q)) ≡ some_port (λ q. not (own' q) && (target' q && free' q)) =
    same_some _ _ (λ q low. ap₂ (λ a b. not a && b) (o q low) (ap₂ (λ a b. a && b) (t q low) (f q low))) in
    let plain : some_port (λ q. not (own q) && (target q && eligible q)) ≡ some_port (λ q. not (own' q) && (target' q && eligible' q)) =
    same_some _ _ (λ q low. ap₂ (λ a b. not a && b) (o q low) (ap₂ (λ a b. a && b) (t q low) (e q low))) in
    cc

elsewhere_bit : (t o e : Bool) → ((t && not o) && e) ≡ (not o && (t && e))
elsewhere_bit true true e = refl
elsewhere_bit true false e = refl
elsewhere_bit false true e = refl
elsewhere_bit false false e = refl

not_host : (h i : Bool) → not (i && not h) ≡ (h || not i)
not_host true true = refl
not_host true false = refl
not_host false true = refl
not_host false false = refl

-- the row that is put together of sets
pub made_row : (s : Shadow) (members targets hosted eligible unhosted free elsewhere ports both_free both_plain : List ℕ) (no_free no_plain : Bool)
    → hosted ≡ ports_where (λ m. (m == 0) || has_number s.forwarding m)
    → eligible ≡ ports_where (λ m. has_number members m && has_number hosted m)
    → unhosted ≡ ports_where (λ m. has_number s.isolated m && not (m == 0))
    → free ≡ ports_where (λ m. has_number eligible m && not (has_number unhosted m))
    → elsewhere ≡ ports_where (λ m. has_number targets m && not (has_number s.own m))
    → ports ≡ ports_where (λ m. has_number targets m && has_number s.own m)
    → both_free ≡ ports_where (λ m. has_number elsewhere m && has_number free m)
    → IsTrue no_free ↔ (both_free ≡ [])
    → both_plain ≡ ports_where (λ m. has_number elsewhere m && has_number eligible m)
    → IsTrue no_plain ↔ (both_plain ≡ [])
    → record { ports = ports; isolated = not no_free; plain = not no_plain } ≡ fan_to s members (has_number targets)
unfolding fan_to
made_row s members targets hosted eligible unhosted free elsewhere ports both_free both_plain no_free no_plain =
    λ hosted_is eligible_is unhosted_is free_is elsewhere_is ports_is both_free_is no_free_is both_plain_is no_plain_is.
    let eligible_has : Has eligible (opens s members) = λ q low.
    has-where eligible _ eligible_is q low ∙ ap (λ b. has_number members q && b) (has-where hosted _ hosted_is q low) in
    let free_has : Has free (frees s members) = λ q low.
    has-where free _ free_is q low
    ∙ ap₂ (λ a b. a && b) (eligible_has q low) (ap not (has-where unhosted _ unhosted_is q low) ∙ not_host (q == 0) (has_number s.isolated q)) in
    let elsewhere_has : Has elsewhere (λ q. has_number targets q && not (has_number s.own q)) = has-where elsewhere _ elsewhere_is in
    let p : ports ≡ ports_where (λ q. has_number s.own q && has_number targets q) =
    ports_is ∙ same_ports _ _ (λ q low. and_comm (has_number targets q) (has_number s.own q)) in
    let i : not no_free ≡ some_port (λ q. not (has_number s.own q) && (has_number targets q && frees s members q)) =
    some-none both_free _ no_free both_free_is no_free_is
    ∙ same_some _ _ (λ q low. ap₂ (λ a b. a && b) (elsewhere_has q low) (free_has q low) ∙ elsewhere_bit (has_number targets q) (has_number s.own q) (frees s members q)) in
    let l : not no_plain ≡ some_port (λ q. not (has_number s.own q) && (has_number targets q && opens s members q)) =
    some-none both_plain _ no_plain both_plain_is no_plain_is
    ∙ same_some _ _ (λ q low. ap₂ (λ a b. a && b) (elsewhere_has q low) (eligible_has q low) ∙ elsewhere_bit (has_number targets q) (has_number s.own q) (opens s members q)) in
    cc

-- ---- a row that is put together of the members of sets

abbrev row_by : List ℕ → Bool → Bool → FanRow
row_by ports isolated plain = record { ports = ports; isolated = isolated; plain = plain }

pub put_together : (sets : Sets) (members ports isolated plain : List ℕ) (no_isolated no_plain : Bool)
    → ports ≡ ports_where (λ m. has_number members m && has_number sets.ports m)
    → isolated ≡ ports_where (λ m. has_number members m && has_number sets.isolated m)
    → IsTrue no_isolated ↔ (isolated ≡ [])
    → plain ≡ ports_where (λ m. has_number members m && has_number sets.plain m)
    → IsTrue no_plain ↔ (plain ≡ [])
    → record { ports = ports; isolated = not no_isolated; plain = not no_plain } ≡ row_of sets members
put_together sets members ports isolated plain no_isolated no_plain ports_is isolated_is isolated_tells plain_is plain_tells =
    ap (λ set. row_by set (not no_isolated) (not no_plain)) ports_is
    ∙ ap₂ (λ i l. row_by (ports_where (λ m. has_number members m && has_number sets.ports m)) i l)
    (some-none isolated (λ m. has_number members m && has_number sets.isolated m) no_isolated isolated_is isolated_tells)
    (some-none plain (λ m. has_number members m && has_number sets.plain m) no_plain plain_is plain_tells)

pub are_sets : (s : Shadow) (k : Fan) (targets others hosted plain ports unhosted isolated : List ℕ) → Has targets (is_wanted s k)
    → others ≡ ports_where (λ m. has_number targets m && not (has_number s.own m))
    → hosted ≡ ports_where (λ m. (m == 0) || has_number s.forwarding m)
    → plain ≡ ports_where (λ m. has_number others m && has_number hosted m)
    → ports ≡ ports_where (λ m. has_number targets m && has_number s.own m)
    → unhosted ≡ ports_where (λ m. has_number s.isolated m && not (m == 0))
    → isolated ≡ ports_where (λ m. has_number plain m && not (has_number unhosted m))
    → AreSets s k (record { ports = ports; isolated = isolated; plain = plain })
are_sets s k targets others hosted plain ports unhosted isolated to others_is hosted_is plain_is ports_is unhosted_is isolated_is = record {
  ports = λ q low. has-where ports _ ports_is q low ∙ ap (λ b. b && has_number s.own q) (to q low);
  plain = plains;
  isolated = λ q low.
      has-where isolated _ isolated_is q low
      ∙ ap₂ (λ a b. a && b) (plains q low) (ap not (has-where unhosted _ unhosted_is q low) ∙ not_host (q == 0) (has_number s.isolated q));
}
  where
    plains : Has plain (λ q. (is_wanted s k q && not (has_number s.own q)) && ((q == host) || has_number s.forwarding q))
    plains q low =
        has-where plain _ plain_is q low
        ∙ ap₂ (λ a b. a && b) (has-where others _ others_is q low ∙ ap (λ b. b && not (has_number s.own q)) (to q low)) (has-where hosted _ hosted_is q low)

-- a member is a target where the row wants it
pub target_wanted : (s : Shadow) (k : Fan) (q : ℕ) → is_target s true k q ≡ is_wanted s k q
target_wanted s (Floods Unicast) q = refl
target_wanted s (Floods Mcast) q = refl
target_wanted s (Floods Bcast) q = refl
target_wanted s Routers q = and-true (has_number s.routers q)

-- and of others none but the host, which isn't on the chip
no_host : (s : Shadow) (q : ℕ) → has_number s.own host ≡ false → (has_number s.own q && ((q == host) || false)) ≡ false
no_host s q off =
    ⊎_elim
    (λ (at : ((q == host) ≡ true) × (q ≡ host)). ap (λ o. o && ((q == host) || false)) (ap (λ n. has_number s.own n) at.1 ∙ off))
    (λ (apart : ((q == host) ≡ false) × (q ≢ host)). ap (λ h. has_number s.own q && (h || false)) apart.0 ∙ and-false (has_number s.own q))
    (eqb_tells q host)

no_target : (s : Shadow) (k : Fan) (q : ℕ) → has_number s.own host ≡ false → (has_number s.own q && is_target s false k q) ≡ false
no_target s (Floods Unicast) q off = and-false (has_number s.own q)
no_target s (Floods Mcast) q off = no_host s q off
no_target s (Floods Bcast) q off = no_host s q off
no_target s Routers q off = and_last (has_number s.own q) (has_number s.routers q) false refl

isolated_bit : (t o e f : Bool) → (((t && not o) && e) && f) ≡ (not o && (t && (e && f)))
isolated_bit true true e f = refl
isolated_bit true false e f = refl
isolated_bit false true e f = refl
isolated_bit false false e f = refl

pub sets_row : (s : Shadow) (k : Fan) (sets : Sets) (members : List ℕ) → has_number s.own host ≡ false → AreSets s k sets → row_of sets members ≡ fan_made s members k
unfolding fan_to
sets_row s k sets members off are =
    ap (λ set. row_by set (some_port (λ q. has_number members q && has_number sets.isolated q)) (some_port (λ q. has_number members q && has_number sets.plain q))) ports
    ∙ ap₂ (λ i l. row_by (ports_where (λ q. has_number s.own q && is_target s (has_number members q) k q)) i l) isolated plain
  where
    port : (q : ℕ) (m set : Bool) → set ≡ (is_wanted s k q && has_number s.own q) → (m && set) ≡ (has_number s.own q && is_target s m k q)
    port q true set is = is ∙ and_comm (is_wanted s k q) (has_number s.own q) ∙ ap (λ t. has_number s.own q && t) (sym (target_wanted s k q))
    port q false set is = sym (no_target s k q off)

    ports : ports_where (λ q. has_number members q && has_number sets.ports q) ≡ ports_where (λ q. has_number s.own q && is_target s (has_number members q) k q)
    ports = same_ports _ _ (λ q low. port q (has_number members q) (has_number sets.ports q) (are.ports q low))

    free : (q : ℕ) (m set : Bool)
        → set ≡ (((is_wanted s k q && not (has_number s.own q)) && ((q == host) || has_number s.forwarding q)) && ((q == host) || not (has_number s.isolated q)))
        → (m && set) ≡ (not (has_number s.own q) && (is_target s m k q && is_free s m q))
    free q true set is =
        is ∙ isolated_bit (is_wanted s k q) (has_number s.own q) ((q == host) || has_number s.forwarding q) ((q == host) || not (has_number s.isolated q))
        ∙ ap (λ t. not (has_number s.own q) && (t && (((q == host) || has_number s.forwarding q) && ((q == host) || not (has_number s.isolated q))))) (sym (target_wanted s k q))
    free q false set is = sym (and_last (not (has_number s.own q)) (is_target s false k q) false refl)

    isolated : some_port (λ q. has_number members q && has_number sets.isolated q)
        ≡ some_port (λ q. not (has_number s.own q) && (is_target s (has_number members q) k q && frees s members q))
    isolated = same_some _ _ (λ q low. free q (has_number members q) (has_number sets.isolated q) (are.isolated q low))

    opened : (q : ℕ) (m set : Bool) → set ≡ ((is_wanted s k q && not (has_number s.own q)) && ((q == host) || has_number s.forwarding q))
        → (m && set) ≡ (not (has_number s.own q) && (is_target s m k q && is_open s m q))
    opened q true set is =
        is ∙ elsewhere_bit (is_wanted s k q) (has_number s.own q) ((q == host) || has_number s.forwarding q)
        ∙ ap (λ t. not (has_number s.own q) && (t && ((q == host) || has_number s.forwarding q))) (sym (target_wanted s k q))
    opened q false set is = sym (and_last (not (has_number s.own q)) (is_target s false k q) false refl)

    plain : some_port (λ q. has_number members q && has_number sets.plain q)
        ≡ some_port (λ q. not (has_number s.own q) && (is_target s (has_number members q) k q && opens s members q))
    plain = same_some _ _ (λ q low. opened q (has_number members q) (has_number sets.plain q) (are.plain q low))

-- ---- a change of one port: each row stays in which the port has what it had

-- rows in which each port has the same are one row
pub same_shares : (s s' : Shadow) (members members' : List ℕ) (to to' : ℕ → Bool)
    → ((q : ℕ) → q < port_places → share_of s q (has_number members q) (to q) ≡ share_of s' q (has_number members' q) (to' q))
    → fan_to s members to ≡ fan_to s' members' to'
unfolding fan_to
same_shares s s' members members' to to' same =
    let ports : ports_where (λ q. has_number s.own q && to q) ≡ ports_where (λ q. has_number s'.own q && to' q) =
    same_ports _ _ (λ q low. ap (λ (x : Share). x.ports) (same q low)) in
    let isolated : some_port (λ q. not (has_number s.own q) && (to q && frees s members q)) ≡ some_port (λ q. not (has_number s'.own q) && (to' q && frees s' members' q)) =
    same_some _ _ (λ q low. ap (λ (x : Share). x.isolated) (same q low)) in
    let plain : some_port (λ q. not (has_number s.own q) && (to q && opens s members q)) ≡ some_port (λ q. not (has_number s'.own q) && (to' q && opens s' members' q)) =
    same_some _ _ (λ q low. ap (λ (x : Share). x.plain) (same q low)) in
    cc

-- shadows that say the same of a port
pub record SameAt (s s' : Shadow) (q : ℕ) : Type 0 where
  pub own : has_number s.own q ≡ has_number s'.own q
  pub forwarding : has_number s.forwarding q ≡ has_number s'.forwarding q
  pub flood : has_number s.flood q ≡ has_number s'.flood q
  pub mcast_flood : has_number s.mcast_flood q ≡ has_number s'.mcast_flood q
  pub bcast_flood : has_number s.bcast_flood q ≡ has_number s'.bcast_flood q
  pub isolated : has_number s.isolated q ≡ has_number s'.isolated q
  pub routers : has_number s.routers q ≡ has_number s'.routers q

-- of all but one port shadows and members say the same
pub record SameBut (p : ℕ) (s s' : Shadow) (members members' : List ℕ) : Type 0 where
  pub shadow : (q : ℕ) → q < port_places → q ≢ p → SameAt s s' q
  pub others : (q : ℕ) → q < port_places → q ≢ p → has_number members q ≡ has_number members' q

abbrev share_by : (own host forwarding isolated member target : Bool) → Share
share_by own is_host forwarding isolated member target = record {
  ports = own && target;
  isolated = not own && (target && ((member && (is_host || forwarding)) && (is_host || not isolated)));
  plain = not own && (target && (member && (is_host || forwarding)));
}

same_share : (s s' : Shadow) (q : ℕ) (m m' t t' : Bool) → SameAt s s' q → m ≡ m' → t ≡ t' → share_of s q m t ≡ share_of s' q m' t'
same_share s s' q m m' t t' same m_is t_is =
    ap₂ (λ o f. share_by o (q == host) f (has_number s.isolated q) m t) same.own same.forwarding
    ∙ ap (λ i. share_by (has_number s'.own q) (q == host) (has_number s'.forwarding q) i m t) same.isolated
    ∙ ap₂ (λ a b. share_by (has_number s'.own q) (q == host) (has_number s'.forwarding q) (has_number s'.isolated q) a b) m_is t_is

same_target : (s s' : Shadow) (q : ℕ) (m m' : Bool) (fan : Fan) → SameAt s s' q → m ≡ m' → is_target s m fan q ≡ is_target s' m' fan q
same_target s s' q m m' (Floods Unicast) same is = ap₂ (λ a b. a && b) is same.flood
same_target s s' q m m' (Floods Mcast) same is = ap₂ (λ a b. (q == host) || (a && b)) is same.mcast_flood
same_target s s' q m m' (Floods Bcast) same is = ap₂ (λ a b. (q == host) || (a && b)) is same.bcast_flood
same_target s s' q m m' Routers same is = ap₂ (λ a b. b && a) is same.routers

module _ (p : ℕ) (s s' : Shadow) (members members' : List ℕ) (same : SameBut p s s' members members') where
  kept_row : (to to' : ℕ → Bool) → ((q : ℕ) → q < port_places → q ≢ p → to q ≡ to' q)
      → share_of s p (has_number members p) (to p) ≡ share_of s' p (has_number members' p) (to' p) → fan_to s members to ≡ fan_to s' members' to'
  kept_row to to' others here =
      same_shares s s' members members' to to'
      (λ q low.
      ⊎_elim
      (λ (at : ((q == p) ≡ true) × (q ≡ p)). subst (λ n. share_of s n (has_number members n) (to n) ≡ share_of s' n (has_number members' n) (to' n)) (sym at.1) here)
      (λ (off : ((q == p) ≡ false) × (q ≢ p)). same_share s s' q _ _ _ _ (same.shadow q low off.1) (same.others q low off.1) (others q low off.1))
      (eqb_tells q p))

  -- a row of floods or of routers
  pub kept_fan : (fan : Fan)
      → share_of s p (has_number members p) (is_target s (has_number members p) fan p) ≡ share_of s' p (has_number members' p) (is_target s' (has_number members' p) fan p)
      → fan_made s members fan ≡ fan_made s' members' fan
  kept_fan fan = kept_row _ _ (λ q low other. same_target s s' q _ _ fan (same.shadow q low other) (same.others q low other))

  -- a row of a group
  pub kept_group : (to : ℕ → Bool) → share_of s p (has_number members p) (to p) ≡ share_of s' p (has_number members' p) (to p) → fan_to s members to ≡ fan_to s' members' to
  kept_group to = kept_row to to (λ q low other. refl)

-- what a port has in a row of which it isn't a target
nothing_there : (own rest more : Bool)
    → ◌≡◌ {A = Share} (record { ports = own && false; isolated = not own && (false && rest); plain = not own && (false && more) }) (record { ports = false; isolated = false; plain = false })
nothing_there true rest more = refl
nothing_there false rest more = refl

pub untargeted : (s s' : Shadow) (p : ℕ) (m m' : Bool) → share_of s p m false ≡ share_of s' p m' false
untargeted s s' p m m' = nothing_there (has_number s.own p) (is_free s m p) (is_open s m p) ∙ sym (nothing_there (has_number s'.own p) (is_free s' m' p) (is_open s' m' p))

-- and in a row of a VLAN of which it is no member
absent_by : (own own' t t' : Bool) → own ≡ own' → t ≡ t'
    → ◌≡◌ {A = Share} (record { ports = own && t; isolated = not own && (t && false); plain = not own && (t && false) })
    (record { ports = own' && t'; isolated = not own' && (t' && false); plain = not own' && (t' && false) })
absent_by own own' t t' own_is t_is = ap₂ (λ a b. share_by a false false false false b) own_is t_is

absent_target : (s s' : Shadow) (p : ℕ) (fan : Fan) → is_target s false fan p ≡ is_target s' false fan p
absent_target s s' p (Floods Unicast) = refl
absent_target s s' p (Floods Mcast) = refl
absent_target s s' p (Floods Bcast) = refl
absent_target s s' p Routers = and_comm (has_number s.routers p) false ∙ sym (and_comm (has_number s'.routers p) false)

pub absent_share : (s s' : Shadow) (p : ℕ) (t : Bool) → has_number s.own p ≡ has_number s'.own p → share_of s p false t ≡ share_of s' p false t
absent_share s s' p t own = absent_by _ _ _ _ own refl

pub absent : (s s' : Shadow) (p : ℕ) (fan : Fan) → has_number s.own p ≡ has_number s'.own p → share_of s p false (is_target s false fan p) ≡ share_of s' p false (is_target s' false fan p)
absent s s' p fan own = absent_by _ _ _ _ own (absent_target s s' p fan)

pub share-in : (s : Shadow) (p : ℕ) (m : Bool) (fan : Fan) → share_in (shares_of s p m) fan ≡ share_of s p m (is_target s m fan p)
share-in s p m (Floods Unicast) = refl
share-in s p m (Floods Mcast) = refl
share-in s p m (Floods Bcast) = refl
share-in s p m Routers = refl

-- ---- a change of a port of the chip: it is among the ports of a row or not, and nothing else of the row differs

not_elsewhere : (own own' rest rest' : Bool) → own ≡ true → own' ≡ true → (not own && rest) ≡ (not own' && rest')
not_elsewhere own own' rest rest' is is' = ap (λ o. not o && rest) is ∙ sym (ap (λ o. not o && rest') is')

-- it is among them where it is a member and the row wants it
pub member_wanted : (s : Shadow) (k : Fan) (p : ℕ) (m : Bool) → has_number s.own host ≡ false → has_number s.own p ≡ true → (m && is_wanted s k p) ≡ is_target s m k p
member_wanted s k p true off own = sym (target_wanted s k p)
member_wanted s k p false off own = sym (no_target s k p off) ∙ ap (λ o. o && is_target s false k p) own

pub switched_made : (s s' : Shadow) (p : ℕ) (members members' : List ℕ) (k : Fan) (on : Bool) → has_number s.own p ≡ true → has_number s'.own p ≡ true
    → SameBut p s s' members members' → on ≡ is_target s' (has_number members' p) k p → switched_fan (fan_made s members k) p on ≡ fan_made s' members' k
unfolding fan_to
switched_made s s' p members members' k on own own' same is =
    ap (λ set. row_by set (some_port (λ q. not (has_number s.own q) && (to q && frees s members q))) (some_port (λ q. not (has_number s.own q) && (to q && opens s members q)))) ports
    ∙ ap₂ (λ i l. row_by (ports_where (λ q. has_number s'.own q && to' q)) i l) isolated plain
  where
    to : ℕ → Bool
    to q = is_target s (has_number members q) k q

    to' : ℕ → Bool
    to' q = is_target s' (has_number members' q) k q

    at_own : (q : ℕ) → q ≡ p → has_number s.own q ≡ true
    at_own q at = ap (λ n. has_number s.own n) at ∙ own

    at_own' : (q : ℕ) → q ≡ p → has_number s'.own q ≡ true
    at_own' q at = ap (λ n. has_number s'.own n) at ∙ own'

    other : (q : ℕ) → q < port_places → q ≢ p → share_of s q (has_number members q) (to q) ≡ share_of s' q (has_number members' q) (to' q)
    other q low off =
        same_share s s' q (has_number members q) (has_number members' q) (to q) (to' q) (same.shadow q low off) (same.others q low off)
        (same_target s s' q (has_number members q) (has_number members' q) k (same.shadow q low off) (same.others q low off))

    ports : switched (ports_where (λ q. has_number s.own q && to q)) p on ≡ ports_where (λ q. has_number s'.own q && to' q)
    ports =
        same_ports _ _
        (λ q low.
        ap (λ b. cond (q == p) on b) (has-where (ports_where (λ n. has_number s.own n && to n)) (λ n. has_number s.own n && to n) refl q low)
        ∙ ⊎_elim
        (λ (at : ((q == p) ≡ true) × (q ≡ p)).
        ap (λ b. cond b on (has_number s.own q && to q)) at.0 ∙ is ∙ ap (λ o. o && to' p) (sym own') ∙ ap (λ n. has_number s'.own n && to' n) (sym at.1))
        (λ (off : ((q == p) ≡ false) × (q ≢ p)). ap (λ b. cond b on (has_number s.own q && to q)) off.0 ∙ ap (λ (x : Share). x.ports) (other q low off.1))
        (eqb_tells q p))

    isolated : some_port (λ q. not (has_number s.own q) && (to q && frees s members q)) ≡ some_port (λ q. not (has_number s'.own q) && (to' q && frees s' members' q))
    isolated =
        same_some _ _
        (λ q low.
        ⊎_elim
        (λ (at : ((q == p) ≡ true) × (q ≡ p)). not_elsewhere (has_number s.own q) (has_number s'.own q) (to q && frees s members q) (to' q && frees s' members' q) (at_own q at.1) (at_own' q at.1))
        (λ (off : ((q == p) ≡ false) × (q ≢ p)). ap (λ (x : Share). x.isolated) (other q low off.1))
        (eqb_tells q p))

    plain : some_port (λ q. not (has_number s.own q) && (to q && opens s members q)) ≡ some_port (λ q. not (has_number s'.own q) && (to' q && opens s' members' q))
    plain =
        same_some _ _
        (λ q low.
        ⊎_elim
        (λ (at : ((q == p) ≡ true) × (q ≡ p)). not_elsewhere (has_number s.own q) (has_number s'.own q) (to q && opens s members q) (to' q && opens s' members' q) (at_own q at.1) (at_own' q at.1))
        (λ (off : ((q == p) ≡ false) × (q ≢ p)). ap (λ (x : Share). x.plain) (other q low off.1))
        (eqb_tells q p))
