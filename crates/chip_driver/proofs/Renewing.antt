-- Rows follow a change of a port, some after others.
use Rattle.std.proofs.Common.{◌≡◌, ℕ, Bool, true, false, ◌&&◌, ◌||◌, cond, List, refl, sym, ap, ap₂, ◌∙◌}
use Rattle.std.specs.Prelude.{◌==◌}
use Rattle.std.proofs.lemmas.Bool.{eqb-true}
use Rattle.port_sets.specs.Numbers.{has_number}
use Rattle.chip_tables.specs.declared.rows.FanRow.{FanRow}
use Rattle.chip_tables.specs.declared.rows.VlanRow.{VlanRow}
use Rattle.chip_tables.specs.Rows.{Rows, vlan_at}
use Rattle.chip_tables.specs.Stands.{IsVid}
use Rattle.chip_tables.specs.Writing.{switched_fan}
use Rattle.chip_driver.specs.declared.fans.Edit.{Edit}
use Rattle.chip_driver.specs.declared.fans.Edit.TheVariants.{Switch, Make}
use Rattle.chip_driver.specs.declared.fans.Fan.{Fan}
use Rattle.chip_driver.specs.declared.shadow.Shadow.{Shadow}
use Rattle.chip_driver.specs.Shadows.{switched, is_wanted, fan_made}
use Rattle.chip_driver.specs.Settled.{fan_at, same_fan, WritesFan}
use Rattle.chip_driver.specs.Renewing.{edited, follows, Renews}
use Rattle.chip_driver.proofs.Sets.{has-where, same_ports}
use Rattle.chip_driver.proofs.Refreshing.{fan_is}

-- what is made of a row and of the members is made of what was made, too
abbrev pub IsSteady : (Fan → FanRow → List ℕ → FanRow) → Type 0
IsSteady made = (k : Fan) (row : FanRow) (members : List ℕ) → made k (made k row members) members ≡ made k row members

-- ---- a port that is switched twice

bit_twice : (b on x : Bool) → cond b on (cond b on x) ≡ cond b on x
bit_twice true on x = refl
bit_twice false on x = refl

set_twice : (set : List ℕ) (p : ℕ) (on : Bool) → switched (switched set p on) p on ≡ switched set p on
set_twice set p on =
    same_ports _ _
    (λ q low. ap (λ b. cond (q == p) on b) (has-where (switched set p on) (λ n. cond (n == p) on (has_number set n)) refl q low) ∙ bit_twice (q == p) on (has_number set q))

row_twice : (row : FanRow) (p : ℕ) (on : Bool) → switched_fan (switched_fan row p on) p on ≡ switched_fan row p on
row_twice row p on = ap (λ (ports : List ℕ). record row { ports = ports }) (set_twice row.ports p on)

pub edited_twice : (edit : Edit) → IsSteady (λ k. edited edit)
edited_twice (Switch p on) k row members = row_twice row p on
edited_twice (Make sets) k row members = refl

pub follows_twice : (s : Shadow) (p : ℕ) (member : Bool) → IsSteady (follows s p member)
follows_twice s p member k row members = by (has_number s.own p)
  where
    by : (own : Bool)
        → cond own (switched_fan (cond own (switched_fan row p (member && is_wanted s k p)) (fan_made s members k)) p (member && is_wanted s k p)) (fan_made s members k)
        ≡ cond own (switched_fan row p (member && is_wanted s k p)) (fan_made s members k)
    by true = row_twice row p (member && is_wanted s k p)
    by false = refl

-- ---- some rows after others

by_both : (a b c : Bool) (made : FanRow → FanRow) (old mid new : FanRow) → made (made old) ≡ made old → c ≡ (b || a) → mid ≡ cond a (made old) old → new ≡ cond b (made mid) mid
    → new ≡ cond c (made old) old
by_both true true c made old mid new steady is first second = second ∙ ap made first ∙ steady ∙ ap (λ x. cond x (made old) old) (sym is)
by_both false true c made old mid new steady is first second = second ∙ ap made first ∙ ap (λ x. cond x (made old) old) (sym is)
by_both true false c made old mid new steady is first second = second ∙ first ∙ ap (λ x. cond x (made old) old) (sym is)
by_both false false c made old mid new steady is first second = second ∙ first ∙ ap (λ x. cond x (made old) old) (sym is)

pub renewed_none : (test : ℕ → Fan → Bool) (made : Fan → FanRow → List ℕ → FanRow) (old : Rows) → ((vid : ℕ) → IsVid vid → (k : Fan) → test vid k ≡ false) → Renews test made old old
renewed_none test made old none = record {
  fans = λ vid in_range k. ap (λ b. cond b (made k (fan_at old vid k) (vlan_at old vid).members) (fan_at old vid k)) (sym (none vid in_range k));
  rest = refl;
}

pub renewed_both : (a b c : ℕ → Fan → Bool) (made : Fan → FanRow → List ℕ → FanRow) (old mid new : Rows) → IsSteady made → Renews a made old mid → Renews b made mid new
    → ((vid : ℕ) → IsVid vid → (k : Fan) → c vid k ≡ (b vid k || a vid k)) → Renews c made old new
renewed_both a b c made old mid new steady first second either = record {
  fans = λ vid in_range k.
      by_both (a vid k) (b vid k) (c vid k) (λ row. made k row (vlan_at old vid).members) (fan_at old vid k) (fan_at mid vid k) (fan_at new vid k)
      (steady k (fan_at old vid k) (vlan_at old vid).members) (either vid in_range k) (first.fans vid in_range k)
      (second.fans vid in_range k
      ∙ ap (λ (r : VlanRow). cond (b vid k) (made k (fan_at mid vid k) r.members) (fan_at mid vid k)) (ap (λ (r : Rows). vlan_at r vid) first.rest));
  rest = second.rest ∙ ap (λ (r : Rows). record r { unicast = new.unicast; mcast = new.mcast; bcast = new.bcast; routers = new.routers }) first.rest;
}

-- one row
pub renewed_one : (here : ℕ → Bool) (v : ℕ) (fan : Fan) (made : FanRow → List ℕ → FanRow) (old new : Rows) → WritesFan old new v fan (made (fan_at old v fan) (vlan_at old v).members)
    → ((vid : ℕ) → IsVid vid → here vid ≡ (vid == v)) → Renews (λ w k. here w && same_fan k fan) (λ k. made) old new
renewed_one here v fan made old new writes is = record {
  fans = λ vid in_range k.
      writes.written vid k ∙ by vid k (vid == v) (same_fan k fan) (eqb-true vid v) (fan_is k fan)
      ∙ ap (λ b. cond (b && same_fan k fan) (made (fan_at old vid k) (vlan_at old vid).members) (fan_at old vid k)) (sym (is vid in_range));
  rest = writes.rest;
}
  where
    by : (vid : ℕ) (k : Fan) (a b : Bool) → (a ≡ true → vid ≡ v) → (b ≡ true → k ≡ fan)
        → cond (a && b) (made (fan_at old v fan) (vlan_at old v).members) (fan_at old vid k) ≡ cond (a && b) (made (fan_at old vid k) (vlan_at old vid).members) (fan_at old vid k)
    by vid k true true h i = ap₂ (λ n f. made (fan_at old n f) (vlan_at old n).members) (sym (h refl)) (sym (i refl))
    by vid k true false h i = refl
    by vid k false b h i = refl

-- rows of one kind, made alike, where they are touched
pub renewed_alike : (here : ℕ → Bool) (fan : Fan) (touched : Bool) (one : FanRow → List ℕ → FanRow) (made : Fan → FanRow → List ℕ → FanRow) (old new : Rows) → touched ≡ true
    → ((row : FanRow) (members : List ℕ) → one row members ≡ made fan row members) → Renews (λ w k. here w && same_fan k fan) (λ k. one) old new
    → Renews (λ w k. here w && (same_fan k fan && touched)) made old new
renewed_alike here fan touched one made old new on alike first = record {
  fans = λ vid in_range k. first.fans vid in_range k ∙ by vid k (here vid) (same_fan k fan) (fan_is k fan);
  rest = first.rest;
}
  where
    by : (vid : ℕ) (k : Fan) (a b : Bool) → (b ≡ true → k ≡ fan)
        → cond (a && b) (one (fan_at old vid k) (vlan_at old vid).members) (fan_at old vid k)
        ≡ cond (a && (b && touched)) (made k (fan_at old vid k) (vlan_at old vid).members) (fan_at old vid k)
    by vid k true true h =
        alike (fan_at old vid k) (vlan_at old vid).members ∙ ap (λ f. made f (fan_at old vid k) (vlan_at old vid).members) (sym (h refl))
        ∙ ap (λ t. cond t (made k (fan_at old vid k) (vlan_at old vid).members) (fan_at old vid k)) (sym on)
    by vid k true false h = refl
    by vid k false b h = refl
