-- What sets of ports tell of the parts of a table.
use Rattle.std.proofs.Common.{◌≡◌, ℕ, ◌<◌, arith, Bool, true, false, not, ◌&&◌, cond, List, refl, sym, ap, ap₂, ◌∙◌, inl, inr}
use Rattle.std.specs.Prelude.{◌==◌}
use Rattle.std.specs.Ordering.{nat_cmp}
use Rattle.std.proofs.Math.Bool.{and-false}
use Rattle.std.proofs.lemmas.Bool.{eq-eqb, ne_eqb, cases_lt}
use Rattle.std.proofs.lemmas.Bool.Decides.{eqb_tells}
use Rattle.br_model.specs.Forward.Admission.{forwarding, is_forwarding, member}
use Rattle.br_model.specs.Table.Domains.{host, port_places}
use Rattle.br_model.specs.Forward.Eligible.{may}
use Rattle.br_model.specs.Data.Maps.{get, has, put, joined, parted, without}
use Rattle.br_model.specs.Table.Table.{Table, apply, default_flags, disabled}
use Rattle.br_model.specs.Forward.Targets.{has_flag, isolated}
use Rattle.br_model.specs.declared.change.Change.TheVariants.{PortUp, PortDown}
use Rattle.br_model.proofs.Data.Sets.{has-is}
use Rattle.port_sets.specs.Numbers.{has_number}
use Rattle.port_sets.proofs.Numbers.{has-above}
use Rattle.vlan_groups.specs.Rows.{ports_where}
use Rattle.forward_rules.specs.PortSets.{ArePorts, flag_is_set, flagged, state_is, in_state, placed}
use Rattle.forward_rules.proofs.SetLaws.{member-of}

-- the parts of a port that comes up
pub comes_up : (t : Table) (p : ℕ) (up : List ℕ) (flags state : List (ℕ × ℕ)) → up ≡ joined nat_cmp t.up p → flags ≡ put nat_cmp t.flags p default_flags → state ≡ put nat_cmp t.state p disabled
    → record t { up = up; flags = flags; state = state } ≡ apply t (PortUp p)
comes_up t p up flags state u f s =
    ap (λ (x : List ℕ). record t { up = x; flags = flags; state = state }) u
    ∙ ap₂ (λ (x y : List (ℕ × ℕ)). record t { up = joined nat_cmp t.up p; flags = x; state = y }) f s

-- those of one that goes down
pub goes_down : (t : Table) (p : ℕ) (up : List ℕ) (flags state : List (ℕ × ℕ)) → up ≡ parted nat_cmp t.up p → flags ≡ without nat_cmp t.flags p → state ≡ without nat_cmp t.state p
    → record t { up = up; flags = flags; state = state } ≡ apply t (PortDown p)
goes_down t p up flags state u f s =
    ap (λ (x : List ℕ). record t { up = x; flags = flags; state = state }) u
    ∙ ap₂ (λ (x y : List (ℕ × ℕ)). record t { up = parted nat_cmp t.up p; flags = x; state = y }) f s

-- whether a port of the set is in the state
pub in-state : (states : List (ℕ × ℕ)) (state n p : ℕ) (set : List ℕ) → set ≡ in_state states state → p < port_places → n ≡ p → has_number set n ≡ state_is (get nat_cmp states p) state
in-state states state n p set e low is = ap (has_number set) is ∙ member-of (λ q. state_is (get nat_cmp states q) state) set p e low

pub has-flag : (flags : List (ℕ × ℕ)) (flag n p : ℕ) (set : List ℕ) → set ≡ flagged flags flag → p < port_places → n ≡ p → has_number set n ≡ flag_is_set (get nat_cmp flags p) flag
has-flag flags flag n p set e low is = ap (has_number set) is ∙ member-of (λ q. flag_is_set (get nat_cmp flags q) flag) set p e low

pub is-forwarding : (t : Table) (n k p : ℕ) (up forwards : List ℕ) → up ≡ t.up → forwards ≡ in_state t.state forwarding → p < port_places → n ≡ p → k ≡ p
    → (has_number up n && has_number forwards k) ≡ is_forwarding t p
is-forwarding t n k p up forwards u f low is same =
    ap₂ ◌&&◌ (ap₂ has_number u is ∙ sym (has-is t.up p)) (in-state t.state forwarding k p forwards f low same)

-- whether a port other than the host may take a frame
abbrev elsewhere : Table → ℕ → ℕ → ℕ → Bool
elsewhere t p vid q = not (q == p) && (is_forwarding t q && (member t q vid && not (has_flag t p isolated && has_flag t q isolated)))

-- the ports that may take a frame
pub may-take : (t : Table) (p vid n k h : ℕ) (members up forwards both among others alone allowed set : List ℕ) (on : Bool) → p < port_places → n ≡ p → k ≡ p → h ≡ host
    → members ≡ ports_where (λ q. member t q vid) → up ≡ t.up → forwards ≡ in_state t.state forwarding
    → both ≡ ports_where (λ q. has_number up q && has_number forwards q) → among ≡ ports_where (λ q. has_number members q && has_number both q)
    → others ≡ ports_where (λ q. has_number among q && not (q == n)) → alone ≡ flagged t.flags isolated
    → ((q : ℕ) → q < port_places → has_number allowed q ≡ (has_number others q && not (has_number alone k && has_number alone q)))
    → on ≡ has_number members h → set ≡ placed allowed host on
    → (q : ℕ) → q < port_places → has_number set q ≡ may t p q vid
may-take t p vid n k h members up forwards both among others alone allowed set on small is same zero m u f b a o i allow there made q low =
    member-of _ set q made low ∙ elim (eqb_tells q host) [
      | inl e ↦
          ap (λ c. cond c on (has_number allowed q)) (eq-eqb q host e.1)
          ∙ there
          ∙ ap (has_number members) zero
          ∙ ap (has_number members) (sym e.1)
          ∙ member-of _ members q m low
          ∙ sym (ap (λ c. cond c (member t q vid) (elsewhere t p vid q)) (eq-eqb q host e.1))
      | inr e ↦
          ap (λ c. cond c on (has_number allowed q)) (ne_eqb q host e.1)
          ∙ allow q low
          ∙ ap₂ (λ x y. x && not y)
          (member-of _ others q o low
          ∙ ap₂ (λ x m. x && not (q == m))
          (member-of _ among q a low ∙ ap₂ ◌&&◌ (member-of _ members q m low) (member-of _ both q b low ∙ is-forwarding t q q q up forwards u f low refl refl))
          is)
          (ap₂ ◌&&◌ (has-flag t.flags isolated k p alone i small same) (has-flag t.flags isolated q q alone i low refl))
          ∙ turn (member t q vid) (is_forwarding t q) (not (q == p)) (not (has_flag t p isolated && has_flag t q isolated))
          ∙ sym (ap (λ c. cond c (member t q vid) (elsewhere t p vid q)) (ne_eqb q host e.1))
    ]
  where
    turn : (m f e x : Bool) → (((m && f) && e) && x) ≡ (e && (f && (m && x)))
    turn true true true x = refl
    turn true true false x = refl
    turn true false true x = refl
    turn true false false x = refl
    turn false true true x = refl
    turn false true false x = refl
    turn false false true x = refl
    turn false false false x = refl

-- these are ports
pub may-within : (t : Table) (p vid : ℕ) (forwards set : List ℕ) → forwards ≡ in_state t.state forwarding → ArePorts forwards → set ≡ ports_where (λ q. may t p q vid) → ArePorts set
may-within t p vid forwards set f within made n behind = elim (cases_lt n port_places) [
  | inl low ↦
      member-of (λ q. may t p q vid) set n made low
      ∙ ap (λ b. cond b (member t n vid) (elsewhere t p vid n)) (ne_eqb n host (omega (arith, behind)))
      ∙ ap (λ b. not (n == p) && (b && (member t n vid && not (has_flag t p isolated && has_flag t n isolated)))) (rests low)
      ∙ and-false (not (n == p))
  | inr high ↦ ap (λ (ns : List ℕ). has_number ns n) made ∙ has-above (λ q. may t p q vid) port_places n (omega (arith, high))
]
  where
    rests : n < port_places → is_forwarding t n ≡ false
    rests low = ap (λ b. has nat_cmp t.up n && b) (sym (in-state t.state forwarding n n forwards f low refl) ∙ within n behind) ∙ and-false (has nat_cmp t.up n)
