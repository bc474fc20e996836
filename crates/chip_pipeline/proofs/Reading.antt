-- What rows that stand for a table tell of it.
use Rattle.std.proofs.Common.{◌≡◌, ℕ, ◌<◌, true, false, not, ◌&&◌, Option, None, Some, refl, ap, ◌∙◌}
use Rattle.std.specs.Prelude.{◌==◌}
use Rattle.std.specs.Option.{option_eq, unwrap_or}
use Rattle.std.specs.Ordering.{nat_cmp}
use Rattle.std.proofs.lemmas.Bool.{eqb-true, ne_eqb}
use Rattle.lemmas.proofs.Tests.{contradicts}
use Rattle.lemmas.proofs.Numbers.{eqb-sym}
use Rattle.port_sets.specs.Numbers.{has_number}
use Rattle.br_model.specs.Forward.Admission.{learning, forwarding, is_up, is_in_state, is_forwarding, member}
use Rattle.br_model.specs.Table.Domains.{Domains, domain_of, foreign, host, port_places}
use Rattle.br_model.specs.Forward.Eligible.{untagged}
use Rattle.br_model.specs.Data.Maps.{get}
use Rattle.br_model.specs.Table.Table.{Table}
use Rattle.br_model.specs.Forward.Targets.{has_flag}
use Rattle.br_model.proofs.Forward.States.{forwarding-is}
use Rattle.chip_tables.specs.declared.rows.VlanRow.{VlanRow}
use Rattle.chip_tables.specs.Rows.{Rows, vlan_at, port_at}
use Rattle.chip_tables.specs.Stands.{IsVid, Stands, is_own}
use Rattle.chip_tables.specs.Flags.{row_has_flag, row_is_in}
use Rattle.chip_pipeline.proofs.Sets.{member-of}

learning-is : (o : Option ℕ) → (unwrap_or o 0 == learning) ≡ option_eq (λ x y. x == y) o (Some learning)
learning-is None = refl
learning-is (Some n) = refl

module _ (d : Domains) (dom : ℕ) (t : Table) (rows : Rows) (stands : Stands d dom rows t) where
  pub forwards-is : (q : ℕ) → q < port_places → row_is_in (port_at rows q) forwarding ≡ is_forwarding t q
  forwards-is q low = ap (λ r. row_is_in r forwarding) (stands.ports q low) ∙ ap (λ b. is_up t q && b) (forwarding-is (get nat_cmp t.state q))

  pub learns-is : (q : ℕ) → q < port_places → row_is_in (port_at rows q) learning ≡ is_in_state t q learning
  learns-is q low = ap (λ r. row_is_in r learning) (stands.ports q low) ∙ ap (λ b. is_up t q && b) (learning-is (get nat_cmp t.state q))

  pub flag-is : (q flag : ℕ) → q < port_places → row_has_flag (port_at rows q) flag ≡ has_flag t q flag
  flag-is q flag low = ap (λ r. row_has_flag r flag) (stands.ports q low)

  pub member-is : (vid q : ℕ) → IsVid vid → q < port_places → has_number (vlan_at rows vid).members q ≡ member t q vid
  member-is vid q range low = member-of (λ p. member t p vid) (vlan_at rows vid).members q (ap (λ (r : VlanRow). r.members) (stands.vlans vid range)) low

  pub untagged-is : (vid q : ℕ) → IsVid vid → q < port_places → has_number (vlan_at rows vid).untagged q ≡ untagged t q vid
  untagged-is vid q range low = member-of (λ p. untagged t p vid) (vlan_at rows vid).untagged q (ap (λ (r : VlanRow). r.untagged) (stands.vlans vid range)) low

-- of a port of the chip the foreign ones are those elsewhere
pub foreign-is : (d : Domains) (dom p q : ℕ) → is_own d dom p ≡ true → foreign d p q ≡ not (is_own d dom q)
foreign-is d dom p q own = ap not (alike (domain_of d p) (domain_of d q) own)
  where
    alike : (o r : Option ℕ) → option_eq (λ x y. x == y) o (Some dom) ≡ true → option_eq (λ x y. x == y) o r ≡ option_eq (λ x y. x == y) r (Some dom)
    alike None r h = contradicts false h refl
    alike (Some n) None h = refl
    alike (Some n) (Some m) h = ap (λ k. k == m) (eqb-true n dom h) ∙ eqb-sym dom m

pub not-host : (d : Domains) (dom q : ℕ) → is_own d dom host ≡ false → is_own d dom q ≡ true → (q == host) ≡ false
not-host d dom q elsewhere own = ne_eqb q host (λ same. contradicts (is_own d dom q) own (ap (is_own d dom) same ∙ elsewhere))
