-- Parts of the bridge's table as sets of ports: those that have a flag, those in a state, those of a list of targets.
use Rattle.std.specs.Prelude.{ℕ, ◌≡◌, ◌<◌, ◌/◌, ◌%◌, ◌^◌, ◌==◌, Bool, false, if◌then◌else◌, List}
use Rattle.std.specs.declared.option.Option.{Option}
use Rattle.std.specs.declared.option.Option.TheVariants.{Some}
use Rattle.std.specs.Option.{option_eq, unwrap_or}
use Rattle.std.specs.Ordering.{nat_cmp}
use Rattle.br_model.specs.Forward.Admission.{forwarding}
use Rattle.br_model.specs.Data.Maps.{get, has}
use Rattle.br_model.specs.Forward.Targets.{flood, mcast_flood, bcast_flood, isolated}
use Rattle.br_model.specs.Table.Domains.{last_port}
use Rattle.port_sets.specs.Numbers.{has_number}
use Rattle.vlan_groups.specs.Rows.{ports_where}

-- whether the flag is among these, if there are any
abbrev pub flag_is_set : Option ℕ → ℕ → Bool
flag_is_set flags flag = unwrap_or flags 0 / 2 ^ flag % 2 == 1

-- the ports that have the flag, by the flags of each port
abbrev pub flagged : List (ℕ × ℕ) → ℕ → List ℕ
flagged flags flag = ports_where (λ port. flag_is_set (get nat_cmp flags port) flag)

abbrev pub state_is : Option ℕ → ℕ → Bool
state_is found state = option_eq (λ x y. x == y) found (Some state)

-- the ports in the state, by the state of each port
abbrev pub in_state : List (ℕ × ℕ) → ℕ → List ℕ
in_state states state = ports_where (λ port. state_is (get nat_cmp states port) state)

-- the set with the port or without it
abbrev pub placed : List ℕ → ℕ → Bool → List ℕ
placed set port on = ports_where (λ q. if q == port then on else has_number set q)

-- the ports that the list names
abbrev pub set_of : List ℕ → List ℕ
set_of ports = ports_where (has nat_cmp ports)

-- no number behind the last port is among these
abbrev pub ArePorts : List ℕ → Type 0
ArePorts numbers = (n : ℕ) → last_port < n → has_number numbers n ≡ false

-- these are the ports that have each of the flags that are asked of all ports
pub record AreFlagged (flags : List (ℕ × ℕ)) (floods mcast_floods bcast_floods isolates : List ℕ) : Type 0 where
  pub flood : floods ≡ flagged flags flood
  pub mcast_flood : mcast_floods ≡ flagged flags mcast_flood
  pub bcast_flood : bcast_floods ≡ flagged flags bcast_flood
  pub isolated : isolates ≡ flagged flags isolated

-- these are the ports that forward
pub record AreInState (states : List (ℕ × ℕ)) (forwards : List ℕ) : Type 0 where
  pub forward : forwards ≡ in_state states forwarding
  pub within : ArePorts forwards
