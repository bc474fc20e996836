-- How the rows of VLANs follow a change of a port.
use Rattle.std.specs.Prelude.{◌≡◌, ℕ, ◌==◌, Bool, not, ◌&&◌, ◌||◌, List, if◌then◌else◌}
use Rattle.br_model.specs.Table.Domains.{host}
use Rattle.port_sets.specs.Numbers.{has_number}
use Rattle.chip_tables.specs.declared.rows.FanRow.{FanRow}
use Rattle.chip_tables.specs.Rows.{Rows, vlan_at}
use Rattle.chip_tables.specs.Stands.{IsVid, ports_where, some_port}
use Rattle.chip_tables.specs.Writing.{switched_fan}
use Rattle.chip_driver.specs.declared.fans.Fan.{Fan}
use Rattle.chip_driver.specs.declared.fans.Sets.{Sets}
use Rattle.chip_driver.specs.declared.fans.Edit.{Edit}
use Rattle.chip_driver.specs.declared.fans.Edit.TheVariants.{Switch, Make}
use Rattle.chip_driver.specs.declared.shadow.Shadow.{Shadow}
use Rattle.chip_driver.specs.Shadows.{Has, is_wanted, fan_made}
use Rattle.chip_driver.specs.Settled.{fan_at}

-- The ports that a row has, and those that set each of its bits, as members of the VLAN.
pub record AreSets (s : Shadow) (fan : Fan) (sets : Sets) : Type 0 where
  pub ports : Has sets.ports (λ q. is_wanted s fan q && has_number s.own q)
  pub plain : Has sets.plain (λ q. (is_wanted s fan q && not (has_number s.own q)) && ((q == host) || has_number s.forwarding q))
  pub isolated : Has sets.isolated
      (λ q. ((is_wanted s fan q && not (has_number s.own q)) && ((q == host) || has_number s.forwarding q)) && ((q == host) || not (has_number s.isolated q)))

-- the row of a VLAN with these members
abbrev pub row_of : Sets → List ℕ → FanRow
row_of sets members = record {
  ports = ports_where (λ q. has_number members q && has_number sets.ports q);
  isolated = some_port (λ q. has_number members q && has_number sets.isolated q);
  plain = some_port (λ q. has_number members q && has_number sets.plain q);
}

-- the row after an edit, in a VLAN with these members
abbrev pub edited : Edit → FanRow → List ℕ → FanRow
edited (Switch port on) row members = switched_fan row port on
edited (Make sets) row members = row_of sets members

-- The row after a change of a port, by whether it is a member now: a port of the chip is switched in it, and for another it is made anew.
abbrev pub follows : Shadow → ℕ → Bool → Fan → FanRow → List ℕ → FanRow
follows s port member fan row members = if has_number s.own port then switched_fan row port (member && is_wanted s fan port) else fan_made s members fan

-- The rows of VLANs that pass are made of what they were and of the members, and all other rows stay.
pub record Renews (test : ℕ → Fan → Bool) (made : Fan → FanRow → List ℕ → FanRow) (old new : Rows) : Type 0 where
  pub fans : (vid : ℕ) → IsVid vid → (fan : Fan)
      → fan_at new vid fan ≡ (if test vid fan then made fan (fan_at old vid fan) (vlan_at old vid).members else fan_at old vid fan)
  pub rest : new ≡ record old { unicast = new.unicast; mcast = new.mcast; bcast = new.bcast; routers = new.routers }
