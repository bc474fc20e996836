-- Memberships that are kept as a row of two port sets a VLAN.
use Rattle.std.specs.Prelude.{ℕ, ◌+◌, nat_lt, Bool, ◌&&◌, if◌then◌else◌, List, [], ◌∷◌, ◌++◌, map}
use Rattle.std.specs.declared.option.Option.{Option}
use Rattle.std.specs.declared.option.Option.TheVariants.{None, Some}
use Rattle.br_model.specs.Table.Domains.{port_places}
use Rattle.port_sets.specs.Numbers.{numbers_below, has_number}
use Rattle.vlan_groups.specs.declared.row.Row.{Row}

-- the ports that pass, ascending
abbrev pub ports_where : (ℕ → Bool) → List ℕ
ports_where passes = numbers_below port_places passes

-- the row of no member
abbrev pub no_ports : Row
no_ports = record { members = []; untagged = [] }

-- at a port: where it is a member, whether the VLAN's frames leave it untagged
abbrev pub at_port : Row → ℕ → Option Bool
at_port row port = if nat_lt port port_places && has_number row.members port then Some (has_number row.untagged port) else None

-- the memberships of a VLAN, ascending by port
abbrev pub memberships : ℕ → Row → List ((ℕ × ℕ) × Bool)
memberships vid row = map (λ port. ((vid, port), has_number row.untagged port)) (ports_where (has_number row.members))

-- those of each VLAN from this one on
abbrev pub memberships_from : ℕ → List Row → List ((ℕ × ℕ) × Bool)
memberships_from vid [] = []
memberships_from vid (row ∷ rows) = memberships vid row ++ memberships_from (vid + 1) rows
