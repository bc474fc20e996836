-- Where the lookup leads a frame that a port of the chip admitted in a VLAN.
use Rattle.std.specs.Prelude.{ℕ, ◌≡◌, ◌<◌, Bool, false, ◌&&◌, ◌||◌, if◌then◌else◌, List, [], ◌∷◌}
use Rattle.std.specs.declared.option.Option.{Option}
use Rattle.std.specs.declared.option.Option.TheVariants.{None, Some}
use Rattle.std.specs.Option.{option_map}
use Rattle.std.specs.Ordering.{nat_cmp}
use Rattle.br_model.specs.declared.frame.Head.{Head}
use Rattle.br_model.specs.declared.frame.McastMsg.{McastMsg}
use Rattle.br_model.specs.declared.group.Group.{Group}
use Rattle.br_model.specs.Forward.Class.{crosses, reaches_host}
use Rattle.br_model.specs.Table.Domains.{Domains, foreign, port_places}
use Rattle.br_model.specs.Forward.Eligible.{may}
use Rattle.br_model.specs.Table.GroupPairs.{group_pair_cmp, group_pairs}
use Rattle.br_model.specs.Data.Maps.{pair_cmp, get, has}
use Rattle.br_model.specs.Table.Table.{Table}
use Rattle.br_model.specs.Forward.Targets.{targets}
use Rattle.chip_tables.specs.declared.rows.AddressRow.{AddressRow}
use Rattle.chip_tables.specs.declared.rows.FanRow.{FanRow}
use Rattle.chip_tables.specs.Stands.{address_wanted, fan_wanted, is_grouped}
use Rattle.chip_pipeline.specs.declared.lookup.Way.{Way}
use Rattle.chip_pipeline.specs.declared.lookup.Way.TheVariants.{Nowhere, One, Many}

-- The row is the one of these targets, as far as they may take the frame.
pub record Leads (domains : Domains) (dom : ℕ) (t : Table) (port vid : ℕ) (row : FanRow) (goals : List ℕ) : Type 0 where
  pub target : ℕ → Bool
  pub wanted : row ≡ fan_wanted domains dom t vid target
  pub same : (q : ℕ) → q < port_places → (target q && may t port q vid) ≡ (has nat_cmp goals q && may t port q vid)

-- whether the processor alone is to have the frame for where it is to go: a station or the host that the chip doesn't reach
abbrev pub leaves_chip : Domains → Table → ℕ → ℕ → Head → Bool
leaves_chip domains t port vid head = reaches_host t port vid head || crosses domains t port vid head

-- One port is where the frame is to go, and the processor alone has it where that port is elsewhere and may take it.
pub record LeadsTo (domains : Domains) (t : Table) (port vid : ℕ) (head : Head) (q : ℕ) (goals : List ℕ) : Type 0 where
  pub below : q < port_places
  pub goal : goals ≡ q ∷ []
  pub alone : leaves_chip domains t port vid head ≡ (foreign domains port q && may t port q vid)

-- The way leads where the table says.
abbrev pub IsWay : Domains → ℕ → Table → ℕ → ℕ → Head → McastMsg → Way → Type 0
IsWay domains dom t port vid head msg Nowhere = (targets t vid head msg ≡ []) × (leaves_chip domains t port vid head ≡ false)
IsWay domains dom t port vid head msg (One q) = LeadsTo domains t port vid head q (targets t vid head msg)
IsWay domains dom t port vid head msg (Many row) = Leads domains dom t port vid row (targets t vid head msg) × (leaves_chip domains t port vid head ≡ false)

-- The way is a row that leads to these targets.
abbrev pub IsMany : Domains → ℕ → Table → ℕ → ℕ → List ℕ → Way → Type 0
IsMany domains dom t port vid goals Nowhere = ⊥
IsMany domains dom t port vid goals (One q) = ⊥
IsMany domains dom t port vid goals (Many row) = Leads domains dom t port vid row goals

-- the row that a table wants for an address
abbrev pub entry_wanted : Table → ℕ → ℕ → Option AddressRow
entry_wanted t vid mac = option_map address_wanted (get pair_cmp t.addr (vid, mac))

-- the row that a table wants for a group: none where the group has no member
abbrev pub group_wanted : Domains → ℕ → Table → ℕ → Group → Option FanRow
group_wanted domains dom t vid group =
    if has group_pair_cmp (group_pairs t.groups) (vid, group) then Some (fan_wanted domains dom t vid (is_grouped t vid group)) else None
