-- What a sweep says of the entry in an address row, if a chip learned it.
use Rattle.std.specs.Prelude.{ℕ, Bool, not, ◌&&◌, if◌then◌else◌, List}
use Rattle.std.specs.declared.option.Option.{Option}
use Rattle.std.specs.declared.option.Option.TheVariants.{None, Some}
use Rattle.br_model.specs.Table.DomainPorts.{is_in_domain}
use Rattle.br_model.specs.Table.Domains.{Domains}
use Rattle.br_model.specs.Control.Learning.{Address, Triple}
use Rattle.br_model.specs.Data.Maps.{pair_cmp, has}
use Rattle.chip_tables.specs.declared.rows.AddressRow.{AddressRow}

-- whether the port is one of the chip's domain and no frame hit the entry
abbrev pub is_unhit : Domains → ℕ → List Address → Address → ℕ → Bool
is_unhit domains dom hits key port = is_in_domain domains dom port && not (has pair_cmp hits key)

-- the station and its port, if so
abbrev pub unseen : Domains → ℕ → List Address → Option (Address × AddressRow) → Option Triple
unseen domains dom hits None = None
unseen domains dom hits (Some e) = if is_unhit domains dom hits e.0 e.1.port then Some (e.0.0, e.0.1, e.1.port) else None
