-- What the declarations of ports keep.
-- Source: this profile.
use Rattle.std.specs.Prelude.{Bool, true, not, ◌&&◌, nat_le, List, [], ◌∷◌}
use Rattle.std.specs.Option.{is_some}
use Rattle.br_model.specs.Table.Domains.{last_port, last_chip}
use Rattle.br_model.specs.Text.Roster.{Entry, has_number, port_named, is_name}

-- Whether a port may be declared beside others: its number is from 1 to that of the last port, its domain is the software's or one that
-- a chip can have, its name is one, and they have neither this number nor this name.
abbrev pub fits_beside : List Entry → Entry → Bool
fits_beside ports e =
    nat_le 1 e.port && (nat_le e.port last_port && (nat_le e.dom last_chip && (is_name e.name
    && (not (has_number ports e.port) && not (is_some (port_named ports e.name))))))

-- whether each of the ports fits beside those after it
abbrev pub are_declared : List Entry → Bool
are_declared [] = true
are_declared (e ∷ ports) = fits_beside ports e && are_declared ports
