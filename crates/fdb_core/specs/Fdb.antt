-- What a forwarding database holds, and which of its entries a question names.
-- Source: IEEE 802.1D-1998 section 7.9 (the filtering database, ageing), the kernel's net/bridge (kinds of entries).
use Rattle.std.specs.Prelude.{ℕ, ◌+◌, ◌==◌, nat_le, Bool, true, false, not, ◌&&◌, ◌||◌, if◌then◌else◌, List, map}
use Rattle.std.specs.List.{filter, list_all}
use Rattle.std.specs.declared.option.Option.{Option}
use Rattle.std.specs.declared.option.Option.TheVariants.{None, Some}
use Rattle.std.specs.Option.{option_map_or}
use Rattle.open_addressing.specs.Least.{least}
use Rattle.br_model.specs.Control.Learning.{Address, is_dynamic, is_learned}
use Rattle.br_model.specs.Data.Maps.{pair_cmp, put}
use Rattle.br_model.specs.declared.change.Kind.{Kind}
use Rattle.fdb_core.specs.declared.entries.Entry.{Entry}

-- the entries, ascending by VLAN and address, and how many there is room for
pub record Table : Type 0 where
  pub entries : List ((ℕ × ℕ) × Entry)
  pub room : ℕ

-- the keys of the entries that pass, ascending
abbrev pub keys_where : (Entry → Bool) → List ((ℕ × ℕ) × Entry) → List (ℕ × ℕ)
keys_where passes entries = map (λ e. e.0) (filter (λ e. passes e.1) entries)

abbrev pub is_at_port : ℕ → Entry → Bool
is_at_port port entry = entry.port == port

-- learned, and not seen for the time `hold`
abbrev pub is_expired : ℕ → ℕ → Entry → Bool
is_expired now hold entry = is_learned entry.kind && nat_le (entry.updated + hold) now

abbrev pub place : Entry → ℕ × Kind
place entry = (entry.port, entry.kind)

-- the entries without their moments, as the bridge's table has them
abbrev pub addresses : List ((ℕ × ℕ) × Entry) → List ((ℕ × ℕ) × (ℕ × Kind))
addresses entries = map (λ e. (e.0, place e.1)) entries

-- the moments without their entries
abbrev pub moments : List ((ℕ × ℕ) × Entry) → List ((ℕ × ℕ) × ℕ)
moments entries = map (λ e. (e.0, e.1.updated)) entries

-- learned at the moment
abbrev pub learned_at : ℕ → Entry → Bool
learned_at moment entry = is_learned entry.kind && entry.updated == moment

-- the moment of a learned entry
abbrev pub learned_moment : Entry → Option ℕ
learned_moment entry = if is_learned entry.kind then Some entry.updated else None

-- the least moment of the learned entries
abbrev pub oldest : List ((ℕ × ℕ) × Entry) → Option ℕ
oldest entries = least learned_moment entries

-- no earlier than this, if it was learned
abbrev pub is_from : ℕ → Entry → Bool
is_from moment entry = not (is_learned entry.kind) || nat_le moment entry.updated

-- whether no learned entry is earlier than this
abbrev pub all_from : ℕ → List ((ℕ × ℕ) × Entry) → Bool
all_from moment entries = list_all (λ e. is_from moment e.1) entries

-- whether it is of a kind that frames renew, and at the port
abbrev pub is_dynamic_at : ℕ → Entry → Bool
is_dynamic_at port entry = is_dynamic entry.kind && entry.port == port

-- whether there is an entry that passes
abbrev pub is_one : (Entry → Bool) → Option Entry → Bool
is_one passes o = option_map_or passes o false

-- the entries, where this one is that of the key, and has the moment from now on if it passes
abbrev pub renewed_if : (Entry → Bool) → ℕ → Address → Option Entry → List (Address × Entry) → List (Address × Entry)
renewed_if passes moment key None entries = entries
renewed_if passes moment key (Some e) entries = if passes e then put pair_cmp entries key (record e { updated = moment }) else entries
