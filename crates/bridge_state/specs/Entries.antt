-- The addresses of a table, and their moments beside them.
use Rattle.std.specs.Prelude.{ℕ, ◌≡◌, ◌+◌, ◌^◌, ◌-◌, ◌==◌, nat_le, Bool, false, ◌&&◌, List, map, IsTrue}
use Rattle.std.specs.List.{filter}
use Rattle.std.specs.declared.option.Option.{Option}
use Rattle.std.specs.Option.{option_map_or, unwrap_or}
use Rattle.br_model.specs.declared.change.Kind.{Kind}
use Rattle.br_model.specs.Control.Ageing.{is_old}
use Rattle.br_model.specs.Control.Learning.{Address, is_dynamic, is_learned}
use Rattle.br_model.specs.Table.Limits.{most_addresses}
use Rattle.br_model.specs.Data.Maps.{pair_cmp, get, is_ascending}
use Rattle.fdb_core.specs.declared.entries.Entry.{Entry}
use Rattle.fdb_core.specs.Fdb.{Table, all_from, oldest}

pub record Entries : Type 0 where
  -- at a VLAN and an address: its port and its kind
  pub addr : List ((ℕ × ℕ) × (ℕ × Kind))
  -- when it was put there, or renewed last
  pub updated : List ((ℕ × ℕ) × ℕ)
  -- no learned entry has an earlier moment
  pub oldest : ℕ

-- the addresses at the port, ascending
abbrev pub keys_at : ℕ → List (Address × (ℕ × Kind)) → List Address
keys_at port addr = map (λ e. e.0) (filter (λ e. e.1.0 == port) addr)

-- the learned addresses that are old at the moment `now`, where they stay for `hold`
abbrev pub old_keys : ℕ → ℕ → Entries → List Address
old_keys now hold s = map (λ e. e.0) (filter (λ e. is_learned e.1.1 && is_old now hold s.updated e.0) s.addr)

-- whether the bound is over by then: none of the entries is old before
abbrev pub is_due : ℕ → ℕ → Entries → Bool
is_due now hold s = nat_le (s.oldest + hold) now

-- whether there is an entry at the port that frames renew
abbrev pub is_renewed_by : ℕ → Option (ℕ × Kind) → Bool
is_renewed_by port o = option_map_or (λ e. is_dynamic e.1 && e.0 == port) o false

-- the entries with their moments, as a database has them
abbrev pub entries_of : Entries → List (Address × Entry)
entries_of s = map (λ e. (e.0, record { port = e.1.0; kind = e.1.1; updated = unwrap_or (get pair_cmp s.updated e.0) 0 })) s.addr

-- the last moment that there can be
abbrev pub last_moment : ℕ
last_moment = 2 ^ 64 - 1

-- the least moment of a learned entry; where there is none, the last that there can be
abbrev pub exact_bound : Entries → ℕ
exact_bound s = unwrap_or (oldest (entries_of s)) last_moment

-- a database that has room for all, and the moment that no learned entry of it precedes
pub record IsKept (fdb : Table) (oldest : ℕ) : Type 0 where
  pub room : fdb.room ≡ most_addresses
  pub ascending : IsTrue (is_ascending pair_cmp fdb.entries)
  pub bounded : IsTrue (all_from oldest fdb.entries)
