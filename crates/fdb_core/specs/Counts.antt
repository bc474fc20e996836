-- How many entries each port has.
use Rattle.std.specs.Prelude.{◌≡◌, ℕ, ◌+◌, ◌-◌, cond, List, [], ◌∷◌, length, slice_index, slice_set}
use Rattle.std.specs.declared.option.Option.{Option}
use Rattle.std.specs.declared.option.Option.TheVariants.{None, Some}
use Rattle.br_model.specs.Table.Domains.{port_places}
use Rattle.fdb_core.specs.declared.entries.Entry.{Entry}
use Rattle.fdb_core.specs.Fdb.{is_at_port}

abbrev pub one_at : ℕ → Entry → ℕ
one_at port entry = cond (is_at_port port entry) 1 0

abbrev pub one_if : ℕ → Option Entry → ℕ
one_if port None = 0
one_if port (Some entry) = one_at port entry

abbrev pub count_at : ℕ → List (ℕ × Entry) → ℕ
count_at port [] = 0
count_at port (e ∷ es) = one_at port e.1 + count_at port es

-- the numbers where an entry goes, and where one comes

abbrev pub less_one : Option Entry → List ℕ → List ℕ
less_one None counts = counts
less_one (Some entry) counts = slice_set counts entry.port (slice_index counts entry.port - 1)

abbrev pub one_more : ℕ → List ℕ → List ℕ
one_more port counts = slice_set counts port (slice_index counts port + 1)

-- what the numbers count
pub record AreCounts (counts : List ℕ) (es : List (ℕ × Entry)) : Type 0 where
  pub sized : length counts ≡ port_places
  pub counted : (port : ℕ) → slice_index counts port ≡ count_at port es
