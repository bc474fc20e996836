-- Chips that follow a history: their drivers, and what the definitions keep of them.
use Rattle.std.specs.Prelude.{◌≡◌, ℕ, ◌==◌, ◌≤◌, List, map, slice_get}
use Rattle.std.specs.List.{All, find}
use Rattle.std.specs.declared.option.Option.{Option}
use Rattle.std.specs.declared.option.Option.TheVariants.{None, Some}
use Rattle.br_model.specs.declared.change.Change.{Change}
use Rattle.br_model.specs.declared.domains.Edition.{Edition}
use Rattle.br_model.specs.Plane.Chip.{Chip, chip_table}
use Rattle.br_model.specs.Table.Cut.{cut, deferred_count}
use Rattle.br_model.specs.Table.Domains.{Domains, chip_domains}
use Rattle.br_model.specs.Table.Table.{table}
use Rattle.chip_driver.specs.Drives.{Driven, Drives}

-- what contracts see of a chip
pub record ChipState : Type 0 where
  pub driver : Driven
  pub chip : Chip

-- Its rows are those of its domain and stand for the table by which it decides; it has applied no more deferred changes than there
-- are.
pub record IsChip (domains : Domains) (history : List Change) (c : ChipState) : Type 0 where
  pub rows : Drives domains c.driver (chip_table domains.edition history c.chip)
  pub dom : c.driver.dom ≡ c.chip.dom
  pub applied : c.chip.count ≤ deferred_count domains.edition history

-- The driver's rows stand for a cut of the history.
pub record IsCut (edition : Edition) (history : List Change) (driver : Driven) : Type 0 where
  pub domains : Domains
  pub count : ℕ
  pub applied : count ≤ deferred_count edition history
  pub rows : Drives domains driver (table (cut edition history count))

-- what the definitions keep of chips
abbrev pub chips_of : List ChipState → List Chip
chips_of states = map (λ c. c.chip) states

-- Each of them is a chip, and they are those of the domains that have one, ascending.
pub record AreChips (domains : Domains) (history : List Change) (states : List ChipState) : Type 0 where
  pub each : All (IsChip domains history) states
  pub doms : map (λ c. c.chip.dom) states ≡ chip_domains domains

-- the chip of the domain among these
abbrev pub state_in : List ChipState → ℕ → Option ChipState
state_in states dom = find (λ c. c.chip.dom == dom) states

-- where it stands, or nowhere
abbrev pub IsPlace : List ChipState → ℕ → Option ℕ → Type 0
IsPlace states dom None = state_in states dom ≡ None
IsPlace states dom (Some place) = (c : ChipState) × (state_in states dom ≡ Some c) × (slice_get states place ≡ Some c)
