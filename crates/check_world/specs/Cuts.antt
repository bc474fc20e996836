-- Chips that follow a history, by the tables of their cuts.
use Rattle.std.specs.Prelude.{◌≡◌, ℕ, ◌==◌, ◌≤◌, List, [], drop, map, slice_get, slice_set}
use Rattle.std.specs.List.{All, find}
use Rattle.std.specs.declared.option.Option.{Option}
use Rattle.std.specs.declared.option.Option.TheVariants.{None, Some}
use Rattle.br_model.specs.declared.change.Change.{Change}
use Rattle.br_model.specs.declared.domains.Edition.{Edition}
use Rattle.br_model.specs.declared.frame.Head.{Head}
use Rattle.br_model.specs.Plane.Chip.{Chip, applies, chip_table, notes}
use Rattle.br_model.specs.Table.Cut.{deferred_count}
use Rattle.br_model.specs.Table.Domains.{Domains, chip_domains}
use Rattle.br_model.specs.Table.Table.{Table, apply}

-- what contracts see of a cut
pub record CutState : Type 0 where
  pub table : Table
  pub chip : Chip

-- The table is the one by which the chip decides; it has applied no more deferred changes than there are.
pub record IsCut (edition : Edition) (history : List Change) (c : CutState) : Type 0 where
  pub table : c.table ≡ chip_table edition history c.chip
  pub applied : c.chip.count ≤ deferred_count edition history

-- What becomes of one.

-- it has applied this deferred change, the next one
abbrev pub turned : CutState → Change → CutState
turned c d = record { table = apply c.table d; chip = applies c.chip d }

-- with what a frame at the port leaves
abbrev pub noted : CutState → ℕ → Head → CutState
noted c port head = record c { chip = notes c.table port head c.chip }

-- without its oldest report
abbrev pub told_first : CutState → CutState
told_first c = record c { chip = record c.chip { reports = drop 1 c.chip.reports } }

abbrev pub without_hits : CutState → CutState
without_hits c = record c { chip = record c.chip { hits = [] } }

-- the same table, of as many deferred changes
pub record KeepsTable (old new : CutState) : Type 0 where
  pub table : new.table ≡ old.table
  pub dom : new.chip.dom ≡ old.chip.dom
  pub count : new.chip.count ≡ old.chip.count

-- what the definitions keep of chips
abbrev pub chips_of : List CutState → List Chip
chips_of states = map (λ c. c.chip) states

-- Each of them is a cut, and they are those of the domains that have a chip, ascending.
pub record AreCuts (domains : Domains) (history : List Change) (states : List CutState) : Type 0 where
  pub each : All (IsCut domains.edition history) states
  pub doms : map (λ c. c.chip.dom) states ≡ chip_domains domains

-- the cut of the domain's chip among these
abbrev pub state_in : List CutState → ℕ → Option CutState
state_in states dom = find (λ c. c.chip.dom == dom) states

-- where it stands, or nowhere
abbrev pub IsPlace : List CutState → ℕ → Option ℕ → Type 0
IsPlace states dom None = state_in states dom ≡ None
IsPlace states dom (Some place) = (c : CutState) × (state_in states dom ≡ Some c) × (slice_get states place ≡ Some c)

-- The cut of the domain's chip became another one, of which this holds.
pub record Changed (old new : List CutState) (dom : ℕ) (is : CutState → CutState → Type 0) : Type 0 where
  pub place : ℕ
  pub was : CutState
  pub now : CutState
  pub found : state_in old dom ≡ Some was
  pub at : slice_get old place ≡ Some was
  pub so : is was now
  pub put : new ≡ slice_set old place now
