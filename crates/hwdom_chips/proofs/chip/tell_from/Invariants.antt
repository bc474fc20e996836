use Rattle.std.proofs.Common.{◌≡◌, ℕ, ◌≤◌, take}
use Rattle.br_model.specs.Table.Cut.{cut, deferred_count}
use Rattle.br_model.specs.Table.Domains.{Domains}
use Rattle.br_model.specs.Table.Table.{table}
use Rattle.chip_driver.specs.Drives.{Drives}
use Rattle.hwdom_chips.proofs.chip.tell_from.Given as goal

abbrev pub invariant-loop-place : goal.invariant-loop-place
invariant-loop-place l =
    (l.driver.dom ≡ l.initial.driver.dom)
    × ((domains : Domains) (k : ℕ) → k ≤ deferred_count l.edition (take l.from l.history) → Drives domains l.initial.driver (table (cut l.edition (take l.from l.history) k))
    → (k ≤ deferred_count l.edition (take l.place l.history)) × Drives domains l.driver (table (cut l.edition (take l.place l.history) k)))
    × (l.driver.count ≡ l.initial.driver.count)
