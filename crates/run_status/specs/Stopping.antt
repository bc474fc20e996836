-- How a run ends that stopped on its way.
use Rattle.std.specs.Prelude.{ℕ, List, codes}
use Rattle.std.specs.declared.result.Result.{Result}
use Rattle.std.specs.declared.result.Result.TheVariants.{Ok, Err}
use Rattle.run_io.specs.Causes.{Rose}
use Rattle.run_status.specs.declared.stop.Stop.{Stop}
use Rattle.run_status.specs.declared.stop.Stop.TheVariants as stops
use Rattle.run_status.specs.declared.status.Status.{Status}
use Rattle.run_status.specs.declared.status.Status.TheVariants as statuses
use Rattle.run_status.specs.Statuses.{last_line}

abbrev pub stop_line : Stop → List ℕ
stop_line stops.ReadFault = last_line (codes "read fault")
stop_line stops.NoMemory = last_line (codes "no memory")
stop_line stops.TooLong = last_line (codes "too long")

abbrev pub stop_status : Stop → Status
stop_status stops.ReadFault = statuses.ReadFault
stop_status stops.NoMemory = statuses.NoMemory
stop_status stops.TooLong = statuses.TooLong

-- a fault of reading comes only where the count of faults rose
abbrev pub Caused : {T : Type 0} → ℕ → ℕ → Result T Stop → Type 0
Caused before now (Ok x) = Unit {0}
Caused before now (Err stops.ReadFault) = Rose before now
Caused before now (Err stops.TooLong) = Unit {0}
Caused before now (Err stops.NoMemory) = Unit {0}
