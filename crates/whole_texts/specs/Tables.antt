-- The tables of a run, as text.
use Rattle.std.specs.Prelude.{ℕ, false, List, []}
use Rattle.std.specs.declared.option.Option.{Option}
use Rattle.std.specs.declared.option.Option.TheVariants.{None, Some}
use Rattle.br_model.specs.declared.change.Change.{Change}
use Rattle.br_model.specs.declared.listing.Listing.{Listing}
use Rattle.br_model.specs.Plane.World.{World}
use Rattle.br_model.specs.Program.Listings.{listing_text}
use Rattle.br_model.specs.Program.Runs.{run_of}
use Rattle.br_model.specs.Table.Table.{table}
use Rattle.br_model.specs.Text.Scenario.{opened, reads}

-- of a world, where there is one
abbrev pub history_of : Option World → List Change
history_of None = []
history_of (Some w) = w.history

-- What `show` would write of these bytes, however they end: the listing of the table after all steps in them.
abbrev pub shown : Listing → List ℕ → List ℕ
shown listing bytes = let s = reads (opened false) bytes in listing_text listing s.roster.ports (table (run_of s).0.history)
