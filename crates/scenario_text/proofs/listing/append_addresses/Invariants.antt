use Rattle.std.proofs.Common.{◌≡◌, ◌++◌}
use Rattle.std.specs.List.{flat_map}
use Rattle.std.specs.String.{string_bytes}
use Rattle.br_model.specs.Program.Listings.{fdb_line}
use Rattle.scenario_text.proofs.listing.append_addresses.Given as goal

abbrev pub invariant-loop-vid : goal.invariant-loop-vid
invariant-loop-vid l =
    string_bytes l.to ++ flat_map (fdb_line l.roster.ports) l.vid-iterator ≡ string_bytes l.fn.to ++ flat_map (fdb_line l.roster.ports) l.table.addr
