use Rattle.std.proofs.Common.{◌≡◌, ◌==◌, ◌++◌}
use Rattle.std.specs.List.{flat_map, filter, range_with_len}
use Rattle.std.specs.String.{string_bytes}
use Rattle.br_model.specs.Program.Listings.{vlan_line}
use Rattle.scenario_text.proofs.listing.append_memberships.Given as goal

abbrev pub invariant-loop-number : goal.invariant-loop-number
invariant-loop-number l =
    string_bytes l.to
    ≡ string_bytes l.fn.to
    ++ flat_map (vlan_line l.roster.ports l.table.pvid) (flat_map (λ port. filter (λ e. e.0.1 == port) l.table.vlans) (range_with_len 0 l.number))
