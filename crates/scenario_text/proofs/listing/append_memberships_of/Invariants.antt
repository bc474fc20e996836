use Rattle.std.proofs.Common.{◌≡◌, ◌==◌, ◌++◌}
use Rattle.std.specs.List.{flat_map, filter}
use Rattle.std.specs.String.{string_bytes}
use Rattle.br_model.specs.Program.Listings.{vlan_line}
use Rattle.scenario_text.proofs.listing.append_memberships_of.Given as goal

abbrev pub invariant-loop-vid : goal.invariant-loop-vid
invariant-loop-vid l =
    string_bytes l.to ++ flat_map (vlan_line l.roster.ports l.table.pvid) (filter (λ e. e.0.1 == l.number) l.vid-iterator)
    ≡ string_bytes l.fn.to ++ flat_map (vlan_line l.roster.ports l.table.pvid) (filter (λ e. e.0.1 == l.number) l.table.vlans)
