use Rattle.std.proofs.Common.{◌≡◌, ◌-◌, ◌≤◌, ◌++◌, [], ◌∷◌, take, string_bytes}
use Rattle.std.specs.List.{filter, flat_map}
use Rattle.br_model.specs.Table.Domains.{has_chip}
use Rattle.chip_audit.specs.Lines.{domain_lines}
use Rattle.chip_audit.proofs.lines.append_audit.Given as goal

abbrev pub invariant-loop-number : goal.invariant-loop-number
invariant-loop-number l =
    (1 ≤ l.number)
    × (string_bytes l.to ≡ string_bytes l.fn.to
    ++ flat_map (domain_lines l.roster.ports l.plane.world) (filter (λ k. has_chip l.plane.world.setup.domains k) (take (l.number - 1) (1 ∷ 2 ∷ 3 ∷ 4 ∷ []))))
