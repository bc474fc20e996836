use Rattle.std.proofs.Common.{◌≡◌, ◌++◌, map, not}
use Rattle.std.specs.List.{filter}
use Rattle.chip_audit.proofs.comparison.pending_keys.Given as goal

abbrev pub invariant-loop-key : goal.invariant-loop-key
invariant-loop-key l =
    l.keys.items ++ map (λ e. e.0) (filter (λ e. not e.1.offloaded) l.key-iterator) ≡ map (λ e. e.0) (filter (λ e. not e.1.offloaded) l.entries.entries)
