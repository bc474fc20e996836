use Rattle.std.proofs.Common.{◌≡◌, ◌++◌, string_bytes}
use Rattle.std.specs.List.{flat_map}
use Rattle.chip_audit.specs.Lines.{entry_line}
use Rattle.chip_audit.proofs.lines.append_entries.Given as goal

abbrev pub invariant-loop-key : goal.invariant-loop-key
invariant-loop-key l =
    string_bytes l.to ++ flat_map (entry_line l.roster.ports) l.key-iterator ≡ string_bytes l.fn.to ++ flat_map (entry_line l.roster.ports) l.entries.entries
