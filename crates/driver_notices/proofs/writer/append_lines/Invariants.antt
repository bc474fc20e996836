use Rattle.std.proofs.Common.{◌≡◌, ◌++◌, take}
use Rattle.std.specs.List.{flat_map}
use Rattle.std.specs.String.{string_bytes}
use Rattle.driver_notices.specs.Lines.{line_text}
use Rattle.driver_notices.proofs.writer.append_lines.Given as goal

abbrev pub invariant-loop-line : goal.invariant-loop-line
invariant-loop-line l = string_bytes l.to ≡ string_bytes l.fn.to ++ flat_map (line_text l.roster.ports) (take l.line-index l.lines)
