use Rattle.std.proofs.Common.{◌≡◌, ◌+◌, ◌++◌, map, take, vec_len, vec_capacity}
use Rattle.transcript_lines.specs.Rows.{moved_row}
use Rattle.transcript_lines.proofs.lines.add_moved.Given as goal

-- the first ones are copied
abbrev pub invariant-loop-place : goal.invariant-loop-place
invariant-loop-place l =
    (l.rows.items ≡ l.initial.rows.items ++ map (moved_row l.front) (take l.place l.of))
    × (vec_len l.rows ≡ vec_len l.initial.rows + l.place)
    × (vec_capacity l.rows ≡ vec_capacity l.initial.rows)
