use Rattle.std.proofs.Common.{◌≡◌}
use Rattle.std.specs.List.{position_or_len}
use Rattle.br_model.specs.Program.LiveRun.{is_frame}
use Rattle.live_book.proofs.Places.{place_from}
use Rattle.live_book.proofs.parts.before_frame.Given as goal

abbrev pub invariant-loop-place : goal.invariant-loop-place
invariant-loop-place l = place_from is_frame l.steps l.place ≡ position_or_len is_frame l.steps
