use Rattle.std.proofs.Common.{◌≡◌, ◌==◌, drop}
use Rattle.std.specs.List.{list_all}
use Rattle.live_book.proofs.lanes.have_ended.Given as goal

abbrev pub invariant-loop-head : goal.invariant-loop-head
invariant-loop-head l = list_all (λ place. place == l.end) (drop l.head-index l.heads) ≡ list_all (λ place. place == l.end) l.heads
