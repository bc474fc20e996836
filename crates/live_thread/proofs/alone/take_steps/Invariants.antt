use Rattle.std.proofs.Common.{◌≡◌, drop, true, false}
use Rattle.std.specs.List.{list_all}
use Rattle.br_model.specs.Table.Domains.{chip_domains}
use Rattle.br_model.specs.Text.LineForms.{comes_by_line}
use Rattle.live_thread.proofs.Loops.{Goes}
use Rattle.live_thread.proofs.alone.take_steps.Given as goal

abbrev pub invariant-loop-place : goal.invariant-loop-place
invariant-loop-place g l = record {
  goes : Goes l.initial.ran l.ran (drop l.place l.steps) l.steps;
  by_line : list_all (comes_by_line false (chip_domains l.ran.setup.domains)) (drop l.place l.steps) ≡ true;
  seat : l.seat.board ≡ l.ran.board;
  same : l.seat.board ≡ l.initial.seat.board;
}
