use Rattle.std.proofs.Common.{◌≡◌, true, take}
use Rattle.std.specs.List.{list_all}
use Rattle.capture_runner.specs.Living.{is_numbered}
use Rattle.capture_runner.proofs.live.all_numbers_fit.Given as goal

abbrev pub invariant-loop-step : goal.invariant-loop-step
invariant-loop-step l = list_all is_numbered (take l.step-index l.steps) ≡ true
