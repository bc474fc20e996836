-- A world on the heap alone as a stage.
use Rattle.std.specs.Prelude.{true, []}
use Rattle.std.specs.declared.option.Option.{Option}
use Rattle.br_model.specs.Plane.World.{World}
use Rattle.scenario_play.specs.Stages.{Standing}

-- nobody speaks of the run
abbrev pub lone : Option World → Standing
lone w = record { world = w; checks = true; sound = Unit {0}; also = λ setup steps. Unit {0}; says = λ setup steps. [] }
