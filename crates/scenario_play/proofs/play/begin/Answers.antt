use Rattle.std.proofs.Common.{refl}
use Rattle.br_model.specs.Program.Runs.{setup_of}
use Rattle.scenario_play.proofs.Steps.{has_begun, is_first}
use Rattle.scenario_play.proofs.play.begin.Goals as goal

pub returns : goal.returns
returns g c =
    let first = is_first (g.W.Stage.stands c.args.stage.now).world c.has_begun.result c.has_begun.ensures c.if-has_begun.false in
    has_begun c.begin.result c.args.roster.now (g.W.Stage.stands c.args.stage.now) (g.W.Stage.stands c.begin.new.self) (setup_of c.args.roster.now) refl
    c.len.ensures.declared first c.requires.fits c.begin.ensures
