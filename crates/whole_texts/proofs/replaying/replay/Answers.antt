use Rattle.std.proofs.Common.{false}
use Rattle.br_model.specs.Text.Scenario.{scenario}
use Rattle.scenario_play.proofs.Steps.{begins, stands_by}
use Rattle.whole_texts.proofs.Stages.{fits_lone}
use Rattle.whole_texts.proofs.Whole.{tells_whole}
use Rattle.whole_texts.proofs.replaying.replay.Goals as goal

pub read-requires-clause-first : goal.read-requires-clause-first
read-requires-clause-first c = begins false _ c.in_ok-play.ensures c.new-stage.ensures c.in_ok-text.ensures

pub read-requires-clause-fits : goal.read-requires-clause-fits
read-requires-clause-fits c = fits_lone _

pub append_last-requires : goal.append_last-requires
append_last-requires c = stands_by (scenario c.args.scenario.now).roster c.read.new.stage.world c.in_ok-last.ensures.so.ready

pub returns : goal.returns
returns c = tells_whole c.args.scenario.now _ _ c.in_ok-last.last _ c.in_ok-last.ensures c.in_ok-append_last.ensures.text c.is_well.ensures
