use Rattle.br_model.specs.Program.Listings.{listed}
use Rattle.scenario_runner.proofs.Ends.{yields_stop, listed_by}
use Rattle.scenario_runner.proofs.commands.listing_in.Goals as goal

pub returns-in-Ok-clause-lists : goal.returns-in-Ok-clause-lists
returns-in-Ok-clause-lists g c = listed_by _ _ c.args.listing _ _ _ _ c.in-Ok.ensures.plays.2 c.in_ok-list-in-Ok.ensures

pub returns-in-Err-Stopped-clause-lists : goal.returns-in-Err-Stopped-clause-lists
returns-in-Err-Stopped-clause-lists g c =
    let plays = rw c.in-Err-Stopped.field-0-is at c.in-Err-Stopped.ensures.plays in
    rw c.in-Err-Stopped.stop-is (yields_stop (g.S.Source.left c.args.source.now) (g.S.Source.left c.play.new.source) _ _ _ (listed c.args.listing) c.in-Err-Stopped.stop plays)
