use Rattle.std.proofs.Common.{refl}
use Rattle.run_world.proofs.Querying.{begun}
use Rattle.run_world.proofs.voice.begin.Goals as goal

pub returns-in-Querier-clause-tuned : goal.returns-in-Querier-clause-tuned
returns-in-Querier-clause-tuned c = c.begin-in-Querier.ensures.here c.args.domains

pub returns-in-Querier-clause-says : goal.returns-in-Querier-clause-says
returns-in-Querier-clause-says c =
    rw c.in-Querier.is (begun c.in-Querier.asking c.begin-in-Querier.new.self (record { domains = c.args.domains; own = c.args.own })
    (c.begin-in-Querier.ensures.heard (record { domains = c.args.domains; own = c.args.own }) refl) c.begin-in-Querier.ensures.text c.begin-in-Querier.ensures.same)
