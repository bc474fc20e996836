use Rattle.run_world.proofs.Querying.{first_heard, first_host}
use Rattle.run_world.proofs.asking.Asking.begin.Goals as goal

pub returns-clause-here : goal.returns-clause-here
returns-clause-here c = λ domains.
    first_host c.make.result c.args.own c.args.self.now.addresses.four c.args.self.now.addresses.six c.make.ensures.querier c.make.ensures.now c.make.ensures.entered domains

pub returns-clause-heard : goal.returns-clause-heard
returns-clause-heard c = λ setup same.
    first_heard c.make.result c.args.own c.args.self.now.addresses.four c.args.self.now.addresses.six c.make.ensures.querier c.make.ensures.entered setup same
