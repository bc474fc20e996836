use Rattle.scenario_generator.proofs.Generated.{made_parts}
use Rattle.scenario_generator.proofs.generator.Generator.new.Goals as goal

pub returns-clause-text : goal.returns-clause-text
returns-clause-text c = made_parts c.args.x c.args.count
