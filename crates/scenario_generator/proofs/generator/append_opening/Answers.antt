use Rattle.std.specs.Fmt.{digits}
use Rattle.scenario_generator.proofs.generator.append_opening.Goals as goal

pub returns-clause-text : goal.returns-clause-text
unfolding digits
returns-clause-text c = c.put.ensures.text
