use Rattle.scenario_text.proofs.Bounded.{by_words}
use Rattle.scenario_text.proofs.reading.what_says.Goals as goal

pub returns-clause-value : goal.returns-clause-value
returns-clause-value c = by_words c.args.r.now c.args.line.now c.what_steps_say.result c.if-line-eq35.false c.what_steps_say.ensures.value
