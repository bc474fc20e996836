use Rattle.scenario_text.proofs.PlainCommands.{moved}
use Rattle.scenario_text.proofs.plain.plain_moment.Goals as goal

pub returns-in-Ok-clause-says : goal.returns-in-Ok-clause-says
returns-in-Ok-clause-says c = moved c.args.r.now c.args.text.now c.readable.result.now c.in-Ok.moment c.requires c.readable.ensures c.in-Ok.ensures.value
