use Rattle.std.proofs.Common.{◌∙◌, sym}
use Rattle.bridge_command.proofs.FlagNames.{named, small}
use Rattle.bridge_command.proofs.flags.bit_named.Goals as goal

pub returns-in-Some-clause-value : goal.returns-in-Some-clause-value
returns-in-Some-clause-value c = c.in-Some.ensures tt ∙ named c.args.word.now

pub returns-in-Some-clause-small : goal.returns-in-Some-clause-small
returns-in-Some-clause-small c = small c.args.word.now c.in-Some.flag.0 (sym (c.in-Some.ensures tt ∙ named c.args.word.now))

pub returns-in-None-clause-value : goal.returns-in-None-clause-value
returns-in-None-clause-value c = c.in-None.ensures tt ∙ named c.args.word.now
