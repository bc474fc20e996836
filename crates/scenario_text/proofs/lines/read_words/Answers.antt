use Rattle.std.proofs.Common.{◌∙◌, sym, inr, rules, subst}
use Rattle.scenario_text.proofs.Commands.{after_cmd, without_cmd}
use Rattle.scenario_text.proofs.lines.read_words.Goals as goal
use Rattle.scenario_text.proofs.lines.read_words.Goals.{in_default-via-then-words-lt1, in_default-via-else-words-lt1+in_default}
use Rattle.bridge_command.specs.Seen.{OrNoMemory}

pub returns-in-cmd-clause-value : goal.returns-in-cmd-clause-value
returns-in-cmd-clause-value c = inr (c.command_step.ensures.value ∙ sym (after_cmd c.args.r.now c.args.words.now c.in-cmd.is-cmd))

pub returns-in_default-clause-value : goal.returns-in_default-clause-value
returns-in_default-clause-value c = elim c.in_default.branch [
  | in_default-via-then-words-lt1 w ↦ search rules
  | in_default-via-else-words-lt1+in_default w ↦ subst (OrNoMemory c.other_line.result) (sym (without_cmd c.args.r.now c.args.words.now (search rules))) c.other_line.ensures.value
]
