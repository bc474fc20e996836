use Rattle.std.proofs.Common.{rules, length, ◌∙◌}
use Rattle.bridge_command.specs.Seen.{word}
use Rattle.bridge_command.proofs.OtherRows.{is_later, no_words}
use Rattle.bridge_command.proofs.command.read_command.Goals.{in_default-via-then-words-lt1, in_default-via-else-words-lt1+in_default}
use Rattle.bridge_command.proofs.command.read_command.Goals as goal

pub returns-in_default : goal.returns-in_default
returns-in_default c =
    c.later_command.ensures
    ∙ elim c.in_default.branch [
      | in_default-via-then-words-lt1 w ↦ no_words c.args.roster.now c.args.words.now (search rules)
      | in_default-via-else-words-lt1+in_default w ↦ is_later c.args.roster.now (length c.args.words.now) (word c.args.words.now) (search rules) (search rules) (search rules) (search rules)
    ]
