use Rattle.std.proofs.Common.{length, rules}
use Rattle.br_model.specs.Text.CommandForms.{commands}
use Rattle.bridge_command.specs.Seen.{word}
use Rattle.section_lines.proofs.Misplaced.{of-a-form, of-no-form, says-one}
use Rattle.section_lines.proofs.forms.is_command.Goals as goal

pub returns-in-Err-Word : goal.returns-in-Err-Word
returns-in-Err-Word c = of-no-form commands c.args.roster.now (length c.args.words.now) (word c.args.words.now) c.in-Err-Word.field-0 c.in-Err-Word.ensures c.in-Err-Word.field-0-is

pub returns-in-Err : goal.returns-in-Err
returns-in-Err c = of-a-form commands c.args.roster.now (length c.args.words.now) (word c.args.words.now) c.in-Err.field-0 c.in-Err.ensures (search rules)

pub returns-in-Ok : goal.returns-in-Ok
returns-in-Ok c = says-one commands c.args.roster.now (length c.args.words.now) (word c.args.words.now) c.in-Ok.field-0 c.in-Ok.ensures
