use Rattle.scenario_text.proofs.Splits.{one_word_if, some_if}
use Rattle.scenario_text.proofs.plain.is_one_word.Goals as goal

pub returns-then-not-is_empty : goal.returns-then-not-is_empty
returns-then-not-is_empty c =
    one_word_if c.args.text.now c.memchr.result c.is_none.result c.memchr.ensures c.is_none.ensures (some_if c.args.text.now c.is_empty.result c.is_empty.ensures c.if-not-is_empty.true)
