use Rattle.std.proofs.lemmas.Str.{IsUtf8-from_ascii}
use Rattle.scenario_text.proofs.Splits.{readable_text, unreadable}
use Rattle.section_lines.proofs.words.readable.Goals as goal

pub from_utf8_unchecked-requires : goal.from_utf8_unchecked-requires
from_utf8_unchecked-requires c = IsUtf8-from_ascii c.args.word.now c.if-not-is_ascii.ensures.cases

pub returns : goal.returns
returns c = readable_text c.args.word.now c.from_utf8_unchecked.result.now c.if-not-is_ascii.ensures.cases c.from_utf8_unchecked.ensures

pub returns-then-not-is_ascii : goal.returns-then-not-is_ascii
returns-then-not-is_ascii c = unreadable c.args.word.now c.if-not-is_ascii.ensures.cases
