use Rattle.transcript_text.proofs.LinesRead.{words_read, no_text, long_text}
use Rattle.transcript_text.proofs.reader.read.Goals as goal

pub returns-in_default : goal.returns-in_default
returns-in_default c = no_text c.args.bytes.now c.in_default.ensures.none

pub returns-in-Some-find_words : goal.returns-in-Some-find_words
returns-in-Some-find_words c =
    words_read c.args.bytes.now c.in-Some.line.now c.find_words.new.found.items c.as_slice.result.now c.read_words.result
    c.in-Some.ensures.found c.in-Some-find_words.ensures.few c.as_slice.ensures.value c.read_words.ensures

pub returns-in-None : goal.returns-in-None
returns-in-None c = long_text c.args.bytes.now c.in-Some.line.now c.in-Some.ensures.found c.in-None.ensures.many
