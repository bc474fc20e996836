-- The text of a transcript's lines.
-- Source: this profile.
use Rattle.std.specs.Prelude.{ℕ, List, [], ◌∷◌, ◌++◌, codes}
use Rattle.std.specs.List.{flat_map}
use Rattle.std.specs.Fmt.{decimal}
use Rattle.br_model.specs.declared.frame.Class.{Class}
use Rattle.br_model.specs.declared.frame.Class.TheVariants as classes
use Rattle.br_model.specs.declared.frame.FrameFault.{FrameFault}
use Rattle.br_model.specs.declared.frame.FrameFault.TheVariants as faults
use Rattle.br_model.specs.declared.scenario.LineWhy.{LineWhy}
use Rattle.br_model.specs.declared.scenario.LineWhy.TheVariants.{Long, Unended, Word, Place, Number, Port, Address, Hex, Capture, NoMemory}
use Rattle.br_model.specs.declared.transcript.Line.{Line}
use Rattle.br_model.specs.declared.transcript.Line.TheVariants.{Chip, Unread, Soft, Held, Tx, Ctl, Overrun, Done, Refused, End}
use Rattle.br_model.specs.Data.Digits.{hex_of}
use Rattle.br_model.specs.Control.Refusals.{refusal_number}

abbrev pub fault_word : FrameFault → List ℕ
fault_word faults.Short = codes "short"
fault_word faults.Long = codes "long"
fault_word faults.TagShort = codes "tagshort"

abbrev pub class_word : Class → List ℕ
class_word classes.Drop = codes "drop"
class_word classes.Trap = codes "trap"
class_word classes.Copy = codes "copy"
class_word classes.Forward = codes "forward"

-- a line's words, its kind first
abbrev pub line_words : Line → List (List ℕ)
line_words (Chip id changes applied class) = codes "chip" ∷ decimal id ∷ codes "at" ∷ decimal changes ∷ decimal applied ∷ class_word class ∷ []
line_words (Unread id why) = codes "unread" ∷ decimal id ∷ fault_word why ∷ []
line_words (Soft id point) = codes "soft" ∷ decimal id ∷ codes "at" ∷ decimal point ∷ []
line_words (Held id floor) = codes "held" ∷ decimal id ∷ decimal floor ∷ []
line_words (Tx id port bytes) = codes "tx" ∷ decimal id ∷ decimal port ∷ hex_of bytes ∷ []
line_words (Ctl port bytes) = codes "ctl" ∷ decimal port ∷ hex_of bytes ∷ []
line_words (Overrun id) = codes "overrun" ∷ decimal id ∷ []
line_words (Done step changes) = codes "ok" ∷ decimal step ∷ decimal changes ∷ []
line_words (Refused step why) = codes "refused" ∷ decimal step ∷ decimal (refusal_number why) ∷ []
line_words (End steps changes pending waiting) = codes "end" ∷ decimal steps ∷ decimal changes ∷ decimal pending ∷ decimal waiting ∷ []

-- words with a space between each two, and a line feed
abbrev pub with_feed : List (List ℕ) → List ℕ
with_feed [] = 10 ∷ []
with_feed (w ∷ []) = w ++ 10 ∷ []
with_feed (w ∷ v ∷ ws) = w ++ 32 ∷ with_feed (v ∷ ws)

-- one line, with its line feed
abbrev pub line_text : Line → List ℕ
line_text l = with_feed (line_words l)

-- lines, one after another
abbrev pub text : List Line → List ℕ
text lines = flat_map line_text lines

-- the cause of a bad line. Want of memory is none.
abbrev pub why_text : LineWhy → List ℕ
why_text Long = codes "long"
why_text Unended = codes "unended"
why_text Word = codes "word"
why_text Place = codes "place"
why_text Number = codes "number"
why_text Port = codes "port"
why_text Address = codes "address"
why_text Hex = codes "hex"
why_text (Capture offset) = codes "capture " ++ decimal offset
why_text NoMemory = codes "memory"

-- the last line where this line of the scenario is bad
abbrev pub bad_text : ℕ → LineWhy → List ℕ
bad_text n why = codes "bad " ++ (decimal n ++ (32 ∷ (why_text why ++ 10 ∷ [])))
