-- What `follow` makes of lines of messages: the table that they give, up to the line `end` or the first bad line.
-- Source: this profile.
use Rattle.std.specs.Prelude.{ℕ, ◌+◌, ◌==◌, nat_lt, if◌then◌else◌, List, [], ◌∷◌, ◌++◌, length, codes}
use Rattle.std.specs.Fmt.{decimal}
use Rattle.std.specs.List.{filter, flat_map, fold, slice_split}
use Rattle.std.specs.Str.{bytes_eq}
use Rattle.std.specs.declared.option.Option.{Option}
use Rattle.std.specs.declared.option.Option.TheVariants.{None, Some}
use Rattle.std.specs.declared.result.Result.{Result}
use Rattle.std.specs.declared.result.Result.TheVariants.{Ok, Err}
use Rattle.br_model.specs.Data.Digits.{bytes_from_hex}
use Rattle.br_model.specs.Text.Scenario.{is_end, longest_line}
use Rattle.br_model.specs.Text.Spelling.{further, kind_word, mac_text}
use Rattle.br_model.specs.Text.Words.{Word, is_comment, is_word}
use Rattle.neigh_netlink.specs.declared.follow.LineFault.{LineFault}
use Rattle.neigh_netlink.specs.declared.follow.LineFault.TheVariants as fault
use Rattle.neigh_netlink.specs.declared.follow.Said.{Said}
use Rattle.neigh_netlink.specs.declared.follow.Said.TheVariants.{Blank, Tells, Ends}
use Rattle.neigh_netlink.specs.declared.neigh.Neigh.{Neigh}
use Rattle.neigh_netlink.specs.declared.table.TakeFault.{TakeFault}
use Rattle.neigh_netlink.specs.declared.table.TakeFault.TheVariants as taking
use Rattle.neigh_netlink.specs.Neighbours.{Neighbours, Row, after_message, fault_of, rows}
use Rattle.neigh_netlink.specs.Reading.{read}

-- A line, without its line feed.

-- what stands between the spaces
abbrev pub words : List ℕ → List Word
words line = filter is_word (slice_split (λ c. c == 32) line)

abbrev pub message_says : Option Neigh → Result Said LineFault
message_says None = Err fault.Message
message_says (Some m) = Ok (Tells m)

abbrev pub bytes_say : Option (List ℕ) → Result Said LineFault
bytes_say None = Err fault.Hex
bytes_say (Some bytes) = message_says (read bytes)

abbrev pub words_say : List Word → Result Said LineFault
words_say [] = Ok Blank
words_say (w ∷ []) = if bytes_eq w (codes "end") then Ok Ends else Err fault.Word
words_say (w ∷ x ∷ []) = if bytes_eq w (codes "nl") then bytes_say (bytes_from_hex x) else Err fault.Word
words_say (w ∷ x ∷ y ∷ ws) = Err fault.Word

abbrev pub line_says : List ℕ → Result Said LineFault
line_says line = if is_comment line then Ok Blank else words_say (words line)

-- Line after line.

-- how the lines end: they go on, by the line `end`, or by the bad line of this number, for this cause
pub data Ending : Type 0 where
  Going : Ending
  Ended : Ending
  Bad : ℕ → LineFault → Ending

pub record Following : Type 0 where
  -- how many lines were read
  pub lines : ℕ
  pub table : Neighbours
  pub ending : Ending

-- the next line is bad
abbrev pub bad : Following → LineFault → Following
bad f why = record f { ending = Bad (f.lines + 1) why }

abbrev pub why_taken : TakeFault → LineFault
why_taken taking.Absent = fault.Absent
why_taken taking.Full = fault.Full

abbrev pub takes_message : Following → Neigh → Option TakeFault → Following
takes_message f m None = record f { lines = f.lines + 1; table = after_message f.table m }
takes_message f m (Some why) = bad f (why_taken why)

-- after a line more that says this
abbrev pub takes : Following → Result Said LineFault → Following
takes f (Err why) = bad f why
takes f (Ok Blank) = record f { lines = f.lines + 1 }
takes f (Ok (Tells m)) = takes_message f m (fault_of f.table m)
takes f (Ok Ends) = record f { lines = f.lines + 1; ending = Ended }

-- Byte after byte.

pub record Reading : Type 0 where
  pub following : Following
  -- the bytes of the line that has no line feed yet
  pub line : List ℕ

-- A line that may not come to its end is too long already.
abbrev pub grows : Following → List ℕ → Following
grows f line = if nat_lt longest_line (length line) then bad f fault.Long else f

-- nothing is read behind the end or a bad line
abbrev pub reads_at : Ending → Reading → ℕ → Reading
reads_at Going r byte =
    if byte == 10
    then record { following = takes r.following (line_says r.line); line = [] }
    else record { following = grows r.following (r.line ++ byte ∷ []); line = r.line ++ byte ∷ [] }
reads_at Ended r byte = r
reads_at (Bad n why) r byte = r

abbrev pub reads : Reading → ℕ → Reading
reads r byte = reads_at r.following.ending r byte

abbrev pub opened : Reading
opened = record { following = record { lines = 0; table = []; ending = Going }; line = [] }

-- The last line `end` may lack its line feed. Any other that does is bad.
abbrev pub closes_at : Ending → Following → List ℕ → Following
closes_at Going f line = if is_end (words line) then record f { lines = f.lines + 1; ending = Ended } else bad f fault.Unended
closes_at Ended f line = f
closes_at (Bad n why) f line = f

abbrev pub closes : Reading → Following
closes r = closes_at r.following.ending r.following r.line

-- what whole bytes give
unfoldable pub follows : List ℕ → Following
follows bytes = closes (fold reads opened bytes)

-- What is written.

abbrev pub why_text : LineFault → List ℕ
why_text fault.Long = codes "long"
why_text fault.Unended = codes "unended"
why_text fault.Word = codes "word"
why_text fault.Hex = codes "hex"
why_text fault.Message = codes "message"
why_text fault.Absent = codes "absent"
why_text fault.Full = codes "full"

-- the last line where this line is bad
abbrev pub bad_text : ℕ → LineFault → List ℕ
bad_text n why = codes "bad " ++ (decimal n ++ (32 ∷ (why_text why ++ 10 ∷ [])))

-- an entry: address, port, VLAN and kind, and whether a chip has it
abbrev pub row_line : Row → List ℕ
row_line e =
    mac_text e.1
    ++ (codes " port " ++ (decimal e.2 ++ (codes " vlan " ++ (decimal e.0 ++ (32 ∷ kind_word e.3 ++ (further e.4 (codes "offload") ++ 10 ∷ []))))))

-- the entries, ascending by VLAN and address, and a last line, where the lines end well
abbrev pub followed_at : Ending → Neighbours → List ℕ
followed_at Going t = []
followed_at Ended t = flat_map row_line (rows t) ++ (codes "end" ++ 10 ∷ [])
followed_at (Bad n why) t = bad_text n why

-- what `follow` writes for the bytes of its input
unfoldable pub followed : List ℕ → List ℕ
followed bytes = let f = follows bytes in followed_at f.ending f.table
