-- A scenario: its bytes are read line by line, up to its end or its first bad line. Behind a line `capture LENGTH` so many
-- bytes are its section, and no lines.
-- Source: this profile.
use Rattle.std.specs.Prelude.{ℕ, zero, suc, ◌+◌, ◌==◌, nat_lt, Bool, false, if◌then◌else◌, List, [], ◌∷◌, ◌++◌, map, length, take, codes, slice_index_or}
use Rattle.std.specs.declared.option.Option.{Option}
use Rattle.std.specs.declared.option.Option.TheVariants.{None, Some}
use Rattle.std.specs.declared.result.Result.{Result}
use Rattle.std.specs.declared.result.Result.TheVariants.{Ok, Err}
use Rattle.br_model.specs.declared.capture.Packet.{Packet}
use Rattle.br_model.specs.declared.scenario.LineWhy.{LineWhy}
use Rattle.br_model.specs.declared.scenario.LineWhy.TheVariants.{Long, Unended, Place, Capture}
use Rattle.br_model.specs.declared.scenario.Place.TheVariants.{Header, Declarations, Steps}
use Rattle.br_model.specs.declared.scenario.Said.{Said}
use Rattle.br_model.specs.declared.scenario.Said.TheVariants.{Blank, Opens, Bridge, Declares, Does, Captures, Ends}
use Rattle.br_model.specs.declared.steps.Step.{Step}
use Rattle.br_model.specs.declared.steps.Step.TheVariants.{Rx}
use Rattle.std.specs.Str.{bytes_eq}
use Rattle.br_model.specs.Wire.Captures.{Fault, packets}
use Rattle.br_model.specs.Text.CommandForms.{step}
use Rattle.br_model.specs.Text.LineForms.{line_says}
use Rattle.br_model.specs.Text.Roster.{Entry, Roster, first_roster}
use Rattle.br_model.specs.Text.Words.{Word, words}

-- how a scenario ends: it goes on, by its line `end`, or by the bad line of this number, for this cause
pub data Ending : Type 0 where
  Going : Ending
  Ended : Ending
  Bad : ℕ → LineWhy → Ending

-- what the lines so far have said
pub record Scenario : Type 0 where
  -- how many lines were read
  pub lines : ℕ
  pub roster : Roster
  pub steps : List Step
  pub ending : Ending

abbrev pub opened : Bool → Scenario
opened check = record { lines = 0; roster = first_roster check; steps = []; ending = Going }

-- the next line is bad
abbrev pub bad : Scenario → LineWhy → Scenario
bad s why = record s { ending = Bad (s.lines + 1) why }

-- a line

-- the bytes of the longest line, without its line feed
abbrev pub longest_line : ℕ
longest_line = 20000

-- what a line says that has its line feed
abbrev pub whole_says : Roster → List ℕ → Result Said LineWhy
whole_says roster line = if nat_lt longest_line (length line) then Err Long else line_says roster line

-- how many bytes of a section are behind a line
abbrev pub section_length : Said → ℕ
section_length Blank = 0
section_length (Opens edition) = 0
section_length (Bridge mac) = 0
section_length (Declares port name dom) = 0
section_length (Does step) = 0
section_length (Captures n) = n
section_length Ends = 0

-- A packet enters at the declared port in the place of its interface.
abbrev pub entered : List Entry → Packet → Step
entered ports packet = Rx (slice_index_or (map (λ (e : Entry). e.port) ports) packet.interface 0) packet.bytes

-- of a section with a fault no packet enters
abbrev pub captured : List Entry → Result (List Packet) Fault → Result (List Step) LineWhy
captured ports (Err fault) = Err (Capture fault.at)
captured ports (Ok packets) = Ok (map (entered ports) packets)

-- the steps of a line with its section
abbrev pub steps_of : List Entry → Said → List ℕ → Result (List Step) LineWhy
steps_of ports Blank section = Ok []
steps_of ports (Opens edition) section = Ok []
steps_of ports (Bridge mac) section = Ok []
steps_of ports (Declares port name dom) section = Ok []
steps_of ports (Does step) section = Ok (step ∷ [])
steps_of ports (Captures n) section = captured ports (packets section (length ports))
steps_of ports Ends section = Ok []

-- what a line declares, and the place that it leads to
abbrev pub declared : Roster → Said → Roster
declared roster Blank = roster
declared roster (Opens edition) = record roster { place = Header; edition = edition }
declared roster (Bridge mac) = record roster { place = Declarations; own = mac }
declared roster (Declares port name dom) = record roster { place = Declarations; ports = roster.ports ++ record { name = name; port = port; dom = dom } ∷ [] }
declared roster (Does step) = record roster { place = Steps }
declared roster (Captures n) = record roster { place = Steps }
declared roster Ends = roster

-- whether a line is the last one
abbrev pub ending_of : Said → Ending
ending_of Blank = Going
ending_of (Opens edition) = Going
ending_of (Bridge mac) = Going
ending_of (Declares port name dom) = Going
ending_of (Does step) = Going
ending_of (Captures n) = Going
ending_of Ends = Ended

abbrev pub takes_steps : Scenario → Said → Result (List Step) LineWhy → Scenario
takes_steps s said (Err why) = bad s why
takes_steps s said (Ok steps) = record { lines = s.lines + 1; roster = declared s.roster said; steps = s.steps ++ steps; ending = ending_of said }

-- after a line more that says this, with its section
abbrev pub takes : Scenario → Said → List ℕ → Scenario
takes s said section = takes_steps s said (steps_of s.roster.ports said section)

-- reading

-- the first line of some bytes, without its line feed, and what is behind it
pub record Front : Type 0 where
  pub line : List ℕ
  pub behind : List ℕ

abbrev pub in_front : ℕ → Option Front → Option Front
in_front byte None = None
in_front byte (Some f) = Some (record { line = byte ∷ f.line; behind = f.behind })

-- none without a line feed
unfoldable pub front : List ℕ → Option Front
front [] = None
front (byte ∷ bytes) = if byte == 10 then Some (record { line = []; behind = bytes }) else in_front byte (front bytes)

-- what the lines so far have said, the last line where it lacks its line feed, and what stands behind the line `end`
pub record Progress : Type 0 where
  pub scenario : Scenario
  pub line : List ℕ
  pub behind : List ℕ

-- A line that may not come to its end is too long already.
abbrev pub begins : Scenario → List ℕ → Scenario
begins s line = if nat_lt longest_line (length line) then bad s Long else s

-- The line at the front says this. It isn't taken before its section is whole; then reading goes on so many bytes behind the
-- line's first byte.
abbrev pub reads_line : Scenario → Front → Result Said LineWhy → (ℕ → Scenario → Progress) → Progress
reads_line s f (Err why) go_on = record { scenario = bad s why; line = []; behind = [] }
reads_line s f (Ok said) go_on =
    if nat_lt (length f.behind) (section_length said) then record { scenario = s; line = []; behind = [] } else
    go_on (length f.line + section_length said) (takes s said (take (section_length said) f.behind))

abbrev pub reads_front : Scenario → List ℕ → Option Front → (ℕ → Scenario → Progress) → Progress
reads_front s bytes None go_on = record { scenario = begins s bytes; line = bytes; behind = [] }
reads_front s bytes (Some f) go_on = reads_line s f (whole_says s.roster f.line) go_on

-- nothing is read behind the end or a bad line
abbrev pub reads_at : Ending → Scenario → List ℕ → (ℕ → Scenario → Progress) → Progress
reads_at Going s bytes go_on = reads_front s bytes (front bytes) go_on
reads_at Ended s bytes go_on = record { scenario = s; line = []; behind = bytes }
reads_at (Bad n why) s bytes go_on = record { scenario = s; line = []; behind = [] }

-- the lines of these bytes, of which so many at first were read with the line before
unfoldable pub read : ℕ → Scenario → List ℕ → Progress
read ahead s [] = record { scenario = s; line = []; behind = [] }
read (suc ahead) s (byte ∷ bytes) = read ahead s bytes
read zero s (byte ∷ bytes) = reads_at s.ending s (byte ∷ bytes) (λ n t. read n t bytes)

-- after the lines of these bytes, more of which may come
abbrev pub reads : Scenario → List ℕ → Scenario
reads s bytes = (read 0 s bytes).scenario

-- where the bytes end

-- the one word `end`
abbrev pub is_end : List Word → Bool
is_end [] = false
is_end (w ∷ []) = bytes_eq w (codes "end")
is_end (w ∷ x ∷ ws) = false

-- `end` in its place
abbrev pub ends : Scenario → Scenario
ends s = if step s.roster.place then record s { lines = s.lines + 1; ending = Ended } else bad s Place

-- The last line `end` may lack its line feed. Any other that does is bad, as is one whose section isn't whole.
abbrev pub closes_at : Ending → Scenario → List ℕ → Scenario
closes_at Going s line = if is_end (words line) then ends s else bad s Unended
closes_at Ended s line = s
closes_at (Bad n why) s line = s

abbrev pub closes : Scenario → List ℕ → Scenario
closes s line = closes_at s.ending s line

-- what the whole bytes say
unfoldable pub scenario_by : Bool → List ℕ → Scenario
scenario_by check bytes = let p = read 0 (opened check) bytes in closes p.scenario p.line

-- what stands behind its line `end` and that line's line feed; nothing where the line feed is missing or the scenario is bad
unfoldable pub behind_end : Bool → List ℕ → List ℕ
behind_end check bytes = (read 0 (opened check) bytes).behind

-- for every command but `check`
abbrev pub scenario : List ℕ → Scenario
scenario bytes = scenario_by false bytes
