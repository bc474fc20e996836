-- What the inputs of `explain` and `outcomes` say: their bytes are read line by line, up to the end of the second section or the first
-- bad line.
-- Source: this profile.
use Rattle.std.specs.Prelude.{ℕ, ◌+◌, ◌-◌, ◌==◌, nat_lt, Bool, true, false, if◌then◌else◌, List, [], ◌∷◌, ◌++◌, map, length, codes, slice_index_or}
use Rattle.std.specs.List.{flat_map, fold}
use Rattle.std.specs.Str.{bytes_eq}
use Rattle.std.specs.declared.result.Result.{Result}
use Rattle.std.specs.declared.result.Result.TheVariants.{Ok, Err}
use Rattle.br_model.specs.declared.scenario.LineWhy.{LineWhy}
use Rattle.br_model.specs.declared.scenario.LineWhy.TheVariants.{Long, Unended}
use Rattle.br_model.specs.declared.scenario.Place.TheVariants.{Steps}
use Rattle.br_model.specs.declared.scenario.Said.{Said}
use Rattle.br_model.specs.declared.scenario.Said.TheVariants.{Blank, Opens, Bridge, Declares, Does, Captures, Ends}
use Rattle.br_model.specs.declared.steps.Step.{Step}
use Rattle.br_model.specs.declared.steps.Step.TheVariants.{Rx, Cmd, Now, Serve, Hold, Post, Turn, Report, Sweep, Publish}
use Rattle.br_model.specs.Table.Domains.{host, software}
use Rattle.br_model.specs.Text.CommandForms.{commands}
use Rattle.br_model.specs.Text.Forms.{Row, line}
use Rattle.br_model.specs.Text.LineForms.{commanded}
use Rattle.br_model.specs.Text.Roster.{Roster, first_roster, host_name}
use Rattle.br_model.specs.Text.Scenario.{Ending, Going, Ended, Bad, Scenario, behind_end, declared, is_end, longest_line, scenario}
use Rattle.br_model.specs.Text.Words.{Word, words, is_comment}
use Rattle.br_model.specs.declared.steps.Command.{Command}
use Rattle.timings.specs.Explained.{Mark, Sees, Applied, Sights}
use Rattle.timings.specs.InputForms.{Asks, Skips, Begun, Probes, Finishes, Tells, Says, Bounds, Begins, Blind, Ignores, Saw, Closes, Part, First, Between, Blinds, Unknown, Sighted, rows_in, commands_in, nowhere, question_rows}
use Rattle.timings.specs.Timings.{Commands, Comes, Enters}

-- Lines.

-- the whole lines of some bytes, without their line feeds, and what stands behind the last line feed
abbrev pub Cut : Type 0
Cut = List (List ℕ) × List ℕ

abbrev pub in_first : ℕ → List (List ℕ) → List ℕ → Cut
in_first byte [] rest = ([], byte ∷ rest)
in_first byte (line ∷ lines) rest = ((byte ∷ line) ∷ lines, rest)

abbrev pub with_byte : ℕ → Cut → Cut
with_byte byte c = if byte == 10 then ([] ∷ c.0, c.1) else in_first byte c.0 c.1

abbrev pub cut_lines : List ℕ → Cut
cut_lines [] = ([], [])
cut_lines (byte ∷ bytes) = with_byte byte (cut_lines bytes)

abbrev pub words_or : {A : Type 0} → A → (List Word → Result A LineWhy) → List Word → Result A LineWhy
words_or blank says [] = Ok blank
words_or blank says (w ∷ ws) = says (w ∷ ws)

-- what a line says by its words, where it isn't too long; a comment, or a line without words, is blank
abbrev pub line_by : {A : Type 0} → A → (List Word → Result A LineWhy) → List ℕ → Result A LineWhy
line_by blank says line =
    if nat_lt longest_line (length line) then Err Long else
    if is_comment line then Ok blank else
    words_or blank says (words line)

abbrev pub mapped : {A B : Type 0} → (A → B) → Result A LineWhy → Result B LineWhy
mapped f (Ok x) = Ok (f x)
mapped f (Err why) = Err why

-- What some words say: a command behind `cmd`, by the rows of commands, else a line by its rows.
abbrev pub words_by : {A : Type 0} → (Said → A) → List (Row Command) → List (Row A) → Roster → List Word → Result A LineWhy
words_by says commands rows roster ws =
    if bytes_eq (slice_index_or ws 0 []) (codes "cmd")
    then mapped says (commanded (line commands roster (length ws - 1) (λ i. slice_index_or ws (i + 1) [])))
    else line rows roster (length ws) (λ i. slice_index_or ws i [])

-- An observation.

-- what its lines so far have said
pub record Observation : Type 0 where
  pub lines : ℕ
  pub part : Part
  pub roster : Roster
  -- whether a line has said the bridge's own address
  pub bridge : Bool
  pub marks : List Mark
  pub sights : Sights
  -- the id that the last line `ignore` or `saw` named
  pub id : ℕ
  pub ending : Ending

abbrev pub first_observation : Observation
first_observation = record {
  lines = 0;
  part = First;
  roster = first_roster false;
  bridge = false;
  marks = [];
  sights = record { blind = []; ignored = []; saw = [] };
  id = 0;
  ending = Going;
}

-- the frames that enter
abbrev pub entering_by : Mark → List (ℕ × List ℕ)
entering_by (Sees (Commands c)) = []
entering_by (Sees (Comes moment)) = []
entering_by (Sees (Enters port bytes)) = (port, bytes) ∷ []
entering_by (Applied dom n) = []

abbrev pub entering : List Mark → List (ℕ × List ℕ)
entering marks = flat_map entering_by marks

-- In the second section the host counts as a declared port.
abbrev pub with_host : Roster → Roster
with_host roster = record roster { ports = record { name = host_name; port = host; dom = software } ∷ roster.ports }

abbrev pub roster_in : Part → Roster → Roster
roster_in First roster = roster
roster_in Between roster = with_host roster
roster_in Blinds roster = with_host roster
roster_in Unknown roster = with_host roster
roster_in Sighted roster = with_host roster

-- what a line says, without its line feed
unfoldable pub line_tells : Observation → List ℕ → Result Tells LineWhy
line_tells o line =
    line_by (Says Blank) (words_by Says (commands_in o.part) (rows_in o.part o.id (length (entering o.marks))) (roster_in o.part o.roster)) line

-- No other step stands in an observation.
abbrev pub marks_of_step : Step → List Mark
marks_of_step (Rx port bytes) = Sees (Enters port bytes) ∷ []
marks_of_step (Cmd c) = Sees (Commands c) ∷ []
marks_of_step (Now moment) = Sees (Comes moment) ∷ []
marks_of_step Serve = []
marks_of_step Hold = []
marks_of_step (Post id point) = []
marks_of_step (Turn dom) = []
marks_of_step (Report dom) = []
marks_of_step (Sweep dom) = []
marks_of_step Publish = []

abbrev pub says : Observation → Said → Observation
says o Blank = o
says o (Opens edition) = record o { roster = declared o.roster (Opens edition) }
says o (Bridge mac) = record o { roster = declared o.roster (Bridge mac); bridge = true }
says o (Declares port name dom) = record o { roster = declared o.roster (Declares port name dom) }
says o (Does s) = record o { roster = declared o.roster (Does s); marks = o.marks ++ marks_of_step s }
says o (Captures n) = o
says o Ends = record o { part = Between }

abbrev pub with_sights : Observation → Part → Sights → ℕ → Observation
with_sights o part sights id = record o { part = part; sights = sights; id = id }

abbrev pub tells : Observation → Tells → Observation
tells o (Says said) = says o said
tells o (Bounds dom n) = record o { roster = record o.roster { place = Steps }; marks = o.marks ++ Applied dom n ∷ [] }
tells o Begins = record o { part = Blinds }
tells o (Blind port) = with_sights o Blinds (record o.sights { blind = o.sights.blind ++ port ∷ [] }) 0
tells o (Ignores id) = with_sights o Unknown (record o.sights { ignored = o.sights.ignored ++ id ∷ [] }) id
tells o (Saw id port bytes) = with_sights o Sighted (record o.sights { saw = o.sights.saw ++ (id, port, bytes) ∷ [] }) id
tells o Closes = record o { ending = Ended }

abbrev pub bad_line : Observation → LineWhy → Observation
bad_line o why = record o { ending = Bad (o.lines + 1) why }

abbrev pub takes_told : Observation → Result Tells LineWhy → Observation
takes_told o (Err why) = bad_line o why
takes_told o (Ok told) = record (tells o told) { lines = o.lines + 1 }

-- Nothing is read behind the end or a bad line.
abbrev pub takes_at : Ending → Observation → List ℕ → Observation
takes_at Going o line = takes_told o (line_tells o line)
takes_at Ended o line = o
takes_at (Bad n why) o line = o

abbrev pub takes : Observation → List ℕ → Observation
takes o line = takes_at o.ending o line

-- the next line is missing
abbrev pub lacks_at : Ending → Observation → Observation
lacks_at Going o = bad_line o Unended
lacks_at Ended o = o
lacks_at (Bad n why) o = o

abbrev pub lacks : Observation → Observation
lacks o = lacks_at o.ending o

-- Where the bytes end in this line: only the line `end` may lack its line feed.
abbrev pub closes_at : Ending → Observation → List ℕ → Observation
closes_at Going o rest =
    if nat_lt longest_line (length rest) then bad_line o Long else
    if is_end (words rest) then lacks (takes o rest) else
    bad_line o Unended
closes_at Ended o rest = o
closes_at (Bad n why) o rest = o

-- what bytes say behind which more may come; a line that may not come to its end is too long already
abbrev pub begins_at : Ending → Observation → List ℕ → Observation
begins_at Going o rest = if nat_lt longest_line (length rest) then bad_line o Long else o
begins_at Ended o rest = o
begins_at (Bad n why) o rest = o

unfoldable pub observation_so_far : List ℕ → Observation
observation_so_far bytes =
    let c = cut_lines bytes in let o = fold takes first_observation c.0 in begins_at o.ending o c.1

-- what whole bytes say
unfoldable pub observation : List ℕ → Observation
observation bytes =
    let c = cut_lines bytes in let o = fold takes first_observation c.0 in closes_at o.ending o c.1

-- A question of `outcomes`.

-- what the lines of its second section have said so far
pub record Question : Type 0 where
  pub lines : ℕ
  pub opened : Bool
  -- ports, and the bytes of frames
  pub probes : List (ℕ × List ℕ)
  pub ending : Ending

-- behind a scenario
abbrev pub first_question : Scenario → Question
first_question s = record { lines = s.lines; opened = false; probes = []; ending = Going }

unfoldable pub line_asks : Roster → Question → List ℕ → Result Asks LineWhy
line_asks roster q line = line_by Skips (words_by (λ said. Skips) (map nowhere commands) (question_rows q.opened) roster) line

abbrev pub asks : Question → Asks → Question
asks q Skips = q
asks q Begun = record q { opened = true }
asks q (Probes port bytes) = record q { probes = q.probes ++ (port, bytes) ∷ [] }
asks q Finishes = record q { ending = Ended }

abbrev pub bad_ask : Question → LineWhy → Question
bad_ask q why = record q { ending = Bad (q.lines + 1) why }

abbrev pub takes_asked : Question → Result Asks LineWhy → Question
takes_asked q (Err why) = bad_ask q why
takes_asked q (Ok asked) = record (asks q asked) { lines = q.lines + 1 }

abbrev pub asks_at : Ending → Roster → Question → List ℕ → Question
asks_at Going roster q line = takes_asked q (line_asks roster q line)
asks_at Ended roster q line = q
asks_at (Bad n why) roster q line = q

abbrev pub takes_ask : Roster → Question → List ℕ → Question
takes_ask roster q line = asks_at q.ending roster q line

abbrev pub lacks_ask_at : Ending → Question → Question
lacks_ask_at Going q = bad_ask q Unended
lacks_ask_at Ended q = q
lacks_ask_at (Bad n why) q = q

abbrev pub lacks_ask : Question → Question
lacks_ask q = lacks_ask_at q.ending q

abbrev pub ask_closes_at : Ending → Roster → Question → List ℕ → Question
ask_closes_at Going roster q rest =
    if nat_lt longest_line (length rest) then bad_ask q Long else
    if is_end (words rest) then lacks_ask (takes_ask roster q rest) else
    bad_ask q Unended
ask_closes_at Ended roster q rest = q
ask_closes_at (Bad n why) roster q rest = q

-- what stands behind the scenario's line `end`
abbrev pub asked_behind : Scenario → List ℕ → Question
asked_behind s bytes =
    let c = cut_lines bytes in let q = fold (takes_ask s.roster) (first_question s) c.0 in ask_closes_at q.ending s.roster q c.1

-- nothing is asked behind a scenario that is bad
abbrev pub question_at : Ending → Scenario → List ℕ → Question
question_at Going s bytes = first_question s
question_at Ended s bytes = asked_behind s (behind_end false bytes)
question_at (Bad n why) s bytes = record (first_question s) { ending = Bad n why }

-- what whole bytes ask, behind the scenario in them
unfoldable pub question : List ℕ → Question
question bytes = let s = scenario bytes in question_at s.ending s bytes
