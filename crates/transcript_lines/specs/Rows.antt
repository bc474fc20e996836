-- Rows of lines over an arena of bytes, and the lines that they stand for.
use Rattle.std.specs.Prelude.{ℕ, ◌≡◌, ◌+◌, ◌-◌, ◌≤◌, min, Bool, false, if◌then◌else◌, List, [], ◌∷◌, ◌++◌, map, take, drop, length, IsNone, is_ok}
use Rattle.std.specs.List.{flat_map}
use Rattle.std.specs.Option.{option_map_or}
use Rattle.std.specs.declared.option.Option.{Option}
use Rattle.std.specs.declared.option.Option.TheVariants.{None}
use Rattle.std.specs.declared.result.Result.{Result}
use Rattle.br_model.specs.declared.steps.Refusal.{Refusal}
use Rattle.br_model.specs.declared.transcript.Line.{Line}
use Rattle.br_model.specs.declared.transcript.Line.TheVariants as lines
use Rattle.br_model.specs.Plane.LineTraits.{line_traits}
use Rattle.port_sets.specs.Numbers.{has_number}
use Rattle.transcript_lines.specs.declared.row.Row.{Row}
use Rattle.transcript_lines.specs.declared.row.Row.TheVariants.{One, Sent, Ctl}
use Rattle.transcript_lines.specs.declared.row.Span.{Span}

-- the bytes of the arena that the span names
abbrev pub at : List ℕ → Span → List ℕ
at arena s = take s.len (drop s.from arena)

-- The lines of a frame that leaves these ports: the plain bytes leave the untagged ones.
abbrev pub sent_lines : ℕ → List ℕ → List ℕ → List ℕ → List ℕ → List Line
sent_lines id ports untagged plain tagged = map (λ port. lines.Tx id port (if has_number untagged port then plain else tagged)) ports

-- What stands in the arena of the tagged form: nothing may, where no line has it.
pub record StoresTagged (before after ports untagged whole : List ℕ) (s : Span) : Type 0 where
  pub form : List ℕ
  pub items : after ≡ before ++ form
  pub from : s.from ≡ length before
  pub size : s.len ≡ length form
  pub short : length form ≤ length whole
  pub same : (id : ℕ) (plain : List ℕ) → sent_lines id ports untagged plain form ≡ sent_lines id ports untagged plain whole

-- the lines that a row stands for
abbrev pub expand_row : List ℕ → Row → List Line
expand_row arena (One line) = line ∷ []
expand_row arena (Sent id ports untagged plain tagged) = sent_lines id ports untagged (at arena plain) (at arena tagged)
expand_row arena (Ctl port bytes) = lines.Ctl port (at arena bytes) ∷ []

-- What the line among them that ends a step says of it. No line of a frame ends one.
abbrev pub row_answer : Row → Option (ℕ × Result ℕ Refusal)
row_answer (One line) = (line_traits line).answer
row_answer (Sent id ports untagged plain tagged) = None
row_answer (Ctl port bytes) = None

-- whether one of them says that a step was done
abbrev pub row_is_done : Row → Bool
row_is_done row = option_map_or (λ a. is_ok a.1) (row_answer row) false

-- the lines that the rows stand for
abbrev pub expand : List ℕ → List Row → List Line
expand arena rows = flat_map (expand_row arena) rows

-- the row's bytes stand within so many
abbrev pub IsInside : ℕ → Row → Type 0
IsInside most (One line) = Unit
IsInside most (Sent id ports untagged plain tagged) = (plain.from + plain.len ≤ most) × (tagged.from + tagged.len ≤ most)
IsInside most (Ctl port bytes) = bytes.from + bytes.len ≤ most

abbrev pub AreInside : ℕ → List Row → Type 0
AreInside most [] = Unit
AreInside most (row ∷ rows) = IsInside most row × AreInside most rows

-- the line has no bytes of its own
abbrev pub IsPlain : Line → Type 0
IsPlain line = IsNone (line_traits line).leaves

-- the row's bytes stand behind so many
abbrev pub IsBehind : ℕ → Row → Type 0
IsBehind least (One line) = IsPlain line
IsBehind least (Sent id ports untagged plain tagged) = (least ≤ plain.from) × (least ≤ tagged.from)
IsBehind least (Ctl port bytes) = least ≤ bytes.from

abbrev pub AreBehind : ℕ → List Row → Type 0
AreBehind least [] = Unit
AreBehind least (row ∷ rows) = IsBehind least row × AreBehind least rows

-- the same row over an arena without its first bytes, which are so many
abbrev pub moved : ℕ → Span → Span
moved front s = record s { from = s.from - front }

abbrev pub moved_row : ℕ → Row → Row
moved_row front (One line) = One line
moved_row front (Sent id ports untagged plain tagged) = Sent id ports untagged (moved front plain) (moved front tagged)
moved_row front (Ctl port bytes) = Ctl port (moved front bytes)

-- Rows over an arena, and how many rows and bytes there were when the savepoint was set.
pub record AreSaved (arena : List ℕ) (rows : List Row) (saved bytes : ℕ) : Type 0 where
  pub inside : AreInside (length arena) rows
  pub behind : AreBehind bytes (drop saved rows)
  pub rows_before : saved ≤ length rows
  pub bytes_before : bytes ≤ length arena

-- So many have place, and so does a copy of those behind the savepoint.
pub record Fit (len capacity saved copied : ℕ) : Type 0 where
  pub all : len ≤ capacity
  pub copy : len ≤ saved + copied

-- for how many more there is room, and for a copy of them
abbrev pub room : ℕ → ℕ → ℕ → ℕ → ℕ
room len capacity saved copied = min (capacity - len) (saved + copied - len)

-- Lines, those of them before the savepoint, and the room beside them: how many more rows and bytes they and a copy have place for.
pub record Listed : Type 0 where
  pub lines : List Line
  pub saved : List Line
  pub rows : ℕ
  pub bytes : ℕ
