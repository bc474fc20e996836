-- How a reader finds lines and pieces in what it holds.
use Rattle.std.specs.Prelude.{◌≡◌, ℕ, ◌<◌, ◌≤◌, Bool, true, false, List, ◌++◌, length, take, slice_index, Option, MatchOption}
use Rattle.std.specs.Io.KnownBytes.{IsAtEnd}
use Rattle.run_io.specs.declared.lines.Span.{Span}
use Rattle.run_io.specs.declared.lines.LineFault.{LineFault}
use Rattle.run_io.specs.declared.lines.LineFault.TheVariants.{ReadFault, LineTooLong, TooLong, NoMemory}
use Rattle.run_io.specs.Causes.{Rose}
use Rattle.run_io.specs.Reading.{Reading, HasNoFeed, line_end, max_line}

-- where the first line feed is
abbrev pub IsFirstFeed : List ℕ → Option ℕ → Type 0
IsFirstFeed bytes feed = MatchOption feed (HasNoFeed bytes) (λ i. (i < length bytes) × (slice_index bytes i ≡ 10) × HasNoFeed (take i bytes))

-- how many bytes a reader has room for, once it has read
abbrev pub least_room : ℕ
least_room = 65536

-- no whole line is held, nor the beginning of one that is too long
pub record WantsMore (r : Reading) : Type 0 where
  pub feedless : HasNoFeed r.held
  pub short : length r.held ≤ max_line

-- when no more is taken from the source
abbrev pub FillCause : LineFault → Reading → ℕ → ℕ → Type 0
FillCause ReadFault r faults_before faults_now = Rose faults_before faults_now × (r.taken < r.limit)
FillCause LineTooLong r faults_before faults_now = ⊥
FillCause TooLong r faults_before faults_now = r.taken ≡ r.limit
-- only the first read takes memory, and one that comes while many bytes are held
FillCause NoMemory r faults_before faults_now = (r.taken < r.limit) × (length r.held < least_room → r.taken ≡ 0)

-- all that is held is past, and nothing more is left
pub record EndsThere (r : Reading) (now : Option (List ℕ)) (span : Span) : Type 0 where
  pub past : span.past ≡ length r.held
  pub none_left : IsAtEnd now
  pub before_limit : r.taken < r.limit

-- a line is the prefix of what is held, with its line feed or without
pub record LineStands (r : Reading) (whole : Bool) (span : Span) : Type 0 where
  pub is_whole : span.whole ≡ whole
  pub prefix : take span.past r.held ≡ take span.len r.held ++ line_end whole
  pub within : span.past ≤ length r.held
  pub before : span.len ≤ span.past
  pub feedless : HasNoFeed (take span.len r.held)
  pub short : span.len ≤ max_line

-- a line stands there, and one without line feed is all that is left
pub record FindsLine (r : Reading) (now : Option (List ℕ)) (span : Span) : Type 0 where
  pub stands : LineStands r span.whole span
  pub last : span.whole ≡ false → (0 < span.len) × EndsThere r now span

-- n bytes are the prefix of what is held, or all that was left
pub record FindsPiece (r : Reading) (now : Option (List ℕ)) (n : ℕ) (span : Span) : Type 0 where
  pub alike : span.past ≡ span.len
  pub within : span.past ≤ length r.held
  pub full : span.whole ≡ true → span.len ≡ n
  pub last : span.whole ≡ false → (span.len < n) × EndsThere r now span
