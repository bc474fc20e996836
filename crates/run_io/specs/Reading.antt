-- Lines and pieces that are cut out of the bytes of a source.
use Rattle.std.specs.Prelude.{◌≡◌, ℕ, ◌+◌, ◌-◌, ◌<◌, ◌≤◌, ◌==◌, Bool, true, false, not, ◌||◌, nat_lt, if◌then◌else◌, List, []}
use Rattle.std.specs.Prelude.{◌∷◌, ◌++◌, length, take, IfOk, OnOk, IfErr, MatchOption, IsSome, is_some, Option, None, Some, Result, Ok, Err}
use Rattle.std.specs.List.{list_all}
use Rattle.std.specs.Io.KnownBytes.{Consumes, IsAtEnd}
use Rattle.run_io.specs.declared.lines.Got.{Got}
use Rattle.run_io.specs.declared.lines.LineFault.{LineFault}
use Rattle.run_io.specs.declared.lines.LineFault.TheVariants.{ReadFault, LineTooLong, TooLong, NoMemory}
use Rattle.run_io.specs.Causes.{Rose}

-- a reader of lines
pub record Reading : Type 0 where
  -- what was taken from the source and not handed out
  pub held : List ℕ
  -- how many bytes were taken, and how many may be
  pub taken : ℕ
  pub limit : ℕ
  -- the fault that is given from now on
  pub fault : Option LineFault

-- the bytes of the longest line, without its line feed
abbrev pub max_line : ℕ
max_line = 20000

abbrev pub is_no_feed : ℕ → Bool
is_no_feed b = not (b == 10)

-- no line feed
abbrev pub HasNoFeed : List ℕ → Type 0
HasNoFeed bytes = list_all is_no_feed bytes ≡ true

abbrev pub line_end : Bool → List ℕ
line_end whole = if whole then 10 ∷ [] else []

-- the next call of `next` answers without a read: it gives the fault from before, or the first line that is held, or says that this
-- is too long or that no more may be taken
abbrev pub holds_next : Reading → Bool
holds_next r = is_some r.fault || not (list_all is_no_feed r.held) || nat_lt max_line (length r.held) || (r.taken == r.limit)

-- how many bytes may still be handed out
abbrev pub room : Reading → ℕ
room r = (r.limit - r.taken) + length r.held

-- A call of a reader took some bytes from a source, which had left `before` and has left `now`, and handed out some. No byte is
-- lost and none comes twice.
pub record Reads (old new : Reading) (before now : Option (List ℕ)) (handed : List ℕ) : Type 0 where
  -- what the source gave in the call
  pub given : List ℕ
  pub consumed : Consumes before now given
  pub moved : old.held ++ given ≡ handed ++ new.held
  pub counted : new.taken ≡ old.taken + length given
  pub limit : new.limit ≡ old.limit

-- nothing is left, which is seen only before the limit
pub record IsEnd (new : Reading) (now : Option (List ℕ)) : Type 0 where
  pub none_held : new.held ≡ []
  pub none_left : IsAtEnd now
  pub before_limit : new.taken < new.limit

-- a line, with its line feed or without. Only the last of a source has none.
pub record IsLine (new : Reading) (now : Option (List ℕ)) (bytes : List ℕ) (whole : Bool) : Type 0 where
  pub feedless : HasNoFeed bytes
  pub short : length bytes ≤ max_line
  pub last : whole ≡ false → (0 < length bytes) × IsEnd new now

-- n bytes, or all that was left
pub record IsPiece (new : Reading) (now : Option (List ℕ)) (n : ℕ) (bytes : List ℕ) (whole : Bool) : Type 0 where
  pub full : whole ≡ true → length bytes ≡ n
  pub last : whole ≡ false → (length bytes < n) × IsEnd new now

-- the reader holds no whole line and may take more
pub record WantsLine (r : Reading) : Type 0 where
  pub feedless : HasNoFeed r.held
  pub short : length r.held ≤ max_line
  pub before_limit : r.taken < r.limit

-- a line of more than max_line bytes is held
pub record HoldsLongLine (r : Reading) : Type 0 where
  pub long : max_line < length r.held
  pub feedless : HasNoFeed (take (max_line + 1) r.held)

-- all that may be taken was, and holds no whole line more
pub record HoldsAllOfLimit (r : Reading) : Type 0 where
  pub feedless : HasNoFeed r.held
  pub short : length r.held ≤ max_line
  pub at_limit : r.taken ≡ r.limit

-- when `next` gives a fault. Each excludes the others, but for a failed read and want of memory.
abbrev pub LineCause : LineFault → Reading → ℕ → ℕ → Type 0
LineCause ReadFault new faults_before faults_now = Rose faults_before faults_now × WantsLine new
LineCause LineTooLong new faults_before faults_now = HoldsLongLine new
LineCause TooLong new faults_before faults_now = HoldsAllOfLimit new
-- only the first read takes memory
LineCause NoMemory new faults_before faults_now = new.taken ≡ 0

-- when `take` gives a fault, asked for n bytes
abbrev pub PieceCause : LineFault → ℕ → Reading → ℕ → ℕ → Type 0
PieceCause ReadFault n new faults_before faults_now = Rose faults_before faults_now × (length new.held < n) × (new.taken < new.limit)
PieceCause LineTooLong n new faults_before faults_now = ⊥
PieceCause TooLong n new faults_before faults_now = (length new.held < n) × (new.taken ≡ new.limit)
PieceCause NoMemory n new faults_before faults_now = (length new.held < n) × (new.taken < new.limit)

-- the bytes of a source that an answer of `next` hands out
abbrev pub line_bytes : Result (Option Got) LineFault → List ℕ
line_bytes (Ok None) = []
line_bytes (Ok (Some got)) = got.bytes.now ++ line_end got.whole
line_bytes (Err fault) = []

-- the bytes that an answer of `take` hands out
abbrev pub piece_bytes : Result Got LineFault → List ℕ
piece_bytes (Ok got) = got.bytes.now
piece_bytes (Err fault) = []

-- what a call of `next` and one of `take` do alike
pub record Calls {T : Type 0} (old new : Reading) (before now : Option (List ℕ)) (handed : List ℕ) (result : Result T LineFault) : Type 0 where
  pub reads : Reads old new before now handed
  pub within : new.taken ≤ new.limit
  -- what is handed out is taken off the room, so a loop of calls ends
  pub lessened : room new + length handed ≡ room old
  -- a fault from before stays
  pub still : IsSome old.fault → new ≡ old
  pub ok : OnOk result (new.fault ≡ None)
  pub err : IfErr result (λ f. new.fault ≡ Some f)

-- a call of `next`
pub record ReadsLine (old new : Reading) (before now : Option (List ℕ)) (faults_before faults_now : ℕ) (result : Result (Option Got) LineFault) : Type 0 where
  pub calls : Calls old new before now (line_bytes result) result
  pub line : IfOk result (λ o. MatchOption o (IsEnd new now) (λ got. IsLine new now got.bytes.now got.whole))
  pub cause : old.fault ≡ None → IfErr result (λ f. LineCause f new faults_before faults_now)

-- a call of `take`, asked for n bytes
pub record ReadsPiece (old new : Reading) (before now : Option (List ℕ)) (faults_before faults_now : ℕ) (n : ℕ) (result : Result Got LineFault) : Type 0 where
  pub calls : Calls old new before now (piece_bytes result) result
  pub piece : IfOk result (λ got. IsPiece new now n got.bytes.now got.whole)
  pub cause : old.fault ≡ None → IfErr result (λ f. PieceCause f n new faults_before faults_now)
