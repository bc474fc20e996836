-- Where the keys of cells stand: a slot for each hash, and a list of the cells whose keys found their slot taken.
use Rattle.std.specs.Prelude.{◌≡◌, ◌≢◌, ℕ, ◌+◌, ◌-◌, ◌^◌, ◌<◌, ◌≤◌, ◌==◌, ◌&&◌, Bool, not, List, [], length, slice_index, replicate, count_by}
use Rattle.open_addressing.specs.Hashed.{home_of}

-- the number in a slot whose key left
abbrev pub left : ℕ
left = 65535

-- whether a slot names a cell: it has the cell's number and 1 more
abbrev pub is_taken : ℕ → Bool
is_taken slot = not (slot == 0) && not (slot == left)

-- what is in the slot of a key
abbrev pub slot_of : (ℕ → ℕ) → ℕ → List ℕ → ℕ → ℕ
slot_of hash bits slots key = slice_index slots (home_of hash bits key)

-- the cell is in the list
abbrev pub Lists : List ℕ → ℕ → Type 0
Lists rest cell = (j : ℕ) × (j < length rest) × (slice_index rest j ≡ cell)

-- how many cells are named
abbrev pub named_by : List ℕ → List ℕ → ℕ
named_by slots rest = count_by is_taken slots + length rest

-- the keys of the listed cells ascend
abbrev pub Ascends : (ℕ → ℕ) → List ℕ → Type 0
Ascends at rest = (j l : ℕ) → j < l → l < length rest → at (slice_index rest j) < at (slice_index rest l)

-- The keys of the listed cells are below k before the place `low`, and no longer from `high` on.
pub record Halves (at : ℕ → ℕ) (rest : List ℕ) (k low high : ℕ) : Type 0 where
  pub ordered : low ≤ high
  pub within : high ≤ length rest
  pub below : (j : ℕ) → j < low → at (slice_index rest j) < k
  pub from : (j : ℕ) → high ≤ j → j < length rest → k ≤ at (slice_index rest j)

-- Of cells of which `at` is the key in each, 0 for none.
pub record IsIndexed (hash : ℕ → ℕ) (bits : ℕ) (at : ℕ → ℕ) (slots rest : List ℕ) : Type 0 where
  pub hashes : (k : ℕ) → hash k < 2 ^ 64
  pub some : 0 < bits
  pub few : bits < 64
  pub sized : length slots ≡ 2 ^ bits
  -- the number of a cell that holds a key fits a slot
  pub small : (i : ℕ) → at i ≢ 0 → i + 1 < left
  -- the slot of its key names it, or the list has it and the slot was taken
  pub named : (i : ℕ) → at i ≢ 0 → slot_of hash bits slots (at i) ≢ i + 1 → (slot_of hash bits slots (at i) ≢ 0) × Lists rest i
  -- a slot that names a cell is the slot of the key there
  pub sound : (s : ℕ) → slice_index slots s ≢ 0 → slice_index slots s ≢ left → (at (slice_index slots s - 1) ≢ 0) × (home_of hash bits (at (slice_index slots s - 1)) ≡ s)
  -- the list has cells that hold keys, which ascend, and none that a slot names
  pub listed : (j : ℕ) → j < length rest → at (slice_index rest j) ≢ 0
  pub ascending : Ascends at rest
  pub apart : (j : ℕ) → j < length rest → slot_of hash bits slots (at (slice_index rest j)) ≢ slice_index rest j + 1

-- no cell is named
pub record IsBlank (bits : ℕ) (ss rs : List ℕ) : Type 0 where
  pub some : 0 < bits
  pub few : bits < 64
  pub slots : ss ≡ replicate (2 ^ bits) 0
  pub rest : rs ≡ []
