-- A source and a sink in memory, which fail at the calls of a list.
use Rattle.std.specs.Prelude.{ℕ, ◌+◌, ◌-◌, ◌^◌, ◌==◌, ◌&&◌, not, if◌then◌else◌, min, List, length, Contains}

-- a source over bytes in memory
pub record InMemory : Type 0 where
  -- the bytes that reads have not given
  pub left : List ℕ
  -- the numbers of the calls that fail, from 1
  pub fails : List ℕ
  -- how many calls there were, and how many of them failed
  pub calls : ℕ
  pub faults : ℕ

-- a sink in memory
pub record OutMemory : Type 0 where
  -- the bytes that writes took
  pub bytes : List ℕ
  -- how many bytes it takes in all
  pub room : ℕ
  -- the numbers of the calls that fail, from 1
  pub fails : List ℕ
  -- how many calls there were, and how many of them failed
  pub calls : ℕ
  pub faults : ℕ

-- the number of the call that follows so many calls
abbrev pub next_call : ℕ → ℕ
next_call calls = min (calls + 1) (2 ^ 32 - 1)

-- one more fault
abbrev pub one_more : ℕ → ℕ
one_more faults = min (faults + 1) (2 ^ 64 - 1)

-- the call that follows so many calls is to fail
abbrev pub Fails : List ℕ → ℕ → Type 0
Fails fails calls = Contains fails (next_call calls)

-- the faults after a write that took n bytes of a piece: to take none of one that has some is a fault
abbrev pub faults_after : ℕ → ℕ → List ℕ → ℕ
faults_after faults n piece = if n == 0 && not (length piece == 0) then one_more faults else faults
