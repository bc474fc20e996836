-- What a command says that has read its whole input.
-- Source: this profile.
use Rattle.std.specs.Prelude.{ℕ, List}

-- yes, no, or that a line of the input is bad
pub data Verdict : Type 0 where
  Positive : Verdict
  Negative : Verdict
  BadLine : Verdict

pub record Reply : Type 0 where
  pub text : List ℕ
  pub verdict : Verdict

-- the number with which the program ends
abbrev pub verdict_code : Verdict → ℕ
verdict_code Positive = 0
verdict_code Negative = 1
verdict_code BadLine = 3
