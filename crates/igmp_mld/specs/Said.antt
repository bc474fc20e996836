-- What the records of a message say.
use Rattle.std.specs.Prelude.{ℕ, List, []}
use Rattle.br_model.specs.declared.frame.Act.{Act}
use Rattle.br_model.specs.declared.frame.McastMsg.{McastMsg}
use Rattle.br_model.specs.declared.frame.McastMsg.TheVariants.{Plain, Payload, Query, Report, Leave, Records, Unrecognized}
use Rattle.br_model.specs.Wire.Records.{acts}

-- an act for each record; a message of another kind has none
abbrev pub acts_said : List ℕ → McastMsg → List Act
acts_said bytes Plain = []
acts_said bytes (Payload group) = []
acts_said bytes (Query six counted) = []
acts_said bytes (Report group) = []
acts_said bytes (Leave group) = []
acts_said bytes (Records six first count) = acts bytes six first count
acts_said bytes Unrecognized = []
