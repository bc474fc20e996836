-- What frames that are spelled as digits say to snooping.
-- Source: this profile.
use Rattle.std.specs.Prelude.{ℕ, List, [], map}
use Rattle.std.specs.declared.option.Option.{Option}
use Rattle.std.specs.declared.option.Option.TheVariants.{None, Some}
use Rattle.std.specs.declared.result.Result.{Result}
use Rattle.std.specs.declared.result.Result.TheVariants.{Ok, Err}
use Rattle.std.specs.Option.{unwrap_or}
use Rattle.br_model.specs.declared.frame.Act.{Act}
use Rattle.br_model.specs.declared.frame.FrameFault.{FrameFault}
use Rattle.br_model.specs.declared.frame.Head.{Head}
use Rattle.br_model.specs.declared.frame.McastMsg.{McastMsg}
use Rattle.br_model.specs.declared.frame.McastMsg.TheVariants.{Plain, Payload, Query, Report, Leave, Records, Unrecognized}
use Rattle.br_model.specs.Data.Digits.{bytes_from_hex}
use Rattle.br_model.specs.Wire.Frames.{frame}
use Rattle.br_model.specs.Wire.Messages.{message}
use Rattle.br_model.specs.Wire.Records.{acts}

abbrev pub bytes_of : List ℕ → List ℕ
bytes_of text = unwrap_or (bytes_from_hex text) []

-- the message, and what its records say
abbrev pub Reading : Type 0
Reading = Option (McastMsg × List Act)

abbrev pub acts_in : List ℕ → McastMsg → List Act
acts_in bytes Plain = []
acts_in bytes (Payload group) = []
acts_in bytes (Query six counted) = []
acts_in bytes (Report group) = []
acts_in bytes (Leave group) = []
acts_in bytes (Records six first count) = acts bytes six first count
acts_in bytes Unrecognized = []

abbrev pub reading_at : List ℕ → Result Head FrameFault → Reading
reading_at bytes (Err why) = None
reading_at bytes (Ok head) = Some (message bytes head, acts_in bytes (message bytes head))

-- none where the bytes are no frame
abbrev pub reading : List ℕ → Reading
reading bytes = reading_at bytes (frame bytes)

unfoldable pub readings : List (List ℕ) → List Reading
readings texts = map (λ text. reading (bytes_of text)) texts
