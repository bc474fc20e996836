use Rattle.std.proofs.Common.{◌≡◌, ◌<◌, ◌^◌, take}
use Rattle.br_model.specs.Data.Numbers.{number}
use Rattle.br_model.proofs.numbers.Mac.new.Given as goal

abbrev pub invariant-loop-byte : goal.invariant-loop-byte
invariant-loop-byte l = (l.number ≡ number (take l.byte-index l.fn.b)) × (l.number < 256 ^ l.byte-index)
