use Rattle.std.proofs.Common.{◌≡◌, take}
use Rattle.br_model.specs.Data.Digits.{digits_value}
use Rattle.bridge_command.proofs.operands.number_up_to.Given as goal

abbrev pub invariant-loop-digit : goal.invariant-loop-digit
invariant-loop-digit l = l.number ≡ digits_value (take l.digit-index l.digit-items)
