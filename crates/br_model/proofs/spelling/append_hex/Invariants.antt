use Rattle.std.proofs.Common.{◌≡◌, ◌++◌, take}
use Rattle.std.specs.String.{string_bytes}
use Rattle.br_model.specs.Data.Digits.{hex_of}
use Rattle.br_model.proofs.spelling.append_hex.Given as goal

abbrev pub invariant-loop-byte : goal.invariant-loop-byte
invariant-loop-byte l = string_bytes l.to ≡ string_bytes l.initial.to ++ hex_of (take l.byte-index l.bytes)
