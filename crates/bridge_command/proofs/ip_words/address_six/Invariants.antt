use Rattle.std.proofs.Common.{◌≡◌, ◌^◌, ◌==◌, length}
use Rattle.std.specs.List.{slice_split}
use Rattle.br_model.specs.Text.IpWords.{four_digits}
use Rattle.bridge_command.proofs.Parts.{Reads}
use Rattle.bridge_command.proofs.ip_words.address_six.Given as goal

abbrev pub invariant-loop-part : goal.invariant-loop-part
invariant-loop-part l = Reads (2 ^ 16) four_digits 8 (slice_split (λ c. c == 58) l.word) l.count l.address × (l.count ≡ length l.yielded)
