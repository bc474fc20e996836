use Rattle.std.proofs.Common.{◌≡◌, ◌^◌, ◌==◌, length}
use Rattle.std.specs.List.{slice_split}
use Rattle.br_model.specs.Text.IpWords.{octet}
use Rattle.bridge_command.proofs.Parts.{Reads}
use Rattle.bridge_command.proofs.ip_words.address_four.Given as goal

abbrev pub invariant-loop-part : goal.invariant-loop-part
invariant-loop-part l = Reads (2 ^ 8) octet 4 (slice_split (λ c. c == 46) l.word) l.count l.address × (l.count ≡ length l.yielded)
