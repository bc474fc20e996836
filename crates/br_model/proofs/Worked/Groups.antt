-- Worked runs with commands on groups, computed by the definitions.
use Rattle.std.proofs.Common.{◌≡◌, map, refl}
use Rattle.br_model.specs.Text.IpWords.{address}
use Rattle.br_model.specs.Program.Runs.{told}
use Rattle.br_model.specs.Worked.Groups.{address_words, address_words_read, groups_by_command_text, groups_by_command_told, bad_group_text, bad_group_told}
use Rattle.br_model.proofs.Worked.Computing.{computing}

pub words_read : map address address_words ≡ address_words_read
words_read = refl

pub groups_by_command : told groups_by_command_text ≡ groups_by_command_told
unfolding computing
groups_by_command = refl

pub bad_group : told bad_group_text ≡ bad_group_told
unfolding computing
bad_group = refl
