-- Worked runs with editions and several chips, computed by the definitions.
use Rattle.std.proofs.Common.{◌≡◌, map, refl}
use Rattle.br_model.specs.Program.Runs.{told}
use Rattle.br_model.specs.Worked.Domains.{groups_deferred_text, groups_deferred_told, groups_at_once_text, groups_at_once_told, two_chips_text}
use Rattle.br_model.specs.Worked.Domains.{two_chips_told, one_turn_less_text, one_turn_less_told, bad_domains, bad_domains_told}
use Rattle.br_model.proofs.Worked.Computing.{computing}

pub groups_deferred : told groups_deferred_text ≡ groups_deferred_told
unfolding computing
groups_deferred = refl

pub groups_at_once : told groups_at_once_text ≡ groups_at_once_told
unfolding computing
groups_at_once = refl

pub two_chips : told two_chips_text ≡ two_chips_told
unfolding computing
two_chips = refl

pub one_turn_less : told one_turn_less_text ≡ one_turn_less_told
unfolding computing
one_turn_less = refl

pub bad_domains_are : map told bad_domains ≡ bad_domains_told
unfolding computing
bad_domains_are = refl
