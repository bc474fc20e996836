-- Worked audits, computed by the definitions.
use Rattle.std.proofs.Common.{◌≡◌, refl}
use Rattle.br_model.proofs.Worked.Computing.{computing}
use Rattle.chip_audit.specs.Lines.{audited}
use Rattle.chip_audit.specs.Worked.{put_again_text, put_again_told, stale_entry_text, stale_entry_told, told_chip_text, told_chip_told}

unfoldable auditing : Unit {0}
unfolding computing audited
auditing = tt

pub stale_entry : audited stale_entry_text ≡ stale_entry_told
unfolding auditing
stale_entry = refl

pub told_chip : audited told_chip_text ≡ told_chip_told
unfolding auditing
told_chip = refl

pub put_again : audited put_again_text ≡ put_again_told
unfolding auditing
put_again = refl
