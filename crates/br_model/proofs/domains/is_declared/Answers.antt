use Rattle.std.proofs.Common.{◌∙◌}
use Rattle.br_model.proofs.Table.DomainChips.{any-place}
use Rattle.br_model.proofs.domains.is_declared.Goals as goal

pub returns : goal.returns
returns c n = c.contains.ensures.value ∙ any-place n c.args.d c.args.places.now
