use Rattle.std.proofs.Common.{◌<◌, ℕ, subst}
use Rattle.chip_tables.specs.GroupCells.{head_of, address_bits}
use Rattle.chip_tables.proofs.GroupRows.{numbered-some}
use Rattle.chip_tables.proofs.groups.group_key.Goals as goal

pub returns-clause-some : goal.returns-clause-some
returns-clause-some c = numbered-some (head_of (c.args.vid, c.args.group)) (address_bits c.args.group) (subst (λ (n : ℕ). 0 < n) c.head.ensures.value c.head.ensures.some)
