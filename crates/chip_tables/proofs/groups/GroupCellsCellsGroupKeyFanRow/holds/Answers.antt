use Rattle.std.proofs.Common.{refl, sym, ◌∙◌, arith}
use Rattle.std.specs.Prelude.{nat_eq}
use Rattle.chip_tables.specs.GroupCells.{head_in, bits_in, head_of, address_bits}
use Rattle.chip_tables.proofs.GroupRows.{within-key, group-key-at, holds-then, holds-else, bits-small}
use Rattle.chip_tables.proofs.groups.GroupCellsCellsGroupKeyFanRow.holds.Goals as goal

pub at-row-requires : goal.at-row-requires
at-row-requires c = let w = within-key c.args.self.now.keys c.args.self.now.rows c.args.i c.requires.within in (omega arith, (omega arith, omega (arith, w, c.args.self.now.sized_keys)))

pub returns-then-head_at-head : goal.returns-then-head_at-head
returns-then-head_at-head c =
    (λ t. nat_eq (c.address_at.ensures.value t) (c.address.ensures.value t))
    ∙ holds-then _ _ (head_in c.at-row.result.now) (head_of c.args.key.now) (bits_in c.at-row.result.now) (address_bits c.args.key.now.1)
    (group-key-at c.args.self.now.keys c.args.self.now.rows c.args.i c.at-row.result.now c.requires.within c.at-row.ensures.value) refl
    c.address_at.ensures.below c.address.ensures.below (sym c.head_at.ensures ∙ c.if-head_at-head.true ∙ c.head.ensures.value)

pub returns-else-head_at-head : goal.returns-else-head_at-head
returns-else-head_at-head c =
    (λ t. nat_eq (c.head_at.ensures t) (c.head.ensures.value t))
    ∙ holds-else _ _ (head_in c.at-row.result.now) (head_of c.args.key.now) (bits_in c.at-row.result.now) (address_bits c.args.key.now.1)
    (group-key-at c.args.self.now.keys c.args.self.now.rows c.args.i c.at-row.result.now c.requires.within c.at-row.ensures.value) refl
    (bits-small c.at-row.result.now) c.head.ensures.below (λ e. c.if-head_at-head.false (c.head_at.ensures ∙ e ∙ sym c.head.ensures.value))
