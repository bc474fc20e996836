use Rattle.std.proofs.Common.{refl, sym, ◌∙◌, arith}
use Rattle.std.specs.Prelude.{nat_lt}
use Rattle.chip_tables.specs.GroupCells.{head_in, bits_in, head_of, address_bits}
use Rattle.chip_tables.proofs.GroupRows.{within-key, group-key-at, below-then, below-else, bits-small}
use Rattle.chip_tables.proofs.groups.GroupCellsCellsGroupKeyFanRow.is_below.Goals as goal

pub at-row-requires : goal.at-row-requires
at-row-requires c = let w = within-key c.args.self.now.keys c.args.self.now.rows c.args.i c.requires.within in (omega arith, (omega arith, omega (arith, w, c.args.self.now.sized_keys)))

pub returns-then-head_at-head : goal.returns-then-head_at-head
returns-then-head_at-head c =
    (λ t. nat_lt (c.address_at.ensures.value t) (c.address.ensures.value t))
    ∙ below-then _ _ (head_in c.at-row.result.now) (head_of c.args.key.now) (bits_in c.at-row.result.now) (address_bits c.args.key.now.1)
    (group-key-at c.args.self.now.keys c.args.self.now.rows c.args.i c.at-row.result.now c.requires.within c.at-row.ensures.value) refl
    (sym c.head_at.ensures ∙ c.if-head_at-head.true ∙ c.head.ensures.value)

pub returns : goal.returns
returns c =
    (λ t. nat_lt (c.head_at-2.ensures t) (c.head-2.ensures.value t))
    ∙ below-else _ _ (head_in c.at-row.result.now) (head_of c.args.key.now) (bits_in c.at-row.result.now) (address_bits c.args.key.now.1)
    (group-key-at c.args.self.now.keys c.args.self.now.rows c.args.i c.at-row.result.now c.requires.within c.at-row.ensures.value) refl
    (bits-small c.at-row.result.now) c.head.ensures.below (λ e. c.if-head_at-head.false (c.head_at.ensures ∙ e ∙ sym c.head.ensures.value))
