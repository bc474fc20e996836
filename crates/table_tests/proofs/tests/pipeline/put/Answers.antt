use Rattle.std.proofs.Common.{ℕ, suc, ◌≤◌, List, length, sym, subst, arith}
use Rattle.br_model.specs.Data.Maps.{pair_cmp}
use Rattle.chip_tables.specs.declared.rows.AddressRow.{AddressRow}
use Rattle.chip_tables.proofs.Room.{put-grows}
use Rattle.table_tests.proofs.tests.pipeline.put.Goals as goal

pub set_address-requires : goal.set_address-requires
set_address-requires c = omega (arith, put-grows pair_cmp c.args.tables.now.addresses (1, c.args.mac) c.args.row, c.requires)

pub returns : goal.returns
returns c =
    subst (λ (es : List ((ℕ × ℕ) × AddressRow)). length es ≤ suc (length c.args.tables.now.addresses)) (sym c.set_address.ensures.row)
    (put-grows pair_cmp c.args.tables.now.addresses (1, c.args.mac) c.args.row)
