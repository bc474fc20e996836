use Rattle.std.proofs.Common.{arith}
use Rattle.chip_tables.proofs.AddressRows.{cells-set, cell-written, kept-set, kept-written, sized-set}
use Rattle.std.proofs.Common.{◌∙◌}
use Rattle.chip_tables.proofs.addresses.AddressCellsCellsKeyAddressRow.put.Goals as goal

pub invariant_of-self : goal.invariant_of-self
invariant_of-self c =
    let rows = c.args.self.now.bank in
    let here = kept-written c.pack_address.result c.args.key.now.0 c.args.key.now.1 (c.pack_address.ensures.key ∙ c.pack_key.ensures.value) c.pack_key.ensures.vid.0 c.pack_key.ensures.vid.1 in
    record {
      sized = sized-set rows c.put.new.self c.args.i c.pack_address.result _ c.put.ensures.value c.args.self.now.sized;
      kept = kept-set rows c.put.new.self c.args.i c.pack_address.result c.put.ensures.value here c.args.self.now.kept;
    }

pub returns : goal.returns
returns c =
    cells-set c.args.self.now.bank c.put.new.self c.args.i c.pack_address.result _ c.put.ensures.value
    (cell-written c.pack_address.result c.args.key.now.0 c.args.key.now.1 c.args.value (c.pack_address.ensures.key ∙ c.pack_key.ensures.value) c.pack_address.ensures.row
    (omega (arith, c.pack_key.ensures.vid.1)))
