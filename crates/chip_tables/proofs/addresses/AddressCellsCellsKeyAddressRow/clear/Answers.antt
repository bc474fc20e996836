use Rattle.std.proofs.Common.{None, ap, set, ◌∙◌}
use Rattle.chip_tables.proofs.AddressRows.{cells-set, kept-set, kept_blank, sized-set, blank_cell}
use Rattle.chip_tables.proofs.addresses.AddressCellsCellsKeyAddressRow.clear.Goals as goal

pub invariant_of-self : goal.invariant_of-self
invariant_of-self c =
    let is = c.put.ensures.value ∙ ap (set c.args.self.now.bank c.args.i) c.zero.ensures in
    record {
      sized = sized-set c.args.self.now.bank c.put.new.self c.args.i 0 _ is c.args.self.now.sized;
      kept = kept-set c.args.self.now.bank c.put.new.self c.args.i 0 is kept_blank c.args.self.now.kept;
    }

pub returns : goal.returns
returns c = cells-set c.args.self.now.bank c.put.new.self c.args.i 0 None (c.put.ensures.value ∙ ap (set c.args.self.now.bank c.args.i) c.zero.ensures) blank_cell
