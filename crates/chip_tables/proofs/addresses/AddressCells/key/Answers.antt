use Rattle.std.proofs.Common.{Some, sym, ap, ◌∙◌, arith}
use Rattle.chip_tables.proofs.AddressRows.{place-at, place-none, place-some}
use Rattle.chip_tables.proofs.addresses.AddressCells.key.Goals as goal

pub returns-then-key-eq0 : goal.returns-then-key-eq0
returns-then-key-eq0 c =
    place-at c.args.self.now.bank c.args.i c.at.result.now (omega (arith, c.requires, c.at.ensures.len)) c.at.ensures.value
    ∙ ap Some (place-none c.at.result.now (sym c.key_in-key.ensures.value ∙ c.if-key-eq0.true))

pub returns : goal.returns
returns c =
    place-at c.args.self.now.bank c.args.i c.at.result.now (omega (arith, c.requires, c.at.ensures.len)) c.at.ensures.value
    ∙ ap Some
    (place-some c.at.result.now c.key_in-key.result c.in-Some.vid c.in-Some-from_number.mac c.key_in-key.ensures.value c.if-key-eq0.false c.key_in-key.ensures.below c.in-Some.ensures.value
    c.in-Some-from_number.ensures.value)
