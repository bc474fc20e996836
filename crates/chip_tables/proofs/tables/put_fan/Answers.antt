use Rattle.std.proofs.Common.{◌∙◌, arith}
use Rattle.chip_tables.specs.Rows.{fan_of}
use Rattle.chip_tables.proofs.Banks.{reads-set}
use Rattle.chip_tables.proofs.tables.put_fan.Goals as goal

pub returns : goal.returns
returns c =
    reads-set fan_of c.args.bank.now c.put.new.self c.from.result c.args.v c.pack_fan.result c.args.r.now (c.from.ensures ∙ c.number.ensures.value)
    (omega (arith, c.put.ensures.len, c.from.ensures, c.number.ensures.value, c.number.ensures.high)) c.put.ensures.value c.pack_fan.ensures
