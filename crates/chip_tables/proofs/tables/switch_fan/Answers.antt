use Rattle.std.proofs.Common.{◌≡◌, get_or, ◌∙◌, arith}
use Rattle.chip_regs.specs.Rows.{with_field, bit_of}
use Rattle.chip_tables.specs.Rows.{fan_of}
use Rattle.chip_tables.specs.Writing.{switched_fan}
use Rattle.chip_tables.proofs.Banks.{reads-set}
use Rattle.chip_tables.proofs.Switched.{fan-switched}
use Rattle.chip_tables.proofs.tables.switch_fan.Goals as goal

pub returns : goal.returns
returns c =
    let old = c.args.bank.now in
    let place : c.from.result ≡ c.args.vid = c.from.ensures ∙ c.number.ensures.value in
    let at : c.from-2.result ≡ c.args.port = c.from-2.ensures ∙ c.number-2.ensures.value in
    reads-set fan_of old c.set_bit.new.self c.from.result c.args.vid (with_field (get_or old c.from.result 0) c.from-2.result 1 (bit_of c.args.on))
    (switched_fan (fan_of (get_or old c.args.vid 0)) c.args.port c.args.on) place
    (omega (arith, c.set_bit.ensures.len, place, c.number.ensures.high)) c.set_bit.ensures.value
    ((λ t. fan_of (with_field (get_or old (place t) 0) (at t) 1 (bit_of c.args.on))) ∙ fan-switched (get_or old c.args.vid 0) c.args.port c.args.on c.number-2.ensures.below)
