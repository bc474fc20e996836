use Rattle.std.proofs.Common.{ap, refl, sym, ◌∙◌, arith}
use Rattle.std.specs.Str.{bytes_eq}
use Rattle.br_model.specs.Text.Operands.{port_name}
use Rattle.br_model.specs.Text.Roster.{host_name}
use Rattle.scenario_text.proofs.PlainCommands.{member_of, dev_line}
use Rattle.scenario_text.proofs.plain.member.Goals as goal

pub returns : goal.returns
returns c =
    member_of c.args.r.now.ports c.args.entry.now c.in_ok-found.found.1.now _ c.in_ok-found.found.0 c.in_ok-vid.vid c.in-Ok.port c.in_ok-found.ensures
    (dev_line c.in_ok-found.found.1.now (omega arith) (omega arith) (omega arith) (omega arith) (omega arith))
    (c.is_one_word.ensures c.if-not-is_one_word.false)
    c.in_ok-vid.ensures.value (c.in_ok-vid.ensures.found.0 refl).0 (c.in_ok-vid.ensures.found.0 refl).1
    (c.in-Ok.ensures ∙ ap (port_name c.args.r.now.ports) c.readable-name.ensures)
    (ap (λ w. bytes_eq w host_name) (sym c.readable-name.ensures) ∙ sym c.eq.ensures ∙ c.if-eq.false)
