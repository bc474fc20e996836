use Rattle.std.proofs.Common.{◌++◌, Option, ap, sym, ◌∙◌}
use Rattle.br_model.specs.declared.bpdu.BpduMsg.{BpduMsg}
use Rattle.bridge_state.specs.Following.{line_of, config_lines}
use Rattle.bridge_state.proofs.spanning_tree.add_config.Goals as goal

pub returns-in-Some-last_message-clause-lines : goal.returns-in-Some-last_message-clause-lines
returns-in-Some-last_message-clause-lines c =
    let before = c.args.lines.now.lines in
    c.add_frame.ensures.lines
    ∙ ap (λ (o : Option BpduMsg). before ++ line_of c.args.own c.in-Some.port o) (sym c.in-Some-last_message.is ∙ c.last_message.ensures)
    ∙ ap (λ p. before ++ config_lines c.args.own c.args.tree.now p) c.in-Some.ensures.value
