use Rattle.std.proofs.Common.{List, ◌++◌, ◌∙◌, ap, arith}
use Rattle.std.proofs.lemmas.List.{take_all}
use Rattle.std.specs.List.{flat_map}
use Rattle.std.specs.String.{string_bytes}
use Rattle.br_model.specs.Text.Head.{port_line}
use Rattle.br_model.specs.Text.Roster.{Entry}
use Rattle.scenario_text.proofs.Declared.{next_line}
use Rattle.scenario_text.proofs.head.append_ports.Goals as goal

pub loop-i-preserved : goal.loop-i-preserved
loop-i-preserved c =
    (next_line _ _ _ c.args.r.now.ports c.loop-i.i (omega arith) c.loop-i.invariant.0 c.in_ok-append_entry.ensures, c.loop-i.invariant.1)

pub returns : goal.returns
returns c =
    c.loop-i.invariant.0 ∙ ap (λ (ports : List Entry). string_bytes c.args.to.now ++ flat_map port_line ports) (take_all c.loop-i.i c.args.r.now.ports (omega arith))
