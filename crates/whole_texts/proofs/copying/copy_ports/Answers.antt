use Rattle.std.proofs.Common.{◌∙◌, ap, arith}
use Rattle.whole_texts.specs.Trials.{with_first}
use Rattle.whole_texts.proofs.copying.copy_ports.Goals as goal

pub loop-i-init : goal.loop-i-init
loop-i-init c = (c.requires, c.len-i-end.ensures.value)

pub copy_port-requires-clause-first : goal.copy_port-requires-clause-first
copy_port-requires-clause-first c = c.loop-i.invariant.0

pub loop-i-preserved : goal.loop-i-preserved
loop-i-preserved c = (c.in_ok-copy_port.ensures, c.loop-i.invariant.1)

pub returns : goal.returns
returns c = c.loop-i.invariant.0 ∙ ap (with_first c.args.from.now) (omega arith)
