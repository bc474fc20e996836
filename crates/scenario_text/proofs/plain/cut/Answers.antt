use Rattle.scenario_text.proofs.Splits.{cut_at}
use Rattle.scenario_text.proofs.plain.cut.Goals as goal

pub returns : goal.returns
returns c = cut_at c.args.text.now c.split_at.result.0.now c.split_at.result.1.now c.in_ok-end.end c.in_ok-end.ensures c.split_at.ensures.front c.split_at.ensures.back c.if-end-eq0.false
