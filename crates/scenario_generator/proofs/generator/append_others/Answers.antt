use Rattle.std.specs.String.{string_bytes}
use Rattle.scenario_generator.proofs.Generated.{others_parts}
use Rattle.scenario_generator.proofs.generator.append_others.Goals as goal

pub returns-clause-text : goal.returns-clause-text
returns-clause-text c =
    others_parts c.args.i (string_bytes c.args.text.now) _ _ _ _ c.append_each.ensures.text c.append_each-2.ensures.text c.append_each-3.ensures.text c.append_moment.ensures.text
