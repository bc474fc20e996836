use Rattle.std.proofs.Common.{List, ℕ, ◌++◌, ap, sym, ◌∙◌}
use Rattle.std.specs.String.{string_bytes}
use Rattle.scenario_generator.proofs.Generated.{last_text}
use Rattle.scenario_generator.proofs.generator.Generator.append_end.Goals as goal

pub returns-clause-text : goal.returns-clause-text
returns-clause-text c = c.put.ensures.text ∙ ap (λ (t : List ℕ). string_bytes c.args.text.now ++ t) (sym (last_text c.args.self.now c.requires.last))
