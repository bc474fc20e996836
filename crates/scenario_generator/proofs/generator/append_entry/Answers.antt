use Rattle.std.proofs.Common.{List, ℕ, ◌++◌, ap, ◌∙◌}
use Rattle.std.specs.String.{string_bytes}
use Rattle.scenario_generator.proofs.Generated.{entry_parts}
use Rattle.scenario_generator.proofs.generator.append_entry.Goals as goal

pub returns-clause-text : goal.returns-clause-text
returns-clause-text c =
    entry_parts c.args.n (string_bytes c.args.text.now) _ _ _ _
    (c.put.ensures.text ∙ ap (λ (t : List ℕ). string_bytes c.args.text.now ++ t) c.front.ensures.text)
    (c.put-2.ensures.text ∙ ap (λ (t : List ℕ). string_bytes c.put.new.text ++ t) c.destination.ensures.text)
    (c.put-3.ensures.text ∙ ap (λ (t : List ℕ). string_bytes c.put-2.new.text ++ t) c.station.ensures.text)
    c.put-4.ensures.text
