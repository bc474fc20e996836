use Rattle.std.proofs.Common.{map, ap, ◌∙◌, Bor, List, ℕ, rules}
use Rattle.scenario_text.proofs.Bounded.{line_of}
use Rattle.scenario_text.proofs.reading.what_words_say.Goals as goal

pub returns-clause-value : goal.returns-clause-value
returns-clause-value c =
    line_of c.args.r.now c.args.line.now c.as_slice.result.now c.read_words.result
    (ap (map (λ (w : Bor (List ℕ)). w.now)) c.as_slice.ensures.value ∙ c.in-Some.ensures.few) (search rules) c.read_words.ensures.value
