use Rattle.std.proofs.Common.{ℕ, ◌+◌, ◌*◌, ◌%◌, [], ◌∷◌, ◌++◌, ap, sym, ◌∙◌}
use Rattle.std.specs.String.{string_bytes}
use Rattle.br_model.specs.declared.steps.Step.TheVariants.{Rx, Now, Serve, Turn, Report, Publish}
use Rattle.br_model.specs.Program.Generator.{frame, each}
use Rattle.br_model.specs.Table.Domains.{first_chip_domain}
use Rattle.scenario_generator.specs.Generating.{At, next_steps, lines_of, text_left}
use Rattle.scenario_generator.proofs.Generated.{frame_parts, text_goes_on}
use Rattle.scenario_generator.proofs.generator.Generator.append_frame.Goals as goal

pub returns-clause-text : goal.returns-clause-text
returns-clause-text c =
    let entered = λ (n : ℕ). string_bytes c.args.text.now ++ lines_of (Rx (n % 6 + 1) (frame n) ∷ Serve ∷ []) in
    let others = λ (g : At). string_bytes c.append_entry.new.text ++ lines_of
    (each 3 g.i (Report first_chip_domain) ++ (each 5 g.i (Turn first_chip_domain) ++ (each 7 g.i Publish ++ each 64 g.i (Now (1000 * g.i))))) in
    frame_parts c.args.self.now (string_bytes c.args.text.now) _ _ (c.append_entry.ensures.text ∙ ap entered c.number.ensures) (c.append_others.ensures.text ∙ ap others c.self.view_is)

pub returns-clause-rest : goal.returns-clause-rest
returns-clause-rest c =
    text_goes_on c.args.self.now c.requires.left ∙ ap (λ (g : At). lines_of (next_steps c.args.self.now) ++ text_left g) (sym c.go_on.ensures)
