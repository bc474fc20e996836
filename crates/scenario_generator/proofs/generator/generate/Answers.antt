use Rattle.std.proofs.Common.{◌≡◌, ℕ, ◌-◌, List, ◌++◌, ap, ◌∙◌, arith}
use Rattle.scenario_generator.specs.Generating.{At, opening_text, text_left}
use Rattle.scenario_generator.proofs.Generated.{written_on}
use Rattle.scenario_generator.proofs.generator.generate.Goals as goal

pub loop-init : goal.loop-init
loop-init c =
    let left : c.new-generator.result.left ≡ c.args.count = ap (λ (g : At). g.left) c.new-generator.ensures.first in
    record {
      text =
          ap (λ (s : List ℕ). s ++ text_left c.new-generator.result)
          (c.append_opening.ensures.text ∙ ap (λ (s : List ℕ). s ++ opening_text) c.in_ok-text.ensures.bytes)
          ∙ c.new-generator.ensures.text;
      left = omega (arith, left);
      room = omega (arith, left, c.in_ok-text.ensures.exact, c.in_ok-text.ensures.len);
    }

pub loop-preserved : goal.loop-preserved
loop-preserved c =
    let left : c.append_frame.new.self.left ≡ c.loop.generator.left - 1 = ap (λ (g : At). g.left) c.append_frame.ensures.next in
    record {
      text = written_on _ _ _ _ _ _ c.append_frame.ensures.text c.append_frame.ensures.rest c.loop.invariant.text;
      left = omega (arith, left);
      room = omega (arith, left);
    }
