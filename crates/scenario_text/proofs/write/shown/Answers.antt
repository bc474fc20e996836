use Rattle.std.proofs.Common.{◌≡◌, ℕ, ◌+◌, ◌==◌, false, List, [], ◌∷◌, length, take, min, ap, sym, ◌∙◌, arith}
use Rattle.std.proofs.lemmas.List.{take_min}
use Rattle.br_model.specs.Wire.Frames.{longest_frame}
use Rattle.br_model.specs.Text.Spelling.{shown as shown_of}
use Rattle.scenario_text.proofs.write.shown.Goals as goal

some : (bytes : List ℕ) (n : ℕ) → (length bytes == 0) ≡ false → n ≡ min (length bytes) (longest_frame + 1) → take n bytes ≡ shown_of bytes
some [] n h e = absurd (cc)
some (b ∷ bytes) n h e =
    let turned : n ≡ min (longest_frame + 1) (length (b ∷ bytes)) = omega arith in
    ap (λ (k : ℕ). take k (b ∷ bytes)) turned ∙ take_min (longest_frame + 1) (b ∷ bytes)

pub returns-else-is_empty : goal.returns-else-is_empty
returns-else-is_empty c = some c.args.bytes.now c.min.result (sym c.if-is_empty.ensures) c.min.ensures
