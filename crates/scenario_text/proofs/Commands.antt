-- A command's line, and others.
use Rattle.std.proofs.Common.{◌≡◌, ℕ, ◌+◌, ◌-◌, Bool, if◌then◌else◌, List, [], ◌∷◌, length, take, drop, sym, ◌∙◌, ap, add-one, Bor, arith}
use Rattle.std.specs.Prelude.{codes}
use Rattle.std.proofs.lemmas.List.{take_all}
use Rattle.std.proofs.Math.Path.{fun_ext}
use Rattle.br_model.specs.Text.CommandForms.{commands}
use Rattle.br_model.specs.Text.Forms.{line}
use Rattle.br_model.specs.Text.LineForms.{commanded, lines, words_say}
use Rattle.br_model.specs.Text.Roster.{Roster}
use Rattle.br_model.specs.Text.Words.{Word}
use Rattle.br_model.proofs.Text.Words.{equal, other}
use Rattle.bridge_command.specs.Seen.{word}

one_on : (w : Bor Word) (ws : List (Bor Word)) → (λ i. word (w ∷ ws) (i + 1)) ≡ word ws
one_on w ws = fun_ext (λ i. ap (λ (n : ℕ). word (w ∷ ws) n) (add-one i))

pub after_cmd : (r : Roster) (ws : List (Bor Word)) → word ws 0 ≡ codes "cmd"
    → words_say r (length ws) (word ws) ≡ commanded (line commands r (length (take (length ws - 1) (drop 1 ws))) (word (take (length ws - 1) (drop 1 ws))))
after_cmd r [] first = absurd (cc)
after_cmd r (w ∷ ws) first =
    let fewer : length (w ∷ ws) - 1 ≡ length ws = omega arith in
    let rest : take (length (w ∷ ws) - 1) ws ≡ ws = take_all (length (w ∷ ws) - 1) ws (omega arith) in
    ap (λ (b : Bool). if b then commanded (line commands r (length (w ∷ ws) - 1) (λ i. word (w ∷ ws) (i + 1))) else line lines r (length (w ∷ ws)) (word (w ∷ ws))) (equal _ _ first)
    ∙ ap (λ (f : ℕ → Word). commanded (line commands r (length (w ∷ ws) - 1) f)) (one_on w ws)
    ∙ ap (λ (n : ℕ). commanded (line commands r n (word ws))) fewer
    ∙ ap (λ (vs : List (Bor Word)). commanded (line commands r (length vs) (word vs))) (sym rest)

pub without_cmd : (r : Roster) (ws : List (Bor Word)) → (word ws 0 ≡ codes "cmd" → ⊥) → words_say r (length ws) (word ws) ≡ line lines r (length ws) (word ws)
without_cmd r ws first =
    ap (λ (b : Bool). if b then commanded (line commands r (length ws - 1) (λ i. word ws (i + 1))) else line lines r (length ws) (word ws)) (other _ _ first)
