use Rattle.std.proofs.Common.{◌≡◌, ◌-◌, ◌++◌, [], ◌∷◌, List, ℕ, length, take, subst, sym, ◌∙◌, ap, arith}
use Rattle.std.specs.Str.{IsUtf8, IsValidUpTo, valid_up_to}
use Rattle.std.proofs.lemmas.List.{take_at, length-append}
use Rattle.std.proofs.lemmas.Str.{IsUtf8-from_ascii}
use Rattle.transcript_text.proofs.Spaces.{refused}
use Rattle.transcript_text.proofs.words.text.Goals as goal

-- what stands before the last byte
front : (b line : List ℕ) → b ≡ line ++ 10 ∷ [] → take (length b - 1) b ≡ line
front b line e =
    let n : length b - 1 ≡ length line = omega (arith, ap length e, length-append line (10 ∷ [])) in
    ap (λ (s : List ℕ). take (length b - 1) s) e ∙ take_at line (10 ∷ []) (length b - 1) (sym n)

pub returns-in-10-clause-none : goal.returns-in-10-clause-none
returns-in-10-clause-none c =
    let b = c.args.b.now in
    let cut : List ℕ = take (length b - 1) b in
    refused (λ s. (s.now ≡ cut) × IsUtf8 cut) (¬ IsUtf8 cut) (λ e. IsValidUpTo cut (valid_up_to e)) c.from_utf8.result c.ok.result c.ok.ensures.value c.from_utf8.ensures.cases
    (λ other line ascii e. other (subst IsUtf8 (sym (front b line e)) (IsUtf8-from_ascii line ascii)))
