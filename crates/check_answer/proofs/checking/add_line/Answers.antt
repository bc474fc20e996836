use Rattle.std.proofs.Common.{◌∷◌, ◌++◌, [], List, ℕ, sym, ap, ◌∙◌, append_assoc}
use Rattle.check_answer.proofs.CheckEnds.{joined, with_none, with_some}
use Rattle.check_answer.proofs.checking.add_line.Goals as goal

pub returns-then-is_empty : goal.returns-then-is_empty
returns-then-is_empty c =
    let old = c.args.to.now.items in
    c.in_ok-push.ensures.items ∙ ap (λ (b : List ℕ). b ++ 10 ∷ []) c.in_ok-extend_from_slice.ensures.items ∙ append_assoc old c.args.word.now (10 ∷ [])
    ∙ ap (λ (b : List ℕ). old ++ b) (sym (with_none c.args.word.now c.args.text.now (sym c.is_empty.ensures ∙ c.if-is_empty.true)))

pub returns : goal.returns
returns c =
    let old = c.args.to.now.items in
    c.in_ok-push-3.ensures.items
    ∙ ap (λ (b : List ℕ). b ++ 10 ∷ []) (
    c.in_ok-extend_from_slice-2.ensures.items
    ∙ ap (λ (b : List ℕ). b ++ c.args.text.now) (c.in_ok-push-2.ensures.items ∙ ap (λ (b : List ℕ). b ++ 32 ∷ []) c.in_ok-extend_from_slice.ensures.items)
    )
    ∙ joined old c.args.word.now c.args.text.now
    ∙ ap (λ (b : List ℕ). old ++ b) (sym (with_some c.args.word.now c.args.text.now (sym c.is_empty.ensures ∙ c.if-is_empty.false)))
