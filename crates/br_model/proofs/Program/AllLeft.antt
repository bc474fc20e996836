-- What is known of all that a source had left, by what was read of it. The source may not tell what it has.
use Rattle.std.proofs.Common.{◌≡◌, ℕ, ◌+◌, ◌-◌, ◌<◌, ◌≤◌, List, ◌++◌, length, take, Option, None, Some, IfSome, sym, ◌∙◌, ap, arith}
use Rattle.std.specs.Io.KnownBytes.{Consumes, IsAtEnd}
use Rattle.std.proofs.Math.Seq.{take-append-add}
use Rattle.std.proofs.lemmas.List.{append-nil}
use Rattle.br_model.specs.Program.Outcomes.{GoesOn, HoldsNoEnd, Lines}

-- whatever comes behind what was read, all says the same
pub same_with_more : {A : Type 0} (says : List ℕ → A) (left now : Option (List ℕ)) (input : List ℕ) → Consumes left now input → ((more : List ℕ) → says (input ++ more) ≡ says input)
    → IfSome left (λ bytes. says bytes ≡ says input)
same_with_more says None now input c h = tt
same_with_more says (Some bytes) None input c h = absurd c
same_with_more says (Some bytes) (Some rest) input c h = ap says c ∙ h rest

-- or nothing comes
pub same_at_end : {A : Type 0} (says : List ℕ → A) (left now : Option (List ℕ)) (input : List ℕ) → Consumes left now input → IsAtEnd now
    → IfSome left (λ bytes. says bytes ≡ says input)
same_at_end says None now input c end = tt
same_at_end says (Some bytes) None input c end = absurd c
same_at_end says (Some bytes) (Some rest) input c end = ap says (c ∙ ap (λ (b : List ℕ). input ++ b) end ∙ append-nil input)

module _ {End Why : Type 0} (lines : Lines End Why) (limit : ℕ) where
  -- the first bytes, up to the limit, begin with what was read of them
  first_bytes : (input rest : List ℕ) → length input ≤ limit → take limit (input ++ rest) ≡ input ++ take (limit - length input) rest
  first_bytes input rest few =
      let e : limit ≡ length input + (limit - length input) = omega arith in
      ap (λ n. take n (input ++ rest)) e ∙ take-append-add input rest (limit - length input)

  -- lines that don't go on, whatever comes behind them, aren't too long
  pub not_too_long : (left now : Option (List ℕ)) (input : List ℕ) → Consumes left now input → length input ≤ limit → ((more : List ℕ) → GoesOn lines (input ++ more) → ⊥)
      → IfSome left (λ bytes. ¬ HoldsNoEnd lines limit bytes)
  not_too_long None now input c few over = tt
  not_too_long (Some bytes) None input c few over = absurd c
  not_too_long (Some bytes) (Some rest) input c few over = λ long.
      over (take (limit - length input) rest) (ap (λ (b : List ℕ). lines.so_far b) (sym (ap (take limit) c ∙ first_bytes input rest few)) ∙ long.1)

  -- nor are they where that was all, and less than the limit
  pub below_limit : (left now : Option (List ℕ)) (input : List ℕ) → Consumes left now input → IsAtEnd now → length input < limit → IfSome left (λ bytes. ¬ HoldsNoEnd lines limit bytes)
  below_limit None now input c end few = tt
  below_limit (Some bytes) None input c end few = absurd c
  below_limit (Some bytes) (Some rest) input c end few = λ long.
      absurd (omega (arith, long.0, few, ap length (c ∙ ap (λ (b : List ℕ). input ++ b) end ∙ append-nil input)))
