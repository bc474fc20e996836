-- A text is cut back to where an append began that found no room.
use Rattle.std.proofs.Common.{◌≡◌, ℕ, ◌≤◌, List, length, take, Result, OnErr, subst, sym, ap, ◌∙◌, arith, length-append}
use Rattle.std.proofs.Math.Seq.{take-append_seam}
use Rattle.std.specs.Str.{IsUtf8}
use Rattle.std.specs.String.Boundary.{IsSplitPoint}
use Rattle.std.proofs.lemmas.Str.{IsCharBoundary-from_take}
use Rattle.std.proofs.lemmas.Result.{on_err_weaker}
use Rattle.transcript_text.specs.Extends.{Extends}

-- what stood there before
pub front : (old new : List ℕ) → Extends old new → take (length old) new ≡ old
front old new e = ap (take (length old)) e.is ∙ take-append_seam old e.rest

-- a text that begins with a text may be cut behind it
seam : (old new : List ℕ) → IsUtf8 old → IsUtf8 new → Extends old new → IsSplitPoint new (length old)
seam old new u v e =
    let within : length old ≤ length new = subst (λ (n : ℕ). length old ≤ n) (sym (ap length e.is ∙ length-append old e.rest)) (omega arith) in
    let boundary = IsCharBoundary-from_take new (length old) v within (subst IsUtf8 (sym (front old new e)) u) in
    (boundary.0, λ first before. boundary.1 before)

pub torn : {A E : Type 0} (r : Result A E) (old new : List ℕ) (whole : ℕ) → IsUtf8 old → IsUtf8 new → whole ≡ length old → OnErr r (Extends old new) → OnErr r (IsSplitPoint new whole)
torn r old new whole u v is = on_err_weaker r (λ (e : Extends old new). subst (λ (n : ℕ). IsSplitPoint new n) (sym is) (seam old new u v e))
