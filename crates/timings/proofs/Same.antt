-- Whether what was sent is what was seen.
use Rattle.std.proofs.Common.{◌≡◌, ℕ, true, false, ◌&&◌, ◌||◌, List, [], ◌∷◌, refl, sym, ap, ◌∙◌, eqb-true, eq-eqb}
use Rattle.std.proofs.lemmas.Bool.{and_parts, true≢false}
use Rattle.std.specs.Prelude.{◌==◌}
use Rattle.br_model.specs.Plane.Sending.{Sent}
use Rattle.timings.specs.Explained.{IsFit, Sights, is_ignored, seen_of_frame, watched}
use Rattle.timings.specs.Greedy.{fits, same_bytes, same_sent}

pub same-bytes : (xs ys : List ℕ) → same_bytes xs ys ≡ true → xs ≡ ys
same-bytes [] [] e = refl
same-bytes [] (y ∷ ys) e = absurd (true≢false (sym e))
same-bytes (x ∷ xs) [] e = absurd (true≢false (sym e))
same-bytes (x ∷ xs) (y ∷ ys) e =
    let parts = and_parts (x == y) (same_bytes xs ys) e in
    λ i. eqb-true x y parts.0 i ∷ same-bytes xs ys parts.1 i

pub bytes-same : (xs : List ℕ) → same_bytes xs xs ≡ true
bytes-same [] = refl
bytes-same (x ∷ xs) = λ i. eq-eqb x x refl i && bytes-same xs i

pub same-sent : (a b : Sent) → same_sent a b ≡ true → a ≡ b
same-sent [] [] e = refl
same-sent [] (y ∷ ys) e = absurd (true≢false (sym e))
same-sent (x ∷ xs) [] e = absurd (true≢false (sym e))
same-sent (x ∷ xs) (y ∷ ys) e =
    let first = and_parts (x.0 == y.0) (same_bytes x.1 y.1 && same_sent xs ys) e in
    let rest = and_parts (same_bytes x.1 y.1) (same_sent xs ys) first.1 in
    λ i. (eqb-true x.0 y.0 first.0 i, same-bytes x.1 y.1 rest.0 i) ∷ same-sent xs ys rest.1 i

pub sent-same : (a : Sent) → same_sent a a ≡ true
sent-same [] = refl
sent-same (x ∷ xs) = λ i. eq-eqb x.0 x.0 refl i && (bytes-same x.1 i && sent-same xs i)

-- the test is just whether it fits
pub fits-is : (s : Sights) (id : ℕ) (sent : Sent) → fits s id sent ≡ true → IsFit s id sent
fits-is s id sent e known =
    same-sent (watched s sent) (seen_of_frame s id) (sym (ap (λ b. b || same_sent (watched s sent) (seen_of_frame s id)) known) ∙ e)

pub is-fits : (s : Sights) (id : ℕ) (sent : Sent) → IsFit s id sent → fits s id sent ≡ true
is-fits s id sent fit =
    (elim (is_ignored s id) as (λ b. is_ignored s id ≡ b → (b || same_sent (watched s sent) (seen_of_frame s id)) ≡ true) [
      | true ↦ λ e. refl
      | false ↦ λ e. ap (λ l. same_sent l (seen_of_frame s id)) (fit e) ∙ sent-same (seen_of_frame s id)
    ]) refl
