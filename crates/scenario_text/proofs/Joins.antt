-- Texts that were written one behind another.
use Rattle.std.proofs.Common.{◌≡◌, ℕ, ◌+◌, ◌<◌, List, [], ◌∷◌, ◌++◌, length, take, get_or, ap, sym, ◌∙◌, append_assoc}
use Rattle.std.specs.List.{flat_map}
use Rattle.std.proofs.lemmas.Grind.{flat_map-append}
use Rattle.std.proofs.lemmas.List.{append-nil, take_more}
use Rattle.lemmas.proofs.Lists.{three_parts}

-- one part more of many
pub part_more : (f : ℕ → List ℕ) (s0 s1 s2 first : List ℕ) (xs : List ℕ) (i d : ℕ) → i < length xs → s1 ≡ s0 ++ (first ++ flat_map f (take i xs)) → s2 ≡ s1 ++ f (get_or xs i d)
    → s2 ≡ s0 ++ (first ++ flat_map f (take (i + 1) xs))
part_more f s0 s1 s2 first xs i d h e g =
    let x = get_or xs i d in
    let front = flat_map f (take i xs) in
    g
    ∙ ap (λ (s : List ℕ). s ++ f x) e
    ∙ append_assoc s0 (first ++ front) (f x)
    ∙ ap (λ (s : List ℕ). s0 ++ s) (append_assoc first front (f x))
    ∙ ap (λ (s : List ℕ). s0 ++ (first ++ (front ++ s))) (sym (append-nil (f x)))
    ∙ ap (λ (s : List ℕ). s0 ++ (first ++ s)) (sym (flat_map-append f (take i xs) (x ∷ [])))
    ∙ ap (λ (ys : List ℕ). s0 ++ (first ++ flat_map f ys)) (sym (take_more xs i d h))

pub five_parts : (s0 s1 s2 s3 s4 s5 a b c d e : List ℕ) → s1 ≡ s0 ++ a → s2 ≡ s1 ++ b → s3 ≡ s2 ++ c → s4 ≡ s3 ++ d → s5 ≡ s4 ++ e → s5 ≡ s0 ++ (a ++ (b ++ (c ++ (d ++ e))))
five_parts s0 s1 s2 s3 s4 s5 a b c d e f g h i j =
    j
    ∙ ap (λ (s : List ℕ). s ++ e) i
    ∙ append_assoc s3 d e
    ∙ ap (λ (s : List ℕ). s ++ (d ++ e)) (three_parts s0 s1 s2 s3 a b c f g h)
    ∙ append_assoc s0 (a ++ (b ++ c)) (d ++ e)
    ∙ ap (λ (s : List ℕ). s0 ++ s) (append_assoc a (b ++ c) (d ++ e) ∙ ap (λ (s : List ℕ). a ++ s) (append_assoc b c (d ++ e)))
