-- The election, one place after another.
use Rattle.std.proofs.Common.{◌≡◌, ℕ, suc, ◌+◌, ◌<◌, ◌≤◌, List, [], ◌∷◌, ◌++◌, length, take, get_or, Option, None, Some, Bool, true, false, cond, subst, append-nil, refl, ap, ◌∙◌, arith}
use Rattle.std.specs.List.{fold, filter_map, cons_option}
use Rattle.std.specs.Option.{ForSome, option_map_or, option_and_then}
use Rattle.std.specs.Ordering.{ord_min, is_lt}
use Rattle.std.proofs.lemmas.List.Elements.{filter_map-append}
use Rattle.br_model.specs.Table.Domains.{last_port}
use Rattle.br_model.specs.declared.tree.Candidate.{Candidate}
use Rattle.br_model.specs.declared.tree.TreePort.{TreePort}
use Rattle.br_model.specs.Tree.Vectors.{candidate_cmp, candidate, least}
use Rattle.stp_core.specs.Places.{entries_at}
use Rattle.stp_core.proofs.PlaceLaws.{entry_at, entries-more}

abbrev pub added : Option Candidate → Option Candidate → Option Candidate
added m None = m
added m (Some c) = Some (option_map_or (λ b. ord_min candidate_cmp b c) m c)

fold-push : (a c : Candidate) (cs : List Candidate) → fold (ord_min candidate_cmp) a (cs ++ c ∷ []) ≡ ord_min candidate_cmp (fold (ord_min candidate_cmp) a cs) c
fold-push a c [] = refl
fold-push a c (x ∷ xs) = fold-push (ord_min candidate_cmp a x) c xs

least-push : (cs : List Candidate) (m : Option Candidate) → least (cs ++ cons_option m []) ≡ added (least cs) m
least-push [] None = refl
least-push [] (Some c) = refl
least-push (x ∷ xs) None = ap (λ (l : List Candidate). least (x ∷ l)) (append-nil xs)
least-push (x ∷ xs) (Some c) = ap Some (fold-push x c xs)

offers : (id n : ℕ) (o : Option TreePort) → filter_map (candidate id) (entry_at n o) ≡ cons_option (option_and_then (λ x. candidate id (n, x)) o) []
offers id n None = refl
offers id n (Some x) = refl

pub least-more : (id i : ℕ) (ps : List (Option TreePort)) → i < length ps
    → least (filter_map (candidate id) (entries_at 0 (take (i + 1) ps)))
    ≡ added (least (filter_map (candidate id) (entries_at 0 (take i ps)))) (option_and_then (λ x. candidate id (i, x)) (get_or ps i None))
least-more id i ps h =
    let e : 0 + i ≡ i = omega arith in
    ap (λ n. least (filter_map (candidate id) (entries_at 0 (take n ps)))) (let f : i + 1 ≡ suc i = omega arith in f)
    ∙ ap (λ (es : List (ℕ × TreePort)). least (filter_map (candidate id) es)) (entries-more 0 i ps h ∙ ap (λ n. entries_at 0 (take i ps) ++ entry_at n (get_or ps i None)) e)
    ∙ ap least (filter_map-append (candidate id) (entries_at 0 (take i ps)) (entry_at i (get_or ps i None))
    ∙ ap (λ (l : List Candidate). filter_map (candidate id) (entries_at 0 (take i ps)) ++ l) (offers id i (get_or ps i None)))
    ∙ least-push (filter_map (candidate id) (entries_at 0 (take i ps))) (option_and_then (λ x. candidate id (i, x)) (get_or ps i None))

-- the lesser of two candidates is at one of their ports
pub last-added : (m : Option Candidate) (c : Candidate) → ForSome m (λ b. b.port ≤ last_port) → c.port ≤ last_port → ForSome (added m (Some c)) (λ b. b.port ≤ last_port)
last-added None c before here x e = let same : c ≡ x = cc in subst (λ (y : Candidate). y.port ≤ last_port) same here
last-added (Some b) c before here x e = either (is_lt (candidate_cmp c b)) x e
  where
    either : (t : Bool) (x : Candidate) → Some (cond t c b) ≡ Some x → x.port ≤ last_port
    either true x e = let same : c ≡ x = cc in subst (λ (y : Candidate). y.port ≤ last_port) same here
    either false x e = let same : b ≡ x = cc in subst (λ (y : Candidate). y.port ≤ last_port) same (before b refl)
