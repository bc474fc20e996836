-- A query that leaves is added.
use Rattle.std.proofs.Common.{◌≡◌, ℕ, true, cond, List, [], ◌∷◌, ◌++◌, sym, ap, ◌∙◌}
use Rattle.mcast_querier.specs.Election.{Election, queries_at}
use Rattle.mcast_querier.specs.Querier.{query_of}

pub pushed : (e : Election) (now : ℕ) (query item : List ℕ) (before after : List (List ℕ)) → queries_at e now ≡ true → item ≡ query
    → after ≡ before ++ item ∷ [] → after ≡ before ++ query_of e now query
pushed e now query item before after leaves is added =
    added
    ∙ ap (λ (q : List ℕ). before ++ q ∷ []) is
    ∙ ap (λ b. before ++ cond b (query ∷ []) []) (sym leaves)
