-- Entries by number under other names, where the numbers are in the order of the names.
use Rattle.std.proofs.Common.{◌≡◌, ℕ, suc, true, false, not, cond, Some, List, [], ◌∷◌, length, map, refl, sym, ap, ◌∙◌}
use Rattle.std.specs.Ordering.{is_eq, eq_by_cmp, nat_cmp}
use Rattle.std.specs.declared.cmp.Ordering.{Ordering}
use Rattle.std.specs.declared.cmp.Ordering.TheVariants.{Less, Equal, Greater}
use Rattle.std.specs.FinMap.Entries as entries
use Rattle.std.specs.FinMap.Entries.{by_order}
use Rattle.br_model.specs.Data.Maps.{get, put, without}

module _ {K V : Type 0} (R : K → K → Ordering) (name : ℕ → K) where
  abbrev pub renamed : List (ℕ × V) → List (K × V)
  renamed es = map (λ e. (name e.0, e.1)) es

  pub length-renamed : (es : List (ℕ × V)) → length (renamed es) ≡ length es
  length-renamed [] = refl
  length-renamed (e ∷ es) = ap suc (length-renamed es)

  module _ (k : K) (n : ℕ) (order : (q : ℕ) → R k (name q) ≡ nat_cmp n q) (named : name n ≡ k) where
    pub get-renamed : (es : List (ℕ × V)) → get R (renamed es) k ≡ entries.find nat_cmp n es
    get-renamed [] = refl
    get-renamed (e ∷ es) = λ i. cond (is_eq (order e.0 i)) (Some e.1) (get-renamed es i)

    pub put-renamed : (x : V) (es : List (ℕ × V)) → put R (renamed es) k x ≡ renamed (entries.put nat_cmp n x es)
    put-renamed x [] = ap (λ (q : K). (q, x) ∷ []) (sym named)
    put-renamed x (e ∷ es) =
        ap (λ r. by_order r ((k, x) ∷ renamed (e ∷ es)) ((name e.0, x) ∷ renamed es) ((name e.0, e.1) ∷ put R (renamed es) k x)) (order e.0)
        ∙ elim (nat_cmp n e.0) as (λ r. by_order r ((k, x) ∷ renamed (e ∷ es)) ((name e.0, x) ∷ renamed es) ((name e.0, e.1) ∷ put R (renamed es) k x)
        ≡ renamed (by_order r ((n, x) ∷ e ∷ es) ((e.0, x) ∷ es) (e ∷ entries.put nat_cmp n x es))) [
          | Less ↦ ap (λ (q : K). (q, x) ∷ renamed (e ∷ es)) (sym named)
          | Equal ↦ refl
          | Greater ↦ ap (λ (f : List (K × V)). (name e.0, e.1) ∷ f) (put-renamed x es)
        ]

    pub without-renamed : (es : List (ℕ × V)) → without R (renamed es) k ≡ renamed (entries.where_key nat_cmp (λ q. not (eq_by_cmp nat_cmp n q)) es)
    without-renamed [] = refl
    without-renamed (e ∷ es) =
        let rest : List (K × V) = without R (renamed es) k in
        let left : List (ℕ × V) = entries.where_key nat_cmp (λ q. not (eq_by_cmp nat_cmp n q)) es in
        ap (λ r. cond (not (is_eq r)) ((name e.0, e.1) ∷ rest) rest) (order e.0)
        ∙ elim (is_eq (nat_cmp n e.0)) as (λ b. cond (not b) ((name e.0, e.1) ∷ rest) rest ≡ renamed (cond (not b) (e ∷ left) left)) [
          | true ↦ without-renamed es
          | false ↦ ap (λ (f : List (K × V)). (name e.0, e.1) ∷ f) (without-renamed es)
        ]
