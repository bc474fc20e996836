-- The least number of cells is that of their entries, whatever their order.
use Rattle.std.proofs.Common.{◌≡◌, ◌≢◌, ℕ, zero, suc, ◌+◌, ◌<◌, ◌≤◌, cond, Option, None, Some, List, [], ◌∷◌, length, map, get_or, take, refl, sym, ap, ◌∙◌, arith}
use Rattle.std.specs.Ordering.{is_eq, nat_cmp}
use Rattle.std.specs.declared.cmp.Ordering.TheVariants.{Less, Equal, Greater}
use Rattle.std.specs.FinMap.Entries.{find, put, by_order}
use Rattle.lists.specs.Padded.{padded}
use Rattle.std.proofs.lemmas.List.{length-map}
use Rattle.open_addressing.specs.Zipped.{key_of, cell_of, pair_cell}
use Rattle.open_addressing.specs.Lookups.{IsApart}
use Rattle.open_addressing.specs.Finite.{entries_of}
use Rattle.open_addressing.specs.Least.{smaller, least, number_with, number_if, least_in}
use Rattle.open_addressing.proofs.Entries.{apart-tail, alone}
use Rattle.open_addressing.proofs.Zipped.{over-padded, pairs-padded}

smaller-none : (a : Option ℕ) → smaller a None ≡ a
smaller-none None = refl
smaller-none (Some a) = refl

smaller-assoc : (a b c : Option ℕ) → smaller a (smaller b c) ≡ smaller (smaller a b) c
smaller-assoc None b c = refl
smaller-assoc (Some a) None c = refl
smaller-assoc (Some a) (Some b) None = refl
smaller-assoc (Some a) (Some b) (Some c) = ap Some (omega arith)

smaller-swap : (a b c : Option ℕ) → smaller a (smaller b c) ≡ smaller b (smaller a c)
smaller-swap None b c = refl
smaller-swap (Some a) None c = refl
smaller-swap (Some a) (Some b) None = ap Some (omega arith)
smaller-swap (Some a) (Some b) (Some c) = ap Some (omega arith)

module _ {V : Type 0} (f : V → Option ℕ) where
  -- one cell more
  pub least_in-next : (cs : List (Option (ℕ × V))) (i : ℕ) → i < length cs → least_in f (take (i + 1) cs) ≡ smaller (least_in f (take i cs)) (number_if f (get_or cs i None))
  least_in-next [] i h = absurd (omega arith)
  least_in-next (c ∷ cs) zero h = smaller-none (number_if f c)
  least_in-next (c ∷ cs) (suc i) h =
      ap (λ n. least_in f (take n (c ∷ cs))) (let e : suc i + 1 ≡ suc (i + 1) = omega arith in e)
      ∙ ap (smaller (number_if f c)) (least_in-next cs i (omega arith)) ∙ smaller-assoc (number_if f c) (least_in f (take i cs)) (number_if f (get_or cs i None))

  pub least-padded : (n : ℕ) (es : List (ℕ × V)) (v : V) → length es ≤ n → least_in f (map pair_cell (padded (0, v) n es)) ≡ least_in f (map pair_cell es)
  least-padded n es v h =
      ap (least_in f) (pairs-padded n es v)
      ∙ over-padded (least_in f) (λ c m. smaller (number_if f c) m) (λ c cs. refl) (λ m. refl) n (map pair_cell es) (let long = length-map es pair_cell in omega arith)

  least-put : (k : ℕ) (v : V) (es : List (ℕ × V)) → find nat_cmp k es ≡ None → least f (put nat_cmp k v es) ≡ smaller (f v) (least f es)
  least-put k v [] none = refl
  least-put k v (e ∷ es) none =
      elim (nat_cmp k e.0) as (λ r. nat_cmp k e.0 ≡ r → least f (by_order r ((k, v) ∷ e ∷ es) ((e.0, v) ∷ es) (e ∷ put nat_cmp k v es)) ≡ smaller (f v) (least f (e ∷ es))) [
        | Less ↦ λ is. refl
        | Equal ↦ λ is. (let some : Some e.1 ≡ None = sym (ap (λ r. cond (is_eq r) (Some e.1) (find nat_cmp k es)) is) ∙ none in absurd (cc))
        | Greater ↦ λ is.
            ap (smaller (f e.1)) (least-put k v es (sym (ap (λ r. cond (is_eq r) (Some e.1) (find nat_cmp k es)) is) ∙ none)) ∙ smaller-swap (f e.1) (f v) (least f es)
      ] refl

  least-with : (k : ℕ) (v : V) (cs : List (Option (ℕ × V))) → IsApart key_of (Some (k, v) ∷ cs) → least_in f cs ≡ least f (entries_of cs)
      → least_in f (Some (k, v) ∷ cs) ≡ least f (entries_of (Some (k, v) ∷ cs))
  least-with zero v cs apart rest = rest
  least-with (suc k) v cs apart rest = ap (smaller (f v)) rest ∙ sym (least-put (suc k) v (entries_of cs) (alone k v cs apart))

  pub least-cells : (cs : List (Option (ℕ × V))) → IsApart key_of cs → least_in f cs ≡ least f (entries_of cs)
  least-cells [] apart = refl
  least-cells (None ∷ cs) apart = least-cells cs (apart-tail None cs apart)
  least-cells (Some e ∷ cs) apart = least-with e.0 e.1 cs apart (least-cells cs (apart-tail (Some e) cs apart))

  number_if-cell : (k : ℕ) (v : V) → number_if f (cell_of k v) ≡ number_with f k v
  number_if-cell zero v = refl
  number_if-cell (suc k) v = refl

  number_with-some : (k : ℕ) (v : V) → k ≢ 0 → f v ≡ number_with f k v
  number_with-some zero v some = absurd (some refl)
  number_with-some (suc k) v some = refl

  -- what a pair as a cell has
  pub number_if-used : (k : ℕ) (v : V) → k ≢ 0 → f v ≡ number_if f (cell_of k v)
  number_if-used k v some = number_with-some k v some ∙ sym (number_if-cell k v)

  pub number_if-empty : (k : ℕ) (v : V) → k ≡ 0 → None ≡ number_if f (cell_of k v)
  number_if-empty k v none = ap (λ q. number_if f (cell_of q v)) (sym none)
