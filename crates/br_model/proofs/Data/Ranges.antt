-- The numbers from 0 on that pass a test.
use Rattle.std.proofs.Common.{◌≡◌, ℕ, zero, suc, ◌+◌, Bool, true, false, cond, List, [], ◌∷◌, ◌++◌, refl, sym, ap, ◌∙◌, arith, add-one, add-zero}
use Rattle.std.specs.List.{filter, range_with_len}
use Rattle.br_model.specs.Forward.Leave.{all_ports}
use Rattle.br_model.specs.Table.Domains.{port_places}

more_from : (p : ℕ → Bool) (a n : ℕ) → filter p (range_with_len a (suc n)) ≡ filter p (range_with_len a n) ++ cond (p (a + n)) ((a + n) ∷ []) []
more_from p a zero = ap (λ m. cond (p m) (m ∷ []) []) (sym (add-zero a))
more_from p a (suc n) =
    let e : (a + 1) + n ≡ a + suc n = omega arith in
    let rest : filter p (range_with_len (a + 1) (suc n)) ≡ filter p (range_with_len (a + 1) n) ++ cond (p (a + suc n)) ((a + suc n) ∷ []) [] =
    more_from p (a + 1) n ∙ ap (λ m. filter p (range_with_len (a + 1) n) ++ cond (p m) (m ∷ []) []) e in
    ap (λ xs. cond (p a) (a ∷ xs) xs) rest ∙ joined (p a) (filter p (range_with_len (a + 1) n)) (cond (p (a + suc n)) ((a + suc n) ∷ []) [])
  where
    joined : (b : Bool) (xs ys : List ℕ) → cond b (a ∷ (xs ++ ys)) (xs ++ ys) ≡ cond b (a ∷ xs) xs ++ ys
    joined true xs ys = refl
    joined false xs ys = refl

pub filter-range_more : (p : ℕ → Bool) (n : ℕ) → filter p (range_with_len 0 (n + 1)) ≡ filter p (range_with_len 0 n) ++ cond (p n) (n ∷ []) []
filter-range_more p n =
    let e : 0 + n ≡ n = omega arith in
    rw add-one (more_from p 0 n ∙ ap (λ m. filter p (range_with_len 0 n) ++ cond (p m) (m ∷ []) []) e)

pub filter-all_ports : (p : ℕ → Bool) (n : ℕ) → n ≡ port_places → filter p (range_with_len 0 n) ≡ filter p all_ports
unfolding all_ports
filter-all_ports p n e = ap (λ m. filter p (range_with_len 0 m)) e
