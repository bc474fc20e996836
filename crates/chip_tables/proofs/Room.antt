-- A map gets one entry more at most.
use Rattle.std.proofs.Common.{suc, ◌≤◌, List, [], ◌∷◌, length, arith}
use Rattle.std.specs.FinMap.Entries.{by_order}
use Rattle.std.specs.declared.cmp.Ordering.{Ordering}
use Rattle.std.specs.declared.cmp.Ordering.TheVariants.{Less, Equal, Greater}
use Rattle.br_model.specs.Data.Maps.{put}

pub put-grows : {K X : Type 0} (R : K → K → Ordering) (es : List (K × X)) (k : K) (v : X) → length (put R es k v) ≤ suc (length es)
put-grows R [] k v = omega arith
put-grows R (e ∷ es) k v =
    elim (R k e.0) as (λ r. length (by_order r ((k, v) ∷ e ∷ es) ((e.0, v) ∷ es) (e ∷ put R es k v)) ≤ suc (length (e ∷ es))) [
      | Less ↦ omega arith
      | Equal ↦ omega arith
      | Greater ↦ omega (arith, put-grows R es k v)
    ]
