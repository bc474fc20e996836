-- What frames leave in a chip, as its reports and hits are kept.
use Rattle.std.proofs.Common.{◌≡◌, ℕ, ◌==◌, nat_lt, Bool, true, false, not, cond, ◌&&◌, ◌||◌, List, [], ◌∷◌, ◌++◌, length, refl, sym, ap, ap₂, ◌∙◌}
use Rattle.std.specs.List.{list_any}
use Rattle.lemmas.proofs.Numbers.{eqb-sym}
use Rattle.br_model.specs.Plane.Chip.{same_triple, offered}
use Rattle.br_model.specs.Control.Learning.{Triple}
use Rattle.br_model.specs.Table.Limits.{most_reports}
use Rattle.learn_report.specs.Reports.{Reported, chip_of, is_waiting}

same_test : (x y : Triple) → same_triple x y ≡ ((y.0 == x.0) && ((y.1 == x.1) && (y.2 == x.2)))
same_test x y = ap₂ ◌&&◌ (eqb-sym x.0 y.0) (ap₂ ◌&&◌ (eqb-sym x.1 y.1) (eqb-sym x.2 y.2))

same_waiting : (reports : List Triple) (x : Triple) → list_any (same_triple x) reports ≡ is_waiting reports x
same_waiting [] x = refl
same_waiting (y ∷ ys) x = ap₂ ◌||◌ (same_test x y) (same_waiting ys x)

-- an offer that is kept, or not
pub offered_as : (dom n : ℕ) (r : Reported) (x : Triple) (kept : Bool) → kept ≡ (nat_lt (length r.reports) most_reports && not (is_waiting r.reports x))
    → chip_of dom n (record r { reports = cond kept (r.reports ++ x ∷ []) r.reports }) ≡ offered (chip_of dom n r) x
offered_as dom n r x kept is =
    ap (λ b. chip_of dom n (record r { reports = cond b (r.reports ++ x ∷ []) r.reports })) is
    ∙ by (nat_lt (length r.reports) most_reports) (is_waiting r.reports x)
    ∙ ap (λ b. cond (b || not (nat_lt (length r.reports) most_reports)) (chip_of dom n r) (record (chip_of dom n r) { reports = r.reports ++ x ∷ [] })) (sym (same_waiting r.reports x))
  where
    by : (room waits : Bool)
        → chip_of dom n (record r { reports = cond (room && not waits) (r.reports ++ x ∷ []) r.reports }) ≡ cond (waits || not room) (chip_of dom n r)
        (record (chip_of dom n r) { reports = r.reports ++ x ∷ [] })
    by true true = refl
    by true false = refl
    by false true = refl
    by false false = refl
