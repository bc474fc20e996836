-- Rows in ascending order, put one after the other.
use Rattle.std.proofs.Common.{◌≡◌, ℕ, ◌+◌, ◌<◌, length, get_or, take, true, List, [], ◌∷◌, ◌++◌, refl, sym, ap, ◌∙◌, append_assoc, append-nil}
use Rattle.std.specs.List.{fold, AllByRecursion}
use Rattle.std.specs.Cmp.{first_so, second_so}
use Rattle.std.specs.FinMap.Entries.{below_all, by_order, is_sorted}
use Rattle.std.specs.declared.cmp.Ordering.TheVariants.{Greater}
use Rattle.std.proofs.lemmas.List.{take_more}
use Rattle.std.proofs.lemmas.List.Sums.{fold_push}
use Rattle.br_model.specs.Data.Maps.{pair_cmp, put}
use Rattle.neigh_netlink.specs.Neighbours.{Key}
use Rattle.neigh_netlink.proofs.Mapped.{ascending-mapped}
use Rattle.chip_audit.specs.declared.entries.Found.{Found}
use Rattle.chip_audit.specs.Audits.{Row}
use Rattle.chip_audit.specs.Marks.{Entries, all_offloaded, marked}
use Rattle.chip_audit.proofs.Own.{above}

-- after these rows
abbrev pub filled : Entries → List Row → Entries
filled es rows = fold (λ es row. put pair_cmp es row.0 (marked true row.1)) es rows

-- and after one more
pub filled-more : (rows : List Row) (i : ℕ) (row : Row) (es : Entries) → i < length rows → row ≡ get_or rows i row → es ≡ filled [] (take i rows)
    → put pair_cmp es row.0 (marked true row.1) ≡ filled [] (take (i + 1) rows)
filled-more rows i row es within is was =
    ap (λ (es : Entries). put pair_cmp es row.0 (marked true row.1)) was
    ∙ sym (fold_push (λ (es : Entries) (row : Row). put pair_cmp es row.0 (marked true row.1)) [] (take i rows) row)
    ∙ sym (ap (filled []) (take_more rows i row within ∙ ap (λ (r : Row). take i rows ++ r ∷ []) (sym is)))

-- one above all comes last
put-last : (k : Key) (x : Found) (es : Entries) → AllByRecursion (λ e. pair_cmp k e.0 ≡ Greater) es → put pair_cmp es k x ≡ es ++ (k, x) ∷ []
put-last k x [] high = refl
put-last k x (e ∷ es) high =
    ap (λ r. by_order r ((k, x) ∷ e ∷ es) ((e.0, x) ∷ es) (e ∷ put pair_cmp es k x)) high.0 ∙ ap (λ (l : Entries). e ∷ l) (put-last k x es high.1)

-- in ascending entries one is above those before it

between : (k : Key) (es : Entries) (x : Key × Found) (fs : Entries) → below_all pair_cmp k (es ++ x ∷ fs) ≡ true → pair_cmp x.0 k ≡ Greater
between k [] x fs below = above k x.0 (first_so _ _ below)
between k (e ∷ es) x fs below = between k es x fs (second_so _ _ below)

high : (es : Entries) (x : Key × Found) (fs : Entries) → is_sorted pair_cmp (es ++ x ∷ fs) ≡ true → AllByRecursion (λ e. pair_cmp x.0 e.0 ≡ Greater) es
high [] x fs rise = tt
high (e ∷ es) x fs rise = (between e.0 es x fs (first_so _ _ rise), high es x fs (second_so _ _ rise))

more : (es : Entries) (rows : List Row) → is_sorted pair_cmp (es ++ all_offloaded rows) ≡ true → filled es rows ≡ es ++ all_offloaded rows
more es [] rise = sym (append-nil es)
more es (row ∷ rows) rise =
    let e : Key × Found = (row.0, marked true row.1) in
    let next : Entries = es ++ e ∷ [] in
    let whole = append_assoc es (e ∷ []) (all_offloaded rows) in
    ap (λ (l : Entries). filled l rows) (put-last row.0 (marked true row.1) es (high es e (all_offloaded rows) rise))
    ∙ more next rows (ap (is_sorted pair_cmp) whole ∙ rise) ∙ whole

-- all rows, from none on
pub all-filled : (rows : List Row) → is_sorted pair_cmp rows ≡ true → filled [] rows ≡ all_offloaded rows
all-filled rows rise = more [] rows (ascending-mapped (λ (k : Key). marked true) rows ∙ rise)
