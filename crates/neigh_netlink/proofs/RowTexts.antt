-- Texts that were written one behind another.
use Rattle.std.proofs.Common.{◌≡◌, ℕ, List, [], ◌∷◌, ◌++◌, Result, Ok, Err, ap, ◌∙◌}
use Rattle.std.specs.List.{flat_map}
use Rattle.std.specs.Prelude.{codes, if◌then◌else◌}
use Rattle.std.specs.Result.{OnOk, is_ok}
use Rattle.lemmas.proofs.Lists.{two_parts}
use Rattle.neigh_netlink.specs.Follow.{row_line}
use Rattle.neigh_netlink.specs.Neighbours.{Row}

-- the lines of all rows, and the last line
table_text : (s0 s1 s2 : List ℕ) (rows all : List Row) → rows ≡ all → s1 ≡ s0 ++ flat_map row_line rows → s2 ≡ s1 ++ (codes "end" ++ 10 ∷ [])
    → s2 ≡ s0 ++ (flat_map row_line all ++ (codes "end" ++ 10 ∷ []))
table_text s0 s1 s2 rows all same e f =
    two_parts s0 s1 s2 (flat_map row_line all) (codes "end" ++ 10 ∷ []) (e ∙ ap (λ (l : List Row). s0 ++ flat_map row_line l) same) f

pub table_pushed : {T E : Type 0} (r : Result T E) (s0 s1 s2 : List ℕ) (rows all : List Row) → rows ≡ all → s1 ≡ s0 ++ flat_map row_line rows
    → s2 ≡ (if is_ok r then s1 ++ (codes "end" ++ 10 ∷ []) else s1)
    → OnOk r (s2 ≡ s0 ++ (flat_map row_line all ++ (codes "end" ++ 10 ∷ [])))
table_pushed (Ok x) s0 s1 s2 rows all same e f = table_text s0 s1 s2 rows all same e f
table_pushed (Err x) s0 s1 s2 rows all same e f = tt
