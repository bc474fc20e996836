-- Sets of ports, told by tests.
use Rattle.std.proofs.Common.{◌≡◌, ℕ, ◌<◌, Bool, true, false, not, ◌&&◌, ◌||◌, cond, List, [], ◌∷◌, length, refl, ap, ap₂, ◌∙◌, arith}
use Rattle.std.specs.Prelude.{◌==◌}
use Rattle.std.specs.List.{list_any, filter}
use Rattle.std.proofs.lemmas.Bool.{ne_eqb}
use Rattle.port_sets.specs.Numbers.{has_number}
use Rattle.port_sets.proofs.Numbers.{has-below, same_below, filter-numbers_below}
use Rattle.br_model.specs.Table.Domains.{port_places}
use Rattle.chip_tables.specs.declared.rows.FanRow.{FanRow}
use Rattle.chip_tables.specs.declared.rows.VlanRow.{VlanRow}
use Rattle.chip_tables.specs.Rows.{Rows, port_at}
use Rattle.chip_tables.specs.Stands.{ports_where}
use Rattle.chip_pipeline.specs.PortRows.{row_lets, row_takes}

-- what a set has, told by its test
pub member-of : (f : ℕ → Bool) (set : List ℕ) (q : ℕ) → set ≡ ports_where f → q < port_places → has_number set q ≡ f q
member-of f set q e low = ap (λ (ns : List ℕ). has_number ns q) e ∙ has-below f port_places q low

-- ---- lists of ports

pub nowhere_filter : (p : ℕ → Bool) (xs : List ℕ) → (length (filter p xs) == 0) ≡ not (list_any p xs)
nowhere_filter p [] = refl
nowhere_filter p (x ∷ xs) = step (p x) (nowhere_filter p xs)
  where
    step : (b : Bool) → (length (filter p xs) == 0) ≡ not (list_any p xs) → (length (cond b (x ∷ filter p xs) (filter p xs)) == 0) ≡ not (b || list_any p xs)
    step true h = ne_eqb (length (x ∷ filter p xs)) 0 (omega arith)
    step false h = h

pub any_filter : (p g : ℕ → Bool) (xs : List ℕ) → list_any g (filter p xs) ≡ list_any (λ x. p x && g x) xs
any_filter p g [] = refl
any_filter p g (x ∷ xs) = step (p x) (any_filter p g xs)
  where
    step : (b : Bool) → list_any g (filter p xs) ≡ list_any (λ y. p y && g y) xs → list_any g (cond b (x ∷ filter p xs) (filter p xs)) ≡ ((b && g x) || list_any (λ y. p y && g y) xs)
    step true h = ap (λ c. g x || c) h
    step false h = h

pub any_split : (own p : ℕ → Bool) (xs : List ℕ) → list_any p xs ≡ (list_any (λ x. own x && p x) xs || list_any (λ x. not (own x) && p x) xs)
any_split own p [] = refl
any_split own p (x ∷ xs) = ap (λ c. p x || c) (any_split own p xs) ∙ step (own x) (p x) _ _
  where
    step : (o y a b : Bool) → (y || (a || b)) ≡ (((o && y) || a) || ((not o && y) || b))
    step true true a b = refl
    step true false a b = refl
    step false true true b = refl
    step false true false b = refl
    step false false a b = refl

-- ---- the ports that a walk over candidates keeps

pub reached-are : (rows : Rows) (port n : ℕ) (alone : Bool) (vlan : VlanRow) (fan : FanRow) (both others ports : List ℕ) → n ≡ port
    → both ≡ ports_where (λ m. has_number fan.ports m && has_number vlan.members m)
    → others ≡ ports_where (λ m. has_number both m && not (m == n))
    → ports ≡ filter (λ q. row_lets alone (port_at rows q)) others
    → ports ≡ ports_where (λ q. has_number fan.ports q && row_takes port alone vlan q (port_at rows q))
reached-are rows port n alone vlan fan both others ports is b o e =
    e
    ∙ ap (filter (λ q. row_lets alone (port_at rows q))) o
    ∙ filter-numbers_below (λ m. has_number both m && not (m == n)) (λ q. row_lets alone (port_at rows q)) port_places
    ∙ same_below _ _ port_places (λ q low.
    ap₂ (λ x m. (x && not (q == m)) && row_lets alone (port_at rows q)) (member-of _ both q b low) is
    ∙ turn (has_number fan.ports q) (has_number vlan.members q) (not (q == port)) (row_lets alone (port_at rows q)))
  where
    turn : (f m o l : Bool) → (((f && m) && o) && l) ≡ (f && (m && (o && l)))
    turn true true o l = refl
    turn true false o l = refl
    turn false m o l = refl
