-- No more ports are declared than the last one's number says, since each has a number of its own.
use Rattle.std.proofs.Common.{◌≡◌, ℕ, ◌+◌, ◌<◌, ◌≤◌, ◌||◌, Bool, true, false, List, [], ◌∷◌, length, map, refl, sym, arith, eqb}
use Rattle.std.specs.List.{AllByRecursion, IsDistinct, list_any}
use Rattle.std.proofs.lemmas.Bool.{and_parts, or_parts, eqb-true, eqb-false, ne_eqb, leb-true}
use Rattle.std.proofs.lemmas.List.{length-map}
use Rattle.std.proofs.lemmas.Map.Keys.{IsDistinct-cons}
use Rattle.std.proofs.lemmas.Map.Steps.{length-le_from_distinct_below}
use Rattle.br_model.specs.Table.Domains.{last_port}
use Rattle.br_model.specs.Text.Declarations.{fits_beside, are_declared}
use Rattle.br_model.specs.Text.Roster.{Entry, has_number}
use Rattle.bridge_command.proofs.Declaring.{Fits, parts}

abbrev numbers : List Entry → List ℕ
numbers ports = map (λ (e : Entry). e.port) ports

apart : (ports : List Entry) (n : ℕ) → has_number ports n ≡ false → AllByRecursion (λ m. eqb n m ≡ false) (numbers ports)
apart [] n free = tt
apart (e ∷ ports) n free =
    let each = or_parts _ _ free in
    (ne_eqb n e.port (λ same. eqb-false e.port n each.0 (sym same)), apart ports n each.1)

distinct : (ports : List Entry) → are_declared ports ≡ true → IsDistinct eqb (numbers ports)
unfolding IsDistinct
distinct [] all = tt
distinct (e ∷ ports) all =
    let each = and_parts (fits_beside ports e) (are_declared ports) all in (apart ports e.port (parts ports e each.0).free, distinct ports each.1)

in_range : (ports : List Entry) (n : ℕ) → are_declared ports ≡ true → list_any (eqb n) (numbers ports) ≡ true → (1 ≤ n) × (n ≤ last_port)
in_range [] n all here = absurd (cc)
in_range (e ∷ ports) n all here =
    let each = and_parts (fits_beside ports e) (are_declared ports) all in
    among (eqb n e.port) refl (parts ports e each.0) here (in_range ports n each.1)
  where
    among : (b : Bool) → eqb n e.port ≡ b → Fits ports e → (b || list_any (eqb n) (numbers ports)) ≡ true → (list_any (eqb n) (numbers ports) ≡ true → (1 ≤ n) × (n ≤ last_port))
        → (1 ≤ n) × (n ≤ last_port)
    among true is fits here later =
        let same : n ≡ e.port = eqb-true n e.port is in
        (omega (arith, same, leb-true 1 e.port fits.low), omega (arith, same, leb-true e.port last_port fits.high))
    among false is fits here later = later here

pub most_ports : (ports : List Entry) → are_declared ports ≡ true → length ports ≤ last_port
most_ports ports all =
    let with_host = length-le_from_distinct_below (0 ∷ numbers ports) (last_port + 1) (IsDistinct-cons eqb 0 (numbers ports) (no_host ports all) (distinct ports all)) below in
    omega (arith, with_host, length-map ports (λ (e : Entry). e.port))
  where
    no_host : (ports : List Entry) → are_declared ports ≡ true → AllByRecursion (λ m. eqb 0 m ≡ false) (numbers ports)
    no_host [] all = tt
    no_host (e ∷ ports) all =
        let each = and_parts (fits_beside ports e) (are_declared ports) all in
        (ne_eqb 0 e.port (λ same. omega (arith, same, leb-true 1 e.port (parts ports e each.0).low)), no_host ports each.1)

    below : (n : ℕ) → list_any (eqb n) (0 ∷ numbers ports) ≡ true → n < last_port + 1
    below n here = by (eqb n 0) refl here
      where
        by : (b : Bool) → eqb n 0 ≡ b → (b || list_any (eqb n) (numbers ports)) ≡ true → n < last_port + 1
        by true is here = omega (arith, eqb-true n 0 is)
        by false is here = omega (arith, (in_range ports n all here).1)
