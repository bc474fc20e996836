-- A history whose changes fit one after the other is one within the limits, and the other way round.
use Rattle.std.proofs.Common.{◌≡◌, ℕ, zero, suc, ◌<◌, true, List, [], ◌∷◌, length, get_or, take, refl, arith}
use Rattle.std.specs.List.{fold}
use Rattle.std.proofs.lemmas.Bool.{and_from}
use Rattle.br_model.specs.declared.change.Change.{Change}
use Rattle.br_model.specs.Table.Limits.{fits, all_fit, AreWithin}
use Rattle.br_model.specs.Table.Table.{Table, apply, start}
use Rattle.br_model.specs.Theorems.Invariants.{HistoryStands}
use Rattle.br_model.proofs.Table.Within.{within_of}

all-fit : (t : Table) (cs : List Change) → ((i : ℕ) (d : Change) → i < length cs → fits (fold apply t (take i cs)) (get_or cs i d) ≡ true) → all_fit t cs ≡ true
all-fit t [] h = refl
all-fit t (c ∷ cs) h = and_from (fits t c) (all_fit (apply t c) cs) (h zero c (omega arith)) (all-fit (apply t c) cs (λ i d less. h (suc i) d (omega (arith, less))))

pub within-stands : (history : List Change) → HistoryStands history → AreWithin history
within-stands history k = within_of history k.few k.fits

pub stands-of : (history : List Change) → AreWithin history → HistoryStands history
stands-of history k = record { fits = all-fit start history k.fit; few = k.few }
