-- Where a new key may be put, not all room is used.
use Rattle.std.proofs.Common.{◌≡◌, ◌≢◌, ℕ, ◌<◌, Option, None, List, length, sym, ap, ◌∙◌, arith}
use Rattle.std.specs.Ordering.{nat_cmp}
use Rattle.std.specs.FinMap.Entries.{find}
use Rattle.open_addressing.specs.Hashed.{key_in}
use Rattle.open_addressing.specs.Zipped.{key_of}
use Rattle.open_addressing.specs.Finite.{Table, AreCells, entries_of}
use Rattle.open_addressing.proofs.Finite.{value-absent}
use Rattle.open_addressing.proofs.Entries.{find-entries_of, length-entries_of}

pub roomy : {V : Type 0} (used room : ℕ) (cells : List (Option (ℕ × V))) → AreCells used room cells
    → (t : Table V) → record { entries = entries_of cells; room = room; cells = cells } ≡ t → (k : ℕ) → k ≢ 0 → ((i : ℕ) → i < length cells → key_in key_of None cells i ≢ k)
    → (find nat_cmp k t.entries ≡ None → length t.entries < t.room) → used < room
roomy {V} used room cells sound t is k some none may =
    let absent : find nat_cmp k t.entries ≡ None = sym (ap (λ (s : Table V). find nat_cmp k s.entries) is) ∙ find-entries_of cells k some ∙ value-absent cells k none in
    let count : used ≡ length t.entries = sym (length-entries_of cells sound.apart ∙ sound.counted) ∙ ap (λ (s : Table V). length s.entries) is in
    let rooms : room ≡ t.room = ap (λ (s : Table V). s.room) is in
    let h = may absent in
    omega arith
