-- A published object: a list of changes, and the counts at which it was published. A history of publications is a list of
-- batches, each of the changes since the one before.
-- Source: this profile.
use Rattle.std.specs.Prelude.{◌≡◌, ℕ, ◌+◌, ◌<◌, List, [], ◌∷◌, ◌++◌, length}
use mathlib.Core.List.{IsPrefix}
use Rattle.logbook.specs.Pages.{Book}
use Rattle.br_model.specs.declared.change.Change.{Change}
use Rattle.br_model.specs.Table.Domains.{Domains}

-- which board it is, and which ports are in which domain there
pub record Whose : Type 0 where
  pub book : Book
  pub domains : Domains

pub record Object : Type 0 where
  pub changes : List Change
  pub counts : List ℕ

-- whole begins with part, in both lists
pub record Begins (whole part : Object) : Type 0 where
  pub changes : IsPrefix part.changes whole.changes
  pub counts : IsPrefix part.counts whole.counts

-- all changes of these batches
abbrev pub changes_of : List (List Change) → List Change
changes_of [] = []
changes_of (b ∷ bs) = b ++ changes_of bs

-- the counts at which they were published, from n on
abbrev pub counts_from : ℕ → List (List Change) → List ℕ
counts_from n [] = n ∷ []
counts_from n (b ∷ bs) = n ∷ counts_from (n + length b) bs

abbrev pub object_of : List (List Change) → Object
object_of bs = record { changes = changes_of bs; counts = counts_from 0 bs }

-- no batch is empty
abbrev pub AllFull : List (List Change) → Type 0
AllFull [] = Unit {0}
AllFull (b ∷ bs) = (0 < length b) × AllFull bs

-- strictly ascending from n to the end m
abbrev pub Ascends : ℕ → List ℕ → ℕ → Type 0
Ascends n [] m = n ≡ m
Ascends n (k ∷ ks) m = (n < k) × Ascends k ks m

abbrev pub AscendsFrom : ℕ → List ℕ → ℕ → Type 0
AscendsFrom n [] m = ⊥
AscendsFrom n (k ∷ ks) m = (k ≡ n) × Ascends k ks m

-- the counts are strictly ascending, from 0 to the number of changes
abbrev pub IsPublished : Object → Type 0
IsPublished o = AscendsFrom 0 o.counts (length o.changes)

-- the object with a batch behind it
abbrev pub with_batch : Object → List Change → Object
with_batch o b = record { changes = o.changes ++ b; counts = o.counts ++ (length o.changes + length b) ∷ [] }

abbrev pub first_object : Object
first_object = record { changes = []; counts = 0 ∷ [] }

-- what is pending joins what is published; with nothing pending, all stays
abbrev pub published : Object → List Change → Object
published o [] = o
published o (c ∷ cs) = with_batch o (c ∷ cs)
