-- The rule of what is published: it is a table of the book, and each seat that knows its book knows this one.
use Rattle.std.specs.Prelude.{◌≡◌, ℕ, true, false, List}
use mathlib.Core.Option.{some}
use lib.ListN.{get_elem?}
use Rattle.logbook.specs.Pages.{Book}
use Rattle.table_publish.specs.declared.content.Published.{Published}
use Rattle.table_publish.specs.declared.rule.View.{View}
use Rattle.table_publish.specs.Content.{IsTable}

abbrev pub book_of : View → Book
book_of v = record { number = v.number; log_name = v.log_name; cells_name = v.cells_name }

-- who knows this book
abbrev pub knower : Book → View
knower b = record { named = true; number = b.number; log_name = b.log_name; cells_name = b.cells_name }

abbrev pub stranger : View
stranger = record { named = false; number = 0; log_name = 0; cells_name = 0 }

-- the book b is the one that v knows, if any
abbrev pub IsOf : View → Book → Type 0
IsOf v b = v.named ≡ true → book_of v ≡ b

-- v knows the book b
abbrev pub Knows : View → Book → Type 0
Knows v b = (v.named ≡ true) × (book_of v ≡ b)

pub record Keeps (p : Published) (views : List View) : Type 0 where
  pub table : IsTable p
  pub each : (seat : ℕ) (v : View) → get_elem? views seat ≡ some v → IsOf v p.seen.book

-- a step after which the value y is a table of the book that was known before
abbrev pub Sees : View → Published → Published → View → Type 0
Sees v x y w = (w ≡ v) × IsTable y × IsOf v y.seen.book

-- a step after which the value y is a table of its book, which is known
abbrev pub Names : View → Published → Published → View → Type 0
Names v x y w = (w ≡ knower y.seen.book) × IsTable y
