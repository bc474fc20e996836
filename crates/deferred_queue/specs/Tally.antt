-- The number of updates that were counted as posted, and its rule: the number is how many posts happened. One view counts and one
-- looks. Each knows all that happened up to its own last step, so behind what the first knows no post happened, and behind what the
-- second knows no look.
-- So a look that is added stands behind every post that had happened at its step. Where one view does both for a moment, it knows
-- all that happened.
-- Source: this profile.
use Rattle.std.specs.Prelude.{◌≡◌, ◌≢◌, ℕ, suc, ◌+◌, Bool, true, false, List, [], ◌∷◌, ◌++◌}
use mathlib.Core.Option.{some}
use lib.ListN.{get_elem?}
use Rattle.atomic_table.specs.Seated.{TableId}
use Rattle.atomic_table.specs.Table.{State, Me}
use Rattle.atomic_table.specs.declared.shared.Seat.{Seat}
use Rattle.deferred_queue.specs.declared.tally.Event.{Event}
use Rattle.deferred_queue.specs.declared.tally.Event.TheVariants.{Post, Look}
use Rattle.deferred_queue.specs.declared.tally.Past.{Past}

abbrev pub posts_in : List Event → ℕ
posts_in [] = 0
posts_in (Post ∷ more) = suc (posts_in more)
posts_in (Look ∷ more) = posts_in more

abbrev pub looks_in : List Event → ℕ
looks_in [] = 0
looks_in (Post ∷ more) = looks_in more
looks_in (Look ∷ more) = suc (looks_in more)

abbrev pub past : Bool → Bool → List Event → List Event → Past
past a b counted looked = record { posts = a; takes = b; counted = counted; looked = looked }

-- the view that counts, the one that looks, and one that does neither
abbrev pub counting : List Event → Past
counting events = past true false events []

abbrev pub looking : List Event → Past
looking events = past false true [] events

abbrev pub spent : Past
spent = past false false [] []

-- what is known, and then what this counts none of
abbrev pub KnownBut : (List Event → ℕ) → List Event → List Event → Type 0
KnownBut number known all = (later : List Event) × (all ≡ known ++ later) × (number later ≡ 0)

-- a look was added, behind posts that happened before it
abbrev pub Looked : List Event → List Event → Type 0
Looked before after = (posts : List Event) × (looks_in posts ≡ 0) × (after ≡ before ++ (posts ++ Look ∷ []))

pub record Knows (counter looker : ℕ) (events : List Event) (place : ℕ) (v : Past) : Type 0 where
  pub as_counter : v.posts ≡ true → (place ≡ counter) × KnownBut posts_in v.counted events
  pub as_looker : v.takes ≡ true → (place ≡ looker) × KnownBut looks_in v.looked events

pub record Kept {S : Type 0} (s : State S Past) : Type 0 where
  pub counter : ℕ
  pub looker : ℕ
  pub events : List Event
  pub number : s.words ≡ posts_in events ∷ []
  pub each : (place : ℕ) (v : Past) → get_elem? s.views place ≡ some v → Knows counter looker events place v

module _ {S : Type 0} where
  -- the view of this table, which holds nothing else of it
  abbrev pub Watches : Seat S Past → TableId → Past → Type 0
  Watches seat table v = (seat.table_id ≡ table) × (seat.me ≡ (v, []))

  -- one more was counted
  abbrev pub Counted : Me S Past → Me S Past → Type 0
  Counted before after = (after ≡ (counting after.0.counted, [])) × (posts_in after.0.counted ≡ posts_in before.0.counted + 1)

  -- a number was looked for: where it was found, the look is added behind so many posts
  abbrev pub LookedFor : ℕ → Me S Past → ℕ → Me S Past → Type 0
  LookedFor number before found after = (found ≡ number → (after ≡ (looking after.0.looked, [])) × Looked before.0.looked after.0.looked × (posts_in after.0.looked ≡ number))
      × (found ≢ number → after ≡ before)

  -- a view that does both knows all that happened
  abbrev pub Met : Me S Past → Me S Past → Type 0
  Met before after = (all : List Event) × (after ≡ (past true true all all, [])) × KnownBut posts_in before.0.counted all × KnownBut looks_in before.0.looked all
