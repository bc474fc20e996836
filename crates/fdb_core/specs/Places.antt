-- When learned entries were seen: places in the order of time, each a moment and the number of the key that was seen then.
use Rattle.std.specs.Prelude.{◌≡◌, ℕ, ◌+◌, ◌==◌, nat_le, Bool, true, false, ◌&&◌, cond, if◌then◌else◌, List, [], ◌∷◌}
use Rattle.std.specs.List.{list_all, list_any}
use Rattle.std.specs.Ordering.{nat_cmp}
use Rattle.std.specs.FinMap.Entries.{find}
use Rattle.std.specs.declared.option.Option.{Option}
use Rattle.std.specs.declared.option.Option.TheVariants.{None, Some}
use Rattle.fdb_core.specs.declared.entries.Entry.{Entry}
use Rattle.fdb_core.specs.Fdb.{learned_at, learned_moment}

abbrev pub Place : Type 0
Place = ℕ × ℕ

-- learned at the moment
abbrev pub was_learned : ℕ → Option Entry → Bool
was_learned moment None = false
was_learned moment (Some entry) = learned_at moment entry

-- whether the entry at the key was learned at the place's moment
abbrev pub is_current : List (ℕ × Entry) → Place → Bool
is_current es p = was_learned p.0 (find nat_cmp p.1 es)

abbrev pub is_same : Place → Place → Bool
is_same p q = q.0 == p.0 && q.1 == p.1

-- none before an earlier one
abbrev pub in_order : List Place → Bool
in_order [] = true
in_order (p ∷ ps) = list_all (λ q. nat_le p.0 q.0) ps && in_order ps

-- the places of entries in order: none is later than `latest`, and each learned entry has its place
pub record Tells (latest : ℕ) (places : List Place) (es : List (ℕ × Entry)) : Type 0 where
  pub ordered : in_order places ≡ true
  pub past : list_all (λ p. nat_le p.0 latest) places ≡ true
  pub known : (p : Place) → is_current es p ≡ true → list_any (is_same p) places ≡ true

-- that, where they are complete
abbrev pub IsTold : Bool → ℕ → List Place → List (ℕ × Entry) → Type 0
IsTold complete latest places es = complete ≡ true → Tells latest places es

-- the first place, if there is one, is that of an entry
abbrev pub is_settled : List (ℕ × Entry) → List Place → Bool
is_settled es [] = true
is_settled es (p ∷ ps) = is_current es p

abbrev pub first_moment : List Place → Option ℕ
first_moment [] = None
first_moment (p ∷ ps) = Some p.0

-- the keys of entries whose places are over at the moment `now`, up to the first place that isn't
abbrev pub over : List (ℕ × Entry) → ℕ → ℕ → List Place → List ℕ
over es now hold [] = []
over es now hold (p ∷ ps) = if nat_le (p.0 + hold) now then cond (is_current es p) (p.1 ∷ over es now hold ps) (over es now hold ps) else []

-- the moment of a learned entry, where the one before it wasn't learned then too
abbrev pub if_new : Option Entry → Option ℕ → Option ℕ
if_new old None = None
if_new old (Some moment) = cond (was_learned moment old) None (Some moment)

abbrev pub news_of : Option Entry → Entry → Option ℕ
news_of old entry = if_new old (learned_moment entry)
