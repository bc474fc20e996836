-- Where a key stands among entries whose keys ascend.
use Rattle.std.specs.Prelude.{◌≡◌, ℕ, ◌+◌, ◌<◌, ◌≤◌, Bool, true, ◌∷◌, ◌++◌, length, take, drop, slice_index_or}
use Rattle.std.specs.List.{list_all}
use Rattle.std.specs.Ordering.{is_lt, is_gt}
use Rattle.std.specs.declared.cmp.Ordering.TheVariants.{Equal}
use Rattle.br_model.specs.Data.Maps.{pair_cmp}
use Rattle.neigh_netlink.specs.declared.entries.Entry.{Entry}
use Rattle.neigh_netlink.specs.Neighbours.{Key, Neighbours}

-- each key is below k
abbrev pub all_below : Key → Neighbours → Bool
all_below k es = list_all (λ e. is_gt (pair_cmp k e.0)) es

-- each key is above k
abbrev pub all_above : Key → Neighbours → Bool
all_above k es = list_all (λ e. is_lt (pair_cmp k e.0)) es

-- the key stands at place i
pub record IsAt (es : Neighbours) (k : Key) (i : ℕ) : Type 0 where
  pub entry : Key × Entry
  pub reads : (d : Key × Entry) → slice_index_or es i d ≡ entry
  pub splits : es ≡ take i es ++ entry ∷ drop (i + 1) es
  pub within : i < length es
  pub same : pair_cmp k entry.0 ≡ Equal
  pub before : all_below k (take i es) ≡ true
  pub after : all_above k (drop (i + 1) es) ≡ true

-- the key stands nowhere, and would go to place i
pub record IsGap (es : Neighbours) (k : Key) (i : ℕ) : Type 0 where
  pub within : i ≤ length es
  pub before : all_below k (take i es) ≡ true
  pub after : all_above k (drop i es) ≡ true
