-- Members by their VLAN and group, in the order of these keys, and where a key stands.
use Rattle.std.specs.Prelude.{◌≡◌, ℕ, ◌+◌, ◌<◌, ◌≤◌, Bool, true, false, ◌&&◌, List, [], ◌∷◌, ◌++◌, length, map, take, drop, slice_index_or, slice_set}
use Rattle.std.specs.List.{All, list_all}
use Rattle.std.specs.declared.option.Option.{Option}
use Rattle.std.specs.declared.option.Option.TheVariants.{None, Some}
use Rattle.std.specs.declared.cmp.Ordering.{Ordering}
use Rattle.std.specs.Ordering.{nat_cmp, is_lt, is_gt}
use Rattle.br_model.specs.Table.Domains.{last_port}
use Rattle.br_model.specs.Table.GroupPairs.{GroupPair, group_pair_cmp, max_pairs}
use Rattle.br_model.specs.Table.Groups.{Membership}
use Rattle.br_model.specs.Data.Maps.{is_ascending}
use Rattle.br_model.specs.Table.Table.{ip_version}

-- each number is that of a port
abbrev pub ArePorts : List ℕ → Type 0
ArePorts numbers = All (λ n. n ≤ last_port) numbers

-- the members of one group in one VLAN, each with its end
abbrev pub Section : Type 0
Section = GroupPair × List (ℕ × Option ℕ)

abbrev pub Sections : Type 0
Sections = List Section

abbrev pub section : GroupPair → List (ℕ × Option ℕ) → List (Membership × Option ℕ)
section k members = map (λ e. ((k.0, k.1, e.0), e.1)) members

-- all members, one section behind another
abbrev pub flat : Sections → List (Membership × Option ℕ)
flat [] = []
flat (s ∷ ss) = section s.0 s.1 ++ flat ss

-- other members at a place
abbrev pub changed_at : Sections → ℕ → (List (ℕ × Option ℕ) → List (ℕ × Option ℕ)) → Section → Sections
changed_at ss i change d = slice_set ss i ((slice_index_or ss i d).0, change (slice_index_or ss i d).1)

abbrev pub has_some : {X : Type 0} → List X → Bool
has_some [] = false
has_some (x ∷ xs) = true

-- some member, and their ports ascend
abbrev pub is_fit : List (ℕ × Option ℕ) → Bool
is_fit members = has_some members && is_ascending nat_cmp members

-- what the sections of a database keep
pub record IsSound (ss : Sections) : Type 0 where
  pub ascending : is_ascending group_pair_cmp ss ≡ true
  pub fit : list_all (λ s. is_fit s.1) ss ≡ true
  pub few : length ss ≤ max_pairs

module _ {K V : Type 0} (R : K → K → Ordering) where
  -- each key is below k
  abbrev pub all_below : K → List (K × V) → Bool
  all_below k es = list_all (λ e. is_gt (R k e.0)) es

  -- each key is above k
  abbrev pub all_above : K → List (K × V) → Bool
  all_above k es = list_all (λ e. is_lt (R k e.0)) es

-- the key stands at place i
pub record IsAt (ss : Sections) (k : GroupPair) (i : ℕ) : Type 0 where
  pub members : List (ℕ × Option ℕ)
  pub reads : (d : Section) → slice_index_or ss i d ≡ (k, members)
  pub splits : ss ≡ take i ss ++ (k, members) ∷ drop (i + 1) ss
  pub within : i < length ss
  pub before : all_below group_pair_cmp k (take i ss) ≡ true
  pub after : all_above group_pair_cmp k (drop (i + 1) ss) ≡ true

-- the key stands nowhere, and would go to place i
pub record IsGap (ss : Sections) (k : GroupPair) (i : ℕ) : Type 0 where
  pub within : i ≤ length ss
  pub before : all_below group_pair_cmp k (take i ss) ≡ true
  pub after : all_above group_pair_cmp k (drop i ss) ≡ true

abbrev pub querier_of : Bool → Option ℕ → List (ℕ × ℕ)
querier_of six None = []
querier_of six (Some end) = (ip_version six, end) ∷ []

-- the queriers of IP versions 4 and 6
abbrev pub queriers_of : Option ℕ → Option ℕ → List (ℕ × ℕ)
queriers_of four six = querier_of false four ++ querier_of true six
