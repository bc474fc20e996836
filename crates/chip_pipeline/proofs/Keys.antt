-- Rows that are found by keys.
use Rattle.std.proofs.Common.{◌≡◌, ℕ, ◌||◌, cond, None, Some, option_map, List, [], ◌∷◌, map, refl, sym, ap, ◌∙◌}
use Rattle.std.specs.Ordering.{is_eq}
use Rattle.std.specs.declared.cmp.Ordering.{Ordering}
use Rattle.std.specs.declared.cmp.Ordering.TheVariants.{Less, Equal, Greater}
use Rattle.br_model.specs.declared.group.Group.{Group}
use Rattle.br_model.specs.Table.Domains.{Domains}
use Rattle.br_model.specs.Table.GroupPairs.{GroupPair, group_pair_cmp, group_pairs}
use Rattle.br_model.specs.Data.Maps.{pair_cmp, get, has}
use Rattle.br_model.specs.Table.Table.{Table}
use Rattle.br_model.proofs.Table.GroupOrders.{equal_pairs}
use Rattle.chip_tables.specs.declared.rows.AddressRow.{AddressRow}
use Rattle.chip_tables.specs.declared.rows.FanRow.{FanRow}
use Rattle.chip_tables.specs.Rows.{Rows, address_at, group_at}
use Rattle.chip_tables.specs.Stands.{Stands, address_wanted, fan_wanted, is_grouped}
use Rattle.chip_pipeline.specs.Ways.{entry_wanted, group_wanted}

-- what stands at a key of entries that are told otherwise
pub get-told : {K X Y : Type 0} (R : K → K → Ordering) (f : X → Y) (es : List (K × X)) (k : K) → get R (map (λ e. (e.0, f e.1)) es) k ≡ option_map f (get R es k)
get-told R f [] k = refl
get-told R f (e ∷ es) k = step (R k e.0) (get-told R f es k)
  where
    step : (r : Ordering) → get R (map (λ x. (x.0, f x.1)) es) k ≡ option_map f (get R es k)
        → cond (is_eq r) (Some (f e.1)) (get R (map (λ x. (x.0, f x.1)) es) k) ≡ option_map f (cond (is_eq r) (Some e.1) (get R es k))
    step Less h = h
    step Equal h = refl
    step Greater h = h

-- what stands at a key of the entries that keys make
pub get-made : {K X : Type 0} (R : K → K → Ordering) (f : K → X) (ks : List K) (k : K) → ((j : K) → R k j ≡ Equal → k ≡ j) → get R (map (λ j. (j, f j)) ks) k ≡ cond (has R ks k) (Some (f k)) None
get-made R f [] k exact = refl
get-made R f (j ∷ js) k exact = step (R k j) refl (get-made R f js k exact)
  where
    step : (r : Ordering) → R k j ≡ r → get R (map (λ x. (x, f x)) js) k ≡ cond (has R js k) (Some (f k)) None
        → cond (is_eq r) (Some (f j)) (get R (map (λ x. (x, f x)) js) k) ≡ cond (is_eq r || has R js k) (Some (f k)) None
    step Less is h = h
    step Equal is h = ap (λ x. Some (f x)) (sym (exact j is))
    step Greater is h = h

-- ---- addresses

pub address-is : (d : Domains) (dom : ℕ) (rows : Rows) (t : Table) (vid mac : ℕ) → Stands d dom rows t → address_at rows vid mac ≡ entry_wanted t vid mac
address-is d dom rows t vid mac stands =
    ap (λ (es : List ((ℕ × ℕ) × AddressRow)). get pair_cmp es (vid, mac)) stands.addresses
    ∙ get-told pair_cmp address_wanted t.addr (vid, mac)

-- ---- groups

pub group-is : (d : Domains) (dom : ℕ) (rows : Rows) (t : Table) (vid : ℕ) (group : Group) → Stands d dom rows t → group_at rows vid group ≡ group_wanted d dom t vid group
group-is d dom rows t vid group stands =
    ap (λ (es : List (GroupPair × FanRow)). get group_pair_cmp es (vid, group)) stands.groups
    ∙ get-made group_pair_cmp (λ k. fan_wanted d dom t k.0 (is_grouped t k.0 k.1)) (group_pairs t.groups) (vid, group) (λ j e. equal_pairs (vid, group) j e)
