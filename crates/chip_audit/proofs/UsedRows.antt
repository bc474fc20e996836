-- The used address rows of a chip, in order.
use Rattle.std.proofs.Common.{◌≡◌, List, [], ◌∷◌, map, filter_map, IsPermutation, IsSorted, refl, sym, ap, subst, ◌∙◌, arith}
use Rattle.std.specs.List.{cons_option, AllByRecursion}
use Rattle.std.specs.List.Sorted.{IsStrictlySortedBy}
use Rattle.std.specs.Option.{option_map}
use Rattle.std.specs.Ordering.{is_gt}
use Rattle.std.specs.declared.cmp.Ordering.TheVariants.{Less}
use Rattle.std.proofs.lemmas.List.Sorted.{IsPermutation-sym, IsPermutation-trans}
use Rattle.br_model.specs.Data.Maps.{pair_cmp}
use Rattle.br_model.specs.Table.Table.{Table}
use Rattle.br_model.proofs.Data.PairKeys.{pair_total, same_cmp}
use Rattle.chip_tables.specs.declared.rows.AddressRow.{AddressRow}
use Rattle.chip_tables.specs.Rows.{Rows, IsPlaced}
use Rattle.chip_tables.specs.Stands.{AddressesStand, address_wanted}
use Rattle.neigh_netlink.specs.Neighbours.{Key}
use Rattle.hwdom_chips.proofs.Arranged.{Ascends, Low, arranged, low_more}
use Rattle.chip_audit.specs.Audits.{Row}
use Rattle.chip_audit.specs.Marks.{row_at, row_of}
use Rattle.chip_audit.proofs.Own.{FindOwn, find-own, rises}

low : (k : Key) (ks : List Key) → AllByRecursion (λ q. pair_cmp k q ≡ Less) ks → Low pair_cmp k ks
low k [] below = λ q there. absurd (omega arith)
low k (x ∷ ks) below = low_more pair_cmp pair_total same_cmp k x ks (ap is_gt below.0) (low k ks below.1)

ascends : (ks : List Key) → IsStrictlySortedBy pair_cmp ks → Ascends pair_cmp ks
unfolding IsStrictlySortedBy
ascends [] rise = tt
ascends (k ∷ ks) rise = (low k ks rise.0, ascends ks rise.1)

-- the keys at all places, once they are sorted
pub sorted-keys : (rows : Rows) (found sorted : List Key) → IsPlaced rows → found ≡ filter_map (λ place. place) rows.places → IsPermutation found sorted → IsSorted pair_cmp sorted
    → sorted ≡ map (λ e. e.0) rows.addresses
sorted-keys rows found sorted placed are moved in_order =
    let keys : List Key = map (λ e. e.0) rows.addresses in
    arranged pair_cmp pair_total same_cmp keys sorted keys
    (IsPermutation-trans keys found sorted (IsPermutation-sym found keys (subst (λ (l : List Key). IsPermutation l keys) (sym are) placed.moved)) moved)
    in_order (ascends keys placed.ascending) (λ q. refl)

-- what the rows of all of them say
pub all-rows : (rows : Rows) → IsPlaced rows → filter_map (row_at rows) (map (λ e. e.0) rows.addresses) ≡ map row_of rows.addresses
all-rows rows placed = own rows.addresses (find-own rows.addresses (rises rows.addresses placed.ascending))
  where
    own : (es : List (Key × AddressRow)) → FindOwn rows.addresses es → filter_map (row_at rows) (map (λ e. e.0) es) ≡ map row_of es
    own [] all = refl
    own (e ∷ es) all =
        ap (λ o. cons_option (option_map (λ (row : AddressRow). row_of (e.0, row)) o) (filter_map (row_at rows) (map (λ e. e.0) es))) all.0
        ∙ ap (λ (l : List Row). row_of e ∷ l) (own es all.1)

-- rows that stand for a table are its entries
pub rows-stand : (rows : Rows) (t : Table) → AddressesStand rows t → map row_of rows.addresses ≡ t.addr
rows-stand rows t stand = ap (map row_of) stand ∙ all t.addr
  where
    all : (es : List Row) → map row_of (map (λ e. (e.0, address_wanted e.1)) es) ≡ es
    all [] = refl
    all (e ∷ es) = ap (λ (l : List Row). e ∷ l) (all es)
