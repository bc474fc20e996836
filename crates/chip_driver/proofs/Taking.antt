-- A driver that stands for a table takes each change that keeps the table's limits.
use Rattle.std.proofs.Common.{◌≡◌, ℕ, suc, ◌≤◌, false, List, [], ◌∷◌, length, refl, sym, ap, ◌∙◌, subst}
use Rattle.std.proofs.lemmas.Bool.{leb-true}
use Rattle.std.proofs.lemmas.List.{length-map}
use Rattle.std.specs.Prelude.{IsTrue}
use Rattle.std.specs.FinMap.Entries.{by_order}
use Rattle.std.specs.declared.cmp.Ordering.{Ordering}
use Rattle.std.specs.declared.cmp.Ordering.TheVariants.{Less, Equal, Greater}
use Rattle.br_model.specs.declared.change.Change.{Change}
use Rattle.br_model.specs.declared.change.Change.TheVariants.{SetState, GroupJoin, AddrPut}
use Rattle.br_model.specs.declared.change.Kind.{Kind}
use Rattle.br_model.specs.Table.Change.{is_of_address}
use Rattle.br_model.specs.Table.Domains.{Domains}
use Rattle.br_model.specs.Table.GroupPairs.{has_room}
use Rattle.br_model.specs.Table.Groups.{Membership}
use Rattle.br_model.specs.Table.Limits.{fits, most_addresses}
use Rattle.br_model.specs.Data.Maps.{pair_cmp, put}
use Rattle.br_model.specs.Table.Table.{Table, apply}
use Rattle.chip_tables.specs.declared.rows.AddressRow.{AddressRow}
use Rattle.chip_tables.specs.Stands.{address_wanted}
use Rattle.chip_driver.specs.Drives.{Driven, Drives, IsTaken}
use Rattle.chip_driver.proofs.GroupRows.{mapped-put}

-- what stands at a key doesn't count
alike : {K X : Type 0} (R : K → K → Ordering) (m : List (K × X)) (k : K) (x y : X) → length (put R m k x) ≡ length (put R m k y)
alike R [] k x y = refl
alike R (e ∷ m) k x y = by (R k e.0) (alike R m k x y)
  where
    by : (r : Ordering) → length (put R m k x) ≡ length (put R m k y)
        → length (by_order r ((k, x) ∷ e ∷ m) ((e.0, x) ∷ m) (e ∷ put R m k x)) ≡ length (by_order r ((k, y) ∷ e ∷ m) ((e.0, y) ∷ m) (e ∷ put R m k y))
    by Less rest = refl
    by Equal rest = refl
    by Greater rest = ap suc rest

-- there are as many rows as entries
same_room : (domains : Domains) (driver : Driven) (t : Table) (v a : ℕ) (entry : ℕ × Kind) (row : AddressRow) → Drives domains driver t
    → length (put pair_cmp driver.rows.addresses (v, a) row) ≡ length (put pair_cmp t.addr (v, a) entry)
same_room domains driver t v a entry row stands =
    alike pair_cmp driver.rows.addresses (v, a) row (address_wanted entry)
    ∙ ap (λ (rows : List ((ℕ × ℕ) × AddressRow)). length (put pair_cmp rows (v, a) (address_wanted entry))) stands.rows.addresses
    ∙ ap length (sym (mapped-put pair_cmp address_wanted t.addr (v, a) entry))
    ∙ length-map (put pair_cmp t.addr (v, a) entry) _

pub taken : (domains : Domains) (driver : Driven) (t : Table) (c : Change) → Drives domains driver t → (is_of_address c ≡ false → IsTrue (fits t c)) → length (apply t c).addr ≤ most_addresses
    → IsTaken driver c
taken domains driver t (SetState port number) stands fit room = leb-true number 4 (fit refl)
taken domains driver t (GroupJoin port vid group) stands fit room = subst (λ (ms : List Membership). IsTrue (has_room ms vid group)) (sym stands.groups) (fit refl)
taken domains driver t (AddrPut vid mac port kind) stands fit room = λ row. subst (λ n. n ≤ most_addresses) (sym (same_room domains driver t vid mac (port, kind) row stands)) room
taken domains driver t c stands fit room = tt
