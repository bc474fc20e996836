-- What ends by a moment, behind what is forgotten by it; and changes of addresses, which leave all else.
use Rattle.std.proofs.Common.{◌≡◌, ℕ, ◌==◌, Bool, true, false, List, [], ◌∷◌, ◌++◌, map, fold, refl, sym, ap, ◌∙◌, append_assoc}
use Rattle.std.proofs.lemmas.List.Sums.{fold-append}
use Rattle.std.specs.Cmp.{first_so, second_so}
use Rattle.std.specs.List.{list_all}
use Rattle.br_model.specs.declared.change.Change.{Change}
use Rattle.br_model.specs.declared.change.Change.TheVariants.{GroupPart, Router, Querier, AddrPut, AddrDel}
use Rattle.br_model.specs.Control.Ageing.{forgets}
use Rattle.br_model.specs.Table.Change.{is_of_address}
use Rattle.br_model.specs.Control.Control.{Control, keeps_up}
use Rattle.br_model.specs.Control.Course.{Course, makes, makes_all}
use Rattle.br_model.specs.Control.Ends.{Ends, due, due_members, endings}
use Rattle.br_model.specs.Theorems.EndsTied.{IsTied}
use Rattle.br_model.specs.Table.Groups.{Membership}
use Rattle.br_model.specs.Control.Learning.{Address}
use Rattle.br_model.specs.Table.Limits.{all_fit}
use Rattle.br_model.specs.Control.Reaction.{ends}
use Rattle.br_model.specs.Table.Table.{Table, apply, with_addresses, ip_version}
use Rattle.mdb_snoop.specs.Database.{versions}
use Rattle.bridge_state.specs.Ending.{queriers_off}
use Rattle.bridge_state.proofs.Fitting.{made_all, all_fit_any, always-append, always-map}

-- what ends fits any table
pub fit_endings : (t : Table) (now : ℕ) (e : Ends) → all_fit t (endings now e) ≡ true
fit_endings t now e =
    let parts = map (λ (m : Membership). GroupPart m.2 m.0 m.1) (due_members now e.groups) in
    let routers = map (λ (port : ℕ). Router port false) (due now e.routers) in
    let queriers = map (λ (version : ℕ). Querier (version == ip_version true) false) (due now e.queriers) in
    let fit_parts = always-map (λ (m : Membership). GroupPart m.2 m.0 m.1) (due_members now e.groups) (λ m. refl) in
    let fit_routers = always-map (λ (port : ℕ). Router port false) (due now e.routers) (λ port. refl) in
    let fit_queriers = always-map (λ (version : ℕ). Querier (version == ip_version true) false) (due now e.queriers) (λ version. refl) in
    all_fit_any t (endings now e) (always-append parts (routers ++ queriers) fit_parts (always-append routers queriers fit_routers fit_queriers))

-- changes of addresses

leaves_ends : (c : Control) (d : Change) → is_of_address d ≡ true → (keeps_up c d).ends ≡ c.ends
leaves_ends c (AddrPut vid mac port kind) h = refl
leaves_ends c (AddrDel vid mac) h = refl
leaves_ends c d h = absurd (cc)

leaves_ports : (t : Table) (d : Change) → is_of_address d ≡ true → with_addresses (apply t d) [] ≡ with_addresses t []
leaves_ports t (AddrPut vid mac port kind) h = refl
leaves_ports t (AddrDel vid mac) h = refl
leaves_ports t d h = absurd (cc)

pub same_ends : (c : Control) (cs : List Change) → list_all is_of_address cs ≡ true → (fold keeps_up c cs).ends ≡ c.ends
same_ends c [] h = refl
same_ends c (d ∷ ds) h = same_ends (keeps_up c d) ds (second_so (is_of_address d) (list_all is_of_address ds) h) ∙ leaves_ends c d (first_so (is_of_address d) (list_all is_of_address ds) h)

pub same_ports : (t : Table) (cs : List Change) → list_all is_of_address cs ≡ true → with_addresses (fold apply t cs) [] ≡ with_addresses t []
same_ports t [] h = refl
same_ports t (d ∷ ds) h = same_ports (apply t d) ds (second_so (is_of_address d) (list_all is_of_address ds) h) ∙ leaves_ports t d (first_so (is_of_address d) (list_all is_of_address ds) h)

-- the tie of a table and its ends doesn't speak of addresses
pub tied-but_addresses : (t u : Table) (e : Ends) → with_addresses u [] ≡ with_addresses t [] → IsTied t e → IsTied u e
tied-but_addresses t u e same tied = record {
  groups = tied.groups ∙ sym (ap (λ (x : Table). x.groups) same);
  routers = tied.routers ∙ sym (ap (λ (x : Table). x.routers) same);
  queriers = tied.queriers ∙ sym (ap (λ (x : Table). x.queriers) same);
  groups_ascend = tied.groups_ascend;
  routers_ascend = tied.routers_ascend;
  queriers_ascend = tied.queriers_ascend;
}

-- what is forgotten

pub forgets-is_of_address : (keys : List Address) → list_all is_of_address (forgets keys) ≡ true
forgets-is_of_address [] = refl
forgets-is_of_address (k ∷ keys) = forgets-is_of_address keys

module _ (base : Course) (keys : List Address) where
  abbrev pub gone : List Change
  gone = forgets keys ++ endings base.control.now base.control.ends

  pub both_go : all_fit base.table (forgets keys) ≡ true → (fold keeps_up base.control (forgets keys)).now ≡ base.control.now → ends (makes_all base (forgets keys)) ≡ makes_all base gone
  both_go fit now =
      let aged = made_all base (forgets keys) fit in
      let at = ap (λ (r : Course). r.control.now) aged ∙ now in
      let ending = ap (λ (r : Course). r.control.ends) aged ∙ same_ends base.control (forgets keys) (forgets-is_of_address keys) in
      (λ i. makes_all (makes_all base (forgets keys)) (endings (at i) (ending i)))
      ∙ sym (fold-append makes base (forgets keys) (endings base.control.now base.control.ends))

-- the queriers that end, as changes
pub queriers_go : (four six : Bool) → map (λ (version : ℕ). Querier (version == ip_version true) false) (versions four six) ≡ queriers_off four six
queriers_go true true = refl
queriers_go true false = refl
queriers_go false true = refl
queriers_go false false = refl

-- three lists behind one
pub in_three : (old ps rs qs : List Change) → ((old ++ ps) ++ rs) ++ qs ≡ old ++ (ps ++ (rs ++ qs))
in_three old ps rs qs = append_assoc (old ++ ps) rs qs ∙ append_assoc old ps (rs ++ qs)
