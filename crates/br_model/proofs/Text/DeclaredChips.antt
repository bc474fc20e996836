-- The chips that exist where ports are declared are those of their domains.
use Rattle.std.proofs.Common.{◌≡◌, ℕ, ◌==◌, nat_le, Bool, true, false, ◌||◌, cond, List, [], ◌∷◌, map, None, Some, refl, sym, ap, ◌∙◌}
use Rattle.std.specs.declared.cmp.Ordering.TheVariants.{Less, Equal, Greater}
use Rattle.std.specs.FinMap.Entries.{by_order, find-put}
use Rattle.std.specs.List.{filter, fold, list_all, list_any}
use Rattle.std.specs.Ordering.{nat_cmp, is_eq}
use Rattle.std.specs.Cmp.{first_so, second_so, unsigned_tied}
use Rattle.std.proofs.lemmas.Bool.{both_ways, eq-eqb, ne_eqb, or_right}
use Rattle.std.proofs.lemmas.Cmp.{nat_cmp_total}
use Rattle.lemmas.proofs.Tests.{or_swap, or-false, or_exchange}
use Rattle.br_model.specs.declared.domains.Edition.{Edition}
use Rattle.br_model.specs.Text.Declarations.{are_declared}
use Rattle.br_model.specs.Table.Domains.{host, software, first_chip_domain, chip_domains}
use Rattle.br_model.specs.Data.Maps.{get, put}
use Rattle.br_model.specs.Text.Roster.{Entry, has_number, chips_of, domains_of}
use Rattle.br_model.proofs.Text.WrittenNames.{fits, at_least}

-- a new entry is one more
any-put : (p : ℕ × ℕ → Bool) (m : List (ℕ × ℕ)) (k v : ℕ) → get nat_cmp m k ≡ None → list_any p (put nat_cmp m k v) ≡ (p (k, v) || list_any p m)
any-put p [] k v absent = refl
any-put p (e ∷ m) k v absent =
    (elim (nat_cmp k e.0) as (λ r. cond (is_eq r) (Some e.1) (get nat_cmp m k) ≡ None
    → list_any p (by_order r ((k, v) ∷ e ∷ m) ((e.0, v) ∷ m) (e ∷ put nat_cmp m k v)) ≡ (p (k, v) || (p e || list_any p m))) [
      | Less ↦ λ h. refl
      | Equal ↦ λ h. absurd (cc)
      | Greater ↦ λ h. ap (λ b. p e || b) (any-put p m k v h) ∙ or_swap (p e) (p (k, v)) (list_any p m)
    ]) absent

abbrev domains_from : List (ℕ × ℕ) → List Entry → List (ℕ × ℕ)
domains_from m ports = fold (λ m e. put nat_cmp m e.port e.dom) m ports

-- no port of these is there
abbrev AreNew : List (ℕ × ℕ) → List Entry → Type 0
AreNew m ports = (port : ℕ) → has_number ports port ≡ true → get nat_cmp m port ≡ None

still-new : (m : List (ℕ × ℕ)) (e : Entry) (ports : List Entry) → are_declared (e ∷ ports) ≡ true → AreNew m (e ∷ ports) → AreNew (put nat_cmp m e.port e.dom) ports
still-new m e ports all new port h =
    find-put nat_cmp nat_cmp_total port e.port e.dom m
    ∙ ap (λ b. cond b (Some e.dom) (get nat_cmp m port)) (unsigned_tied port e.port
    ∙ ne_eqb port e.port (λ same. both_ways (has_number ports e.port) (fits e ports all).new (ap (has_number ports) (sym same) ∙ h)))
    ∙ new port (or_right (e.port == port) (has_number ports port) h)

any-declared : (m : List (ℕ × ℕ)) (ports : List Entry) (dom : ℕ) → are_declared ports ≡ true → AreNew m ports
    → list_any (λ e. e.1 == dom) (domains_from m ports) ≡ (list_any (λ e. e.1 == dom) m || list_any (λ (e : Entry). e.dom == dom) ports)
any-declared m [] dom all new = sym (or-false (list_any (λ e. e.1 == dom) m))
any-declared m (e ∷ ports) dom all new =
    let here : get nat_cmp m e.port ≡ None = new e.port (ap (λ b. b || has_number ports e.port) (eq-eqb e.port e.port refl)) in
    any-declared (put nat_cmp m e.port e.dom) ports dom (fits e ports all).rest (still-new m e ports all new)
    ∙ ap (λ b. b || list_any (λ (x : Entry). x.dom == dom) ports) (any-put (λ x. x.1 == dom) m e.port e.dom here)
    ∙ or_exchange (e.dom == dom) (list_any (λ x. x.1 == dom) m) (list_any (λ (x : Entry). x.dom == dom) ports)

-- the host is none of them
host-new : (ports : List Entry) → are_declared ports ≡ true → AreNew ((host, software) ∷ []) ports
host-new ports all port h =
    ap (λ b. cond b (Some software) None) (unsigned_tied port host ∙ ne_eqb port host (λ same. both_ways (nat_le 1 port) (ap (nat_le 1) same) (at_least ports port all h)))

-- a list's numbers, each of which is one at least, are kept alike by tests that agree at such numbers
same-filter : (t u : ℕ → Bool) → ((d : ℕ) → nat_le 1 d ≡ true → t d ≡ u d) → (ds : List ℕ) → list_all (nat_le 1) ds ≡ true → filter t ds ≡ filter u ds
same-filter t u alike [] h = refl
same-filter t u alike (d ∷ ds) h =
    ap (λ b. cond b (d ∷ filter t ds) (filter t ds)) (alike d (first_so _ _ h))
    ∙ ap (λ kept. cond (u d) (d ∷ kept) kept) (same-filter t u alike ds (second_so (nat_le 1 d) _ h))

pub any-map : {A : Type 0} → (f : A → ℕ) (dom : ℕ) (l : List A) → list_any (λ d. d == dom) (map f l) ≡ list_any (λ x. f x == dom) l
any-map f dom [] = refl
any-map f dom (x ∷ l) = ap (λ b. f x == dom || b) (any-map f dom l)

pub declared-chips : (edition : Edition) (ports : List Entry) → are_declared ports ≡ true → chip_domains (domains_of edition ports) ≡ chips_of ports
declared-chips edition ports all =
    same-filter (λ dom. dom == first_chip_domain || list_any (λ d. d == dom) (map (λ e. e.1) (domains_from ((host, software) ∷ []) ports)))
    (λ dom. dom == first_chip_domain || list_any (λ d. d == dom) (map (λ (e : Entry). e.dom) ports)) alike (1 ∷ 2 ∷ 3 ∷ 4 ∷ []) refl
  where
    alike : (dom : ℕ) → nat_le 1 dom ≡ true
        → (dom == first_chip_domain || list_any (λ d. d == dom) (map (λ e. e.1) (domains_from ((host, software) ∷ []) ports)))
        ≡ (dom == first_chip_domain || list_any (λ d. d == dom) (map (λ (e : Entry). e.dom) ports))
    alike dom h =
        let soft : (software == dom) ≡ false = ne_eqb software dom (λ e. both_ways (nat_le 1 dom) (ap (nat_le 1) (sym e)) h) in
        ap (λ b. dom == first_chip_domain || b) (
        any-map (λ (e : ℕ × ℕ). e.1) dom (domains_from ((host, software) ∷ []) ports)
        ∙ any-declared ((host, software) ∷ []) ports dom all (host-new ports all)
        ∙ ap (λ b. (b || false) || list_any (λ (e : Entry). e.dom == dom) ports) soft
        ∙ sym (any-map (λ (e : Entry). e.dom) dom ports))
