-- Declared ports, place by place.
use Rattle.std.proofs.Common.{◌≡◌, ℕ, zero, suc, ◌+◌, ◌<◌, ◌≤◌, ◌==◌, Bool, true, false, not, ◌||◌, ◌&&◌, cond}
use Rattle.std.proofs.Common.{List, [], ◌∷◌, length, map, drop, slice_get, Some, refl, ap, sym, ◌∙◌, add-one, arith, is_some}
use Rattle.std.specs.List.{filter, list_any}
use Rattle.std.specs.Option.{option_map}
use Rattle.std.proofs.lemmas.Bool.{eqb-true}
use Rattle.lemmas.proofs.Tests.{and-false}
use Rattle.br_model.specs.Table.Domains.{first_chip_domain, last_chip, software}
use Rattle.br_model.specs.Text.Roster.{Entry, has_number, is_chip}
use Rattle.br_model.specs.Text.Spelling.{name_of}
use Rattle.br_model.specs.Text.Words.{Word}
use Rattle.br_model.proofs.Text.DeclaredChips.{any-map}
use Rattle.bridge_command.specs.Seen.{is_port_at, is_domain_at}

-- the port stands there

pub here : (ports : List Entry) (i n : ℕ) → is_port_at ports i n ≡ true → has_number (drop i ports) n ≡ true
here [] i n h = absurd (cc)
here (e ∷ ports) zero n h = ap (λ b. b || has_number ports n) h
here (e ∷ ports) (suc i) n h = here ports i n h

pub is_there : (ports : List Entry) (i n : ℕ) → is_port_at ports i n ≡ true → is_some (slice_get ports i) ≡ true
is_there [] i n h = absurd (cc)
is_there (e ∷ ports) zero n h = refl
is_there (e ∷ ports) (suc i) n h = is_there ports i n h

pub named_here : (ports : List Entry) (i n : ℕ) (name : Word) → is_port_at ports i n ≡ true → Some name ≡ option_map (λ e. e.name) (slice_get ports i) → name ≡ name_of (drop i ports) n
named_here [] i n name h e = absurd (cc)
named_here (x ∷ ports) zero n name h e = let same : name ≡ x.name = cc in same ∙ sym (ap (λ b. cond b x.name (name_of ports n)) h)
named_here (x ∷ ports) (suc i) n name h e = named_here ports i n name h e

-- it doesn't

step : (ports : List Entry) (i n : ℕ) → i < length ports → is_port_at ports i n ≡ false
    → (has_number (drop (suc i) ports) n ≡ has_number (drop i ports) n) × (name_of (drop (suc i) ports) n ≡ name_of (drop i ports) n)
step [] i n h e = absurd (omega arith)
step (x ∷ ports) zero n h e = (sym (ap (λ b. b || has_number ports n) e), sym (ap (λ b. cond b x.name (name_of ports n)) e))
step (x ∷ ports) (suc i) n h e = step ports i n (omega arith) e

pub further : (ports : List Entry) (i n : ℕ) → i < length ports → is_port_at ports i n ≡ false
    → (has_number (drop (i + 1) ports) n ≡ has_number (drop i ports) n) × (name_of (drop (i + 1) ports) n ≡ name_of (drop i ports) n)
further ports i n h e =
    let s = step ports i n h e in
    (ap (λ j. has_number (drop j ports) n) (add-one i) ∙ s.0, ap (λ j. name_of (drop j ports) n) (add-one i) ∙ s.1)

-- ports of a domain

pub domain_here : (ports : List Entry) (i dom : ℕ) → is_domain_at ports i dom ≡ true → list_any (λ (e : Entry). e.dom == dom) (drop i ports) ≡ true
domain_here [] i dom h = absurd (cc)
domain_here (e ∷ ports) zero dom h = ap (λ b. b || list_any (λ (x : Entry). x.dom == dom) ports) h
domain_here (e ∷ ports) (suc i) dom h = domain_here ports i dom h

domain_step : (ports : List Entry) (i dom : ℕ) → i < length ports → is_domain_at ports i dom ≡ false
    → list_any (λ (e : Entry). e.dom == dom) (drop (suc i) ports) ≡ list_any (λ (e : Entry). e.dom == dom) (drop i ports)
domain_step [] i dom h e = absurd (omega arith)
domain_step (x ∷ ports) zero dom h e = sym (ap (λ b. b || list_any (λ (y : Entry). y.dom == dom) ports) e)
domain_step (x ∷ ports) (suc i) dom h e = domain_step ports i dom (omega arith) e

pub domain_further : (ports : List Entry) (i dom : ℕ) → i < length ports → is_domain_at ports i dom ≡ false
    → list_any (λ (e : Entry). e.dom == dom) (drop (i + 1) ports) ≡ list_any (λ (e : Entry). e.dom == dom) (drop i ports)
domain_further ports i dom h e = ap (λ j. list_any (λ (x : Entry). x.dom == dom) (drop j ports)) (add-one i) ∙ domain_step ports i dom h e

pub no_domain : (ports : List Entry) (i dom : ℕ) → length ports ≤ i → list_any (λ (e : Entry). e.dom == dom) (drop i ports) ≡ false
no_domain [] zero dom h = refl
no_domain [] (suc i) dom h = refl
no_domain (x ∷ ports) zero dom h = absurd (omega arith)
no_domain (x ∷ ports) (suc i) dom h = no_domain ports i dom (omega arith)

-- the test of a list's numbers, and of a domain

any-filter : (t : ℕ → Bool) (ds : List ℕ) (dom : ℕ) → list_any (λ d. d == dom) (filter t ds) ≡ (list_any (λ d. d == dom) ds && t dom)
any-filter t [] dom = refl
any-filter t (d ∷ ds) dom = by (d == dom) (t d) refl refl (any-filter t ds dom)
  where
    by : (same kept : Bool) → (d == dom) ≡ same → t d ≡ kept → list_any (λ x. x == dom) (filter t ds) ≡ (list_any (λ x. x == dom) ds && t dom)
        → list_any (λ x. x == dom) (cond kept (d ∷ filter t ds) (filter t ds)) ≡ ((same || list_any (λ x. x == dom) ds) && t dom)
    by true true is h rest = ap (λ b. b || list_any (λ x. x == dom) (filter t ds)) is ∙ sym h ∙ ap t (eqb-true _ _ is)
    by true false is h rest =
        let off : t dom ≡ false = ap t (sym (eqb-true _ _ is)) ∙ h in
        rest ∙ ap (λ b. list_any (λ x. x == dom) ds && b) off ∙ and-false (list_any (λ x. x == dom) ds) ∙ sym off
    by false true is h rest = ap (λ b. b || list_any (λ x. x == dom) (filter t ds)) is ∙ rest
    by false false is h rest = rest

is_chip_by : (ports : List Entry) (dom : ℕ) → dom ≤ last_chip → is_chip ports dom ≡ ((not (dom == software)) && (dom == first_chip_domain || list_any (λ (e : Entry). e.dom == dom) ports))
is_chip_by ports dom few =
    any-filter (λ d. d == first_chip_domain || list_any (λ e. e == d) (map (λ (e : Entry). e.dom) ports)) (1 ∷ 2 ∷ 3 ∷ 4 ∷ []) dom
    ∙ ap (λ b. b && (dom == first_chip_domain || list_any (λ e. e == dom) (map (λ (e : Entry). e.dom) ports))) (four dom few)
    ∙ ap (λ b. not (dom == software) && (dom == first_chip_domain || b)) (any-map (λ (e : Entry). e.dom) dom ports)
  where
    four : (dom : ℕ) → dom ≤ 4 → list_any (λ d. d == dom) (1 ∷ 2 ∷ 3 ∷ 4 ∷ []) ≡ not (dom == 0)
    four dom few = grind arith

-- another domain than the first chip's and the software's
pub other_chip : (ports : List Entry) (dom : ℕ) → dom ≤ last_chip → (dom == first_chip_domain) ≡ false → (dom == software) ≡ false
    → is_chip ports dom ≡ list_any (λ (e : Entry). e.dom == dom) ports
other_chip ports dom few first soft =
    let on = list_any (λ (e : Entry). e.dom == dom) ports in
    is_chip_by ports dom few ∙ ap (λ b. not b && (dom == first_chip_domain || on)) soft ∙ ap (λ b. b || on) first
