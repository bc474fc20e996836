-- Ports that fit beside others, and their domains.
use Rattle.std.proofs.Common.{◌≡◌, ℕ, zero, suc, ◌==◌, ◌≤◌, Bool, true, false, ◌||◌, cond, List, [], ◌∷◌, ◌++◌}
use Rattle.std.proofs.Common.{nat_le, Option, Some, None, refl, sym, ap, ◌∙◌, arith, is_some, ◌+◌, add-one, take, slice_get, unwrap_or}
use Rattle.std.specs.Option.{option_map}
use Rattle.std.specs.List.{fold}
use Rattle.std.specs.Ordering.{nat_cmp}
use Rattle.std.specs.Cmp.{nat_cmp_total, unsigned_tied}
use Rattle.std.specs.FinMap.Entries.{find-put}
use Rattle.std.specs.Str.{bytes_eq}
use Rattle.std.proofs.lemmas.Bool.{and_parts, and_from, or_parts, or_from, not-true, not_from_false, eqb-true, ne_eqb, leb-true}
use Rattle.std.proofs.lemmas.Grind.{fold-append}
use Rattle.std.proofs.lemmas.List.Folds.{list_any-append}
use Rattle.std.proofs.lemmas.Slice.Eq.{bytes_eq-Decides}
use Rattle.lemmas.proofs.Numbers.{eqb-apart}
use Rattle.lemmas.proofs.Orders.{eq_by_cmp-turned}
use Rattle.lemmas.proofs.Tests.{or-false}
use Rattle.br_model.specs.declared.domains.Edition.{Edition}
use Rattle.br_model.specs.Table.Domains.{Domains, domain_of, host, software, last_port, last_chip}
use Rattle.br_model.specs.Data.Maps.{get, put}
use Rattle.br_model.specs.Text.Roster.{Entry, has_number, port_named, domains_of, is_name}
use Rattle.br_model.specs.Text.Words.{Word}
use Rattle.br_model.specs.Text.Declarations.{fits_beside, are_declared}

-- the parts of a port that fits

pub record Fits (ports : List Entry) (e : Entry) : Type 0 where
  pub low : nat_le 1 e.port ≡ true
  pub high : nat_le e.port last_port ≡ true
  pub of_chip : nat_le e.dom last_chip ≡ true
  pub named : is_name e.name ≡ true
  pub free : has_number ports e.port ≡ false
  pub new : is_some (port_named ports e.name) ≡ false

pub parts : (ports : List Entry) (e : Entry) → fits_beside ports e ≡ true → Fits ports e
parts ports e h =
    let a = and_parts _ _ h in
    let b = and_parts _ _ a.1 in
    let c = and_parts _ _ b.1 in
    let d = and_parts _ _ c.1 in
    let e = and_parts _ _ d.1 in
    record { low = a.0; high = b.0; of_chip = c.0; named = d.0; free = not-true _ e.0; new = not-true _ e.1 }

pub whole : (ports : List Entry) (e : Entry) → Fits ports e → fits_beside ports e ≡ true
whole ports e h =
    and_from _ _ h.low (and_from _ _ h.high (and_from _ _ h.of_chip (and_from _ _ h.named (and_from _ _ (not_from_false _ h.free) (not_from_false _ h.new)))))

-- one port more

other : (v w : Word) → bytes_eq v w ≡ false → bytes_eq w v ≡ false
other v w h = grind (arith, bytes_eq-Decides v w, bytes_eq-Decides w v)

named-append : (ports : List Entry) (e : Entry) (name : Word) → is_some (port_named (ports ++ e ∷ []) name) ≡ (is_some (port_named ports name) || bytes_eq name e.name)
named-append [] e name = by (bytes_eq name e.name)
  where
    by : (b : Bool) → is_some (cond b (Some e.port) None) ≡ b
    by true = refl
    by false = refl
named-append (x ∷ ports) e name = by (bytes_eq name x.name) (named-append ports e name)
  where
    by : (b : Bool) → is_some (port_named (ports ++ e ∷ []) name) ≡ (is_some (port_named ports name) || bytes_eq name e.name)
        → is_some (cond b (Some x.port) (port_named (ports ++ e ∷ []) name)) ≡ (is_some (cond b (Some x.port) (port_named ports name)) || bytes_eq name e.name)
    by true h = refl
    by false h = h

number-append : (ports : List Entry) (e : Entry) (n : ℕ) → has_number (ports ++ e ∷ []) n ≡ (has_number ports n || (e.port == n || false))
number-append ports e n = list_any-append (λ (x : Entry). x.port == n) ports (e ∷ [])

-- what fits beside some fits beside those after the first
fewer : (x : Entry) (ports : List Entry) (e : Entry) → Fits (x ∷ ports) e → (Fits ports e) × ((x.port == e.port) ≡ false) × (bytes_eq e.name x.name ≡ false)
fewer x ports e h =
    let free = or_parts _ _ h.free in
    let new = by (bytes_eq e.name x.name) h.new in
    (record { low = h.low; high = h.high; of_chip = h.of_chip; named = h.named; free = free.1; new = new.1 }, free.0, new.0)
  where
    by : (b : Bool) → is_some (cond b (Some x.port) (port_named ports e.name)) ≡ false → (b ≡ false) × (is_some (port_named ports e.name) ≡ false)
    by true h = absurd (cc)
    by false h = (refl, h)

beside_more : (x : Entry) (ports : List Entry) (e : Entry) → Fits ports x → (x.port == e.port) ≡ false → bytes_eq e.name x.name ≡ false → Fits (ports ++ e ∷ []) x
beside_more x ports e h p w = record {
  low = h.low;
  high = h.high;
  of_chip = h.of_chip;
  named = h.named;
  free = number-append ports e x.port ∙ or_from _ _ h.free (or_from _ _ (eqb-apart x.port e.port p) refl);
  new = named-append ports e x.name ∙ or_from _ _ h.new (other e.name x.name w);
}

pub grows : (ports : List Entry) (e : Entry) → are_declared ports ≡ true → fits_beside ports e ≡ true → are_declared (ports ++ e ∷ []) ≡ true
grows [] e h fits = and_from _ _ fits refl
grows (x ∷ ports) e h fits =
    let head = and_parts (fits_beside ports x) (are_declared ports) h in
    let rest = fewer x ports e (parts (x ∷ ports) e fits) in
    and_from _ _ (whole (ports ++ e ∷ []) x (beside_more x ports e (parts ports x head.0) rest.1 rest.2)) (grows ports e head.1 (whole ports e rest.0))

-- domains

abbrev adds : List (ℕ × ℕ) → Entry → List (ℕ × ℕ)
adds m e = put nat_cmp m e.port e.dom

joined : (b : Bool) (d : ℕ) (o : Option ℕ) (h : Bool) → (is_some (cond b (Some d) o) || h) ≡ (is_some o || (b || h))
joined true d None h = refl
joined true d (Some x) h = refl
joined false d o h = refl

gathers : (m : List (ℕ × ℕ)) (ports : List Entry) (n : ℕ) → is_some (get nat_cmp (fold adds m ports) n) ≡ (is_some (get nat_cmp m n) || has_number ports n)
gathers m [] n = sym (or-false (is_some (get nat_cmp m n)))
gathers m (e ∷ ports) n =
    gathers (adds m e) ports n
    ∙ ap (λ o. is_some o || has_number ports n) (find-put nat_cmp nat_cmp_total n e.port e.dom m ∙ ap (λ b. cond b (Some e.dom) (get nat_cmp m n)) (eq_by_cmp-turned n e.port))
    ∙ joined (e.port == n) e.dom (get nat_cmp m n) (has_number ports n)

-- a port has a domain where it is declared
pub in_domains : (edition : Edition) (ports : List Entry) (n : ℕ) → (n == host) ≡ false → is_some (domain_of (domains_of edition ports) n) ≡ has_number ports n
in_domains edition ports n h =
    gathers ((host, software) ∷ []) ports n
    ∙ ap (λ b. is_some (cond b (Some software) None) || has_number ports n) (unsigned_tied n host ∙ h)

-- the host isn't declared
pub host_apart : (ports : List Entry) (n : ℕ) → are_declared ports ≡ true → (n == host) ≡ true → has_number ports n ≡ false
host_apart [] n h e = refl
host_apart (x ∷ ports) n h e =
    let head = and_parts (fits_beside ports x) (are_declared ports) h in
    or_from _ _ (ne_eqb x.port n (λ same. above x.port n (parts ports x head.0).low (eqb-true n host e) same)) (host_apart ports n head.1 e)
  where
    above : (p m : ℕ) → nat_le 1 p ≡ true → m ≡ 0 → p ≡ m → ⊥
    above p m low none same = let l : 1 ≤ p = leb-true 1 p low in absurd (omega arith)

-- the domains of one port more
pub domains-append : (edition : Edition) (ports : List Entry) (e : Entry)
    → domains_of edition (ports ++ e ∷ []) ≡ record (domains_of edition ports) { ports = put nat_cmp (domains_of edition ports).ports e.port e.dom }
domains-append edition ports e = ap (λ (m : List (ℕ × ℕ)). record { edition = edition; ports = m }) (fold-append adds ((host, software) ∷ []) ports (e ∷ []))

-- a declared port and its domain

abbrev in_domain : Option Entry → Option (ℕ × ℕ)
in_domain o = option_map (λ e. (e.port, e.dom)) o

first_is : {place : ℕ × ℕ} (x : Entry) → Some place ≡ in_domain (Some x) → place ≡ (x.port, x.dom)
first_is {place} x e = ap (λ (o : Option (ℕ × ℕ)). unwrap_or o place) e

pub not_host : {place : ℕ × ℕ} (ports : List Entry) (i : ℕ) → are_declared ports ≡ true → Some place ≡ in_domain (slice_get ports i) → place.0 ≡ host → ⊥
not_host [] i h e same = absurd (cc)
not_host {place} (x ∷ ports) zero h e same =
    let head = and_parts (fits_beside ports x) (are_declared ports) h in
    let low : 1 ≤ x.port = leb-true 1 x.port (parts ports x head.0).low in
    let port : place.0 ≡ x.port = ap (λ (q : ℕ × ℕ). q.0) (first_is x e) in
    absurd (omega arith)
not_host (x ∷ ports) (suc i) h e same = not_host ports i (and_parts (fits_beside ports x) (are_declared ports) h).1 e same

taken_from : {place : ℕ × ℕ} (domains : List (ℕ × ℕ)) (ports : List Entry) (i : ℕ) → Some place ≡ in_domain (slice_get ports i)
    → fold adds domains (take (suc i) ports) ≡ put nat_cmp (fold adds domains (take i ports)) place.0 place.1
taken_from domains [] i e = absurd (cc)
taken_from domains (x ∷ ports) zero e = ap (λ (q : ℕ × ℕ). put nat_cmp domains q.0 q.1) (sym (first_is x e))
taken_from domains (x ∷ ports) (suc i) e = taken_from (adds domains x) ports i e

-- the domains of the first ports, and then of one more
pub taken : {place : ℕ × ℕ} (edition : Edition) (domains new : Domains) (ports : List Entry) (i : ℕ) → domains ≡ domains_of edition (take i ports) → Some place ≡ in_domain (slice_get ports i)
    → new ≡ record domains { ports = put nat_cmp domains.ports place.0 place.1 } → new ≡ domains_of edition (take (i + 1) ports)
taken {place} edition domains new ports i before e after =
    after ∙ ap (λ (m : Domains). record m { ports = put nat_cmp m.ports place.0 place.1 }) before
    ∙ sym (ap (λ n. domains_of edition (take n ports)) (add-one i) ∙ ap (λ (m : List (ℕ × ℕ)). record { edition = edition; ports = m }) (taken_from ((host, software) ∷ []) ports i e))
