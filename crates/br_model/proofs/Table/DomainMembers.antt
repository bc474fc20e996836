-- The members of domains, in a list with a place for each domain.
use Rattle.std.proofs.Common.{◌≡◌, ℕ, zero, suc, ◌<◌, Bool, true, false, ◌||◌, not, ◌&&◌, cond, List, []}
use Rattle.std.proofs.Common.{length, get_or, set, replicate, Some, refl, sym, ap, ◌∙◌, inl, inr, get_or-set_same, get_or-set_other}
use Rattle.std.specs.Prelude.{◌==◌}
use Rattle.std.specs.Option.{option_eq}
use Rattle.std.specs.Ordering.{nat_cmp}
use Rattle.std.specs.Cmp.{unsigned_tied}
use Rattle.std.specs.FinMap.Entries.{find-put}
use Rattle.std.proofs.lemmas.Bool.{eq-eqb, ne_eqb}
use Rattle.std.proofs.lemmas.Bool.Decides.{eqb_tells}
use Rattle.std.proofs.lemmas.Cmp.{nat_cmp_total}
use Rattle.lemmas.proofs.Tests.{and-not}
use Rattle.port_sets.specs.Numbers.{has_number, numbers_below}
use Rattle.port_sets.proofs.Numbers.{has-below, none_below, same_below}
use Rattle.br_model.specs.declared.domains.Edition.{Edition}
use Rattle.br_model.specs.Table.Domains.{Domains, port_places}
use Rattle.br_model.specs.Table.DomainPorts.{is_in_domain, ports_in}
use Rattle.br_model.specs.Data.Maps.{get, put}

-- the sets of which one was given a number that all had lost
pub members-put : (old lost : List (List ℕ)) (p d domain : ℕ) (new : List ℕ) → d < length lost
    → ((k : ℕ) → k < length lost → get_or lost k [] ≡ numbers_below port_places (λ q. has_number (get_or old k []) q && not (q == p)))
    → new ≡ numbers_below port_places (λ q. (q == p) || has_number (get_or lost d []) q)
    → domain < length lost → get_or (set lost d new) domain [] ≡ numbers_below port_places (λ q. cond (q == p) (d == domain) (has_number (get_or old domain []) q))
members-put old lost p d domain new within h made low = elim (eqb_tells domain d) [
  | inl e ↦
      ap (λ i. get_or (set lost d new) i []) e.1
      ∙ get_or-set_same lost d new [] within
      ∙ made
      ∙ same_below _ _ port_places (λ q below.
      ap (λ (ns : List ℕ). (q == p) || has_number ns q) (h d within)
      ∙ ap (λ b. (q == p) || b) (has-below (λ m. has_number (get_or old d []) m && not (m == p)) port_places q below)
      ∙ given (q == p) (has_number (get_or old d []) q)
      ∙ ap (λ i. cond (q == p) true (has_number (get_or old i []) q)) (sym e.1)
      ∙ sym (ap (λ b. cond (q == p) b (has_number (get_or old domain []) q)) (eq-eqb d domain (sym e.1))))
  | inr e ↦
      get_or-set_other lost d domain new [] e.1
      ∙ h domain low
      ∙ same_below _ _ port_places (λ q below.
      and-not (has_number (get_or old domain []) q) (q == p)
      ∙ sym (ap (λ b. cond (q == p) b (has_number (get_or old domain []) q)) (ne_eqb d domain (λ x. e.1 (sym x)))))
]
  where
    given : (b c : Bool) → (b || (c && not b)) ≡ cond b true c
    given true c = refl
    given false true = refl
    given false false = refl

-- the ports of a domain when a port is declared
pub ports_in-put : (m : Domains) (p d domain : ℕ) (old new : List ℕ) → old ≡ ports_in m domain
    → new ≡ numbers_below port_places (λ q. cond (q == p) (d == domain) (has_number old q))
    → new ≡ ports_in (record m { ports = put nat_cmp m.ports p d }) domain
ports_in-put m p d domain old new h made =
    made ∙ same_below _ _ port_places (λ q low.
    ap (λ (ns : List ℕ). cond (q == p) (d == domain) (has_number ns q)) h
    ∙ ap (cond (q == p) (d == domain)) (has-below (is_in_domain m domain) port_places q low)
    ∙ by (q == p) q
    ∙ sym (ap (λ o. option_eq (λ x y. x == y) o (Some domain)) (find-put nat_cmp nat_cmp_total q p d m.ports ∙ ap (λ b. cond b (Some d) (get nat_cmp m.ports q)) (unsigned_tied q p))))
  where
    by : (b : Bool) (q : ℕ) → cond b (d == domain) (is_in_domain m domain q) ≡ option_eq (λ x y. x == y) (cond b (Some d) (get nat_cmp m.ports q)) (Some domain)
    by true q = refl
    by false q = refl

pub ports_in-none : (edition : Edition) (domain : ℕ) → [] ≡ ports_in (record { edition = edition; ports = [] }) domain
ports_in-none edition domain = sym (none_below _ port_places (λ q low. refl))

pub no_sets : (n domain : ℕ) → ◌≡◌ {A = List ℕ} (get_or (replicate n []) domain []) []
no_sets zero domain = refl
no_sets (suc n) zero = refl
no_sets (suc n) (suc domain) = no_sets n domain
