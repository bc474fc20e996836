-- What a row tells at a port.
use Rattle.std.proofs.Common.{◌≡◌, ℕ, ◌<◌, ◌≤◌, Bool, true, false, not, ◌&&◌, ◌||◌, cond, List, None, Some, is_some, refl, sym, ap, ap₂, ◌∙◌, arith, inl, inr}
use Rattle.std.specs.Prelude.{◌==◌, nat_lt}
use Rattle.std.specs.Option.{unwrap_or}
use Rattle.std.proofs.lemmas.Bool.{lt-ltb, le-ltb, cases_lt, ne_eqb}
use Rattle.lemmas.proofs.Tests.{is_some-cond, and-not}
use Rattle.br_model.specs.Table.Domains.{port_places}
use Rattle.port_sets.specs.Numbers.{numbers_below, has_number, IsSetBelow}
use Rattle.port_sets.proofs.Numbers.{has-below, has-above, same_below}
use Rattle.vlan_groups.specs.declared.row.Row.{Row}
use Rattle.vlan_groups.specs.Rows.{ports_where, at_port}

pub has-ports_where : (f : ℕ → Bool) (q : ℕ) → has_number (ports_where f) q ≡ (nat_lt q port_places && f q)
has-ports_where f q = elim (cases_lt q port_places) [
  | inl low ↦ has-below f port_places q low ∙ sym (ap (λ b. b && f q) (lt-ltb q port_places low))
  | inr high ↦ has-above f port_places q (omega arith) ∙ sym (ap (λ b. b && f q) (le-ltb q port_places (omega arith)))
]

pub at-low : (row : Row) (q : ℕ) → q < port_places → at_port row q ≡ cond (has_number row.members q) (Some (has_number row.untagged q)) None
at-low row q low = ap (λ b. cond (b && has_number row.members q) (Some (has_number row.untagged q)) None) (lt-ltb q port_places low)

pub at-high : (row : Row) (q : ℕ) → port_places ≤ q → at_port row q ≡ None
at-high row q high = ap (λ b. cond (b && has_number row.members q) (Some (has_number row.untagged q)) None) (le-ltb q port_places high)

unwrap-cond : (b : Bool) (x : Bool) → unwrap_or (cond b (Some x) None) false ≡ (b && x)
unwrap-cond true x = refl
unwrap-cond false x = refl

pub members-row : (row : Row) → IsSetBelow port_places row.members → row.members ≡ ports_where (λ q. is_some (at_port row q))
members-row row set = set ∙ same_below _ _ port_places (λ q low. sym (ap is_some (at-low row q low) ∙ is_some-cond (has_number row.members q) (has_number row.untagged q)))

pub untagged-row : (row : Row) (both : List ℕ) → both ≡ numbers_below port_places (λ q. has_number row.members q && has_number row.untagged q)
    → both ≡ ports_where (λ q. unwrap_or (at_port row q) false)
untagged-row row both e = e ∙ same_below _ _ port_places (λ q low. sym (ap (λ o. unwrap_or o false) (at-low row q low) ∙ unwrap-cond (has_number row.members q) (has_number row.untagged q)))

pub at-with : (row new : Row) (p : ℕ) (u : Bool) → p < port_places → new.members ≡ numbers_below port_places (λ q. (q == p) || has_number row.members q)
    → ((q : ℕ) → q < port_places → has_number new.untagged q ≡ cond (q == p) u (has_number row.untagged q))
    → (q : ℕ) → at_port new q ≡ cond (q == p) (Some u) (at_port row q)
at-with row new p u small members untagged q = elim (cases_lt q port_places) [
  | inl low ↦
      at-low new q low
      ∙ ap₂ (λ a b. cond a (Some b) None) (ap (λ (ns : List ℕ). has_number ns q) members ∙ has-below _ port_places q low) (untagged q low)
      ∙ by (q == p)
      ∙ ap (cond (q == p) (Some u)) (sym (at-low row q low))
  | inr high ↦
      at-high new q (omega arith)
      ∙ sym (ap (λ b. cond b (Some u) (at_port row q)) (ne_eqb q p (omega arith)) ∙ at-high row q (omega arith))
]
  where
    by : (same : Bool) → cond (same || has_number row.members q) (Some (cond same u (has_number row.untagged q))) None
        ≡ cond same (Some u) (cond (has_number row.members q) (Some (has_number row.untagged q)) None)
    by true = refl
    by false = refl

pub at-without : (row new : Row) (p : ℕ) → p < port_places → new.members ≡ numbers_below port_places (λ q. has_number row.members q && not (q == p)) → new.untagged ≡ row.untagged
    → (q : ℕ) → at_port new q ≡ cond (q == p) None (at_port row q)
at-without row new p small members untagged q = elim (cases_lt q port_places) [
  | inl low ↦
      at-low new q low
      ∙ ap₂ (λ a (ns : List ℕ). cond a (Some (has_number ns q)) None) (ap (λ (ns : List ℕ). has_number ns q) members ∙ has-below _ port_places q low) untagged
      ∙ by (has_number row.members q) (q == p)
      ∙ ap (cond (q == p) None) (sym (at-low row q low))
  | inr high ↦
      at-high new q (omega arith)
      ∙ sym (ap (λ b. cond b None (at_port row q)) (ne_eqb q p (omega arith)) ∙ at-high row q (omega arith))
]
  where
    by : (there same : Bool) → cond (there && not same) (Some (has_number row.untagged q)) None ≡ cond same None (cond there (Some (has_number row.untagged q)) None)
    by true true = refl
    by true false = refl
    by false true = refl
    by false false = refl

-- what `with` or `without` gives of the untagged ports
pub untagged-with : (p : ℕ) (old new : List ℕ) → new ≡ numbers_below port_places (λ q. (q == p) || has_number old q) → (q : ℕ) → q < port_places
    → has_number new q ≡ cond (q == p) true (has_number old q)
untagged-with p old new e q low = ap (λ (ns : List ℕ). has_number ns q) e ∙ has-below _ port_places q low ∙ by (q == p)
  where
    by : (same : Bool) → (same || has_number old q) ≡ cond same true (has_number old q)
    by true = refl
    by false = refl

pub untagged-without : (p : ℕ) (old new : List ℕ) → new ≡ numbers_below port_places (λ q. has_number old q && not (q == p)) → (q : ℕ) → q < port_places
    → has_number new q ≡ cond (q == p) false (has_number old q)
untagged-without p old new e q low = ap (λ (ns : List ℕ). has_number ns q) e ∙ has-below _ port_places q low ∙ and-not (has_number old q) (q == p)
