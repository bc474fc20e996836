-- A querier hears frames that left for the host.
use Rattle.std.proofs.Common.{◌≡◌, ℕ, ◌+◌, List, [], ◌∷◌, ◌++◌, length, get_or, true, false, Option, None, Some, refl, sym, ◌∙◌, ap, subst, arith}
use Rattle.std.specs.Prelude.{◌==◌, suc, zero}
use Rattle.std.specs.List.{flat_map, fold}
use Rattle.std.proofs.lemmas.Grind.{flat_map-append}
use Rattle.std.proofs.lemmas.List.Sums.{fold-append}
use Rattle.mcast_querier.specs.Hearing.{Asker}
use Rattle.mcast_querier.specs.Querier.{Act, QuerierState, acted, heard}
use Rattle.std.proofs.Common.{append-nil, if◌then◌else◌, map, length-append, is_some}
use Rattle.std.proofs.lemmas.List.{map-append}
use Rattle.br_model.specs.declared.transcript.Line.{Line}
use Rattle.br_model.specs.declared.transcript.Line.TheVariants.{Tx}
use Rattle.br_model.specs.Plane.LineTraits.{leaving}
use Rattle.port_sets.specs.Numbers.{has_number}
use Rattle.transcript_lines.specs.Rows.{sent_lines}
use Rattle.mcast_querier.specs.Runs.{heard_at, heard_in, hears_by}
use Rattle.run_world.specs.declared.entered.Entered.{Entered}
use Rattle.run_world.specs.Hearing.{Hears, Keeps, kept_at}

pub hears_none : (q : QuerierState) → Hears q [] q
hears_none q out = refl

pub hears_more : (a b c : QuerierState) (acts more : List Act) → Hears a acts b → Hears b more c → Hears a (acts ++ more) c
hears_more a b c acts more h k out =
    fold-append acted (a, out) acts more ∙ ap (λ (x : QuerierState × List (ℕ × List ℕ)). fold acted x more) (h out) ∙ k out

pub hears_one : (q : QuerierState) (o : Option Asker) (now : ℕ) → Hears q (hears_by o now) (heard q o now)
hears_one q None now out = refl
hears_one q (Some asker) now out = refl

-- by a line of a frame that leaves, and by another

pub heard_leaving : (askers : List (Option Asker)) (now : ℕ) (l : Line) (a b : QuerierState) {x : ℕ × ℕ} → leaving l ≡ Some x → Hears a (heard_at askers now (Some x)) b
    → Hears a (heard_in askers now l) b
heard_leaving askers now l a b is h = subst (λ (o : Option (ℕ × ℕ)). Hears a (heard_at askers now o) b) (sym is) h

pub heard_nothing : (askers : List (Option Asker)) (now : ℕ) (l : Line) (q : QuerierState) → leaving l ≡ None → Hears q (heard_in askers now l) q
heard_nothing askers now l q is = subst (λ (o : Option (ℕ × ℕ)). Hears q (heard_at askers now o) q) (sym is) (hears_none q)

-- a frame that is kept
pub hears_kept : (e : Entered) (askers : List (Option Asker)) (place now : ℕ) (a b : QuerierState) → Keeps e askers → b ≡ heard a (kept_at e place) now
    → Hears a (hears_by (get_or askers place None) now) b
hears_kept e askers place now a b k is =
    subst (λ (o : Option Asker). Hears a (hears_by o now) b) (k.each place)
    (subst (λ (q : QuerierState). Hears a (hears_by (kept_at e place) now) q) (sym is) (hears_one a (kept_at e place) now))

-- one asker more

at_end : (askers : List (Option Asker)) (x : Option Asker) → get_or (askers ++ x ∷ []) (length askers) None ≡ x
at_end [] x = refl
at_end (a ∷ later) x = at_end later x

not_end : (askers : List (Option Asker)) (x : Option Asker) (place : ℕ) → (place ≡ length askers → ⊥) → get_or (askers ++ x ∷ []) place None ≡ get_or askers place None
not_end [] x zero h = absurd (h refl)
not_end [] x (suc n) h = refl
not_end (a ∷ later) x zero h = refl
not_end (a ∷ later) x (suc n) h = not_end later x n (λ e. h (ap suc e))

beyond : (l : List (Option Asker)) → get_or l (length l) None ≡ None
beyond [] = refl
beyond (a ∷ later) = beyond later

either : (P : ℕ → Type 0) (end : ℕ) → P end → ((place : ℕ) → (place ≡ end → ⊥) → P place) → (place : ℕ) → P place
either P end p q place = (elim (place == end) as (λ b. (place == end) ≡ b → P place) [
  | true ↦ λ e. subst P (sym (is_end e)) p
  | false ↦ λ e. q place (other e)
]) refl
  where
    is_end : (place == end) ≡ true → place ≡ end
    is_end e = grind arith

    other : (place == end) ≡ false → place ≡ end → ⊥
    other e h = absurd (grind arith)

-- one port more that a frame left
pub sent_more : (askers : List (Option Asker)) (now id : ℕ) (ports : List ℕ) (port : ℕ) (untagged plain tagged : List ℕ) (a b c : QuerierState)
    → Hears a (flat_map (heard_in askers now) (sent_lines id ports untagged plain tagged)) b
    → ((bytes : List ℕ) → Hears b (heard_in askers now (Tx id port bytes)) c)
    → Hears a (flat_map (heard_in askers now) (sent_lines id (ports ++ port ∷ []) untagged plain tagged)) c
sent_more askers now id ports port untagged plain tagged a b c h k =
    let sent = λ (p : ℕ). Tx id p (if has_number untagged p then plain else tagged) in
    let acts = ap (flat_map (heard_in askers now)) (map-append sent ports (port ∷ [])) ∙ flat_map-append (heard_in askers now) (map sent ports) (sent port ∷ []) in
    subst (λ (l : List Act). Hears a l c) (sym acts)
    (hears_more a b c (flat_map (heard_in askers now) (sent_lines id ports untagged plain tagged)) (flat_map (heard_in askers now) (sent port ∷ [])) h
    (subst (λ (l : List Act). Hears b l c) (sym (append-nil (heard_in askers now (sent port)))) (k (if has_number untagged port then plain else tagged))))

-- what is kept of one more frame

asks_not : (o : Option Asker) → is_some o ≡ false → o ≡ None
asks_not None h = refl
asks_not (Some asker) h = absurd (cc)

module _ (old new : Entered) (askers : List (Option Asker)) (x : Option Asker) (count : new.count ≡ old.count + 1) (k : Keeps old askers) where
  counts : new.count ≡ length (askers ++ x ∷ [])
  counts = omega (arith, count, k.count, length-append askers (x ∷ []))

  -- which doesn't ask
  pub keeps_none : ((place : ℕ) → kept_at new place ≡ kept_at old place) → is_some x ≡ false → Keeps new (askers ++ x ∷ [])
  keeps_none same none = record {
    count = counts;
    each = λ place. same place ∙ k.each place
        ∙ either (λ (i : ℕ). get_or askers i None ≡ get_or (askers ++ x ∷ []) i None) (length askers)
        (beyond askers ∙ sym (asks_not x none) ∙ sym (at_end askers x)) (λ i h. sym (not_end askers x i h)) place;
  }

  -- which does
  pub keeps_some : kept_at new old.count ≡ x → ((place : ℕ) → (place ≡ old.count → ⊥) → kept_at new place ≡ kept_at old place) → Keeps new (askers ++ x ∷ [])
  keeps_some here others = record {
    count = counts;
    each = either (λ (i : ℕ). kept_at new i ≡ get_or (askers ++ x ∷ []) i None) (length askers)
        (ap (kept_at new) (sym k.count) ∙ here ∙ sym (at_end askers x))
        (λ i h. others i (λ e. h (e ∙ k.count)) ∙ k.each i ∙ sym (not_end askers x i h));
  }
