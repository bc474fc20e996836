-- The laws of `explain`.
use Rattle.std.proofs.Common.{◌≡◌, ℕ, ◌+◌, ◌≤◌, true, false, cond, List, [], ◌∷◌, ◌++◌, map, take, Option, None, Some, refl, sym, ap, ◌∙◌, subst, arith}
use Rattle.std.proofs.lemmas.List.{map-append}
use Rattle.std.proofs.lemmas.List.Elements.{filter-append}
use Rattle.std.specs.Prelude.{◌==◌}
use Rattle.std.specs.List.{filter, fold}
use Rattle.std.specs.Option.{option_map_or}
use Rattle.br_model.specs.declared.transcript.Line.{Line}
use Rattle.br_model.specs.Plane.LineTraits.{sends}
use Rattle.br_model.specs.Plane.Sending.{sent_of}
use Rattle.br_model.specs.Plane.World.{Stepped, first_world}
use Rattle.br_model.specs.Table.Setup.{Setup}
use Rattle.timings.specs.Explained.{Explains, IsFit, IsTiming, Mark, Sights, Timing, count_at, frame_sent, goes, timing, watched}
use Rattle.timings.specs.Greedy.{Answer, Yes, No, explain, explains_from}
use Rattle.timings.specs.Refuted.{IsRefuted}
use Rattle.timings.specs.Timings.{Enters, plays, turned}
use Rattle.timings.specs.Telling.{saw_in, sights_of}
use Rattle.timings.proofs.Exchange.{AllFit, Beats, Behind, beats}
use Rattle.timings.proofs.Own.{Between, fold-own, goes-between}
use Rattle.timings.proofs.Sound.{Says, explained-fits, fit-explained, says}
use Rattle.timings.proofs.Timing.{first-beside}

abbrev first : Setup → Stepped
first setup = (first_world setup, [])

first-between : (setup : Setup) → Between (first setup)
first-between setup = record { ready = (first-beside setup).left; fresh = λ id le. refl }

first-behind : (setup : Setup) → Behind (first setup) (first setup)
first-behind setup = record { alike = (first-beside setup).alike; left = first-between setup; right = first-between setup; counts = λ dom. omega arith }

-- the answer says what it says
first-says : (setup : Setup) (s : Sights) (marks : List Mark) (r : Answer) → explain setup s marks ≡ r → Says s (first setup) marks r
unfolding explain
first-says setup s marks r e = subst (Says s (first setup) marks) e (says s marks (first setup) (first-between setup))

pub sound-timing : (setup : Setup) (s : Sights) (marks : List Mark) (t : Timing) → explain setup s marks ≡ Yes t → IsTiming setup marks t
sound-timing setup s marks t e = let h = first-says setup s marks (Yes t) e in record { observed = h.0; stands = h.1 }

fit-explains : (setup : Setup) (s : Sights) (n : ℕ) (t : Timing) → n ≤ (timing setup t).0.next → AllFit s n (first setup) t → Explains setup s n t
unfolding timing
fit-explains setup s n t end fit id one less = fit-explained s n t (first setup) (first-between setup) fit id one less (omega (arith, less, end))

pub sound-explains : (setup : Setup) (s : Sights) (marks : List Mark) (t : Timing) → explain setup s marks ≡ Yes t → Explains setup s (timing setup t).0.next t
sound-explains setup s marks t e =
    let h = first-says setup s marks (Yes t) e in fit-explains setup s (timing setup t).0.next t (omega arith) (h.2 (timing setup t).0.next)

pub refuted : (setup : Setup) (s : Sights) (marks : List Mark) (id : ℕ) (x : Stepped) → explain setup s marks ≡ No id x → IsRefuted setup s marks id x
unfolding timing
refuted setup s marks id x e =
    let h = first-says setup s marks (No id x) e in
    record {
      before = h.before;
      port = h.port;
      bytes = h.bytes;
      later = h.later;
      parts = h.parts;
      there = h.there;
      next = h.next;
      stands = h.stands;
      explains = fit-explains setup s id h.before (omega (arith, h.next, ap (λ (y : Stepped). y.0.next) h.there)) (h.fit id);
      none = h.none;
    }

-- beside another timing
timing-beats : (setup : Setup) (s : Sights) (marks : List Mark) (n : ℕ) (t : Timing) (r : Answer) → explain setup s marks ≡ r → IsTiming setup marks t → Explains setup s n t
    → Beats n (first setup) (first setup) t r
unfolding explain timing
timing-beats setup s marks n t r e is h =
    subst (Beats n (first setup) (first setup) t) (ap (explains_from s (first setup)) is.observed ∙ e)
    (beats s n t (first setup) (first setup) (first-behind setup) is.stands (explained-fits s n t (first setup) (first-between setup) h))

pub complete : (setup : Setup) (s : Sights) (marks : List Mark) (id : ℕ) (x : Stepped) → explain setup s marks ≡ No id x → (t : Timing) → IsTiming setup marks t → Explains setup s (id + 1) t → ⊥
complete setup s marks id x e t is h = let late : id + 1 ≤ id = timing-beats setup s marks (id + 1) t (No id x) e is h in absurd (omega (arith, late))

pub least : (setup : Setup) (s : Sights) (marks : List Mark) (t : Timing) → explain setup s marks ≡ Yes t → (other : Timing) → IsTiming setup marks other
    → (next : ℕ) → Explains setup s next other → (n dom : ℕ) → (timing setup (take n other)).0.next ≤ next
    → count_at (timing setup (take n t)).0 dom ≤ count_at (timing setup (take n other)).0 dom
unfolding timing
least setup s marks t e other is next h = timing-beats setup s marks next other (Yes t) e is h

-- A run, told as it was seen.

one-seen : (id : ℕ) (o : Option (ℕ × (ℕ × List ℕ))) → map (λ (x : ℕ × ℕ × List ℕ). (x.1, x.2)) (filter (λ x. x.0 == id) (option_map_or (λ (x : ℕ × (ℕ × List ℕ)). (x.0, x.1.0, x.1.1) ∷ []) o []))
    ≡ option_map_or (λ (x : ℕ × (ℕ × List ℕ)). cond (x.0 == id) (x.1 ∷ []) []) o []
one-seen id None = refl
one-seen id (Some x) =
    elim (x.0 == id) as (λ b. map (λ (x : ℕ × ℕ × List ℕ). (x.1, x.2)) (cond b ((x.0, x.1.0, x.1.1) ∷ []) []) ≡ cond b (x.1 ∷ []) []) [
      | true ↦ refl
      | false ↦ refl
    ]

-- of a frame just what was sent of it is told
told-seen : (id : ℕ) (told : List Line) → map (λ (x : ℕ × ℕ × List ℕ). (x.1, x.2)) (filter (λ x. x.0 == id) (saw_in told)) ≡ sent_of id told
told-seen id [] = refl
told-seen id (l ∷ later) =
    let now = option_map_or (λ (x : ℕ × (ℕ × List ℕ)). (x.0, x.1.0, x.1.1) ∷ []) (sends l) [] in
    ap (map (λ (x : ℕ × ℕ × List ℕ). (x.1, x.2))) (filter-append (λ (x : ℕ × ℕ × List ℕ). x.0 == id) now (saw_in later))
    ∙ map-append (λ (x : ℕ × ℕ × List ℕ). (x.1, x.2)) (filter (λ x. x.0 == id) now) (filter (λ x. x.0 == id) (saw_in later))
    ∙ (λ i. one-seen id (sends l) i ++ told-seen id later i)

pub self-fit : (blind ignored : List ℕ) (told : List Line) (id : ℕ) → IsFit (sights_of blind ignored told) id (sent_of id told)
self-fit blind ignored told id known = let s = sights_of blind ignored told in sym (ap (watched s) (told-seen id told))

pub self : (setup : Setup) (marks : List Mark) (t : Timing) (blind ignored : List ℕ) → IsTiming setup marks t
    → (found : Timing) × (explain setup (sights_of blind ignored (timing setup t).1) marks ≡ Yes found)
self setup marks t blind ignored is = by (explain setup s marks) refl
  where
    s : Sights
    s = sights_of blind ignored (timing setup t).1

    by : (r : Answer) → explain setup s marks ≡ r → (found : Timing) × (r ≡ Yes found)
    by (Yes g) e = (g, refl)
    by (No id x) e = absurd (complete setup s marks id x e t is (λ i one less. self-fit blind ignored (timing setup t).1 i))

-- Of one frame.

timing-between : (x : Stepped) (t : Timing) → Between x → Between (fold goes x t)
timing-between x [] b = b
timing-between x (m ∷ later) b = timing-between (goes x m) later (goes-between x m b)

pub timing-own : (setup : Setup) (before later : Timing) (doms : List ℕ) (port : ℕ) (bytes : List ℕ)
    → sent_of (turned (timing setup before) doms).0.next (fold goes (plays (turned (timing setup before) doms) (Enters port bytes)) later).1 ≡ frame_sent (turned (timing setup before) doms).0 port bytes
unfolding timing
timing-own setup before later doms port bytes =
    fold-own (fold goes (first setup) before) doms port bytes later (timing-between (first setup) before (first-between setup))
