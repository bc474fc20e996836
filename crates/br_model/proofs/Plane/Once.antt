-- No frame leaves a port twice.
use Rattle.std.proofs.Common.{◌≡◌, ℕ, ◌≤◌, true, false, not, cond, List, [], ◌∷◌, ◌++◌, map, Option, None, Some, refl, sym, ap, ◌∙◌, arith, subst, ⊎_elim}
use Rattle.std.proofs.lemmas.Bool.{eq-eqb}
use Rattle.std.proofs.lemmas.List.{append-nil}
use Rattle.std.proofs.lemmas.List.Elements.{All-from_recursion}
use Rattle.std.specs.Prelude.{◌==◌}
use Rattle.std.specs.List.{AllByRecursion, filter, fold}
use Rattle.br_model.specs.declared.steps.Step.{Step}
use Rattle.br_model.specs.declared.transcript.Line.{Line}
use Rattle.br_model.specs.Table.DomainPorts.{is_marked}
use Rattle.br_model.specs.Table.Domains.{Domains}
use Rattle.br_model.specs.Forward.Leave.{leave}
use Rattle.br_model.specs.Table.Setup.{Setup}
use Rattle.br_model.specs.Forward.Shares.{remaining, soft_out}
use Rattle.br_model.specs.Theorems.Invariants.{frames_of, IsWorld}
use Rattle.br_model.specs.Theorems.OnceOnly.{LinesStand}
use Rattle.br_model.specs.Plane.Runs.{run, then_step}
use Rattle.br_model.specs.Plane.Sending.{Sent, times, sent_of}
use Rattle.br_model.specs.Plane.Steps.{world_step}
use Rattle.br_model.specs.Plane.World.{World, Waiting, Holding, Stepped, first_world, table_at}
use Rattle.br_model.proofs.Plane.Fates.{sent_of-append, Found, hold_entry, wait_entry, waiting_found, found, found-taken, Fate, idle}
use Rattle.br_model.proofs.Plane.Fates.{entered, taken, gone, said-none, said-held, said-soft, Waits, step-effect}
use Rattle.br_model.proofs.Plane.Kept.{first-world, step-world}
use Rattle.br_model.proofs.Plane.Shares.{ascends-filter, ascends-leave, times-append, times-ascends, times-remaining}

-- what was sent of this frame went to ports of its mark's domain alone
abbrev IsOwn : Domains → Sent → Waiting × Option ℕ → Type 0
IsOwn domains out e = (port : ℕ) → is_marked domains e.0.mark port ≡ false → times port out ≡ 0

-- what the lines say of one id
record Told (id : ℕ) (w : World) (lines : List Line) : Type 0 where
  fresh : w.next ≤ id → sent_of id lines ≡ []
  once : (port : ℕ) → times port (sent_of id lines) ≤ 1
  own : AllByRecursion (IsOwn w.setup.domains (sent_of id lines)) (found id w.held w.waiting)

-- the share of software
soft-once : (domains : Domains) (w : World) (f : Waiting) (point q : ℕ) (before : Sent) → times q before ≤ 1 → (is_marked domains f.mark q ≡ false → times q before ≡ 0)
    → times q (before ++ soft_out domains (table_at w point) f.port f.bytes f.head f.mark) ≤ 1
soft-once domains w f point q before once own =
    let out = leave (table_at w point) f.port f.bytes f.head in
    let soft = remaining domains f.mark out in
    let sum = times-append q before soft in
    (elim (is_marked domains f.mark q) as (λ b. is_marked domains f.mark q ≡ b → times q (before ++ soft) ≤ 1) [
      | true ↦ λ e. omega (arith, once, sum, times-remaining domains f.mark q out e)
      | false ↦
          λ e. omega (arith, own e, sum, times-ascends q soft (ascends-filter (λ (x : ℕ × List ℕ). not (is_marked domains f.mark x.0)) out (ascends-leave (table_at w point) f.port f.bytes f.head)))
    ]) refl

module _ (id : ℕ) (w v : World) (lines new : List Line) (k : IsWorld w) (told : Told id w lines) (setup : v.setup ≡ w.setup) (next : w.next ≤ v.next) where
  -- what is said now, of what was said before and what is new
  now : (out : Sent) → sent_of id new ≡ out → sent_of id (lines ++ new) ≡ sent_of id lines ++ out
  now out e = sent_of-append id lines new ∙ ap (λ (l : Sent). sent_of id lines ++ l) e

  silent : sent_of id new ≡ [] → sent_of id (lines ++ new) ≡ sent_of id lines
  silent e = now [] e ∙ append-nil (sent_of id lines)

  told-by : Fate id w v new → Told id v (lines ++ new)
  told-by (idle there nothing) =
      let same = silent (said-none id new nothing) in
      record {
        fresh = λ le. same ∙ told.fresh (omega (arith, le, next));
        once = λ port. omega (arith, told.once port, ap (times port) same);
        own = subst (λ (l : Found). AllByRecursion (IsOwn v.setup.domains (sent_of id (lines ++ new))) l) (sym there)
            (subst (λ (s : Sent). AllByRecursion (IsOwn v.setup.domains s) (found id w.held w.waiting)) (sym same)
            (subst (λ (s : Setup). AllByRecursion (IsOwn s.domains (sent_of id lines)) (found id w.held w.waiting)) (sym setup) told.own));
      }
  told-by (entered out is more says once settled) =
      let none = told.fresh (omega (arith, is)) in
      let same : sent_of id (lines ++ new) ≡ out = now out says ∙ ap (λ (l : Sent). l ++ out) none in
      record {
        fresh = λ le. absurd (omega (arith, le, is, more));
        once = λ port. omega (arith, once port, ap (times port) same);
        own = subst (λ (s : Sent). AllByRecursion (IsOwn v.setup.domains s) (found id v.held v.waiting)) (sym same) (⊎_elim
            (λ (h : found id v.held v.waiting ≡ []). subst (λ (l : Found). AllByRecursion (IsOwn v.setup.domains out) l) (sym h) tt)
            (λ (h : Waits id v out). subst (λ (l : Found). AllByRecursion (IsOwn v.setup.domains out) l) (sym h.1) (h.2, tt))
            settled);
      }
  told-by (taken f was is says) =
      let same = silent (said-held id w.published new says) in
      let own = subst (λ (l : Found). AllByRecursion (IsOwn w.setup.domains (sent_of id lines)) l) was told.own in
      record {
        fresh = λ le. absurd (omega (arith, le, next, found-taken id w (f, None) k was));
        once = λ port. omega (arith, told.once port, ap (times port) same);
        own = subst (λ (l : Found). AllByRecursion (IsOwn v.setup.domains (sent_of id (lines ++ new))) l) (sym is)
            (subst (λ (s : Sent). AllByRecursion (IsOwn v.setup.domains s) ((f, Some w.published) ∷ [])) (sym same)
            (subst (λ (s : Setup). AllByRecursion (IsOwn s.domains (sent_of id lines)) ((f, Some w.published) ∷ [])) (sym setup) (own.0, tt)));
      }
  told-by (gone f o point was is decided says) =
      let own = subst (λ (l : Found). AllByRecursion (IsOwn w.setup.domains (sent_of id lines)) l) was told.own in
      record {
        fresh = λ le. absurd (omega (arith, le, next, found-taken id w (f, o) k was));
        once = λ port. omega (arith, ap (times port) (now _ (said-soft id point _ new says)), soft-once w.setup.domains w f point port (sent_of id lines) (told.once port) (own.0 port));
        own = subst (λ (l : Found). AllByRecursion (IsOwn v.setup.domains (sent_of id (lines ++ new))) l) (sym is) tt;
      }

told-step : (id : ℕ) (x : Stepped) (step : Step) → IsWorld x.0 → Told id x.0 x.1 → Told id (then_step x step).0 (then_step x step).1
told-step id x step k told =
    let e = step-effect id x.0 step k in
    told-by id x.0 (world_step x.0 step).0 x.1 (world_step x.0 step).1 k told e.setup e.next e.fate

told-fold : (id : ℕ) (x : Stepped) (steps : List Step) → IsWorld x.0 → Told id x.0 x.1 → Told id (fold then_step x steps).0 (fold then_step x steps).1
told-fold id x [] k told = told
told-fold id x (step ∷ steps) k told = told-fold id (then_step x step) steps (step-world x.0 step k) (told-step id x step k told)

run-told : (id : ℕ) (setup : Setup) (steps : List Step) → Told id (run setup steps).0 (run setup steps).1
unfolding run
run-told id setup steps = told-fold id (first_world setup, []) steps (first-world setup) (record { fresh = λ le. refl; once = λ port. omega arith; own = tt })

-- each frame is among those of its id
each-frame : (P : ℕ → Waiting × Option ℕ → Type 0) (Q : Waiting → Type 0) → ((f : Waiting) (o : Option ℕ) → P f.id (f, o) → Q f) → (held : List Holding) (waiting : List Waiting)
    → ((id : ℕ) → AllByRecursion (P id) (found id held waiting)) → AllByRecursion Q (frames_of held waiting)
each-frame P Q gives [] [] each = tt
each-frame P Q gives [] (f ∷ fs) each = (
  gives f None (subst (λ b. AllByRecursion (P f.id) (map wait_entry (cond b (f ∷ filter (λ g. g.id == f.id) fs) (filter (λ g. g.id == f.id) fs)))) (eq-eqb f.id f.id refl) (each f.id)).0,
  each-frame P Q gives [] fs
      (λ id. (elim (f.id == id) as (λ b. AllByRecursion (P id) (map wait_entry (cond b (f ∷ filter (λ g. g.id == id) fs) (filter (λ g. g.id == id) fs))) → AllByRecursion (P id) (found id [] fs)) [
        | true ↦ λ h. h.1
        | false ↦ λ h. h
      ]) (each id)),
)
each-frame P Q gives (h ∷ hs) waiting each = (
  gives h.waiting (Some h.floor)
      (subst (λ b. AllByRecursion (P h.waiting.id)
      (map hold_entry (cond b (h ∷ filter (λ g. g.waiting.id == h.waiting.id) hs) (filter (λ g. g.waiting.id == h.waiting.id) hs)) ++ waiting_found h.waiting.id waiting))
      (eq-eqb h.waiting.id h.waiting.id refl) (each h.waiting.id)).0,
  each-frame P Q gives hs waiting (λ id. (elim (h.waiting.id == id) as
      (λ b. AllByRecursion (P id) (map hold_entry (cond b (h ∷ filter (λ g. g.waiting.id == id) hs) (filter (λ g. g.waiting.id == id) hs)) ++ waiting_found id waiting)
      → AllByRecursion (P id) (found id hs waiting)) [
        | true ↦ λ h. h.1
        | false ↦ λ h. h
      ]) (each id)),
)

pub run-lines : (setup : Setup) (steps : List Step) → LinesStand (run setup steps).0 (run setup steps).1
run-lines setup steps =
    let w = (run setup steps).0 in
    let lines = (run setup steps).1 in
    record {
      once = λ id. (run-told id setup steps).once;
      marked = All-from_recursion _ (frames_of w.held w.waiting)
          (each-frame (λ id. IsOwn w.setup.domains (sent_of id lines)) (λ f. (port : ℕ) → is_marked w.setup.domains f.mark port ≡ false → times port (sent_of f.id lines) ≡ 0)
          (λ f o h. h) w.held w.waiting (λ id. (run-told id setup steps).own));
      fresh = λ id. (run-told id setup steps).fresh;
    }
