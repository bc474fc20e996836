-- What the loops keep, and how one time more of each keeps it.
use Rattle.std.proofs.Common.{◌≡◌, ◌≢◌, ℕ, ◌+◌, ◌<◌, ◌≤◌, Bool, true, false, List, [], ◌∷◌, refl, sym, ◌∙◌, ap, subst, arith, nat_lt}
use Rattle.std.proofs.Math.Nat.{ne_of_lt}
use Rattle.br_model.specs.declared.steps.Step.{Step}
use Rattle.br_model.specs.declared.steps.Step.TheVariants.{Report, Serve, Turn}
use Rattle.br_model.specs.Program.LiveRun.{from_frame, is_frame, until_frame}
use Rattle.br_model.specs.Table.Domains.{Domains, has_chip}
use Rattle.plane_record.specs.Pasts.{Past, after, world_of}
use Rattle.plane_record.proofs.Recording.{world-after}
use Rattle.live_thread.specs.Draining.{Drains, HasTold, HasTurned, Keeps}
use Rattle.live_thread.specs.Taking.{Takes, behind}
use Rattle.live_thread.specs.Worlds.{IsIdle}
use Rattle.live_thread.proofs.Chips.{no_chip}
use Rattle.live_thread.proofs.Drains.{drains_both, drains_none, drains_one, drains_setup, keeps_both, keeps_none, keeps_report, keeps_turn, serve_held, told_without, turned_without}
use Rattle.live_thread.proofs.Idle.{stays_idle}
use Rattle.live_thread.proofs.Openings.{behind_after, behind_none, from_here, from_more, until_more, until_none}
use Rattle.live_thread.proofs.Takings.{takes_both, takes_none}
use Rattle.live_thread.proofs.Telling.{told_by_report, told_by_turn, turned_by_turn}

-- The steps before the first frame: `rest` are those that are left of all steps.

pub record Opens (start now : Past) (rest steps : List Step) : Type 0 where
  pub so : behind now (until_frame rest) ≡ behind start (until_frame steps)
  pub later : from_frame rest ≡ from_frame steps
  pub idle : IsIdle (world_of now)

pub opens_first : (p : Past) (steps : List Step) → IsIdle (world_of p) → Opens p p steps steps
opens_first p steps idle = record { so = refl; later = refl; idle = idle }

pub opens_more : (start now : Past) (s : Step) (rest steps : List Step) → is_frame s ≡ false → Opens start now (s ∷ rest) steps → Opens start (after now s) rest steps
opens_more start now s rest steps e o = record {
  so = behind_after now s (until_frame rest) ∙ (ap (behind now) (sym (until_more s rest e)) ∙ o.so);
  later = sym (from_more s rest e) ∙ o.later;
  idle = subst IsIdle (sym (world-after now s)) (stays_idle (world_of now) s e o.idle);
}

pub opens_here : (start now : Past) (s : Step) (rest steps : List Step) → is_frame s ≡ true → Opens start now (s ∷ rest) steps
    → (now ≡ behind start (until_frame steps)) × (s ∷ rest ≡ from_frame steps)
opens_here start now s rest steps e o = (sym (ap (behind now) (until_none s rest e) ∙ behind_none now) ∙ o.so, sym (from_here s rest e) ∙ o.later)

pub opens_all : (start now : Past) (steps : List Step) → Opens start now [] steps → (now ≡ behind start (until_frame steps)) × ([] ≡ from_frame steps)
opens_all start now steps o = (sym (behind_none now) ∙ o.so, o.later)

-- The steps behind it: what is left of them is taken.

abbrev pub Goes : Past → Past → List Step → List Step → Type 0
Goes start now rest steps = (p : Past) → Takes now p rest → Takes start p steps

pub goes_more : (start now next : Past) (s : Step) (rest steps : List Step) → Takes now next (s ∷ []) → Goes start now (s ∷ rest) steps → Goes start next rest steps
goes_more start now next s rest steps t g = λ p u. g p (takes_both now next p (s ∷ []) rest t u)

pub goes_all : (start now : Past) (steps : List Step) → Goes start now [] steps → Takes start now steps
goes_all start now steps g = g now (takes_none now)

-- Frames are served.

pub record Serves (start now : Past) : Type 0 where
  pub drains : Drains start now
  pub held : (world_of now).held ≡ []

pub serves_first : (p : Past) → (world_of p).held ≡ [] → Serves p p
serves_first p h = record { drains = drains_none p; held = h }

pub serves_more : (start now next : Past) → next ≡ after now Serve → Serves start now → Serves start next
serves_more start now next e s = subst (Serves start) (sym e) (record {
  drains = drains_both start now (after now Serve) s.drains (drains_one now Serve refl);
  held = serve_held now s.held;
})

-- A chip reports.

pub record Reports (start now : Past) (dom : ℕ) : Type 0 where
  pub drains : Drains start now
  pub keeps : Keeps start now
  pub others : (d : ℕ) → d ≢ dom → HasTold start d → HasTold now d

pub reports_first : (p : Past) (dom : ℕ) → Reports p p dom
reports_first p dom = record { drains = drains_none p; keeps = keeps_none p; others = λ d other h. h }

pub reports_more : (start now next : Past) (dom : ℕ) → next ≡ after now (Report dom) → Reports start now dom → Reports start next dom
reports_more start now next dom e r = subst (λ (p : Past). Reports start p dom) (sym e) (record {
  drains = drains_both start now (after now (Report dom)) r.drains (drains_one now (Report dom) refl);
  keeps = keeps_both start now (after now (Report dom)) r.keeps (keeps_report now dom);
  others = λ d other h. told_by_report now dom d other (r.others d other h);
})

-- A chip takes its turns.

pub record Turns (start now : Past) (dom : ℕ) : Type 0 where
  pub drains : Drains start now
  pub keeps : Keeps start now
  pub told : (d : ℕ) → HasTold start d → HasTold now d
  pub others : (d : ℕ) → d ≢ dom → HasTurned start d → HasTurned now d

pub turns_first : (p : Past) (dom : ℕ) → Turns p p dom
turns_first p dom = record { drains = drains_none p; keeps = keeps_none p; told = λ d h. h; others = λ d other h. h }

pub turns_more : (start now next : Past) (dom : ℕ) → next ≡ after now (Turn dom) → Turns start now dom → Turns start next dom
turns_more start now next dom e t = subst (λ (p : Past). Turns start p dom) (sym e) (record {
  drains = drains_both start now (after now (Turn dom)) t.drains (drains_one now (Turn dom) refl);
  keeps = keeps_both start now (after now (Turn dom)) t.keeps (keeps_turn now dom);
  told = λ d h. told_by_turn now dom d (t.told d h);
  others = λ d other h. turned_by_turn now dom d other (t.others d other h);
})

-- The chips one after another, so many.

pub record ReportsBelow (start now : Past) (n : ℕ) : Type 0 where
  pub drains : Drains start now
  pub keeps : Keeps start now
  pub told : (d : ℕ) → d < n → HasTold now d

pub record TurnsBelow (start now : Past) (n : ℕ) : Type 0 where
  pub drains : Drains start now
  pub keeps : Keeps start now
  pub told : (d : ℕ) → HasTold start d → HasTold now d
  pub turned : (d : ℕ) → d < n → HasTurned now d

-- what holds below a number, and at it
each_more : (P : ℕ → Type 0) (n d : ℕ) → d < n + 1 → (d < n → P d) → P n → P d
each_more P n d h below at = by (nat_lt d n) refl
  where
    true_less : nat_lt d n ≡ true → d < n
    true_less e = grind arith

    same : nat_lt d n ≡ false → n ≡ d
    same e = grind (arith, h)

    by : (b : Bool) → nat_lt d n ≡ b → P d
    by true e = below (true_less e)
    by false e = subst P (same e) at

pub reports_none : (p : Past) → ReportsBelow p p 0
reports_none p = record { drains = drains_none p; keeps = keeps_none p; told = λ d h. absurd (omega (arith, h)) }

pub reports_chip : (start now next : Past) (n : ℕ) → Drains now next → Keeps now next → HasTold next n → ((d : ℕ) → d ≢ n → HasTold now d → HasTold next d) → ReportsBelow start now n
    → ReportsBelow start next (n + 1)
reports_chip start now next n drains keeps at others r = record {
  drains = drains_both start now next r.drains drains;
  keeps = keeps_both start now next r.keeps keeps;
  told = λ d h. each_more (HasTold next) n d h (λ less. others d (ne_of_lt less) (r.told d less)) at;
}

pub reports_past : (start now : Past) (domains : Domains) (n : ℕ) → start.setup.domains ≡ domains → has_chip domains n ≡ false → ReportsBelow start now n → ReportsBelow start now (n + 1)
reports_past start now domains n same none r = record {
  drains = r.drains;
  keeps = r.keeps;
  told = λ d h. each_more (HasTold now) n d h (r.told d) (told_without now domains n (ap (λ s. s.domains) (drains_setup start now r.drains) ∙ same) none);
}

pub all_reported : (start now : Past) (domains : Domains) → start.setup.domains ≡ domains → ReportsBelow start now 5 → (d : ℕ) → HasTold now d
all_reported start now domains same r d = by (nat_lt d 5) refl
  where
    less : nat_lt d 5 ≡ true → d < 5
    less e = grind arith

    large : nat_lt d 5 ≡ false → 5 ≤ d
    large e = grind arith

    by : (b : Bool) → nat_lt d 5 ≡ b → HasTold now d
    by true e = r.told d (less e)
    by false e = told_without now domains d (ap (λ s. s.domains) (drains_setup start now r.drains) ∙ same) (no_chip domains d (large e))

pub turns_none : (p : Past) → TurnsBelow p p 0
turns_none p = record { drains = drains_none p; keeps = keeps_none p; told = λ d h. h; turned = λ d h. absurd (omega (arith, h)) }

pub turns_chip : (start now next : Past) (n : ℕ) → Drains now next → Keeps now next → ((d : ℕ) → HasTold now d → HasTold next d) → HasTurned next n
    → ((d : ℕ) → d ≢ n → HasTurned now d → HasTurned next d) → TurnsBelow start now n → TurnsBelow start next (n + 1)
turns_chip start now next n drains keeps told at others r = record {
  drains = drains_both start now next r.drains drains;
  keeps = keeps_both start now next r.keeps keeps;
  told = λ d h. told d (r.told d h);
  turned = λ d h. each_more (HasTurned next) n d h (λ less. others d (ne_of_lt less) (r.turned d less)) at;
}

pub turns_past : (start now : Past) (domains : Domains) (n : ℕ) → start.setup.domains ≡ domains → has_chip domains n ≡ false → TurnsBelow start now n → TurnsBelow start now (n + 1)
turns_past start now domains n same none r = record {
  drains = r.drains;
  keeps = r.keeps;
  told = r.told;
  turned = λ d h. each_more (HasTurned now) n d h (r.turned d) (turned_without now domains n (ap (λ s. s.domains) (drains_setup start now r.drains) ∙ same) none);
}

pub all_turned : (start now : Past) (domains : Domains) → start.setup.domains ≡ domains → TurnsBelow start now 5 → (d : ℕ) → HasTurned now d
all_turned start now domains same r d = by (nat_lt d 5) refl
  where
    less : nat_lt d 5 ≡ true → d < 5
    less e = grind arith

    large : nat_lt d 5 ≡ false → 5 ≤ d
    large e = grind arith

    by : (b : Bool) → nat_lt d 5 ≡ b → HasTurned now d
    by true e = r.turned d (less e)
    by false e = turned_without now domains d (ap (λ s. s.domains) (drains_setup start now r.drains) ∙ same) (no_chip domains d (large e))
