-- The shortest first part of a live run is as good as any.
use Rattle.std.proofs.Common.{◌≡◌, ℕ, Bool, true, false, not, ◌&&◌, ◌||◌, ◌⊎◌, cond, if◌then◌else◌, List, [], ◌∷◌}
use Rattle.std.proofs.Common.{◌++◌, length, Option, None, Some, IfSome, refl, sym, ◌∙◌, ap, subst, inl, inr, true≢false}
use Rattle.std.specs.Cmp.{first_so, second_so}
use Rattle.std.specs.List.{AllByRecursion, filter, list_all}
use Rattle.std.proofs.lemmas.Bool.{and_from}
use Rattle.lemmas.proofs.Numbers.{ltb-itself}
use Rattle.br_model.specs.declared.steps.Step.{Step}
use Rattle.br_model.specs.declared.steps.Step.TheVariants.{Publish}
use Rattle.br_model.specs.Plane.Runs.{run}
use Rattle.br_model.specs.Plane.Steps.{world_step}
use Rattle.br_model.specs.Plane.World.{World}
use Rattle.br_model.specs.Program.LiveRun.{Parts, accepts_changes, begins_with_publish, ends_with_publish, frames_at, from_frame, is_drained, is_frame_at, is_live_by, is_live_run}
use Rattle.br_model.specs.Program.LiveRun.{is_ordered, is_publish, may_drain, parts_at, publishes_at_once, same_frames, same_order, until_frame, with_first}
use Rattle.br_model.specs.Program.Runs.{setup_of}
use Rattle.br_model.specs.Program.SameSteps.{same_step}
use Rattle.br_model.specs.Table.Setup.{Setup}
use Rattle.br_model.specs.Text.Scenario.{Scenario}
use Rattle.br_model.specs.Program.LiveRules.{Becomes, Empty, Kept, Taken, IsLiveRun}
use Rattle.br_model.proofs.Program.SameFrames.{frames_in, frames_same}
use Rattle.br_model.proofs.Program.SameSteps.{step_decides, steps_decide}
use Rattle.br_model.proofs.Plane.Worlds.{worlds, run_worlds, drains_later}

-- publications

publish_is : (s : Step) → is_publish s ≡ true → s ≡ Publish
publish_is Publish h = refl
publish_is s h = absurd (cc)

abbrev ArePublished : List Step → Type 0
ArePublished steps = AllByRecursion (λ s. s ≡ Publish) steps

-- what first parts become

abbrev Inverse : List Step → List Step → Type 0
Inverse [] [] = Unit {0}
Inverse [] (y ∷ ys) = ⊥
Inverse (x ∷ xs) [] = (x ≡ Publish) × Becomes xs []
Inverse (x ∷ xs) (y ∷ ys) = ((x ≡ y) × Becomes xs ys) ⊎ ((x ≡ Publish) × Becomes xs (y ∷ ys))

publication : (xs ys : List Step) → Becomes xs ys → Inverse (Publish ∷ xs) ys
publication xs [] b = (refl, b)
publication xs (y ∷ ys) b = inr (refl, b)

inverse : {xs ys : List Step} → Becomes xs ys → Inverse xs ys
inverse Empty = tt
inverse (Kept s b) = inl (refl, b)
inverse (Taken b) = publication _ _ b

take_out : (x : Step) (xs ys : List Step) → x ≡ Publish → Becomes xs ys → Becomes (x ∷ xs) ys
take_out x xs ys e b = subst (λ (s : Step). Becomes (s ∷ xs) ys) (sym e) (Taken b)

keep : (x y : Step) (xs ys : List Step) → x ≡ y → Becomes xs ys → Becomes (x ∷ xs) (y ∷ ys)
keep x y xs ys e b = subst (λ (s : Step). Becomes (x ∷ xs) (s ∷ ys)) e (Kept x b)

-- one publication more may be taken out
one_less : (xs : List Step) (y : Step) (ys : List Step) → y ≡ Publish → Becomes xs (y ∷ ys) → Becomes xs ys
one_less [] y ys e b = absurd (inverse b)
one_less (x ∷ xs) y ys e b = elim (inverse b) as (λ _. Becomes (x ∷ xs) ys) [
  | inl h ↦ take_out x xs ys (h.0 ∙ e) h.1
  | inr h ↦ take_out x xs ys h.0 (one_less xs y ys e h.1)
]

nothing_kept : (xs : List Step) → Becomes xs [] → ArePublished xs
nothing_kept [] b = tt
nothing_kept (x ∷ xs) b = let h = inverse b in (h.0, nothing_kept xs h.1)

-- the shortest first part

abbrev Sound : List Step → List Step → Parts → Type 0
Sound opening steps p = (steps ≡ p.first ++ p.later) × Becomes p.first opening

sound_kept : (o s : Step) (opening steps : List Step) (r : Option Parts) → s ≡ o → IfSome r (Sound opening steps) → IfSome (with_first s r) (Sound (o ∷ opening) (s ∷ steps))
sound_kept o s opening steps None e h = tt
sound_kept o s opening steps (Some p) e h = (ap (λ (l : List Step). s ∷ l) h.0, keep s o p.first opening e h.1)

sound_taken : (s : Step) (opening steps : List Step) (r : Option Parts) → s ≡ Publish → IfSome r (Sound opening steps) → IfSome (with_first s r) (Sound opening (s ∷ steps))
sound_taken s opening steps None e h = tt
sound_taken s opening steps (Some p) e h = (ap (λ (l : List Step). s ∷ l) h.0, take_out s p.first opening e h.1)

-- a step more: it is the opening's next one, a publication, or neither
abbrev goes : Step → Step → List Step → List Step → Bool → Bool → Option Parts
goes s o opening steps b c = if b then with_first s (parts_at opening steps) else if c then with_first s (parts_at (o ∷ opening) steps) else None

sound_step : (s o : Step) (opening steps : List Step) (b c : Bool) → same_step s o ≡ b → is_publish s ≡ c → IfSome (parts_at opening steps) (Sound opening steps)
    → IfSome (parts_at (o ∷ opening) steps) (Sound (o ∷ opening) steps) → IfSome (goes s o opening steps b c) (Sound (o ∷ opening) (s ∷ steps))
sound_step s o opening steps true c same publish next again = sound_kept o s opening steps (parts_at opening steps) ((step_decides s o).0 same) next
sound_step s o opening steps false true same publish next again = sound_taken s (o ∷ opening) steps (parts_at (o ∷ opening) steps) (publish_is s publish) again
sound_step s o opening steps false false same publish next again = tt

parts_sound : (opening steps : List Step) → IfSome (parts_at opening steps) (Sound opening steps)
parts_sound [] steps = (refl, Empty)
parts_sound (o ∷ opening) [] = tt
parts_sound (o ∷ opening) (s ∷ steps) =
    sound_step s o opening steps (same_step s o) (is_publish s) refl refl (parts_sound opening steps) (parts_sound (o ∷ opening) steps)

-- any other has publications more
record Found (first opening later : List Step) : Type 0 where
  p : Parts
  found : parts_at opening (first ++ later) ≡ Some p
  more : List Step
  parts : first ≡ p.first ++ more
  rest : p.later ≡ more ++ later
  published : ArePublished more

found_by : (s : Step) (first opening opening' later : List Step) (f : Found first opening' later) → parts_at opening (s ∷ (first ++ later)) ≡ with_first s (parts_at opening' (first ++ later))
    → Found (s ∷ first) opening later
found_by s first opening opening' later f is = record {
  p = record { first = s ∷ f.p.first; later = f.p.later };
  found = is ∙ ap (with_first s) f.found;
  more = f.more;
  parts = ap (λ (l : List Step). s ∷ l) f.parts;
  rest = f.rest;
  published = f.published;
}

-- Whatever of the first steps becomes, they have such a part.
abbrev Finds : List Step → List Step → Type 0
Finds first later = (opening : List Step) → Becomes first opening → Found first opening later

matched : (s o : Step) (first opening later : List Step) → same_step s o ≡ true → Becomes first opening → Finds first later → Found (s ∷ first) (o ∷ opening) later
matched s o first opening later e b again =
    found_by s first (o ∷ opening) opening later (again opening b) (ap (λ b. goes s o opening (first ++ later) b (is_publish s)) e)

skipped : (s o : Step) (first opening later : List Step) (b : Bool) → same_step s o ≡ b → s ≡ Publish → Becomes first (o ∷ opening) → Finds first later
    → Found (s ∷ first) (o ∷ opening) later
skipped s o first opening later true e is h again =
    matched s o first opening later e (one_less first o opening (sym ((step_decides s o).0 e) ∙ is) h) again
skipped s o first opening later false e is h again =
    found_by s first (o ∷ opening) (o ∷ opening) later (again (o ∷ opening) h) (
    ap (λ b. goes s o opening (first ++ later) b (is_publish s)) e ∙ ap (λ c. goes s o opening (first ++ later) false c) (ap is_publish is)
    )

find : (first later opening : List Step) → Becomes first opening → Found first opening later
find first later [] b = record { p = record { first = []; later = first ++ later }; found = refl; more = first; parts = refl; rest = refl; published = nothing_kept first b }
find [] later (o ∷ opening) b = absurd (inverse b)
find (s ∷ first) later (o ∷ opening) b = elim (inverse b) as (λ _. Found (s ∷ first) (o ∷ opening) later) [
  | inl h ↦ matched s o first opening later ((step_decides s o).1 h.0) h.1 (find first later)
  | inr h ↦ skipped s o first opening later (same_step s o) refl h.0 h.1 (find first later)
]

-- publications add nothing

no_frame_more : (q : ℕ) (more later : List Step) → ArePublished more → frames_at q (more ++ later) ≡ frames_at q later
no_frame_more q [] later all = refl
no_frame_more q (s ∷ more) later all =
    ap (λ (x : Step). cond (is_frame_at q x) (s ∷ frames_at q (more ++ later)) (frames_at q (more ++ later))) all.0 ∙ no_frame_more q more later all.1

no_order_more : (more later : List Step) → ArePublished more → filter is_ordered (more ++ later) ≡ filter is_ordered later
no_order_more [] later all = refl
no_order_more (s ∷ more) later all =
    ap (λ (x : Step). cond (is_ordered x) (s ∷ filter is_ordered (more ++ later)) (filter is_ordered (more ++ later))) all.0 ∙ no_order_more more later all.1

-- what is accepted is published at once

-- a step before the drain
here : (a b c d : Bool) → (a || ((not b || c) && d)) ≡ true → a ≡ false → b ≡ true → c ≡ true
here true b c d h e f = absurd (cc)
here false true true d h e f = refl
here false true false d h e f = absurd (cc)
here false false c d h e f = absurd (cc)

-- and one behind it
behind : (a b c d : Bool) → (a || ((not b || c) && d)) ≡ true → a ≡ false → d ≡ true
behind true b c d h e = absurd (cc)
behind false true true d h e = h
behind false true false d h e = absurd (cc)
behind false false c d h e = h

not_all : (before rest : List Step) → list_all may_drain rest ≡ false → list_all may_drain (before ++ rest) ≡ false
not_all before rest h = by_all (list_all may_drain (before ++ rest)) refl
  where
    by_all : (b : Bool) → list_all may_drain (before ++ rest) ≡ b → list_all may_drain (before ++ rest) ≡ false
    by_all true e = absurd (true≢false (sym (drains_later before rest e) ∙ h))
    by_all false e = e

at_once : (w : World) (before : List Step) (s : Step) (after : List Step) → publishes_at_once w (before ++ s ∷ after) ≡ true → list_all may_drain (s ∷ after) ≡ false
    → accepts_changes (worlds w before) s ≡ true → begins_with_publish after ≡ true
at_once w [] s after h undrained accepts =
    here (list_all may_drain (s ∷ after)) (accepts_changes w s) (begins_with_publish after) (publishes_at_once (world_step w s).0 after) h undrained accepts
at_once w (t ∷ before) s after h undrained accepts =
    at_once (world_step w t).0 before s after
    (behind (list_all may_drain (t ∷ (before ++ s ∷ after))) (accepts_changes w t) (begins_with_publish (before ++ s ∷ after)) (publishes_at_once (world_step w t).0 (before ++ s ∷ after)) h
    (not_all (t ∷ before) (s ∷ after) undrained))
    undrained accepts

abbrev AtOnce : World → List Step → Type 0
AtOnce w later = (before : List Step) (s : Step) (after : List Step) → later ≡ before ++ s ∷ after → list_all may_drain (s ∷ after) ≡ false
    → accepts_changes (worlds w before) s ≡ true → begins_with_publish after ≡ true

joined : (a b c d : Bool) → (a ≡ false → b ≡ true → c ≡ true) → d ≡ true → (a || ((not b || c) && d)) ≡ true
joined true b c d h e = refl
joined false true c d h e = and_from c d (h refl refl) e
joined false false c d h e = e

each_at_once : (w : World) (later : List Step) → AtOnce w later → publishes_at_once w later ≡ true
each_at_once w [] h = refl
each_at_once w (s ∷ later) h =
    joined (list_all may_drain (s ∷ later)) (accepts_changes w s) (begins_with_publish later) (publishes_at_once (world_step w s).0 later) (h [] s later refl)
    (each_at_once (world_step w s).0 later (λ before t after is. h (s ∷ before) t after (ap (λ (l : List Step). s ∷ l) is)))

publishes_nothing : (w : World) (s : Step) → s ≡ Publish → accepts_changes w s ≡ false
publishes_nothing w s e = ap (accepts_changes w) e ∙ ltb-itself (length w.history)

quiet : (a b c d : Bool) → b ≡ false → d ≡ true → (a || ((not b || c) && d)) ≡ true
quiet true b c d e f = refl
quiet false true c d e f = absurd (cc)
quiet false false c d e f = f

published_more : (w : World) (more later : List Step) → ArePublished more → publishes_at_once (worlds w more) later ≡ true → publishes_at_once w (more ++ later) ≡ true
published_more w [] later all h = h
published_more w (s ∷ more) later all h =
    quiet (list_all may_drain (s ∷ (more ++ later))) (accepts_changes w s) (begins_with_publish (more ++ later))
    (publishes_at_once (world_step w s).0 (more ++ later)) (publishes_nothing w s all.0)
    (published_more (world_step w s).0 more later all.1 h)

-- together

module _ (steps : List Step) (sc : Scenario) (p : Parts) where
  abbrev ends_so : Bool
  ends_so = ends_with_publish steps && is_drained (setup_of sc.roster) steps (run (setup_of sc.roster) steps).0

  abbrev publishes_so : Bool
  publishes_so = publishes_at_once (run (setup_of sc.roster) p.first).0 p.later && ends_so

  abbrev order_so : Bool
  order_so = same_order p.later (from_frame sc.steps) && publishes_so

live_by : (steps : List Step) (sc : Scenario) (o : Option Parts) → IfSome o (Sound (until_frame sc.steps) steps) → is_live_by sc steps o ≡ true → IsLiveRun steps sc
live_by steps sc None sound h = absurd (cc)
live_by steps sc (Some p) sound h =
    let rest : List Step = from_frame sc.steps in
    let setup : Setup = setup_of sc.roster in
    let framed = first_so (same_frames p.later rest) (order_so steps sc p) h in
    let behind_frames = second_so (same_frames p.later rest) (order_so steps sc p) h in
    let same_ordered = first_so (same_order p.later rest) (publishes_so steps sc p) behind_frames in
    let behind_order = second_so (same_order p.later rest) (publishes_so steps sc p) behind_frames in
    let at_once_so = first_so (publishes_at_once (run setup p.first).0 p.later) (ends_so steps sc p) behind_order in
    let at_end = second_so (publishes_at_once (run setup p.first).0 p.later) (ends_so steps sc p) behind_order in record {
      first = p.first;
      later = p.later;
      parts = sound.0;
      opening = sound.1;
      frames = λ port. frames_same port p.later rest framed;
      ordered = (steps_decide (filter is_ordered p.later) (filter is_ordered rest)).0 same_ordered;
      published = λ before s after is undrained accepts. at_once (run setup p.first).0 before s after
          (subst (λ (l : List Step). publishes_at_once (run setup p.first).0 l ≡ true) is at_once_so) undrained
          (ap (λ (w : World). accepts_changes w s) (sym (run_worlds setup p.first before)) ∙ accepts);
      last = first_so (ends_with_publish steps) (is_drained setup steps (run setup steps).0) at_end;
      drained = second_so (ends_with_publish steps) (is_drained setup steps (run setup steps).0) at_end;
    }

pub live_is : (steps : List Step) (sc : Scenario) → is_live_run steps sc ≡ true → IsLiveRun steps sc
unfolding is_live_run
live_is steps sc h = live_by steps sc (parts_at (until_frame sc.steps) steps) (parts_sound (until_frame sc.steps) steps) h

module _ (steps : List Step) (sc : Scenario) (l : IsLiveRun steps sc) (f : Found l.first (until_frame sc.steps) l.later) where
  abbrev rest : List Step
  rest = from_frame sc.steps

  abbrev setup : Setup
  setup = setup_of sc.roster

  frames_more : (q : ℕ) → frames_at q f.p.later ≡ frames_at q rest
  frames_more q = ap (frames_at q) f.rest ∙ no_frame_more q f.more l.later f.published ∙ l.frames q

  order_more : filter is_ordered f.p.later ≡ filter is_ordered rest
  order_more = ap (filter is_ordered) f.rest ∙ no_order_more f.more l.later f.published ∙ l.ordered

  world_is : (run setup l.first).0 ≡ worlds (run setup f.p.first).0 f.more
  world_is = ap (λ (first : List Step). (run setup first).0) f.parts ∙ run_worlds setup f.p.first f.more

  later_at_once : publishes_at_once (run setup l.first).0 l.later ≡ true
  later_at_once = each_at_once (run setup l.first).0 l.later (λ before s after is undrained accepts.
      l.published before s after is undrained (ap (λ (w : World). accepts_changes w s) (run_worlds setup l.first before) ∙ accepts))

  all_at_once : publishes_at_once (run setup f.p.first).0 f.p.later ≡ true
  all_at_once =
      ap (publishes_at_once (run setup f.p.first).0) f.rest
      ∙ published_more (run setup f.p.first).0 f.more l.later f.published (ap (λ (w : World). publishes_at_once w l.later) (sym world_is) ∙ later_at_once)

  found_is : parts_at (until_frame sc.steps) steps ≡ Some f.p
  found_is = ap (parts_at (until_frame sc.steps)) l.parts ∙ f.found

  shortest : is_live_by sc steps (parts_at (until_frame sc.steps) steps) ≡ true
  shortest =
      ap (is_live_by sc steps) found_is
      ∙ and_from (same_frames f.p.later rest) (order_so steps sc f.p) (frames_in f.p.later rest (f.p.later ++ rest) frames_more) (
      and_from (same_order f.p.later rest) (publishes_so steps sc f.p) ((steps_decide (filter is_ordered f.p.later) (filter is_ordered rest)).1 order_more) (
      and_from (publishes_at_once (run setup f.p.first).0 f.p.later) (ends_so steps sc f.p) all_at_once
      (and_from (ends_with_publish steps) (is_drained setup steps (run setup steps).0) l.last l.drained)
      )
      )

pub is_live : (steps : List Step) (sc : Scenario) → IsLiveRun steps sc → is_live_run steps sc ≡ true
unfolding is_live_run
is_live steps sc l = shortest steps sc l (find l.first l.later (until_frame sc.steps) l.opening)
