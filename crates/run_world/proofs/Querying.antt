-- A querier on the host hears a run and asks in it, step by step.
use Rattle.std.proofs.Common.{◌≡◌, ℕ, ◌<◌, ◌^◌, true, false, cond, List, [], ◌∷◌, ◌++◌, Option, None, Some}
use Rattle.std.proofs.Common.{IfSome, OnOk, Result, Ok, Err, map, refl, sym, ◌∙◌, ap, subst, append-nil, lit<, string_bytes}
use Rattle.std.specs.List.{flat_map, fold, list_any}
use Rattle.std.specs.Option.{option_map_or}
use Rattle.std.proofs.lemmas.Grind.{flat_map-append}
use Rattle.std.proofs.lemmas.List.Sums.{fold-append}
use Rattle.br_model.specs.declared.steps.Step.{Step}
use Rattle.br_model.specs.declared.steps.Step.TheVariants.{Now}
use Rattle.br_model.specs.declared.transcript.Line.{Line}
use Rattle.br_model.specs.Plane.LineTraits.{is_done}
use Rattle.br_model.specs.Plane.Runs.{run, then_step}
use Rattle.br_model.specs.Plane.Steps.{world_step}
use Rattle.br_model.specs.Plane.Traits.{traits}
use Rattle.br_model.specs.Plane.World.{World, Stepped, first_world}
use Rattle.br_model.specs.Table.Domains.{Domains}
use Rattle.br_model.specs.Table.Setup.{Setup}
use Rattle.br_model.specs.Text.LineForms.{comes_by_line}
use Rattle.br_model.proofs.Plane.Applied.{run-setup, step-setup}
use Rattle.br_model.proofs.Control.Clocks.{early as at_most}
use Rattle.mcast_querier.specs.Election.{hears}
use Rattle.mcast_querier.specs.Hearing.{Asker}
use Rattle.mcast_querier.specs.Querier.{Act, Comes, Queried, QuerierState, acted, after, first_querier}
use Rattle.mcast_querier.specs.Runs.{Listening, acts, acts_of, comes_by, entered, first_listening, heard_in, listens, query_line, sent}
use Rattle.mcast_querier.proofs.Leaving.{own-stays}
use Rattle.run_world.specs.declared.addresses.Addresses.{Addresses}
use Rattle.run_world.specs.declared.asking.Asking.{Asking}
use Rattle.run_world.specs.declared.asking.Host.{Host}
use Rattle.run_world.specs.declared.entered.Entered.{Entered}
use Rattle.run_world.specs.declared.voice.Voice.TheVariants.{Querier}
use Rattle.run_world.specs.Hearing.{HasHeard, Hears, HearsStep, IsAsked, IsHost, Keeps, acts_by, coming_by, listening, moment_after, queries_by, ticked_by}
use Rattle.plane_parts.specs.Added.{Added}
use Rattle.run_world.specs.Worlds.{Tells}
use Rattle.run_world.specs.Voices.{BeginsBy, HeardBy, SaysBy, lines_of}
use Rattle.run_world.proofs.Moments.{step-moment}

-- the run as the querier hears it, with one step more

listening_push : (setup : Setup) (steps : List Step) (step : Step) → listening setup (steps ++ step ∷ []) ≡ listens (listening setup steps) step
listening_push setup steps step = fold-append listens (first_listening setup) steps (step ∷ [])

same_world : (l : Listening) (x : Stepped) (steps : List Step) → l.world ≡ x.0 → (fold listens l steps).world ≡ (fold then_step x steps).0
same_world l x [] e = e
same_world l x (step ∷ steps) e = same_world (listens l step) (then_step x step) steps (ap (λ (w : World). (world_step w step).0) e)

listening_world : (setup : Setup) (steps : List Step) → (listening setup steps).world ≡ (run setup steps).0
unfolding run
listening_world setup steps = same_world (first_listening setup) (first_world setup, []) steps refl

-- the moment that a step brings

coming : (o : Option ℕ) (lines : List Line) → option_map_or (λ (moment : ℕ). cond (list_any is_done lines) (Comes moment ∷ []) []) o [] ≡ acts_by (coming_by o lines)
coming None lines = refl
coming (Some moment) lines =
    elim (list_any is_done lines) as (λ b. cond b (Comes moment ∷ []) [] ≡ acts_by (cond b (Some moment) None)) [ true ↦ refl | false ↦ refl ]

comes_is : (step : Step) (lines : List Line) → comes_by step lines ≡ acts_by (coming_by (traits step).moment lines)
comes_is step lines = coming (traits step).moment lines

-- it is early
abbrev IsEarly : Option ℕ → Type 0
IsEarly o = IfSome o (λ n. n < 2 ^ 53)

pub named_early : (chips : List ℕ) (step : Step) (lines : List Line) → comes_by_line false chips step ≡ true → IsEarly (coming_by (traits step).moment lines)
named_early chips (Now moment) lines h = elim (list_any is_done lines) as (λ b. IsEarly (cond b (Some moment) None)) [ true ↦ at_most moment h | false ↦ tt ]
named_early chips step lines h = tt

pub after_early : (o : Option ℕ) (now : ℕ) → IsEarly o → now < 2 ^ 53 → moment_after o now < 2 ^ 53
after_early None now h e = e
after_early (Some moment) now h e = h

-- a step's lines, where there were none before
pub told_is : (w v : World) (step : Step) (before after : List Line) → Added (Tells w step v) before after → before ≡ [] → (v, after) ≡ world_step w step
told_is w v step before after t none = ap (λ (l : List Line). (v, l)) (t.added ∙ ap (λ (l : List Line). l ++ t.lines) none) ∙ t.so

-- the lines of queries, each with this moment
pub with_moment : (moment : ℕ) (queries : List (List ℕ)) → flat_map (λ query. query_line (moment, query)) queries ≡ flat_map query_line (map (λ query. (moment, query)) queries)
with_moment moment [] = refl
with_moment moment (query ∷ queries) = ap (λ (l : List ℕ). query_line (moment, query) ++ l) (with_moment moment queries)

-- of two that hold of an answer
pub on_ok_both : {A E P Q R : Type 0} (r : Result A E) → OnOk r P → OnOk r Q → (P → Q → R) → OnOk r R
on_ok_both (Ok x) p q f = f p q
on_ok_both (Err e) p q f = tt

-- what is said at it
ticks_is : (q : QuerierState) (out : List (ℕ × List ℕ)) (o : Option ℕ) → fold acted (q, out) (acts_by o) ≡ (ticked_by q o, out ++ queries_by q o)
ticks_is q out None = ap (λ (l : List (ℕ × List ℕ)). (q, l)) (sym (append-nil out))
ticks_is q out (Some moment) = refl

-- the bridge stays the same

ticked_own : (q : QuerierState) (o : Option ℕ) → (ticked_by q o).own ≡ q.own
ticked_own q None = refl
ticked_own q (Some moment) = refl

hears_own : (a : QuerierState) (acts : List Act) (b : QuerierState) → Hears a acts b → b.own ≡ a.own
hears_own a acts b h = sym (ap (λ (x : Queried). x.0.own) (h [])) ∙ own-stays acts (a, [])

-- before the first step

pub first_host : (h : Host) (own four six : ℕ) → h.querier ≡ first_querier own four six → h.now ≡ 0 → Keeps h.entered [] → (domains : Domains)
    → IsHost h (first_world (record { domains = domains; own = own }))
first_host h own four six querier now keeps domains = record {
  own = ap (λ (q : QuerierState). q.own) querier;
  now = now;
  early = subst (λ n. n < 2 ^ 53) (sym now) (lit< tt);
  askers = [];
  keeps = keeps;
}

pub first_heard : (h : Host) (own four six : ℕ) → h.querier ≡ first_querier own four six → Keeps h.entered [] → (setup : Setup) → setup.own ≡ own → HasHeard h four six setup []
first_heard h own four six querier keeps setup same = record {
  askers = keeps;
  querier = ap (λ (q : QuerierState). record q { own = setup.own }) querier;
}

-- whatever the bridge
pub heard_none : (o : Option Host) (four six : ℕ) (a b : Setup) → HeardBy o four six a [] → HeardBy o four six b []
heard_none None four six a b h = tt
heard_none (Some host) four six a b h = record { askers = h.askers; querier = ap (λ (q : QuerierState). record q { own = b.own }) h.querier }

pub asked_none : (text : List ℕ) (four six : ℕ) (a b : Setup) → IsAsked text four six a [] → IsAsked text four six b []
unfolding sent
asked_none text four six a b h = h

pub asked_nothing : (text : List ℕ) (four six : ℕ) (setup : Setup) → text ≡ [] → IsAsked text four six setup []
unfolding sent
asked_nothing text four six setup h = h

pub unheard : (o : Option Host) (four six : ℕ) (setup : Setup) → o ≡ None → HeardBy o four six setup []
unheard o four six setup h = subst (λ (o : Option Host). HeardBy o four six setup []) (sym h) tt

-- a step of the host: the frame that enters is kept, the world does its step, what left for the host is heard, and the moment comes
pub record Goes (old : Host) (w : World) (step : Step) (lines : List Line) (v : World) (heard : QuerierState) (new : Host) : Type 0 where
  pub stepped : (v, lines) ≡ world_step w step
  pub here : IsHost old w
  pub enters : (askers : List (Option Asker)) → Keeps old.entered askers → Keeps new.entered (askers ++ entered step)
  pub now : new.now ≡ moment_after (coming_by (traits step).moment lines) old.now
  pub hears : (askers : List (Option Asker)) → Keeps new.entered askers → Hears old.querier (flat_map (heard_in askers new.now) lines) heard
  pub ticks : new.querier ≡ ticked_by heard (coming_by (traits step).moment lines)

-- a moment that comes by the step is early
pub early_by : (chips : List ℕ) (step : Step) (lines : List Line) (named comes : Option ℕ) → comes_by_line false chips step ≡ true → named ≡ (traits step).moment → comes ≡ coming_by named lines
    → IfSome comes (λ n. n < 2 ^ 53)
early_by chips step lines named comes by_line names is =
    subst (λ (o : Option ℕ). IfSome o (λ n. n < 2 ^ 53)) (sym (is ∙ ap (λ (o : Option ℕ). coming_by o lines) names)) (named_early chips step lines by_line)

pub goes : (old : Host) (w v : World) (step : Step) (before lines : List Line) (named comes : Option ℕ) (kept : Entered) (now : ℕ) (heard asked : QuerierState)
    → IsHost old w → Added (Tells w step v) before lines → before ≡ [] → named ≡ (traits step).moment → comes ≡ coming_by named lines
    → ((askers : List (Option Asker)) → Keeps old.entered askers → Keeps kept (askers ++ entered step))
    → now ≡ moment_after comes old.now
    → ((askers : List (Option Asker)) → Keeps kept askers → Hears old.querier (flat_map (heard_in askers now) lines) heard)
    → asked ≡ ticked_by heard comes
    → Goes old w step lines v heard (record { querier = asked; entered = kept; now = now })
goes old w v step before lines named comes kept now heard asked here told none names is enters later hears ticks =
    let comes_as : comes ≡ coming_by (traits step).moment lines = is ∙ ap (λ (o : Option ℕ). coming_by o lines) names in record {
      stepped = told_is w v step before lines told none;
      here = here;
      enters = enters;
      now = later ∙ ap (λ (o : Option ℕ). moment_after o old.now) comes_as;
      hears = hears;
      ticks = ticks ∙ ap (ticked_by heard) comes_as;
    }

pub asked_as : (step : Step) (lines : List Line) (named comes : Option ℕ) (heard : QuerierState) (text more : List ℕ) → named ≡ (traits step).moment → comes ≡ coming_by named lines
    → more ≡ text ++ flat_map query_line (queries_by heard comes) → more ≡ text ++ flat_map query_line (queries_by heard (coming_by (traits step).moment lines))
asked_as step lines named comes heard text more names is grew =
    grew ∙ ap (λ (o : Option ℕ). text ++ flat_map query_line (queries_by heard o)) (is ∙ ap (λ (o : Option ℕ). coming_by o lines) names)

module _ (old : Host) (w : World) (step : Step) (lines : List Line) (v : World) (heard : QuerierState) (new : Host) (g : Goes old w step lines v heard new) where
  new_now : new.now ≡ v.control.now
  new_now =
      g.now
      ∙ ap (moment_after (coming_by (traits step).moment lines)) g.here.now
      ∙ ap (λ (x : Stepped). moment_after (coming_by (traits step).moment x.1) w.control.now) g.stepped
      ∙ sym (step-moment w step)
      ∙ ap (λ (x : Stepped). x.0.control.now) (sym g.stepped)

  new_own : new.querier.own ≡ old.querier.own
  new_own =
      ap (λ (q : QuerierState). q.own) g.ticks
      ∙ ticked_own heard (coming_by (traits step).moment lines)
      ∙ hears_own old.querier (flat_map (heard_in (g.here.askers ++ entered step) new.now) lines) heard (g.hears (g.here.askers ++ entered step) (g.enters g.here.askers g.here.keeps))

  pub here_after : (chips : List ℕ) → comes_by_line false chips step ≡ true → IsHost new v
  here_after chips by_line = record {
    own = new_own ∙ g.here.own ∙ ap (λ (s : Setup). s.own) (sym (ap (λ (x : Stepped). x.0.setup) g.stepped ∙ step-setup w step));
    now = new_now;
    early = subst (λ n. n < 2 ^ 53) (sym g.now) (after_early (coming_by (traits step).moment lines) old.now (named_early chips step lines by_line) g.here.early);
    askers = g.here.askers ++ entered step;
    keeps = g.enters g.here.askers g.here.keeps;
  }

  module _ (four six : ℕ) (setup : Setup) (steps : List Step) (at : w ≡ (run setup steps).0) (has : HasHeard old four six setup steps) where
    abbrev before : Listening
    before = listening setup steps

    abbrev told : Queried
    told = after (first_querier setup.own four six) (acts setup steps)

    abbrev asked : List (ℕ × List ℕ)
    asked = queries_by heard (coming_by (traits step).moment lines)

    abbrev askers : List (Option Asker)
    askers = before.askers ++ entered step

    old_own : old.querier.own ≡ setup.own
    old_own = g.here.own ∙ ap (λ (s : Setup). s.own) (ap (λ (x : World). x.setup) at ∙ run-setup setup steps)

    old_is : old.querier ≡ told.0
    old_is = ap (λ (n : ℕ). record old.querier { own = n }) old_own ∙ has.querier

    more_acts : acts setup (steps ++ step ∷ []) ≡ acts setup steps ++ (flat_map (heard_in askers new.now) lines ++ acts_by (coming_by (traits step).moment lines))
    more_acts =
        ap (λ (l : Listening). l.acts) (listening_push setup steps step)
        ∙ ap (λ (x : World). acts setup steps ++ acts_of askers step (world_step x step)) (listening_world setup steps ∙ sym at)
        ∙ ap (λ (x : Stepped). acts setup steps ++ acts_of askers step x) (sym g.stepped)
        ∙ ap (λ (n : ℕ). acts setup steps ++ (flat_map (heard_in askers n) lines ++ comes_by step lines)) (sym new_now)
        ∙ ap (λ (l : List Act). acts setup steps ++ (flat_map (heard_in askers new.now) lines ++ l)) (comes_is step lines)

    keeps : Keeps new.entered askers
    keeps = g.enters before.askers has.askers

    told_more : after (first_querier setup.own four six) (acts setup (steps ++ step ∷ [])) ≡ (new.querier, told.1 ++ asked)
    told_more =
        let first = first_querier setup.own four six in
        let hearing = flat_map (heard_in askers new.now) lines in
        let passing = acts_by (coming_by (traits step).moment lines) in
        ap (after first) more_acts
        ∙ fold-append acted (first, []) (acts setup steps) (hearing ++ passing)
        ∙ fold-append acted told hearing passing
        ∙ ap (λ (q : QuerierState). fold acted (fold acted (q, told.1) hearing) passing) (sym old_is)
        ∙ ap (λ (x : Queried). fold acted x passing) (g.hears askers keeps told.1)
        ∙ ticks_is heard told.1 (coming_by (traits step).moment lines)
        ∙ ap (λ (q : QuerierState). (q, told.1 ++ asked)) (sym g.ticks)

    has_more : HasHeard new four six setup (steps ++ step ∷ [])
    has_more = record {
      askers = subst (λ (l : Listening). Keeps new.entered l.askers) (sym (listening_push setup steps step)) keeps;
      querier = ap (λ (n : ℕ). record new.querier { own = n }) (sym (new_own ∙ old_own)) ∙ ap (λ (x : Queried). x.0) (sym told_more);
    }

    asks_more : (text more : List ℕ) → IsAsked text four six setup steps → more ≡ text ++ flat_map query_line asked → IsAsked more four six setup (steps ++ step ∷ [])
    unfolding sent
    asks_more text more is grew =
        grew
        ∙ ap (λ (l : List ℕ). l ++ flat_map query_line asked) is
        ∙ sym (flat_map-append query_line told.1 asked)
        ∙ ap (λ (x : Queried). flat_map query_line x.1) (sym told_more)

  pub hears_step : (text more : List ℕ) → more ≡ text ++ flat_map query_line (queries_by heard (coming_by (traits step).moment lines)) → HearsStep old text w step new more
  hears_step text more grew = λ four six setup steps at has is.
      (has_more four six setup steps at has, asks_more four six setup steps at has text more is grew)

-- the same of who says the queries
pub said_more : (a : Asking) (old new : Host) (more : List ℕ) (w : World) (step : Step) (b : Asking) → a.host ≡ Some old → HearsStep old (string_bytes a.text) w step new more
    → b.addresses ≡ a.addresses → b.host ≡ Some new → string_bytes b.text ≡ more → SaysBy (Querier a) w step (Querier b)
said_more a old new more w step b here hears same there text = λ setup steps at says.
    let four = a.addresses.four in
    let six = a.addresses.six in
    let next = hears four six setup steps at (subst (λ (o : Option Host). HeardBy o four six setup steps) here says.0) says.1 in
    subst (λ (x : Addresses). HeardBy b.host x.four x.six setup (steps ++ step ∷ []) × IsAsked (string_bytes b.text) x.four x.six setup (steps ++ step ∷ [])) (sym same)
    (subst (λ (o : Option Host). HeardBy o four six setup (steps ++ step ∷ [])) (sym there) next.0, subst (λ (l : List ℕ). IsAsked l four six setup (steps ++ step ∷ [])) (sym text) next.1)

-- and before the first step
pub begun : (a b : Asking) (setup : Setup) → HeardBy b.host b.addresses.four b.addresses.six setup [] → string_bytes b.text ≡ string_bytes a.text → lines_of (Querier b) ≡ lines_of (Querier a)
    → BeginsBy (Querier a) setup (Querier b)
begun a b setup heard text same = λ says. (heard, text ∙ says.1 ∙ sym (ap (λ (l : Setup → List Step → List ℕ). l setup []) same))
