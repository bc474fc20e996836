-- A line is read, and the run goes on, stops or ends.
use Rattle.std.proofs.Common.{◌≡◌, ℕ, ◌+◌, ◌<◌, ◌≤◌, true, List, [], ◌∷◌, ◌++◌, take, drop, length, None, Option, Result, Ok, Err, refl, sym, ◌∙◌, ap, subst, arith, append_assoc, length-append}
use Rattle.std.proofs.lemmas.List.{append-nil, take-append-drop, length-take-le}
use Rattle.run_io.specs.Reading.{Reading, Reads, HasNoFeed, IsEnd, WantsLine, HoldsLongLine, HoldsAllOfLimit, max_line}
use Rattle.br_model.specs.declared.scenario.LineWhy.{LineWhy}
use Rattle.br_model.specs.declared.scenario.LineWhy.TheVariants.{Long}
use Rattle.br_model.specs.declared.scenario.Said.{Said}
use Rattle.br_model.specs.Program.Runs.{run_of, body_of}
use Rattle.br_model.specs.Text.Scenario.{Scenario, Bad, Progress, closes, bad, read, takes, section_length, whole_says, longest_line}
use Rattle.br_model.proofs.Program.SameRuns.{same_run}
use Rattle.br_model.proofs.Text.Endings.{has_ended, read_ended}
use Rattle.br_model.proofs.Text.Reading.{read_line, read_bad, read_rest, read_long}
use Rattle.scenario_reader.specs.declared.reader.Last.{Last}
use Rattle.scenario_reader.specs.declared.reader.Last.TheVariants as lasts
use Rattle.scenario_reader.specs.Reading as reading
use Rattle.scenario_reader.specs.Reading.{captures, ending_of}
use Rattle.scenario_runner.specs.declared.session.Next.{Next}
use Rattle.scenario_runner.specs.declared.session.Next.TheVariants as nexts
use Rattle.run_status.specs.declared.stop.Stop.{Stop}
use Rattle.run_status.specs.declared.stop.Stop.TheVariants.{NoMemory}
use Rattle.scenario_runner.specs.declared.session.Session.{Session}
use Rattle.scenario_runner.specs.Advancing.{Advanced, Lessens}
use Rattle.scenario_runner.specs.Playing.{Reached, Playing, AtSection, Played, Below, Filled, Lacked}
use Rattle.scenario_runner.specs.Session.{EndsBy, Takes, Went}
use Rattle.scenario_runner.proofs.Following.{agrees, agrees_badly}
use Rattle.scenario_runner.proofs.Reaching.{reached_more, reached_line, lacked_all, ended, stops, at_end}

pub ends_so : (l : Last) → has_ended (ending_of l) ≡ true
ends_so lasts.Ended = refl
ends_so (lasts.Bad n why) = refl

-- the text of a run that went on
pub went_text : (s t : Scenario) (before after w : List ℕ) (y : Session) → w ++ before ≡ body_of (run_of s) → Went s t before y after → w ++ after ≡ body_of (run_of t)
went_text s t before after w y told went =
    ap (λ (b : List ℕ). w ++ b) went.text ∙ sym (append_assoc w before went.added) ∙ ap (λ (b : List ℕ). b ++ went.added) told ∙ sym went.body

module _ (left now now' : Option (List ℕ)) (limit : ℕ) (r r' : Reading) (x : Session) where
  -- a whole line, whatever comes of it
  module _ (y : Session) (w before after line : List ℕ) (p : Playing left limit r now x (w ++ before)) (m : Reads r r' now now' (line ++ 10 ∷ [])) (within : r'.taken ≤ r'.limit)
      (sound : r'.fault ≡ None) (feedless : HasNoFeed line) (number : y.reader.lines ≤ x.reader.lines + 1) where
    abbrev s : Scenario
    s = p.scenario

    handed : (q : Reached left limit r' now' s (line ++ 10 ∷ [])) × (q.lines ≡ p.reached.lines)
    handed = reached_more left limit now now' r r' s [] (line ++ 10 ∷ []) p.reached m within

    line_says : (said : Said) → whole_says s.roster line ≡ Ok said → section_length said ≡ 0 → (more : List ℕ) → read 0 s ((line ++ 10 ∷ []) ++ more) ≡ read 0 (takes s said []) more
    line_says said says sized more =
        ap (read 0 s) (append_assoc line (10 ∷ []) more) ∙ read_line s said line [] more p.follows.reads.going feedless says (sym sized)

    goes : (said : Said) → whole_says s.roster line ≡ Ok said → section_length said ≡ 0 → Went s (takes s said []) before y after → Playing left limit r' now' y (w ++ after)
    goes said says sized went =
        let q = reached_line left limit now' r' s (takes s said []) (line ++ 10 ∷ []) handed.0 (line_says said says sized) in record {
          scenario = takes s said [];
          reached = q.0;
          follows = went.follows;
          told = went_text s (takes s said []) before after w y p.told went;
          numbers =
              omega (arith, number, p.numbers, ap length (q.1 ∙ ap (λ (l : List ℕ). l ++ (line ++ 10 ∷ [])) handed.1), length-append p.reached.lines (line ++ 10 ∷ []), length-append line (10 ∷ []));
          sound = sound;
        }

    at_section : (n : ℕ) → Takes x line before y after (nexts.Section n) → AtSection left limit r' now' y (w ++ after) n
    at_section n takes_it = let t = takes_it s p.follows in record {
      scenario = s;
      going = p.follows.reads.going;
      line = line;
      feedless = feedless;
      says = t.0;
      most = t.1;
      reached = handed.0;
      follows = t.3.follows;
      world = t.2;
      told = went_text s (captures s n) before after w y p.told t.3;
      numbers = omega (arith, number, p.numbers, ap length handed.1);
      sound = sound;
    }

    ends_by : (last : Last) (said : Result Said LineWhy) → whole_says s.roster line ≡ said → EndsBy s said before y after last → Played left limit now' y (w ++ after) last
    ends_by last (Err why) says e =
        let q = handed.0 in
        let reads_so : (more : List ℕ) → (read 0 s (((line ++ 10 ∷ []) ++ r'.held) ++ more)).scenario ≡ bad s why = λ more.
        ap (λ (b : List ℕ). (read 0 s b).scenario) (append_assoc (line ++ 10 ∷ []) r'.held more ∙ append_assoc line (10 ∷ []) (r'.held ++ more))
        ∙ ap (λ (q : Progress). q.scenario) (read_bad s why line (r'.held ++ more) p.follows.reads.going feedless says) in
        ended left limit now' r' s (line ++ 10 ∷ []) q y (w ++ after) (bad s why) last reads_so refl e.ends e.agrees
        (ap (λ (b : List ℕ). w ++ b) e.text ∙ p.told ∙ sym e.body)
    ends_by last (Ok said) says e =
        let q = handed.0 in
        let t : Scenario = takes s said [] in
        let over : has_ended t.ending ≡ true = ap has_ended e.1.ends ∙ ends_so last in
        let reads_so : (more : List ℕ) → (read 0 s (((line ++ 10 ∷ []) ++ r'.held) ++ more)).scenario ≡ t = λ more.
        ap (λ (b : List ℕ). (read 0 s b).scenario) (append_assoc (line ++ 10 ∷ []) r'.held more)
        ∙ ap (λ (q : Progress). q.scenario) (line_says said says e.0 (r'.held ++ more) ∙ read_ended t (r'.held ++ more) over) in
        ended left limit now' r' s (line ++ 10 ∷ []) q y (w ++ after) t last reads_so over e.1.ends e.1.agrees
        (ap (λ (b : List ℕ). w ++ b) e.1.text ∙ p.told ∙ sym e.1.body)

    pub taken_line : (next : Next) → Takes x line before y after next → Advanced left limit r' now' y (w ++ after) (Ok next)
    taken_line nexts.Line t = let u = t s p.follows in goes u.0 u.1 u.2 u.3
    taken_line (nexts.Section n) t = at_section n t
    taken_line (nexts.End last) t = ends_by last (whole_says s.roster line) refl (t s p.follows)

  -- without a whole line

  module _ (text : List ℕ) (p : Playing left limit r now x text) where
    -- a line that is too long
    pub long : Reads r r' now now' [] → r'.taken ≤ r'.limit → HoldsLongLine r' → Played left limit now' x text (lasts.Bad (x.reader.lines + 1) Long)
    long m within h =
        let s : Scenario = p.scenario in
        let front : List ℕ = take (max_line + 1) r'.held in
        let rest : List ℕ = drop (max_line + 1) r'.held in
        let size : longest_line < length front = omega (arith, length-take-le (max_line + 1) r'.held (omega (arith, h.long))) in
        let reads_so : (more : List ℕ) → (read 0 s (r'.held ++ more)).scenario ≡ bad s Long = λ more.
        ap (λ (b : List ℕ). (read 0 s (b ++ more)).scenario) (sym (take-append-drop (max_line + 1) r'.held))
        ∙ ap (λ (b : List ℕ). (read 0 s b).scenario) (append_assoc front rest more)
        ∙ read_long s front (rest ++ more) p.follows.reads.going h.feedless size in
        ended left limit now' r' s [] (reached_more left limit now now' r r' s [] [] p.reached m within).0 x text (bad s Long) (lasts.Bad (x.reader.lines + 1) Long) reads_so refl
        (ap (λ n. Bad (n + 1) Long) (sym p.follows.reads.lines))
        (agrees_badly s x Long (agrees s x p.follows))
        (p.told ∙ ap body_of (sym (same_run s (bad s Long) refl refl)))

    -- the end of the input, in a line or before one
    pub closed : (rest : List ℕ) (last : Last) → Reads r r' now now' rest → r'.taken ≤ r'.limit → IsEnd r' now' → HasNoFeed rest → length rest ≤ max_line
        → ((s : Scenario) → reading.Follows s x.reader → (closes s rest).ending ≡ ending_of last) → Played left limit now' x text last
    closed rest last m within at feedless short closes_so =
        let s : Scenario = p.scenario in
        let is = ap (λ (b : List ℕ). read 0 s (rest ++ b)) at.none_held ∙ ap (read 0 s) (append-nil rest) ∙ read_rest s rest p.follows.reads.going feedless short in
        at_end left limit now' r' s rest (reached_more left limit now now' r r' s [] rest p.reached m within).0 rest is x text last at (closes_so s p.follows.reads) (agrees s x p.follows) p.told

    -- the run stops

    pub stopped : Reads r r' now now' [] → r'.taken ≤ r'.limit → WantsLine r' → Below left limit now' text
    stopped m within h =
        let q = (reached_more left limit now now' r r' p.scenario [] [] p.reached m within).0 in
        let w = stops left limit now' r' p.scenario [] q r'.held (read_rest p.scenario r'.held p.follows.reads.going h.feedless h.short) text p.follows.reads.going p.told in
        record { stops = w.0; below = omega (arith, ap length w.1, q.counts, h.before_limit, q.limited) }

    pub filled : Reads r r' now now' [] → r'.taken ≤ r'.limit → HoldsAllOfLimit r' → Filled left limit now' text
    filled m within h =
        let q = (reached_more left limit now now' r r' p.scenario [] [] p.reached m within).0 in
        let w = stops left limit now' r' p.scenario [] q r'.held (read_rest p.scenario r'.held p.follows.reads.going h.feedless h.short) text p.follows.reads.going p.told in
        record { stops = w.0; full = ap length w.1 ∙ omega (arith, q.counts, h.at_limit, q.limited) }

    -- it lacks memory, for the bytes that were handed out or for others
    lacked_behind : (handed : List ℕ) → Reads r r' now now' handed → r'.taken ≤ r'.limit → Lacked left now' text
    lacked_behind handed m within =
        lacked_all left limit now' r' p.scenario handed (reached_more left limit now now' r r' p.scenario [] handed p.reached m within).0 text p.told

    pub lacking : (y : Session) (handed after : List ℕ) (result : Result Next Stop) → Reads r r' now now' handed → r'.taken ≤ r'.limit → after ≡ text → result ≡ Err NoMemory
        → Advanced left limit r' now' y after result
    lacking y handed after result m within same is =
        subst (λ (o : Result Next Stop). Advanced left limit r' now' y after o) (sym is) (subst (Lacked left now') (sym same) (lacked_behind handed m within))

-- a line takes bytes away
pub lessens : (before now : ℕ) → now < before → (next : Next) → Lessens before now next
lessens before now h nexts.Line = h
lessens before now h (nexts.Section n) = h
lessens before now h (nexts.End last) = tt
