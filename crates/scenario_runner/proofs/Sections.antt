-- A section is read, and its steps are done.
use Rattle.std.proofs.Common.{◌≡◌, ℕ, ◌+◌, ◌<◌, ◌≤◌, false, List, [], ◌∷◌, ◌++◌, length, Option, None, Result, Ok, Err, refl, sym, ◌∙◌, ap, subst, arith, append_assoc, length-append}
use Rattle.std.proofs.lemmas.List.{append-nil}
use Rattle.run_io.specs.Reading.{Reading, Reads, IsEnd}
use Rattle.br_model.specs.declared.scenario.LineWhy.{LineWhy}
use Rattle.br_model.specs.declared.scenario.LineWhy.TheVariants.{Unended}
use Rattle.br_model.specs.declared.scenario.Said.TheVariants.{Captures}
use Rattle.br_model.specs.declared.steps.Step.{Step}
use Rattle.br_model.specs.Wire.Captures.{packets}
use Rattle.br_model.specs.Text.Roster.{Roster, chips_of}
use Rattle.br_model.specs.Program.Runs.{run_of, body_of}
use Rattle.br_model.specs.Text.Scenario.{Scenario, Bad, Progress, bad, captured, read, takes, takes_steps}
use Rattle.br_model.proofs.Program.SameRuns.{same_run}
use Rattle.br_model.proofs.Text.Endings.{closes_within, read_ended}
use Rattle.br_model.proofs.Text.Reading.{read_line, read_part}
use Rattle.scenario_reader.specs.declared.reader.Captured.{Captured}
use Rattle.scenario_reader.specs.declared.reader.Captured.TheVariants as sections
use Rattle.scenario_reader.specs.declared.reader.Last.{Last}
use Rattle.scenario_reader.specs.declared.reader.Last.TheVariants as lasts
use Rattle.scenario_reader.specs.Reading.{IsCaptured, ReaderState, captures}
use Rattle.run_status.specs.declared.stop.Stop.{Stop}
use Rattle.run_status.specs.declared.stop.Stop.TheVariants.{NoMemory}
use Rattle.scenario_runner.specs.declared.session.Session.{Session}
use Rattle.scenario_runner.specs.Advancing.{Sectioned}
use Rattle.scenario_runner.specs.Playing.{Reached, AtSection, AtSteps, Played, Stopped, Below, Filled}
use Rattle.scenario_runner.specs.Session.{Agrees, ComeByLine, with_steps}
use Rattle.scenario_runner.proofs.Following.{agrees_badly, said_on}
use Rattle.scenario_runner.proofs.Reaching.{reached_more, reached_line, lacked_all, ended, stops, at_end}

-- a line `capture` without its section has no steps
pub none_more : (s : Scenario) (n : ℕ) → body_of (run_of (captures s n)) ≡ body_of (run_of s)
none_more s n = ap body_of (same_run s (captures s n) refl (append-nil s.steps))

with_section : (s : Scenario) (n : ℕ) (section : List ℕ) (steps : List Step) → captured s.roster.ports (packets section (length s.roster.ports)) ≡ Ok steps
    → takes s (Captures n) section ≡ with_steps (captures s n) steps
with_section s n section steps gives =
    ap (takes_steps s (Captures n)) gives ∙ ap (λ (l : List Step). record (captures s n) { steps = l ++ steps }) (sym (append-nil s.steps))

module _ (left now now' : Option (List ℕ)) (limit : ℕ) (r r' : Reading) (x : Session) (text : List ℕ) (n : ℕ) (p : AtSection left limit r now x text n) where
  abbrev s : Scenario
  s = p.scenario

  abbrev front : List ℕ
  front = p.line ++ 10 ∷ []

  agrees : Agrees s x
  agrees = record { ports = ap (λ (q : Roster). q.ports) p.follows.reads.roster; world = p.world; said = said_on (captures s n) s x.voice p.follows.said (sym (append-nil s.steps)) refl }

  told_before : text ≡ body_of (run_of s)
  told_before = p.told ∙ none_more s n

  -- the whole section

  module _ (section : List ℕ) (m : Reads r r' now now' section) (within : r'.taken ≤ r'.limit) (sized : length section ≡ n) where
    handed : (q : Reached left limit r' now' s (front ++ section)) × (q.lines ≡ p.reached.lines)
    handed = reached_more left limit now now' r r' s front section p.reached m within

    section_read : (more : List ℕ) → read 0 s ((front ++ section) ++ more) ≡ read 0 (takes s (Captures n) section) more
    section_read more =
        ap (read 0 s) (append_assoc front section more ∙ append_assoc p.line (10 ∷ []) (section ++ more))
        ∙ read_line s (Captures n) p.line section more p.going p.feedless p.says sized

    same_ports : captured x.reader.roster.ports (packets section (length x.reader.roster.ports)) ≡ captured s.roster.ports (packets section (length s.roster.ports))
    same_ports = ap (λ (q : Roster). captured q.ports (packets section (length q.ports))) p.follows.reads.roster

    pub its_steps : (steps : List Step) → r'.fault ≡ None → captured x.reader.roster.ports (packets section (length x.reader.roster.ports)) ≡ Ok steps → AtSteps left limit r' now' x text steps
    its_steps steps sound gives =
        let t : Scenario = with_steps (captures s n) steps in
        let e : takes s (Captures n) section ≡ t = with_section s n section steps (sym same_ports ∙ gives) in
        let q = reached_line left limit now' r' s t (front ++ section) handed.0 (λ more. section_read more ∙ ap (λ (u : Scenario). read 0 u more) e) in record {
          before = captures s n;
          place = (refl, refl);
          reached = q.0;
          follows = p.follows;
          told = p.told;
          numbers =
              omega (
                arith,
                p.numbers,
                ap length (q.1 ∙ ap (λ (l : List ℕ). l ++ (front ++ section)) handed.1),
                length-append p.reached.lines (front ++ section),
                length-append front section,
                length-append p.line (10 ∷ []),
              );
          sound = sound;
        }

    pub is_broken : (why : LineWhy) → captured x.reader.roster.ports (packets section (length x.reader.roster.ports)) ≡ Err why → Played left limit now' x text (lasts.Bad x.reader.lines why)
    is_broken why gives =
        let t : Scenario = takes s (Captures n) section in
        let e : t ≡ bad s why = ap (takes_steps s (Captures n)) (sym same_ports ∙ gives) in
        let reads_so : (more : List ℕ) → (read 0 s (((front ++ section) ++ r'.held) ++ more)).scenario ≡ bad s why = λ more.
        ap (λ (b : List ℕ). (read 0 s b).scenario) (append_assoc (front ++ section) r'.held more)
        ∙ ap (λ (q : Progress). q.scenario) (section_read (r'.held ++ more) ∙ ap (λ (u : Scenario). read 0 u (r'.held ++ more)) e ∙ read_ended (bad s why) (r'.held ++ more) refl) in
        ended left limit now' r' s (front ++ section) handed.0 x text (bad s why) (lasts.Bad x.reader.lines why) reads_so refl
        (ap (λ k. Bad k why) (sym p.follows.reads.lines))
        (agrees_badly s x why agrees)
        (told_before ∙ ap body_of (sym (same_run s (bad s why) refl refl)))

    pub taken_section : (c : Captured) → r'.fault ≡ None → IsCaptured x.reader section c → Sectioned left limit r' now' x text (Ok c)
    taken_section (sections.Steps steps) sound h = its_steps steps.items sound h.0
    taken_section (sections.End last) sound h = subst (λ (l : Last). Played left limit now' x text l) (sym h.2) (is_broken h.0 h.1)

  -- a part of it

  -- the source ends in it
  pub cut_off : (part : List ℕ) → Reads r r' now now' part → r'.taken ≤ r'.limit → IsEnd r' now' → length part < n → Played left limit now' x text (lasts.Bad x.reader.lines Unended)
  cut_off part m within at short =
      let is = ap (λ (b : List ℕ). read 0 s ((front ++ part) ++ b)) at.none_held
      ∙ ap (read 0 s) (append-nil (front ++ part) ∙ append_assoc p.line (10 ∷ []) part)
      ∙ read_part s (Captures n) p.line part p.going p.feedless p.says short in
      at_end left limit now' r' s (front ++ part) (reached_more left limit now now' r r' s front part p.reached m within).0 [] is x text (lasts.Bad x.reader.lines Unended) at
      (closes_within s.ending s p.going ∙ ap (λ k. Bad k Unended) (sym p.follows.reads.lines)) agrees told_before

  -- no more of it comes
  waits : (m : Reads r r' now now' []) (within : r'.taken ≤ r'.limit) → length r'.held < n
      → (q : Reached left limit r' now' s (front ++ [])) × (w : Stopped left now' text) × (w.input ≡ q.input)
  waits m within short =
      let q = (reached_more left limit now now' r r' s front [] p.reached m within).0 in
      let is = ap (λ (b : List ℕ). read 0 s (b ++ r'.held)) (append-nil front)
      ∙ ap (read 0 s) (append_assoc p.line (10 ∷ []) r'.held)
      ∙ read_part s (Captures n) p.line r'.held p.going p.feedless p.says short in
      let w = stops left limit now' r' s (front ++ []) q [] is text p.going told_before in
      (q, w.0, w.1)

  pub stopped : Reads r r' now now' [] → r'.taken ≤ r'.limit → length r'.held < n → r'.taken < r'.limit → Below left limit now' text
  stopped m within short below =
      let w = waits m within short in record { stops = w.1; below = omega (arith, ap length w.2, w.0.counts, below, w.0.limited) }

  pub filled : Reads r r' now now' [] → r'.taken ≤ r'.limit → length r'.held < n → r'.taken ≡ r'.limit → Filled left limit now' text
  filled m within short full =
      let w = waits m within short in record { stops = w.1; full = ap length w.2 ∙ omega (arith, w.0.counts, full, w.0.limited) }

  -- memory is lacking, for the bytes that were handed out or for others
  pub lacking : (handed : List ℕ) (result : Result Captured Stop) → Reads r r' now now' handed → r'.taken ≤ r'.limit → result ≡ Err NoMemory → Sectioned left limit r' now' x text result
  lacking handed result m within is =
      subst (λ (o : Result Captured Stop). Sectioned left limit r' now' x text o) (sym is)
      (lacked_all left limit now' r' s (front ++ handed) (reached_more left limit now now' r r' s front handed p.reached m within).0 text told_before)

-- the steps of a section come by a line, whatever the command
pub come_by_line : (x : ReaderState) (section : List ℕ) (c : Captured) → IsCaptured x section c → ComeByLine (chips_of x.roster.ports) c
come_by_line x section (sections.Steps steps) h = h.1 false
come_by_line x section (sections.End last) h = tt
