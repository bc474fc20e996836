-- The bytes that were read, and what the reader has reached in them.
use Rattle.std.proofs.Common.{◌≡◌, ℕ, suc, ◌+◌, ◌≤◌, true, List, [], ◌++◌, take, length, false, Option, refl, sym, ◌∙◌, ap, subst, arith, append_assoc, length-append}
use Rattle.std.specs.Io.KnownBytes.{Consumes}
use Rattle.std.proofs.KnownBytes.{Consumes-trans}
use Rattle.std.proofs.Math.Seq.{take-append_seam}
use Rattle.std.proofs.lemmas.Bool.{true≢false}
use Rattle.std.proofs.lemmas.List.{append-nil}
use Rattle.run_io.specs.Reading.{Reading, Reads, IsEnd}
use Rattle.br_model.specs.declared.steps.Step.{Step}
use Rattle.br_model.specs.Text.Roster.{Roster}
use Rattle.br_model.specs.Program.Outcomes.{scenario_lines}
use Rattle.br_model.specs.Plane.Runs.{run}
use Rattle.br_model.specs.Program.Runs.{run_of, setup_of, body_of, body, body_parts}
use Rattle.br_model.specs.Text.Scenario.{Scenario, Going, Progress, opened, closes, read, reads, scenario}
use Rattle.br_model.proofs.Program.SameRuns.{same_run}
use Rattle.br_model.proofs.Program.AllLeft.{below_limit, not_too_long, same_at_end, same_with_more}
use Rattle.br_model.proofs.Text.Endings.{has_ended, closes_ended}
use Rattle.br_model.proofs.Text.MoreBytes.{all_parts, parts_stay}
use Rattle.br_model.proofs.Text.Reading.{closed, closes_keeps, scenario_is}
use Rattle.scenario_reader.specs.declared.reader.Last.{Last}
use Rattle.scenario_reader.specs.Reading.{KeepsSetup, ending_of}
use Rattle.scenario_runner.specs.declared.session.Session.{Session}
use Rattle.scenario_runner.specs.Playing.{Reached, Played, Stopped, Lacked}
use Rattle.scenario_runner.specs.Session.{Agrees}
use Rattle.scenario_runner.proofs.Following.{kept, quiet, quiet_said}

-- what the body of bytes is, by what they say
body_by : (bytes : List ℕ) (s : Scenario) → scenario bytes ≡ s → body bytes ≡ body_of (run_of s)
unfolding body
body_by bytes s e = ap (λ (t : Scenario). body_of (run_of t)) e

-- bytes that say this begin with the first steps of it
first_parts : (bytes : List ℕ) (s : Scenario) (done undone : List Step) → (scenario bytes).roster ≡ s.roster → (scenario bytes).steps ≡ s.steps → s.steps ≡ done ++ undone
    → body_parts (suc (length done)) bytes ≡ body_of (run (setup_of s.roster) done)
unfolding body_parts
first_parts bytes s done undone roster steps parts =
    ap (λ (q : Roster). body_of (run (setup_of q) (take (length done) (scenario bytes).steps))) roster
    ∙ ap (λ (l : List Step). body_of (run (setup_of s.roster) l)) (ap (take (length done)) (steps ∙ parts) ∙ take-append_seam done undone)

-- no byte is no line
nothing_read : (s : Scenario) → read 0 s [] ≡ record { scenario = s; line = []; behind = [] }
unfolding read
nothing_read s = refl

-- all of it is told
pub lacks_none : (left now : Option (List ℕ)) (input text : List ℕ) → Consumes left now input → text ≡ body input → Lacked left now text
lacks_none left now input text given told = record { input = input; read = given; count = length (scenario input).steps + 1; told = told ∙ sym (all_parts input) }

parts_more : (lines ahead held given input handed held' : List ℕ) → input ≡ lines ++ (ahead ++ held) → held ++ given ≡ handed ++ held' → input ++ given ≡ lines ++ ((ahead ++ handed) ++ held')
parts_more lines ahead held given input handed held' p m =
    ap (λ (b : List ℕ). b ++ given) p
    ∙ append_assoc lines (ahead ++ held) given
    ∙ ap (λ (b : List ℕ). lines ++ b) (append_assoc ahead held given ∙ ap (λ (b : List ℕ). ahead ++ b) m ∙ sym (append_assoc ahead handed held'))

module _ (left : Option (List ℕ)) (limit : ℕ) where
  -- the reader has handed out more
  pub reached_more : (now now' : Option (List ℕ)) (r r' : Reading) (s : Scenario) (ahead handed : List ℕ) (p : Reached left limit r now s ahead) → Reads r r' now now' handed → r'.taken ≤ r'.limit
      → (q : Reached left limit r' now' s (ahead ++ handed)) × (q.lines ≡ p.lines)
  reached_more now now' r r' s ahead handed p m within = (
    record {
      lines = p.lines;
      input = p.input ++ m.given;
      given = Consumes-trans left now now' p.input m.given p.given m.consumed;
      parts = parts_more p.lines ahead r.held m.given p.input handed r'.held p.parts m.moved;
      reads = p.reads;
      counts = omega (arith, p.counts, m.counted, length-append p.input m.given);
      within = omega (arith, within, m.limit, p.limited);
      limited = m.limit ∙ p.limited;
    },
    refl,
  )

  -- the scenario has read what was handed out
  pub reached_line : (now : Option (List ℕ)) (r : Reading) (s t : Scenario) (ahead : List ℕ) (p : Reached left limit r now s ahead) → ((more : List ℕ) → read 0 s (ahead ++ more) ≡ read 0 t more)
      → (q : Reached left limit r now t []) × (q.lines ≡ p.lines ++ ahead)
  reached_line now r s t ahead p h = (
    record {
      lines = p.lines ++ ahead;
      input = p.input;
      given = p.given;
      parts = p.parts ∙ sym (append_assoc p.lines ahead r.held);
      reads = λ more. ap (read 0 (opened false)) (append_assoc p.lines ahead more) ∙ p.reads (ahead ++ more) ∙ h more;
      counts = p.counts;
      within = p.within;
      limited = p.limited;
    },
    refl,
  )

  module _ (now : Option (List ℕ)) (r : Reading) (s : Scenario) (ahead : List ℕ) (p : Reached left limit r now s ahead) where
    -- what is said of the input, and of more behind it
    beyond : (more : List ℕ) → read 0 (opened false) (p.input ++ more) ≡ read 0 s ((ahead ++ r.held) ++ more)
    beyond more =
        ap (λ (b : List ℕ). read 0 (opened false) (b ++ more)) p.parts
        ∙ ap (read 0 (opened false)) (append_assoc p.lines (ahead ++ r.held) more)
        ∙ p.reads ((ahead ++ r.held) ++ more)

    here : read 0 (opened false) p.input ≡ read 0 s (ahead ++ r.held)
    here = ap (read 0 (opened false)) p.parts ∙ p.reads (ahead ++ r.held)

    -- the lines that the scenario has read say just what it says
    lines_say : ((scenario p.lines).roster ≡ s.roster) × ((scenario p.lines).steps ≡ s.steps)
    lines_say =
        let read_so : read 0 (opened false) p.lines ≡ record { scenario = s; line = []; behind = [] } =
        ap (read 0 (opened false)) (sym (append-nil p.lines)) ∙ p.reads [] ∙ nothing_read s in
        let is : scenario p.lines ≡ closes s [] = scenario_is p.lines ∙ ap closed read_so in
        let keeps = closes_keeps s [] in
        (ap (λ (u : Scenario). u.roster) is ∙ keeps.0, ap (λ (u : Scenario). u.steps) is ∙ keeps.1)

    -- the first of its steps are told
    pub lacked : (done undone : List Step) (text : List ℕ) → s.steps ≡ done ++ undone → text ≡ body_of (run (setup_of s.roster) done) → Lacked left now text
    lacked done undone text parts told =
        let say = lines_say in
        let few : suc (length done) ≤ length (scenario p.lines).steps + 1 = omega (arith, ap length (say.1 ∙ parts), length-append done undone) in record {
          input = p.input;
          read = p.given;
          count = suc (length done);
          told = told ∙ sym (ap (body_parts (suc (length done))) p.parts ∙ parts_stay (suc (length done)) p.lines (ahead ++ r.held) few ∙ first_parts p.lines s done undone say.0 say.1 parts);
        }

    -- all of them are
    pub lacked_all : (text : List ℕ) → text ≡ body_of (run_of s) → Lacked left now text
    lacked_all text told = lacked s.steps [] text (sym (append-nil s.steps)) told

    -- the scenario has ended in what was read

    over : (q : Progress) (t : Scenario) → q.scenario ≡ t → has_ended t.ending ≡ true → closed q ≡ t
    over q t e h = ap (λ (u : Scenario). closes u q.line) e ∙ closes_ended t q.line h

    not_going : (t : Scenario) → has_ended t.ending ≡ true → t.ending ≡ Going → ⊥
    not_going t e g = true≢false (sym e ∙ ap has_ended g)

    pub ended : (x : Session) (text : List ℕ) (t : Scenario) (last : Last) → ((more : List ℕ) → (read 0 s ((ahead ++ r.held) ++ more)).scenario ≡ t) → has_ended t.ending ≡ true
        → t.ending ≡ ending_of last → Agrees t x → text ≡ body_of (run_of t) → Played left limit now x text last
    ended x text t last h finished ends agrees told =
        let k : (more : List ℕ) → reads (opened false) (p.input ++ more) ≡ t = λ more. ap (λ (q : Progress). q.scenario) (beyond more) ∙ h more in
        let all : (more : List ℕ) → scenario (p.input ++ more) ≡ t = λ more. scenario_is (p.input ++ more) ∙ over (read 0 (opened false) (p.input ++ more)) t (k more) finished in
        let e : scenario p.input ≡ t = ap scenario (sym (append-nil p.input)) ∙ all [] in record {
          input = p.input;
          read = p.given;
          ends = ap (λ (u : Scenario). u.ending) e ∙ ends;
          agrees = subst (λ (u : Scenario). Agrees u x) (sym e) agrees;
          told = told ∙ sym (body_by p.input t e);
          whole = same_with_more scenario left now p.input p.given (λ more. all more ∙ sym e);
          within = not_too_long scenario_lines limit left now p.input p.given (omega (arith, p.counts, p.within))
              (λ more going. not_going t finished (ap (λ (u : Scenario). u.ending) (sym (k more)) ∙ going));
        }

    module _ (line : List ℕ) (is : read 0 s (ahead ++ r.held) ≡ record { scenario = s; line = line; behind = [] }) where
      closed_so : scenario p.input ≡ closes s line
      closed_so = scenario_is p.input ∙ ap closed (here ∙ is)

      -- a scenario that goes on has said no more
      same : body p.input ≡ body_of (run_of s)
      same = let keeps = closes_keeps s line in body_by p.input (closes s line) closed_so ∙ ap body_of (same_run s (closes s line) (ap setup_of keeps.0) keeps.1)

      -- the run stops there
      pub stops : (text : List ℕ) → s.ending ≡ Going → text ≡ body_of (run_of s) → (w : Stopped left now text) × (w.input ≡ p.input)
      stops text going told = (
        record {
          input = p.input;
          read = p.given;
          going = ap (λ (q : Progress). q.scenario.ending) (here ∙ is) ∙ going;
          told = told ∙ sym same;
        },
        refl,
      )

      -- the source ends there
      pub at_end : (x : Session) (text : List ℕ) (last : Last) → IsEnd r now → (closes s line).ending ≡ ending_of last → Agrees s x → text ≡ body_of (run_of s) → Played left limit now x text last
      at_end x text last end ends agrees told =
          let t : Scenario = closes s line in
          let keeps = closes_keeps s line in
          let setup : KeepsSetup s.roster t.roster = kept s.roster t.roster keeps.0 in record {
            input = p.input;
            read = p.given;
            ends = ap (λ (u : Scenario). u.ending) closed_so ∙ ends;
            agrees = subst (λ (u : Scenario). Agrees u x) (sym closed_so) (record {
              ports = agrees.ports ∙ sym (ap (λ (q : Roster). q.ports) keeps.0);
              world = quiet s t keeps.1 setup x.world agrees.world;
              said = quiet_said s t keeps.1 setup x.world x.voice agrees.world agrees.said;
            });
            told = told ∙ sym same;
            whole = same_at_end scenario left now p.input p.given end.none_left;
            within = below_limit scenario_lines limit left now p.input p.given end.none_left (omega (arith, p.counts, end.before_limit, p.limited));
          }
