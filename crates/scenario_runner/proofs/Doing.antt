-- Steps are done one after another, and their lines go to the sink.
use Rattle.std.proofs.Common.{◌≡◌, ℕ, List, [], ◌∷◌, ◌++◌, drop, Option, None, Result, Ok, Err, IfErr, refl, sym, ◌∙◌, ap, subst, arith, append_assoc}
use Rattle.std.specs.Io.KnownBytes.{Appends}
use Rattle.std.proofs.lemmas.List.{append-nil}
use Rattle.br_model.specs.declared.steps.Step.{Step}
use Rattle.run_io.specs.Reading.{Reading}
use Rattle.br_model.specs.Table.Limits.{most_bytes}
use Rattle.br_model.specs.Text.Scenario.{Scenario}
use Rattle.scenario_runner.specs.declared.replay.Halt.{Halt}
use Rattle.scenario_runner.specs.declared.replay.Halt.TheVariants.{Stopped, WriteFault}
use Rattle.run_status.specs.declared.stop.Stop.{Stop}
use Rattle.run_status.specs.declared.stop.Stop.TheVariants.{ReadFault, NoMemory, TooLong}
use Rattle.scenario_reader.specs.declared.reader.Last.{Last}
use Rattle.scenario_runner.specs.declared.session.Session.{Session}
use Rattle.scenario_runner.specs.Advancing.{Sectioned}
use Rattle.run_status.specs.Writing.{Breaks, Moves, Written}
use Rattle.scenario_runner.specs.Halting.{DidSome, DoesAll, DoesSome, PlayedSection}
use Rattle.scenario_runner.specs.Playing.{AtSection, AtSteps, Lacked}
use Rattle.scenario_runner.specs.Session as session
use Rattle.scenario_runner.specs.Session.{with_steps}
use Rattle.scenario_runner.proofs.Following.{did_step}
use Rattle.scenario_runner.proofs.Reaching.{lacked, lacked_all}
use Rattle.scenario_runner.proofs.Sections.{none_more}
use Rattle.scenario_runner.proofs.Steps.{went_text}
use Rattle.run_status.proofs.Writing.{broken, moved}

-- one more, after some of what is held was written
pub does_more : (x y z : Session) (steps : List Step) (step : Step) (taken mid now : Option (List ℕ)) (old text held after : List ℕ) → DoesAll x steps y taken mid old text → Moves mid now text held
    → session.Does y step held z after → DoesAll x (steps ++ step ∷ []) z taken now old after
does_more x y z steps step taken mid now old text held after does moves done s before place d =
    let u : Scenario = with_steps s steps in
    let t : Scenario = with_steps s (steps ++ step ∷ []) in
    let did = does s before place d in
    let w = moved before mid now text held did.all did.written moves in
    let went = did_step u t y z held after step did.follows.world did.follows.said (record { lines = did.follows.reads.lines; roster = did.follows.reads.roster; going = did.follows.reads.going })
    (sym (append_assoc s.steps steps (step ∷ []))) refl place done in record {
      all = w.gone ++ after;
      written = record { gone = w.gone; wrote = w.wrote; together = refl };
      follows = went.follows;
      told = went_text u t held after w.gone z (sym w.together ∙ did.told) went;
    }

-- a write fails before a step
pub breaks_off : (x y : Session) (steps done undone : List Step) (taken mid now : Option (List ℕ)) (old text after : List ℕ) (result : Result (Unit {0}) Halt) → steps ≡ done ++ undone
    → DoesAll x done y taken mid old text → Breaks mid now text → result ≡ Err WriteFault → IfErr result (DoesSome x steps taken now old after)
breaks_off x y steps done undone taken mid now old text after result parts does b is =
    subst (λ (r : Result (Unit {0}) Halt). IfErr r (DoesSome x steps taken now old after)) (sym is) (λ s before place d.
    let did = does s before place d in
    (did.all, drop b.0 text, broken before mid now text did.all did.written b, record { done = done; undone = undone; parts = parts; told = did.told }))

-- there is no memory for a step
pub lacks_step : (x y : Session) (steps done undone : List Step) (taken mid now : Option (List ℕ)) (old text held after : List ℕ) (result : Result (Unit {0}) Halt) → steps ≡ done ++ undone
    → DoesAll x done y taken mid old text → Moves mid now text held → after ≡ held → result ≡ Err (Stopped NoMemory) → IfErr result (DoesSome x steps taken now old after)
lacks_step x y steps done undone taken mid now old text held after result parts does moves same is =
    subst (λ (r : Result (Unit {0}) Halt). IfErr r (DoesSome x steps taken now old after)) (sym is) (λ s before place d.
    let did = does s before place d in
    let w = moved before mid now text held did.all did.written moves in
    (did.all, subst (λ (b : List ℕ). Written before now b did.all) (sym same) w, record { done = done; undone = undone; parts = parts; told = did.told }))

-- what is held went to the sink, all of it
pub flushed : (before mid after : Option (List ℕ)) (old new all : List ℕ) → Written before mid old all → Appends mid after old → new ≡ [] → Written before after new all
flushed before mid after old new all w wrote empty =
    moved before mid after old new all w (record { moved = old; wrote = wrote; held = sym (append-nil old) ∙ ap (λ (b : List ℕ). old ++ b) (sym empty) })

-- a section was read

module _ (left now begun mid : Option (List ℕ)) (reader : Reading) (x : Session) (text all : List ℕ) (w : Written begun mid text all) where
  -- its steps were done
  pub plays_on : (y : Session) (steps : List Step) (after : Option (List ℕ)) (text' : List ℕ) → AtSteps left most_bytes reader now x all steps → DoesAll x steps y mid after text text'
      → PlayedSection left reader now y begun after text' (Ok None)
  plays_on y steps after text' at does =
      let did = does at.before begun at.place (record { all = all; written = w; follows = at.follows; told = at.told }) in (
        did.all,
        did.written,
        record {
          scenario = with_steps at.before steps;
          reached = at.reached;
          follows = did.follows;
          told = did.told;
          numbers = omega (arith, at.numbers, did.follows.reads.lines, at.follows.reads.lines);
          sound = at.sound;
        },
      )

  pub section_stops : (stop : Stop) (halt : Result (Option Last) Halt) → halt ≡ Err (Stopped stop) → Sectioned left most_bytes reader now x all (Err stop)
      → PlayedSection left reader now x begun mid text halt
  section_stops ReadFault halt is a = subst (PlayedSection left reader now x begun mid text) (sym is) (all, w, a)
  section_stops TooLong halt is a = subst (PlayedSection left reader now x begun mid text) (sym is) (all, w, a)
  section_stops NoMemory halt is a = subst (PlayedSection left reader now x begun mid text) (sym is) (all, w, a)

  -- some of its steps were
  some_told : (steps : List Step) (at : AtSteps left most_bytes reader now x all steps) (whole : List ℕ) → DidSome at.before steps whole → Lacked left now whole
  some_told steps at whole d =
      lacked left most_bytes now reader (with_steps at.before steps) [] at.reached (at.before.steps ++ d.done) d.undone whole
      (ap (λ (l : List Step). at.before.steps ++ l) d.parts ∙ sym (append_assoc at.before.steps d.done d.undone)) d.told

  halts_in : (y : Session) (steps : List Step) (after : Option (List ℕ)) (text' : List ℕ) (halt : Halt) → AtSteps left most_bytes reader now x all steps → DoesSome x steps mid after text text' halt
      → PlayedSection left reader now y begun after text' (Err halt)
  halts_in y steps after text' (Stopped ReadFault) at does = absurd (does at.before begun at.place (record { all = all; written = w; follows = at.follows; told = at.told }))
  halts_in y steps after text' (Stopped TooLong) at does = absurd (does at.before begun at.place (record { all = all; written = w; follows = at.follows; told = at.told }))
  halts_in y steps after text' (Stopped NoMemory) at does =
      let d = does at.before begun at.place (record { all = all; written = w; follows = at.follows; told = at.told }) in (d.0, d.1, some_told steps at d.0 d.2)
  halts_in y steps after text' WriteFault at does =
      let d = does at.before begun at.place (record { all = all; written = w; follows = at.follows; told = at.told }) in (d.0, d.1, d.2, some_told steps at d.0 d.3)

  pub section_halts_in : (y : Session) (steps : List Step) (after : Option (List ℕ)) (text' : List ℕ) (halt : Halt) (result : Result (Option Last) Halt) → result ≡ Err halt
      → AtSteps left most_bytes reader now x all steps → DoesSome x steps mid after text text' halt → PlayedSection left reader now y begun after text' result
  section_halts_in y steps after text' halt result is at does = subst (PlayedSection left reader now y begun after text') (sym is) (halts_in y steps after text' halt at does)

  -- a write fails before the section is read
  pub section_breaks : (y : Session) (r : Reading) (n : ℕ) (after : Option (List ℕ)) (text' : List ℕ) (result : Result (Option Last) Halt) → AtSection left most_bytes reader now x all n
      → Breaks mid after text
      → result ≡ Err WriteFault → PlayedSection left r now y begun after text' result
  section_breaks y r n after text' result p b is =
      subst (PlayedSection left r now y begun after text') (sym is) (
        all,
        drop b.0 text,
        broken begun mid after text all w b,
        lacked_all left most_bytes now reader p.scenario (p.line ++ 10 ∷ []) p.reached all (p.told ∙ none_more p.scenario n),
      )
