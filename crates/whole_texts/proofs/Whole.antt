-- What is answered to a whole scenario.
use Rattle.std.proofs.Common.{◌≡◌, ℕ, true, false, List, [], ◌++◌, Some, Result, Ok, Err, IfOk, ap, subst, sym, ◌∙◌, string_bytes}
use Rattle.br_model.specs.Program.Runs.{told}
use Rattle.br_model.specs.declared.scenario.LineWhy.{LineWhy}
use Rattle.br_model.specs.Text.Scenario.{Scenario, Ending, Ended, Bad, scenario}
use Rattle.br_model.specs.Text.Transcript.{bad_text}
use Rattle.scenario_reader.specs.declared.reader.Last.{Last}
use Rattle.scenario_reader.specs.declared.reader.Last.TheVariants as lasts
use Rattle.scenario_reader.specs.Reading.{ending_of}
use Rattle.scenario_reader.specs.Whole.{SaysWhole, WholeState}
use Rattle.scenario_play.specs.Playing.{IsOver, last_line}
use Rattle.scenario_play.specs.Stages.{Standing}
use Rattle.scenario_play.proofs.Steps.{told_is}
use Rattle.whole_texts.specs.declared.replaying.Told.{Told}
use Rattle.whole_texts.specs.Texts.{TellsWhole, ends_well}
use Rattle.whole_texts.specs.Trials.{TellsEnd, ending_at}

pub tells_whole : (bytes : List ℕ) (w : Standing) (all : List ℕ) (last : Last) (y : Told) → IsOver [] (scenario bytes) w all last → string_bytes y.text ≡ all ++ last_line last w.world
    → y.well ≡ ends_well (ending_of last) → TellsWhole told bytes y
tells_whole bytes w all last y h is well = record { text = is ∙ told_is [] bytes w all last h; well = well ∙ ap ends_well (sym h.ends) }

-- An answer is by what the scenario comes to: of a bad one it is the bad line.
pub record IsBy (answer : List ℕ → List ℕ) (by : Ending → Scenario → List ℕ) : Type 0 where
  pub is : (bytes : List ℕ) (d : Ending) → (scenario bytes).ending ≡ d → by d (scenario bytes) ≡ answer bytes
  pub bad : (n : ℕ) (why : LineWhy) (s : Scenario) → by (Bad n why) s ≡ bad_text n why

module _ (answer : List ℕ → List ℕ) (by : Ending → Scenario → List ℕ) (h : IsBy answer by) (bytes : List ℕ) (x : WholeState) (says : SaysWhole false bytes x) where
  pub answers_well : (y : Told) → x.close ≡ lasts.Ended → string_bytes y.text ≡ by Ended (scenario bytes) → y.well ≡ true → TellsWhole answer bytes y
  answers_well y ended is well =
      let ends : (scenario bytes).ending ≡ Ended = says.close ∙ ap ending_of ended in
      record { text = is ∙ h.is bytes Ended ends; well = well ∙ sym (ap ends_well ends) }

  answers_bad : (y : Told) (last : Last) (n : ℕ) (why : LineWhy) → last ≡ x.close → last ≡ lasts.Bad n why → TellsEnd (ending_at (Some last)) y → TellsWhole answer bytes y
  answers_bad y last n why close bad told =
      let ends : (scenario bytes).ending ≡ Bad n why = says.close ∙ ap ending_of (sym close ∙ bad) in
      let t : TellsEnd (Bad n why) y = subst (λ (l : Last). TellsEnd (ending_at (Some l)) y) bad told in record {
        text = t.text ∙ sym (h.bad n why (scenario bytes)) ∙ h.is bytes (Bad n why) ends;
        well = t.well ∙ sym (ap ends_well ends);
      }

  pub bad_answers : {E : Type 0} (r : Result Told E) (last : Last) (n : ℕ) (why : LineWhy) → last ≡ x.close → last ≡ lasts.Bad n why → IfOk r (TellsEnd (ending_at (Some last)))
      → IfOk r (TellsWhole answer bytes)
  bad_answers (Ok y) last n why close bad told = answers_bad y last n why close bad told
  bad_answers (Err e) last n why close bad told = tt
