-- A step that a line gives has a line.
use Rattle.std.proofs.Common.{◌≡◌, ℕ, zero, suc, ◌-◌, ◌+◌, ◌==◌, Bool, true, false, ◌&&◌, if◌then◌else◌, List, [], ◌∷◌}
use Rattle.std.proofs.Common.{length, take, refl, subst, nat_lt, slice_index_or, Option, Some, None, Result, Ok, Err, IfOk, IfSome}
use Rattle.std.specs.Prelude.{codes}
use Rattle.std.specs.Cmp.{first_so, second_so}
use Rattle.std.specs.List.{AllByRecursion, list_all}
use Rattle.std.specs.Str.{bytes_eq}
use Rattle.std.proofs.lemmas.Bool.{and_from}
use Rattle.lemmas.proofs.Endings.{IfOk_either}
use Rattle.br_model.specs.declared.domains.Edition.TheVariants.{One, Two}
use Rattle.br_model.specs.declared.scenario.LineWhy.{LineWhy}
use Rattle.br_model.specs.declared.scenario.LineWhy.TheVariants as why
use Rattle.br_model.specs.declared.scenario.Said.{Said}
use Rattle.br_model.specs.declared.scenario.Said.TheVariants.{Blank, Opens, Bridge, Declares, Does, Captures, Ends}
use Rattle.br_model.specs.declared.steps.Command.{Command}
use Rattle.br_model.specs.declared.steps.Step.{Step}
use Rattle.br_model.specs.declared.steps.Step.TheVariants.{Rx, Cmd}
use Rattle.br_model.specs.Table.Domains.{software}
use Rattle.br_model.specs.Text.CommandForms as forms
use Rattle.br_model.specs.Text.CommandForms.{step}
use Rattle.br_model.specs.Text.Forms.{Row, Makes, after, fits, line, operands_from, pick, reads, row, said}
use Rattle.br_model.specs.Text.LineForms as lines
use Rattle.br_model.specs.Text.LineForms.{all_say, commanded, declaration, header, line_says, opening, words_say}
use Rattle.br_model.specs.Text.Operands.{Operand, PortNumber, Hex, Value, in_range, is_byte, read}
use Rattle.br_model.specs.Text.Roster.{Roster}
use Rattle.br_model.specs.Text.Scenario.{longest_line, whole_says}
use Rattle.br_model.specs.Text.ScenarioText.{has_line}
use Rattle.br_model.specs.Text.Spelling.{shown}
use Rattle.br_model.specs.Text.Words.{Word, is_comment, is_word, words}
use Rattle.br_model.specs.Wire.Frames.{longest_frame}
use Rattle.scenario_text.proofs.OperandsRead.{operand_so}

-- the bytes of a frame that a line shows

pub take_bytes : (n : ℕ) (bytes : List ℕ) → list_all is_byte bytes ≡ true → list_all is_byte (take n bytes) ≡ true
take_bytes zero bytes h = refl
take_bytes (suc n) [] h = refl
take_bytes (suc n) (b ∷ bytes) h = and_from _ _ (first_so _ _ h) (take_bytes n bytes (second_so _ _ h))

pub shown_bytes : (bytes : List ℕ) → list_all is_byte bytes ≡ true → (is_word (shown bytes) && list_all is_byte (shown bytes)) ≡ true
shown_bytes [] h = refl
shown_bytes (b ∷ bytes) h = take_bytes (longest_frame + 1) (b ∷ bytes) h

-- tests of operands

one : (a : Bool) → a ≡ true → (a && true) ≡ true
one a h = and_from a true h refl

two : (a b : Bool) → a ≡ true → b ≡ true → (a && (b && true)) ≡ true
two a b g h = and_from a (b && true) g (one b h)

three : (a b c : Bool) → a ≡ true → b ≡ true → c ≡ true → (a && (b && (c && true))) ≡ true
three a b c f g h = and_from a (b && (c && true)) f (two b c g h)

-- what a row says

module _ (r : Roster) where
  -- what a row says of all values in range
  abbrev OfAll : {A : Type 0} → (A → Type 0) → (ps : List (Operand × ℕ)) → Makes A ps → Type 0
  OfAll P [] says = P says
  OfAll P (p ∷ ps) says = (x : Value p.0) → in_range r.ports p.0 x ≡ true → OfAll P ps (says x)

  read_on : {A B : Type 0} (P : B → Type 0) (found : Result A LineWhy) (next : A → Result B LineWhy) → ((x : A) → found ≡ Ok x → IfOk (next x) P) → IfOk (after found next) P
  read_on P (Ok x) next h = h x refl
  read_on P (Err fault) next h = tt

  operands_read : {A : Type 0} (P : A → Type 0) (ps : List (Operand × ℕ)) (says : Makes A ps) (word : ℕ → Word) → OfAll P ps says → IfOk (reads r.ports ps says word) P
  operands_read P [] says word h = h
  operands_read P (p ∷ ps) says word h =
      read_on P (read r.ports p.0 (word p.1)) (λ x. reads r.ports ps (says x) word)
      (λ x is. operands_read P ps (says x) word (h x (operand_so r.ports p.0 (word p.1) x is)))

  module _ {A : Type 0} (P : A → Type 0) (word : ℕ → Word) where
    abbrev SaysSo : Row A → Type 0
    SaysSo q = IfOk (said r (Some q) word) P

    row_says : (q : Row A) → OfAll P (operands_from 0 q.shape) q.says → SaysSo q
    row_says q h = IfOk_either P (q.place r) (reads r.ports (operands_from 0 q.shape) q.says word) (Err why.Place) (operands_read P (operands_from 0 q.shape) q.says word h) tt

    picked : (b : Bool) (q : Row A) (o : Option (Row A)) → SaysSo q → IfSome o SaysSo → IfSome (if b then Some q else o) SaysSo
    picked true q o p h = p
    picked false q o p h = h

    each_picked : (rows : List (Row A)) (n : ℕ) → AllByRecursion SaysSo rows → IfSome (pick rows n word) SaysSo
    each_picked [] n all = tt
    each_picked (q ∷ rows) n all = picked (n == length q.shape && fits q.shape 0 word) q (pick rows n word) all.0 (each_picked rows n all.1)

    said_so : (o : Option (Row A)) → IfSome o SaysSo → IfOk (said r o word) P
    said_so None h = tt
    said_so (Some q) h = h

    line_so : (rows : List (Row A)) (n : ℕ) → AllByRecursion SaysSo rows → IfOk (line rows r n word) P
    line_so rows n all = said_so (pick rows n word) (each_picked rows n all)

  -- commands

  abbrev CommandHasLine : Command → Type 0
  CommandHasLine c = has_line r.ports (Cmd c) ≡ true

  commands_say : (word : ℕ → Word) → AllByRecursion (SaysSo CommandHasLine word) forms.commands
  commands_say word = search (row_says CommandHasLine word, one, two, three)

  -- lines

  abbrev StepHasLine : Said → Type 0
  StepHasLine Blank = Unit {0}
  StepHasLine (Opens edition) = Unit {0}
  StepHasLine (Bridge mac) = Unit {0}
  StepHasLine (Declares port name dom) = Unit {0}
  StepHasLine (Does s) = has_line r.ports s ≡ true
  StepHasLine (Captures n) = Unit {0}
  StepHasLine Ends = Unit {0}

  frame_says : (port : ℕ) → in_range r.ports PortNumber port ≡ true → (bytes : List ℕ) → in_range r.ports Hex bytes ≡ true → StepHasLine (Does (Rx port bytes))
  frame_says port h bytes g = two _ _ h (shown_bytes bytes (second_so (is_word bytes) _ g))

  lines_say : (word : ℕ → Word) → AllByRecursion (SaysSo StepHasLine word) lines.lines
  lines_say word = (
    row_says StepHasLine word (row (codes "scenario 1") opening (Opens One)) tt,
    (
      row_says StepHasLine word (row (codes "scenario 2") opening (Opens Two)) tt,
      (
        row_says StepHasLine word (row (codes "bridge MAC") header (λ mac. Bridge mac)) (λ mac h. tt),
        (
          row_says StepHasLine word (row (codes "port NUMBER NEWNAME soft") declaration (λ port name. Declares port name software)) (λ port h name g. tt),
          (
            row_says StepHasLine word (row (codes "port NUMBER NEWNAME chip DOMAIN") declaration (λ port name dom. Declares port name dom)) (λ port f name g dom h. tt),
            (
              row_says StepHasLine word lines.rx frame_says,
              (
                row_says StepHasLine word lines.serve refl,
                (
                  row_says StepHasLine word lines.hold refl,
                  (
                    row_says StepHasLine word lines.post (λ id h. one _ h),
                    (
                      row_says StepHasLine word lines.post_at (λ id h point g. two _ _ h g),
                      (
                        row_says StepHasLine word lines.now (λ moment h. one _ h),
                        (
                          row_says StepHasLine word lines.turn (λ dom h. one _ h),
                          (
                            row_says StepHasLine word lines.report (λ dom h. one _ h),
                            (
                              row_says StepHasLine word lines.sweep (λ dom h. one _ h),
                              (
                                row_says StepHasLine word lines.publish refl,
                                (row_says StepHasLine word (row (codes "capture LENGTH") step (λ n. Captures n)) (λ n h. tt), (row_says StepHasLine word (row (codes "end") step Ends) tt, tt)),
                              ),
                            ),
                          ),
                        ),
                      ),
                    ),
                  ),
                ),
              ),
            ),
          ),
        ),
      ),
    ),
  )

  command_says : (c : Result Command LineWhy) → IfOk c CommandHasLine → IfOk (commanded c) StepHasLine
  command_says (Ok command) h = h
  command_says (Err fault) h = tt

  words_say_so : (word : ℕ → Word) (n : ℕ) → IfOk (words_say r n word) StepHasLine
  words_say_so word n =
      let behind : ℕ → Word = λ i. word (i + 1) in
      IfOk_either StepHasLine (bytes_eq (word 0) (codes "cmd")) (commanded (line forms.commands r (n - 1) behind)) (line lines.lines r n word)
      (command_says (line forms.commands r (n - 1) behind) (line_so CommandHasLine behind forms.commands (n - 1) (commands_say behind)))
      (line_so StepHasLine word lines.lines n (lines_say word))

  all_say_so : (ws : List Word) → IfOk (all_say r ws) StepHasLine
  all_say_so [] = tt
  all_say_so (w ∷ ws) = words_say_so (λ i. slice_index_or (w ∷ ws) i []) (length (w ∷ ws))

  line_says_so : (bytes : List ℕ) → IfOk (line_says r bytes) StepHasLine
  unfolding line_says
  line_says_so bytes = IfOk_either StepHasLine (is_comment bytes) (Ok Blank) (all_say r (words bytes)) tt (all_say_so (words bytes))

-- the step of a line has one where the same ports are declared
pub step_has_line : (r : Roster) (bytes : List ℕ) (s : Step) → line_says r bytes ≡ Ok (Does s) → has_line r.ports s ≡ true
step_has_line r bytes s says = subst (λ (o : Result Said LineWhy). IfOk o (StepHasLine r)) says (line_says_so r bytes)

-- the same of a line with its line feed
pub whole_step_has_line : (r : Roster) (bytes : List ℕ) (s : Step) → whole_says r bytes ≡ Ok (Does s) → has_line r.ports s ≡ true
whole_step_has_line r bytes s says =
    subst (λ (o : Result Said LineWhy). IfOk o (StepHasLine r)) says (IfOk_either (StepHasLine r) (nat_lt longest_line (length bytes)) (Err why.Long) (line_says r bytes) tt (line_says_so r bytes))
