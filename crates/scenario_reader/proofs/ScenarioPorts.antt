-- The ports that a scenario declares fit beside each other.
use Rattle.std.proofs.Common.{◌≡◌, ℕ, zero, suc, ◌-◌, ◌+◌, ◌==◌, nat_le, nat_lt, Bool, true, false, not, ◌&&◌, if◌then◌else◌, List, [], ◌∷◌, ◌++◌, length, take, slice_index_or, Option, Some, None}
use Rattle.std.proofs.Common.{Result, Ok, Err, IfOk, refl, ap, subst, ◌∙◌}
use Rattle.std.specs.Prelude.{codes}
use Rattle.std.specs.Cmp.{first_so, second_so}
use Rattle.std.specs.List.{AllByRecursion}
use Rattle.std.specs.Option.{is_some}
use Rattle.std.specs.Str.{bytes_eq}
use Rattle.std.proofs.lemmas.Bool.{and_from}
use Rattle.br_model.specs.declared.domains.Edition.TheVariants.{One, Two}
use Rattle.br_model.specs.declared.scenario.LineWhy.{LineWhy}
use Rattle.br_model.specs.declared.scenario.LineWhy.TheVariants as why
use Rattle.br_model.specs.declared.scenario.Said.{Said}
use Rattle.br_model.specs.declared.scenario.Said.TheVariants.{Blank, Opens, Bridge, Declares, Does, Captures, Ends}
use Rattle.br_model.specs.declared.steps.Command.{Command}
use Rattle.br_model.specs.declared.steps.Step.{Step}
use Rattle.br_model.specs.Table.Domains.{last_chip, last_port, software}
use Rattle.br_model.specs.Text.CommandForms.{commands, step}
use Rattle.br_model.specs.Text.Declarations.{are_declared, fits_beside}
use Rattle.br_model.specs.Text.Forms.{Row, Makes, after, fits, line, operands_from, pick, reads, row, said}
use Rattle.br_model.specs.Text.LineForms as forms
use Rattle.br_model.specs.Text.LineForms.{all_say, commanded, declaration, header, line_says, opening, words_say}
use Rattle.br_model.specs.Text.Operands.{Operand, NewName, NewPort, Value, in_range, read as read_word}
use Rattle.br_model.specs.Text.Roster.{Roster, has_number, is_name, port_named}
use Rattle.br_model.specs.Text.Scenario.{Scenario, Ending, Going, Ended, Bad, Front, Progress, bad, declared, front, longest_line, opened, read, reads_at, reads_front, reads_line}
use Rattle.br_model.specs.Text.Scenario.{scenario_by, section_length, steps_of, takes, takes_steps, whole_says}
use Rattle.br_model.specs.Text.Words.{Word, is_comment, words}
use Rattle.br_model.proofs.Text.Reading.{closes_keeps}
use Rattle.bridge_command.proofs.Declaring.{grows}
use Rattle.scenario_text.proofs.OperandsRead.{operand_so}

-- What a line declares fits beside the ports that are declared.

module _ (r : Roster) where
  abbrev PortFits : Said → Type 0
  PortFits Blank = Unit {0}
  PortFits (Opens edition) = Unit {0}
  PortFits (Bridge mac) = Unit {0}
  PortFits (Declares port name dom) = fits_beside r.ports (record { name = name; port = port; dom = dom }) ≡ true
  PortFits (Does s) = Unit {0}
  PortFits (Captures n) = Unit {0}
  PortFits Ends = Unit {0}

  port_fits : (port : ℕ) → in_range r.ports NewPort port ≡ true → (name : Word) → in_range r.ports NewName name ≡ true → (dom : ℕ) → nat_le dom last_chip ≡ true
      → PortFits (Declares port name dom)
  port_fits port h name g dom d =
      let range = first_so (nat_le 1 port && nat_le port last_port) (not (has_number r.ports port)) h in
      and_from _ _ (first_so (nat_le 1 port) (nat_le port last_port) range)
      (and_from _ _ (second_so (nat_le 1 port) (nat_le port last_port) range)
      (and_from _ _ d (and_from _ _ (first_so (is_name name) (not (is_some (port_named r.ports name))) g)
      (and_from _ _ (second_so (nat_le 1 port && nat_le port last_port) (not (has_number r.ports port)) h)
      (second_so (is_name name) (not (is_some (port_named r.ports name))) g)))))

  either : (b : Bool) (x y : Result Said LineWhy) → IfOk x PortFits → IfOk y PortFits → IfOk (if b then x else y) PortFits
  either true x y p q = p
  either false x y p q = q

  -- what a row says of all values in range
  abbrev OfAll : (ps : List (Operand × ℕ)) → Makes Said ps → Type 0
  OfAll [] says = PortFits says
  OfAll (p ∷ ps) says = (x : Value p.0) → in_range r.ports p.0 x ≡ true → OfAll ps (says x)

  read_on : {A : Type 0} (found : Result A LineWhy) (next : A → Result Said LineWhy) → ((x : A) → found ≡ Ok x → IfOk (next x) PortFits) → IfOk (after found next) PortFits
  read_on (Ok x) next h = h x refl
  read_on (Err fault) next h = tt

  operands_read : (ps : List (Operand × ℕ)) (says : Makes Said ps) (word : ℕ → Word) → OfAll ps says → IfOk (reads r.ports ps says word) PortFits
  operands_read [] says word h = h
  operands_read (p ∷ ps) says word h =
      read_on (read_word r.ports p.0 (word p.1)) (λ x. reads r.ports ps (says x) word)
      (λ x is. operands_read ps (says x) word (h x (operand_so r.ports p.0 (word p.1) x is)))

  module _ (word : ℕ → Word) where
    abbrev SaysSo : Row Said → Type 0
    SaysSo q = IfOk (said r (Some q) word) PortFits

    row_says : (q : Row Said) → OfAll (operands_from 0 q.shape) q.says → SaysSo q
    row_says q h = either (q.place r) (reads r.ports (operands_from 0 q.shape) q.says word) (Err why.Place) (operands_read (operands_from 0 q.shape) q.says word h) tt

    rows_say : (rows : List (Row Said)) (n : ℕ) → AllByRecursion SaysSo rows → IfOk (line rows r n word) PortFits
    rows_say [] n all = tt
    rows_say (q ∷ rows) n all = by (n == length q.shape && fits q.shape 0 word) (rows_say rows n all.1)
      where
        by : (b : Bool) → IfOk (line rows r n word) PortFits → IfOk (said r (if b then Some q else pick rows n word) word) PortFits
        by true rest = all.0
        by false rest = rest

    last_fit : AllByRecursion SaysSo (row (codes "capture LENGTH") step (λ n. Captures n) ∷ row (codes "end") step Ends ∷ [])
    last_fit = (row_says (row (codes "capture LENGTH") step (λ n. Captures n)) (λ n h. tt), (row_says (row (codes "end") step Ends) tt, tt))

    steps_fit : AllByRecursion SaysSo forms.steps
    steps_fit = (
      row_says forms.now (λ moment h. tt),
      (row_says forms.turn (λ dom h. tt), (row_says forms.report (λ dom h. tt), (row_says forms.sweep (λ dom h. tt), (row_says forms.publish tt, last_fit)))),
    )

    frames_fit : AllByRecursion SaysSo (forms.frames ++ forms.steps)
    frames_fit = (
      row_says forms.rx (λ port h bytes g. tt),
      (row_says forms.serve tt, (row_says forms.hold tt, (row_says forms.post (λ id h. tt), (row_says forms.post_at (λ id h point g. tt), steps_fit)))),
    )

    abbrev soft : Row Said
    soft = row (codes "port NUMBER NEWNAME soft") declaration (λ port name. Declares port name software)

    abbrev chip : Row Said
    chip = row (codes "port NUMBER NEWNAME chip DOMAIN") declaration (λ port name dom. Declares port name dom)

    ports_fit : AllByRecursion SaysSo (soft ∷ chip ∷ (forms.frames ++ forms.steps))
    ports_fit = (
      row_says soft (λ port h name g. port_fits port h name g software refl),
      (row_says chip (λ port h name g dom d. port_fits port h name g dom (second_so (nat_le 1 dom) (nat_le dom last_chip) d)), frames_fit),
    )

    lines_fit : AllByRecursion SaysSo forms.lines
    lines_fit = (
      row_says (row (codes "scenario 1") opening (Opens One)) tt,
      (row_says (row (codes "scenario 2") opening (Opens Two)) tt, (row_says (row (codes "bridge MAC") header (λ mac. Bridge mac)) (λ mac h. tt), ports_fit)),
    )

    command_fits : (c : Result Command LineWhy) → IfOk (commanded c) PortFits
    command_fits (Ok command) = tt
    command_fits (Err fault) = tt

    words_fit : (n : ℕ) → IfOk (words_say r n word) PortFits
    words_fit n =
        let command : Result Command LineWhy = line commands r (n - 1) (λ i. word (i + 1)) in
        either (bytes_eq (word 0) (codes "cmd")) (commanded command) (line forms.lines r n word) (command_fits command) (rows_say forms.lines n lines_fit)

  all_fit : (ws : List Word) → IfOk (all_say r ws) PortFits
  all_fit [] = tt
  all_fit (w ∷ ws) = words_fit (λ i. slice_index_or (w ∷ ws) i []) (length (w ∷ ws))

  line_fits : (bytes : List ℕ) → IfOk (line_says r bytes) PortFits
  unfolding line_says
  line_fits bytes = either (is_comment bytes) (Ok Blank) (all_say r (words bytes)) tt (all_fit (words bytes))

  whole_line_fits : (bytes : List ℕ) (says : Said) → whole_says r bytes ≡ Ok says → PortFits says
  whole_line_fits bytes says is =
      subst (λ (o : Result Said LineWhy). IfOk o PortFits) is (either (nat_lt longest_line (length bytes)) (Err why.Long) (line_says r bytes) tt (line_fits bytes))

-- Line after line.

abbrev Fine : Scenario → Type 0
Fine s = are_declared s.roster.ports ≡ true

declares : (r : Roster) (said : Said) → PortFits r said → are_declared r.ports ≡ true → are_declared (declared r said).ports ≡ true
declares r Blank fits f = f
declares r (Opens edition) fits f = f
declares r (Bridge mac) fits f = f
declares r (Declares port name dom) fits f = grows r.ports (record { name = name; port = port; dom = dom }) f fits
declares r (Does step) fits f = f
declares r (Captures n) fits f = f
declares r Ends fits f = f

takes_fine : (s : Scenario) (said : Said) (r : Result (List Step) LineWhy) → PortFits s.roster said → Fine s → Fine (takes_steps s said r)
takes_fine s said (Err fault) fits f = f
takes_fine s said (Ok steps) fits f = declares s.roster said fits f

abbrev Goes : Type 0
Goes = ℕ → Scenario → Progress

module _ (s : Scenario) (f : Fine s) (go_on : Goes) (keeps : (n : ℕ) (t : Scenario) → Fine t → Fine (go_on n t).scenario) where
  begins_fine : (b : Bool) → Fine (if b then bad s why.Long else s)
  begins_fine true = f
  begins_fine false = f

  taken_fine : (said : Said) (p : Front) (b : Bool) → whole_says s.roster p.line ≡ Ok said
      → Fine (if b then record { scenario = s; line = []; behind = [] } else go_on (length p.line + section_length said) (takes s said (take (section_length said) p.behind))).scenario
  taken_fine said p true says = f
  taken_fine said p false says =
      let section : List ℕ = take (section_length said) p.behind in
      keeps (length p.line + section_length said) (takes s said section)
      (takes_fine s said (steps_of s.roster.ports said section) (whole_line_fits s.roster p.line said says) f)

  says_fine : (p : Front) (r : Result Said LineWhy) → whole_says s.roster p.line ≡ r → Fine (reads_line s p r go_on).scenario
  says_fine p (Err fault) says = f
  says_fine p (Ok said) says = taken_fine said p (nat_lt (length p.behind) (section_length said)) says

  front_fine : (bytes : List ℕ) (o : Option Front) → Fine (reads_front s bytes o go_on).scenario
  front_fine bytes None = begins_fine (nat_lt longest_line (length bytes))
  front_fine bytes (Some p) = says_fine p (whole_says s.roster p.line) refl

  at_fine : (d : Ending) (bytes : List ℕ) → Fine (reads_at d s bytes go_on).scenario
  at_fine Going bytes = front_fine bytes (front bytes)
  at_fine Ended bytes = f
  at_fine (Bad n cause) bytes = f

read_fine : (ahead : ℕ) (s : Scenario) (bytes : List ℕ) → Fine s → Fine (read ahead s bytes).scenario
unfolding read
read_fine ahead s [] f = f
read_fine (suc ahead) s (byte ∷ bytes) f = read_fine ahead s bytes f
read_fine zero s (byte ∷ bytes) f = at_fine s f (λ n t. read n t bytes) (λ n t g. read_fine n t bytes g) s.ending (byte ∷ bytes)

pub ports_are_declared : (check : Bool) (bytes : List ℕ) → are_declared (scenario_by check bytes).roster.ports ≡ true
unfolding scenario_by
ports_are_declared check bytes =
    let p : Progress = read 0 (opened check) bytes in
    ap (λ (r : Roster). are_declared r.ports) (closes_keeps p.scenario p.line).0 ∙ read_fine 0 (opened check) bytes refl
