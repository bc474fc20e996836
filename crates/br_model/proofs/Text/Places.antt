-- A line says nothing that doesn't fit the place where it stands.
use Rattle.std.proofs.Common.{◌≡◌, ℕ, ◌-◌, ◌+◌, ◌==◌, ◌&&◌, nat_lt, Bool, true, false, if◌then◌else◌, List, [], ◌∷◌, length, slice_index_or}
use Rattle.std.proofs.Common.{codes, Option, None, Some, Result, Ok, Err, IfOk, IfSome, refl, sym, ◌∙◌, ap, subst, true≢false}
use Rattle.std.specs.List.{AllByRecursion}
use Rattle.std.specs.Str.{bytes_eq}
use Rattle.lemmas.proofs.Endings.{IfOk_either}
use Rattle.br_model.specs.declared.domains.Edition.TheVariants.{One, Two}
use Rattle.br_model.specs.declared.scenario.LineWhy.{LineWhy}
use Rattle.br_model.specs.declared.scenario.LineWhy.TheVariants as why
use Rattle.br_model.specs.declared.scenario.Place.{Place}
use Rattle.br_model.specs.declared.scenario.Place.TheVariants.{Steps}
use Rattle.br_model.specs.declared.scenario.Said.{Said}
use Rattle.br_model.specs.declared.scenario.Said.TheVariants.{Blank, Opens, Bridge, Declares, Does, Captures, Ends}
use Rattle.br_model.specs.declared.steps.Command.{Command}
use Rattle.br_model.specs.Text.CommandForms.{commands, step}
use Rattle.br_model.specs.Text.Forms.{Row, Makes, after, fits, line, operands_from, pick, reads, row, said}
use Rattle.br_model.specs.Text.LineForms.{all_say, commanded, declaration, header, hold, line_says, lines, now, opening, post, post_at, publish, report, rx, serve, sweep, turn, words_say}
use Rattle.br_model.specs.Table.Domains.{software}
use Rattle.br_model.specs.Text.Operands.{Operand, Value, read}
use Rattle.br_model.specs.Text.Roster.{Entry, Roster}
use Rattle.br_model.specs.Text.Scenario.{longest_line, whole_says}
use Rattle.br_model.specs.Text.Words.{Word, is_comment, words}

-- nothing is declared among the steps
abbrev pub FitsPlace : Place → Said → Type 0
FitsPlace place Blank = Unit {0}
FitsPlace place (Opens edition) = place ≡ Steps → ⊥
FitsPlace place (Bridge mac) = place ≡ Steps → ⊥
FitsPlace place (Declares port name dom) = place ≡ Steps → ⊥
FitsPlace place (Does step) = Unit {0}
FitsPlace place (Captures n) = Unit {0}
FitsPlace place Ends = Unit {0}

-- a place that the test takes, which doesn't take the steps'
elsewhere : (test : Place → Bool) (place : Place) → test Steps ≡ false → test place ≡ true → place ≡ Steps → ⊥
elsewhere test place refuses takes is = true≢false (sym takes ∙ ap test is ∙ refuses)

-- what a row says of all values
abbrev OfAll : {A : Type 0} → (A → Type 0) → (ps : List (Operand × ℕ)) → Makes A ps → Type 0
OfAll P [] says = P says
OfAll P (p ∷ ps) says = (x : Value p.0) → OfAll P ps (says x)

read_on : {A B : Type 0} (P : B → Type 0) (r : Result A LineWhy) (next : A → Result B LineWhy) → ((x : A) → IfOk (next x) P) → IfOk (after r next) P
read_on P (Ok x) next h = h x
read_on P (Err fault) next h = tt

operands_read : {A : Type 0} (P : A → Type 0) (ports : List Entry) (ps : List (Operand × ℕ)) (says : Makes A ps) (word : ℕ → Word) → OfAll P ps says
    → IfOk (reads ports ps says word) P
operands_read P ports [] says word h = h
operands_read P ports (p ∷ ps) says word h =
    read_on P (read ports p.0 (word p.1)) (λ x. reads ports ps (says x) word) (λ x. operands_read P ports ps (says x) word (h x))

placed : {A : Type 0} (P : A → Type 0) (b : Bool) (x : Result A LineWhy) → (b ≡ true → IfOk x P) → IfOk (if b then x else Err why.Place) P
placed P true x h = h refl
placed P false x h = tt

module _ (r : Roster) (word : ℕ → Word) where
  abbrev SaysSo : Row Said → Type 0
  SaysSo q = IfOk (said r (Some q) word) (FitsPlace r.place)

  row_says : (q : Row Said) → (q.place r ≡ true → OfAll (FitsPlace r.place) (operands_from 0 q.shape) q.says) → SaysSo q
  row_says q h =
      placed (FitsPlace r.place) (q.place r) (reads r.ports (operands_from 0 q.shape) q.says word)
      (λ yes. operands_read (FitsPlace r.place) r.ports (operands_from 0 q.shape) q.says word (h yes))

  rows_say : AllByRecursion SaysSo lines
  rows_say = (
    row_says (row (codes "scenario 1") opening (Opens One)) (λ yes. elsewhere opening r.place refl yes),
    (
      row_says (row (codes "scenario 2") opening (Opens Two)) (λ yes. elsewhere opening r.place refl yes),
      (
        row_says (row (codes "bridge MAC") header (λ mac. Bridge mac)) (λ yes mac. elsewhere header r.place refl yes),
        (
          row_says (row (codes "port NUMBER NEWNAME soft") declaration (λ port name. Declares port name software)) (λ yes port name. elsewhere declaration r.place refl yes),
          (
            row_says (row (codes "port NUMBER NEWNAME chip DOMAIN") declaration (λ port name dom. Declares port name dom)) (λ yes port name dom. elsewhere declaration r.place refl yes),
            (
              row_says rx (λ yes port bytes. tt),
              (
                row_says serve (λ yes. tt),
                (
                  row_says hold (λ yes. tt),
                  (
                    row_says post (λ yes id. tt),
                    (
                      row_says post_at (λ yes id point. tt),
                      (
                        row_says now (λ yes moment. tt),
                        (
                          row_says turn (λ yes dom. tt),
                          (
                            row_says report (λ yes dom. tt),
                            (
                              row_says sweep (λ yes dom. tt),
                              (row_says publish (λ yes. tt), (row_says (row (codes "capture LENGTH") step (λ n. Captures n)) (λ yes n. tt), (row_says (row (codes "end") step Ends) (λ yes. tt), tt))),
                            ),
                          ),
                        ),
                      ),
                    ),
                  ),
                ),
              ),
            ),
          ),
        ),
      ),
    ),
  )

  picked : (b : Bool) (q : Row Said) (o : Option (Row Said)) → SaysSo q → IfSome o SaysSo → IfSome (if b then Some q else o) SaysSo
  picked true q o p h = p
  picked false q o p h = h

  each_picked : (rows : List (Row Said)) (n : ℕ) → AllByRecursion SaysSo rows → IfSome (pick rows n word) SaysSo
  each_picked [] n all = tt
  each_picked (q ∷ rows) n all = picked (n == length q.shape && fits q.shape 0 word) q (pick rows n word) all.0 (each_picked rows n all.1)

  said_so : (o : Option (Row Said)) → IfSome o SaysSo → IfOk (said r o word) (FitsPlace r.place)
  said_so None h = tt
  said_so (Some q) h = h

  command_says : (c : Result Command LineWhy) → IfOk (commanded c) (FitsPlace r.place)
  command_says (Ok command) = tt
  command_says (Err fault) = tt

  words_fit : (n : ℕ) → IfOk (words_say r n word) (FitsPlace r.place)
  words_fit n =
      let command = line commands r (n - 1) (λ i. word (i + 1)) in
      IfOk_either (FitsPlace r.place) (bytes_eq (word 0) (codes "cmd")) (commanded command) (line lines r n word) (command_says command) (said_so (pick lines n word) (each_picked lines n rows_say))

all_fit : (r : Roster) (ws : List Word) → IfOk (all_say r ws) (FitsPlace r.place)
all_fit r [] = tt
all_fit r (w ∷ ws) = words_fit r (λ i. slice_index_or (w ∷ ws) i []) (length (w ∷ ws))

line_fits : (r : Roster) (bytes : List ℕ) → IfOk (line_says r bytes) (FitsPlace r.place)
unfolding line_says
line_fits r bytes = IfOk_either (FitsPlace r.place) (is_comment bytes) (Ok Blank) (all_say r (words bytes)) tt (all_fit r (words bytes))

-- what a whole line says
pub line_in_place : (r : Roster) (line : List ℕ) (said : Said) → whole_says r line ≡ Ok said → FitsPlace r.place said
line_in_place r line said says =
    subst (λ (o : Result Said LineWhy). IfOk o (FitsPlace r.place)) says (IfOk_either (FitsPlace r.place) (nat_lt longest_line (length line)) (Err why.Long) (line_says r line) tt (line_fits r line))
