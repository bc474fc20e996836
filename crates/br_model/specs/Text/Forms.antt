-- The matcher of lines. A row has the words of a form, its place, and what it says; the first row whose words fit is read. A line is
-- written by a row and the values of its operands.
-- Source: this profile.
use Rattle.std.specs.Prelude.{ℕ, ◌+◌, ◌==◌, Bool, true, ◌&&◌, if◌then◌else◌, List, [], ◌∷◌, map, length}
use Rattle.std.specs.declared.option.Option.{Option}
use Rattle.std.specs.declared.option.Option.TheVariants.{None, Some}
use Rattle.std.specs.declared.result.Result.{Result}
use Rattle.std.specs.declared.result.Result.TheVariants.{Ok, Err}
use Rattle.std.specs.Str.{bytes_eq}
use Rattle.br_model.specs.declared.scenario.LineWhy.{LineWhy}
use Rattle.br_model.specs.declared.scenario.LineWhy.TheVariants as why
use Rattle.br_model.specs.declared.scenario.Place.{Place}
use Rattle.br_model.specs.Text.Operands.{Operand, Value, operands, read, can_stand, spelled}
use Rattle.br_model.specs.Text.Roster.{Roster, Entry}
use Rattle.br_model.specs.Text.Words.{Word}

-- what stands at one place of a form
pub data Token : Type 0 where
  Fixed : Word → Token
  Has : Operand → Token

abbrev pub token_in : List (Word × Operand) → Word → Token
token_in [] word = Fixed word
token_in (p ∷ ps) word = if bytes_eq word p.0 then Has p.1 else token_in ps word

-- a letter in front: a space begins a new word
abbrev pub push : ℕ → List Word → List Word
push c [] = (c ∷ []) ∷ []
push c (w ∷ ws) = if c == 32 then [] ∷ w ∷ ws else (c ∷ w) ∷ ws

abbrev pub form_words : List ℕ → List Word
form_words [] = [] ∷ []
form_words (c ∷ cs) = push c (form_words cs)

-- what a form's text says between its spaces: a word in capitals that names an operand, else a word to be written as it is
abbrev pub tokens : List ℕ → List Token
tokens text = map (token_in operands) (form_words text)

-- the operands of a form, each with the index of its word
abbrev pub operands_from : ℕ → List Token → List (Operand × ℕ)
operands_from i [] = []
operands_from i (Fixed w ∷ ts) = operands_from (i + 1) ts
operands_from i (Has o ∷ ts) = (o, i) ∷ operands_from (i + 1) ts

-- a function of the operands, from left to right
abbrev pub Makes : Type 0 → List (Operand × ℕ) → Type 0
Makes A [] = A
Makes A (p ∷ ps) = Value p.0 → Makes A ps

pub record Row (A : Type 0) : Type 0 where
  pub shape : List Token
  -- where the form may stand
  pub place : Roster → Bool
  pub says : Makes A (operands_from 0 shape)

-- a form that stands in this place, and one that stands there for the command `check` alone
abbrev pub row : {A : Type 0} → (text : List ℕ) → (Place → Bool) → Makes A (operands_from 0 (tokens text)) → Row A
row text place says = record { shape = tokens text; place = λ roster. place roster.place; says = says }

abbrev pub check_row : {A : Type 0} → (text : List ℕ) → (Place → Bool) → Makes A (operands_from 0 (tokens text)) → Row A
check_row text place says = record { shape = tokens text; place = λ roster. roster.check && place roster.place; says = says }

-- reading

-- A line is seen as the number of its words, and each word by its index.

abbrev pub fits : List Token → ℕ → (ℕ → Word) → Bool
fits [] i word = true
fits (Fixed w ∷ ts) i word = bytes_eq (word i) w && fits ts (i + 1) word
fits (Has o ∷ ts) i word = can_stand o (word i) && fits ts (i + 1) word

abbrev pub after : {A B : Type 0} → Result A LineWhy → (A → Result B LineWhy) → Result B LineWhy
after (Ok x) next = next x
after (Err fault) next = Err fault

-- the operands from left to right: the first that fails gives the cause
abbrev pub reads : {A : Type 0} → List Entry → (ps : List (Operand × ℕ)) → Makes A ps → (ℕ → Word) → Result A LineWhy
reads ports [] says word = Ok says
reads ports (p ∷ ps) says word = after (read ports p.0 (word p.1)) (λ x. reads ports ps (says x) word)

-- the first row whose words fit
abbrev pub pick : {A : Type 0} → List (Row A) → ℕ → (ℕ → Word) → Option (Row A)
pick [] n word = None
pick (r ∷ rows) n word = if n == length r.shape && fits r.shape 0 word then Some r else pick rows n word

-- first the words are tested, then the place, then the operands
abbrev pub said : {A : Type 0} → Roster → Option (Row A) → (ℕ → Word) → Result A LineWhy
said roster None word = Err why.Word
said roster (Some r) word = if r.place roster then reads roster.ports (operands_from 0 r.shape) r.says word else Err why.Place

-- what a line of n words says
abbrev pub line : {A : Type 0} → List (Row A) → Roster → ℕ → (ℕ → Word) → Result A LineWhy
line rows roster n word = said roster (pick rows n word) word

-- writing

-- the values of the operands, from left to right
abbrev pub Values : List Token → Type 0
Values [] = Unit {0}
Values (Fixed w ∷ ts) = Values ts
Values (Has o ∷ ts) = Value o × Values ts

-- the words of a form, with the values of its operands
pub record Form : Type 0 where
  pub shape : List Token
  pub values : Values shape

-- a function of all values, as one of the operands
abbrev pub taking : {A : Type 0} → (i : ℕ) → (ts : List Token) → (Values ts → A) → Makes A (operands_from i ts)
taking i [] make = make tt
taking i (Fixed w ∷ ts) make = taking (i + 1) ts make
taking i (Has o ∷ ts) make = λ value. taking (i + 1) ts (λ values. make (value, values))

-- a row's form, whose operands have these values
abbrev pub fills : {A : Type 0} → (r : Row A) → Makes Form (operands_from 0 r.shape)
fills r = taking 0 r.shape (λ values. record { shape = r.shape; values = values })

abbrev pub words_of : List Entry → (ts : List Token) → Values ts → List Word
words_of ports [] values = []
words_of ports (Fixed w ∷ ts) values = w ∷ words_of ports ts values
words_of ports (Has o ∷ ts) values = spelled ports o values.0 ∷ words_of ports ts values.1

abbrev pub all_values : ((o : Operand) → Value o → Bool) → (ts : List Token) → Values ts → Bool
all_values test [] values = true
all_values test (Fixed w ∷ ts) values = all_values test ts values
all_values test (Has o ∷ ts) values = test o values.0 && all_values test ts values.1
