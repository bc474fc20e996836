-- What is written by a row and the values of its operands is read by the row.
use Rattle.std.proofs.Common.{◌≡◌, ℕ, suc, ◌+◌, ◌==◌, Bool, true, false, ◌&&◌, if◌then◌else◌, List, [], ◌∷◌, length, slice_index_or, refl, ◌∙◌, ap, arith, Option, Some}
use Rattle.std.specs.Cmp.{first_so, second_so}
use Rattle.std.specs.List.{list_all}
use Rattle.std.specs.Str.{bytes_eq}
use Rattle.std.specs.declared.option.Option.TheVariants.{None}
use Rattle.std.specs.declared.result.Result.{Result}
use Rattle.std.specs.declared.result.Result.TheVariants.{Ok, Err}
use Rattle.std.proofs.lemmas.Bool.{and_right, and_from}
use Rattle.lemmas.proofs.Numbers.{eqb-itself}
use Rattle.br_model.specs.declared.scenario.LineWhy.{LineWhy}
use Rattle.br_model.specs.declared.scenario.LineWhy.TheVariants as why
use Rattle.br_model.specs.Text.Declarations.{are_declared}
use Rattle.br_model.specs.Text.Forms.{Token, Fixed, Has, Makes, operands_from, Row, fits, after, reads, pick, said, line, Values, words_of, all_values}
use Rattle.br_model.specs.Text.Operands.{Value, in_range, read, spelled, can_stand}
use Rattle.br_model.specs.Text.Roster.{Entry, Roster}
use Rattle.br_model.specs.Text.Words.{Word}
use Rattle.br_model.proofs.Text.Words.{equal}
use Rattle.br_model.proofs.Text.WrittenOperands.{is_narrow, operand_read, operand_proper, operand_stands}
use Rattle.br_model.proofs.Text.WrittenWords.{is_proper}

-- the words that are written for a row's operands in range are words, and as many as the row's

-- whether the numbers of the operands have no more than 64 bits, and the fixed words are words
abbrev pub is_sound : List Token → Bool
is_sound [] = true
is_sound (Fixed w ∷ ts) = is_proper w && is_sound ts
is_sound (Has o ∷ ts) = is_narrow o && is_sound ts

pub all_proper : (ports : List Entry) (ts : List Token) (values : Values ts) → are_declared ports ≡ true → is_sound ts ≡ true → all_values (in_range ports) ts values ≡ true
    → list_all is_proper (words_of ports ts values) ≡ true
all_proper ports [] values all sound h = refl
all_proper ports (Fixed w ∷ ts) values all sound h =
    and_from (is_proper w) _ (first_so (is_proper w) (is_sound ts) sound) (all_proper ports ts values all (second_so (is_proper w) (is_sound ts) sound) h)
all_proper ports (Has o ∷ ts) values all sound h =
    and_from (is_proper (spelled ports o values.0)) _
    (operand_proper ports o values.0 all (first_so (is_narrow o) (is_sound ts) sound) (first_so (in_range ports o values.0) _ h))
    (all_proper ports ts values.1 all (second_so (is_narrow o) (is_sound ts) sound) (second_so (in_range ports o values.0) _ h))

pub as_many : (ports : List Entry) (ts : List Token) (values : Values ts) → length (words_of ports ts values) ≡ length ts
as_many ports [] values = refl
as_many ports (Fixed w ∷ ts) values = ap suc (as_many ports ts values)
as_many ports (Has o ∷ ts) values = ap suc (as_many ports ts values.1)

-- The words from i on are these.
abbrev pub Stand : List Word → ℕ → (ℕ → Word) → Type 0
Stand ws i word = (j : ℕ) → word (j + i) ≡ slice_index_or ws j []

stands_here : (w : Word) (ws : List Word) (i : ℕ) (word : ℕ → Word) → Stand (w ∷ ws) i word → word i ≡ w
stands_here w ws i word h = ap word (none_on i) ∙ h 0
  where
    none_on : (i : ℕ) → i ≡ 0 + i
    none_on i = omega arith

stands_next : (w : Word) (ws : List Word) (i : ℕ) (word : ℕ → Word) → Stand (w ∷ ws) i word → Stand ws (i + 1) word
stands_next w ws i word h j = ap word (one_on j i) ∙ h (suc j)
  where
    one_on : (j i : ℕ) → j + (i + 1) ≡ suc j + i
    one_on j i = omega arith

-- the words of a line from its first, and from its second
pub own_stand : (ws : List Word) → Stand ws 0 (λ i. slice_index_or ws i [])
own_stand ws j = ap (λ (i : ℕ). slice_index_or ws i []) (as_far j)
  where
    as_far : (j : ℕ) → j + 0 ≡ j
    as_far j = omega arith

pub behind_stand : (w : Word) (ws : List Word) → Stand ws 0 (λ i. slice_index_or (w ∷ ws) (i + 1) [])
behind_stand w ws j = ap (λ (i : ℕ). slice_index_or (w ∷ ws) i []) (one_on j)
  where
    one_on : (j : ℕ) → j + 0 + 1 ≡ suc j
    one_on j = omega arith

-- what a function of the operands makes of all values
abbrev pub makes : {A : Type 0} → (i : ℕ) → (ts : List Token) → Makes A (operands_from i ts) → Values ts → A
makes i [] says values = says
makes i (Fixed w ∷ ts) says values = makes (i + 1) ts says values
makes i (Has o ∷ ts) says values = makes (i + 1) ts (says values.0) values.1

-- the operands are read back
reads_back : {A : Type 0} (ports : List Entry) (i : ℕ) (ts : List Token) (says : Makes A (operands_from i ts)) (values : Values ts) (word : ℕ → Word)
    → are_declared ports ≡ true → is_sound ts ≡ true → all_values (in_range ports) ts values ≡ true → Stand (words_of ports ts values) i word
    → reads ports (operands_from i ts) says word ≡ Ok (makes i ts says values)
reads_back ports i [] says values word all sound h stand = refl
reads_back ports i (Fixed w ∷ ts) says values word all sound h stand =
    reads_back ports (i + 1) ts says values word all (second_so (is_proper w) (is_sound ts) sound) h (stands_next w (words_of ports ts values) i word stand)
reads_back {A} ports i (Has o ∷ ts) says values word all sound h stand =
    let rest : Value o → Result A LineWhy = λ x. reads ports (operands_from (i + 1) ts) (says x) word in
    ap (λ (w : Word). after (read ports o w) rest) (stands_here (spelled ports o values.0) (words_of ports ts values.1) i word stand)
    ∙ ap (λ (x : Result (Value o) LineWhy). after x rest) (operand_read ports o values.0 all (first_so (is_narrow o) (is_sound ts) sound) (first_so (in_range ports o values.0) _ h))
    ∙ reads_back ports (i + 1) ts (says values.0) values.1 word all (second_so (is_narrow o) (is_sound ts) sound) (second_so (in_range ports o values.0) _ h)
    (stands_next (spelled ports o values.0) (words_of ports ts values.1) i word stand)

-- which row is picked

-- the row's words fit
own_fits : (ports : List Entry) (i : ℕ) (ts : List Token) (values : Values ts) (word : ℕ → Word) → all_values (in_range ports) ts values ≡ true
    → Stand (words_of ports ts values) i word → fits ts i word ≡ true
own_fits ports i [] values word h stand = refl
own_fits ports i (Fixed w ∷ ts) values word h stand =
    and_from (bytes_eq (word i) w) _ (equal (word i) w (stands_here w (words_of ports ts values) i word stand))
    (own_fits ports (i + 1) ts values word h (stands_next w (words_of ports ts values) i word stand))
own_fits ports i (Has o ∷ ts) values word h stand =
    and_from (can_stand o (word i)) _
    (
    ap (can_stand o) (stands_here (spelled ports o values.0) (words_of ports ts values.1) i word stand)
    ∙ operand_stands ports o values.0 (first_so (in_range ports o values.0) _ h)
    )
    (own_fits ports (i + 1) ts values.1 word (second_so (in_range ports o values.0) _ h) (stands_next (spelled ports o values.0) (words_of ports ts values.1) i word stand))

-- whether the words of the second form may fit the first at one place, and at all
abbrev meets_at : Token → Token → Bool
meets_at (Fixed v) (Fixed w) = bytes_eq w v
meets_at (Fixed v) (Has o) = true
meets_at (Has o) (Fixed w) = can_stand o w
meets_at (Has o) (Has p) = true

abbrev meets : List Token → List Token → Bool
meets [] us = true
meets (t ∷ ts) [] = true
meets (t ∷ ts) (u ∷ us) = meets_at t u && meets ts us

abbrev is_near : List Token → List Token → Bool
is_near ts us = length us == length ts && meets ts us

neither_from : (b c d : Bool) → (b && c) ≡ false → (c ≡ false → d ≡ false) → (b && d) ≡ false
neither_from true c d h to = to h
neither_from false c d h to = refl

-- a form that it can't meet doesn't fit
others_fit : (ports : List Entry) (i : ℕ) (ts us : List Token) (values : Values us) (word : ℕ → Word) → Stand (words_of ports us values) i word
    → meets ts us ≡ false → fits ts i word ≡ false
others_fit ports i [] us values word stand apart = absurd (cc)
others_fit ports i (t ∷ ts) [] values word stand apart = absurd (cc)
others_fit ports i (Fixed v ∷ ts) (Fixed w ∷ us) values word stand apart =
    ap (λ (u : Word). bytes_eq u v && fits ts (i + 1) word) (stands_here w (words_of ports us values) i word stand)
    ∙ neither_from (bytes_eq w v) (meets ts us) (fits ts (i + 1) word) apart (others_fit ports (i + 1) ts us values word (stands_next w (words_of ports us values) i word stand))
others_fit ports i (Fixed v ∷ ts) (Has p ∷ us) values word stand apart =
    and_right _ _ (others_fit ports (i + 1) ts us values.1 word (stands_next (spelled ports p values.0) (words_of ports us values.1) i word stand) apart)
others_fit ports i (Has o ∷ ts) (Fixed w ∷ us) values word stand apart =
    ap (λ (u : Word). can_stand o u && fits ts (i + 1) word) (stands_here w (words_of ports us values) i word stand)
    ∙ neither_from (can_stand o w) (meets ts us) (fits ts (i + 1) word) apart (others_fit ports (i + 1) ts us values word (stands_next w (words_of ports us values) i word stand))
others_fit ports i (Has o ∷ ts) (Has p ∷ us) values word stand apart =
    and_right _ _ (others_fit ports (i + 1) ts us values.1 word (stands_next (spelled ports p values.0) (words_of ports us values.1) i word stand) apart)

-- the first row that the words of this form may fit
abbrev pub first_near : {A : Type 0} → List (Row A) → List Token → Option (Row A)
first_near [] ts = None
first_near (q ∷ rows) ts = if is_near q.shape ts then Some q else first_near rows ts

pick_by : {A : Type 0} (q : Row A) (rows : List (Row A)) (r : Row A) (word : ℕ → Word) (near : Bool) → is_near q.shape r.shape ≡ near → fits r.shape 0 word ≡ true
    → (meets q.shape r.shape ≡ false → fits q.shape 0 word ≡ false) → (first_near rows r.shape ≡ Some r → pick rows (length r.shape) word ≡ Some r)
    → (if near then Some q else first_near rows r.shape) ≡ Some r → pick (q ∷ rows) (length r.shape) word ≡ Some r
pick_by {A} q rows r word true near own other later is =
    ap (λ (b : Bool). if b then Some q else pick rows (length r.shape) word) (here (cc)) ∙ is
  where
    here : q ≡ r → (length r.shape == length q.shape && fits q.shape 0 word) ≡ true
    here e = ap (λ (p : Row A). length r.shape == length p.shape && fits p.shape 0 word) e ∙ and_from _ _ (eqb-itself (length r.shape)) own
pick_by q rows r word false near own other later is =
    ap (λ (b : Bool). if b then Some q else pick rows (length r.shape) word)
    (neither_from (length r.shape == length q.shape) (meets q.shape r.shape) (fits q.shape 0 word) near other)
    ∙ later is

pub picks : {A : Type 0} (ports : List Entry) (rows : List (Row A)) (r : Row A) (values : Values r.shape) (word : ℕ → Word) → all_values (in_range ports) r.shape values ≡ true
    → Stand (words_of ports r.shape values) 0 word → first_near rows r.shape ≡ Some r → pick rows (length r.shape) word ≡ Some r
picks ports [] r values word h stand first = absurd (cc)
picks ports (q ∷ rows) r values word h stand first =
    pick_by q rows r word (is_near q.shape r.shape) refl (own_fits ports 0 r.shape values word h stand)
    (others_fit ports 0 q.shape r.shape values word stand) (picks ports rows r values word h stand) first

-- a line that is written by the row says what the row says of the values
pub row_read : {A : Type 0} (roster : Roster) (rows : List (Row A)) (r : Row A) (values : Values r.shape) (word : ℕ → Word) → r.place roster ≡ true
    → are_declared roster.ports ≡ true → is_sound r.shape ≡ true → first_near rows r.shape ≡ Some r → all_values (in_range roster.ports) r.shape values ≡ true
    → Stand (words_of roster.ports r.shape values) 0 word → line rows roster (length r.shape) word ≡ Ok (makes 0 r.shape r.says values)
row_read roster rows r values word place all sound first h stand =
    ap (λ o. said roster o word) (picks roster.ports rows r values word h stand first)
    ∙ ap (λ (b : Bool). if b then reads roster.ports (operands_from 0 r.shape) r.says word else Err why.Place) place
    ∙ reads_back roster.ports 0 r.shape r.says values word all sound h stand
