-- The line at the front is read, and then what is behind it.
use Rattle.std.proofs.Common.{◌≡◌, ℕ, suc, ◌+◌, ◌<◌, ◌≤◌, Bool, true, false, if◌then◌else◌, List, [], ◌∷◌, ◌++◌, length}
use Rattle.std.proofs.Common.{take, Option, None, Some, Result, Ok, Err, refl, sym, ◌∙◌, ap, arith, length-append, append_assoc}
use Rattle.std.proofs.Math.Seq.{take-append_seam}
use Rattle.std.proofs.lemmas.Bool.{le-ltb, lt-ltb}
use Rattle.br_model.specs.declared.scenario.LineWhy.{LineWhy}
use Rattle.br_model.specs.declared.scenario.LineWhy.TheVariants.{Long, Place, Unended}
use Rattle.br_model.specs.declared.scenario.Said.{Said}
use Rattle.br_model.specs.Text.CommandForms.{step}
use Rattle.br_model.specs.Text.LineForms.{line_says}
use Rattle.br_model.specs.Text.Scenario.{Scenario, Ending, Going, Ended, Bad, Front, front, Progress, opened, takes, whole_says, section_length}
use Rattle.br_model.specs.Text.Scenario.{reads_at, reads_front, reads_line, read, closes, closes_at, ends, is_end, bad, scenario, scenario_by, longest_line}
use Rattle.br_model.specs.Theorems.WholeLines.{is_line}
use Rattle.br_model.specs.Text.Words.{words}
use Rattle.br_model.proofs.Text.Fronts.{before, front_before, front_line, front_none}

-- where the bytes end there
abbrev pub closed : Progress → Scenario
closed p = closes p.scenario p.line

pub scenario_is : (bytes : List ℕ) → scenario bytes ≡ closed (read 0 (opened false) bytes)
unfolding scenario_by
scenario_is bytes = refl

-- bytes that were read with the line before
pub read_ahead : (s : Scenario) (bytes more : List ℕ) (n : ℕ) → read (length bytes + n) s (bytes ++ more) ≡ read n s more
unfolding read
read_ahead s [] more n = ap (λ k. read k s more) (omega arith)
read_ahead s (byte ∷ bytes) more n =
    ap (λ k. read k s (byte ∷ (bytes ++ more))) {y = suc (length bytes + n)} (omega arith) ∙ read_ahead s bytes more n

-- bytes in front of which a scenario goes on
pub reads_so : (s : Scenario) (byte : ℕ) (bytes : List ℕ) (o : Option Front) → s.ending ≡ Going → front (byte ∷ bytes) ≡ o
    → read 0 s (byte ∷ bytes) ≡ reads_front s (byte ∷ bytes) o (λ n t. read n t bytes)
unfolding read
reads_so s byte bytes o going is =
    ap (λ (d : Ending). reads_at d s (byte ∷ bytes) (λ n t. read n t bytes)) going ∙ ap (λ f. reads_front s (byte ∷ bytes) f (λ n t. read n t bytes)) is

-- what is behind the first byte of a line and its line feed
abbrev tail_of : List ℕ → List ℕ → List ℕ
tail_of [] rest = rest
tail_of (byte ∷ line) rest = line ++ 10 ∷ rest

behind_line : (s : Scenario) (line rest : List ℕ) (n : ℕ) → read (length line + n) s (tail_of line rest) ≡ read n s rest
behind_line s [] rest n = ap (λ k. read k s rest) (omega arith)
behind_line s (byte ∷ line) rest n =
    ap (λ k. read k s (line ++ 10 ∷ rest)) (omega (arith, length-append line (10 ∷ [])))
    ∙ ap (read (length (line ++ 10 ∷ []) + n) s) (sym (append_assoc line (10 ∷ []) rest))
    ∙ read_ahead s (line ++ 10 ∷ []) rest n

-- a line that has its line feed
says_so : (s : Scenario) (line rest : List ℕ) (r : Result Said LineWhy) → s.ending ≡ Going → is_line line ≡ true → whole_says s.roster line ≡ r
    → read 0 s (line ++ 10 ∷ rest) ≡ reads_line s (record { line = line; behind = rest }) r (λ n t. read n t (tail_of line rest))
says_so s [] rest r going h says =
    reads_so s 10 rest _ going (front_line [] rest h) ∙ ap (λ (o : Result Said LineWhy). reads_line s (record { line = []; behind = rest }) o (λ n t. read n t rest)) says
says_so s (byte ∷ line) rest r going h says =
    reads_so s byte (line ++ 10 ∷ rest) _ going (front_line (byte ∷ line) rest h)
    ∙ ap (λ (o : Result Said LineWhy). reads_line s (record { line = byte ∷ line; behind = rest }) o (λ n t. read n t (line ++ 10 ∷ rest))) says

-- with its section
pub read_line : (s : Scenario) (said : Said) (line section more : List ℕ) → s.ending ≡ Going → is_line line ≡ true → whole_says s.roster line ≡ Ok said → length section ≡ section_length said
    → read 0 s (line ++ 10 ∷ (section ++ more)) ≡ read 0 (takes s said section) more
read_line s said line section more going h says sized =
    let rest : List ℕ = section ++ more in
    let n : ℕ = section_length said in
    says_so s line rest (Ok said) going h says
    ∙ ap (λ b. if b then record { scenario = s; line = []; behind = [] } else read (length line + n) (takes s said (take n rest)) (tail_of line rest))
    (le-ltb (length rest) n (omega (arith, sized, length-append section more)))
    ∙ behind_line (takes s said (take n rest)) line rest n
    ∙ ap (λ k. read k (takes s said (take k rest)) rest) (sym sized)
    ∙ ap (λ (part : List ℕ). read (length section) (takes s said part) rest) (take-append_seam section more)
    ∙ ap (λ k. read k (takes s said section) rest) {y = length section + 0} (omega arith)
    ∙ read_ahead (takes s said section) section more 0

-- with a part of its section
pub read_part : (s : Scenario) (said : Said) (line part : List ℕ) → s.ending ≡ Going → is_line line ≡ true → whole_says s.roster line ≡ Ok said → length part < section_length said
    → read 0 s (line ++ 10 ∷ part) ≡ record { scenario = s; line = []; behind = [] }
read_part s said line part going h says short =
    says_so s line part (Ok said) going h says
    ∙ ap (λ b. if b then record { scenario = s; line = []; behind = [] } else read (length line + section_length said) (takes s said (take (section_length said) part)) (tail_of line part))
    (lt-ltb (length part) (section_length said) short)

-- a bad line
pub read_bad : (s : Scenario) (why : LineWhy) (line more : List ℕ) → s.ending ≡ Going → is_line line ≡ true → whole_says s.roster line ≡ Err why
    → read 0 s (line ++ 10 ∷ more) ≡ record { scenario = bad s why; line = []; behind = [] }
read_bad s why line more going h says = says_so s line more (Err why) going h says

-- a line without its line feed, which isn't too long
pub read_rest : (s : Scenario) (rest : List ℕ) → s.ending ≡ Going → is_line rest ≡ true → length rest ≤ longest_line → read 0 s rest ≡ record { scenario = s; line = rest; behind = [] }
unfolding read
read_rest s [] going h short = refl
read_rest s (byte ∷ bytes) going h short =
    reads_so s byte bytes None going (front_none (byte ∷ bytes) h)
    ∙ ap (λ b. record { scenario = if b then bad s Long else s; line = byte ∷ bytes; behind = [] }) (le-ltb longest_line (length (byte ∷ bytes)) short)

-- a line that is too long

long_so : (s : Scenario) (byte : ℕ) (bytes more : List ℕ) (o : Option Front) → s.ending ≡ Going → front (byte ∷ (bytes ++ more)) ≡ before (byte ∷ bytes) o
    → longest_line < length (byte ∷ bytes) → (read 0 s (byte ∷ (bytes ++ more))).scenario ≡ bad s Long
long_so s byte bytes more None going is long =
    ap (λ (p : Progress). p.scenario) (reads_so s byte (bytes ++ more) None going is)
    ∙ ap (λ b. if b then bad s Long else s) (lt-ltb longest_line (length (byte ∷ (bytes ++ more))) (omega (arith, long, length-append bytes more)))
long_so s byte bytes more (Some f) going is long =
    let line : List ℕ = byte ∷ (bytes ++ f.line) in
    let says : whole_says s.roster line ≡ Err Long =
    ap (λ b. if b then Err Long else line_says s.roster line) (lt-ltb longest_line (length line) (omega (arith, long, length-append bytes f.line))) in
    ap (λ (p : Progress). p.scenario) (
    reads_so s byte (bytes ++ more) (Some (record { line = line; behind = f.behind })) going is
    ∙ ap (λ (r : Result Said LineWhy). reads_line s (record { line = line; behind = f.behind }) r (λ n t. read n t (bytes ++ more))) says
    )

pub read_long : (s : Scenario) (bytes more : List ℕ) → s.ending ≡ Going → is_line bytes ≡ true → longest_line < length bytes → (read 0 s (bytes ++ more)).scenario ≡ bad s Long
read_long s [] more going h long = absurd (omega arith)
read_long s (byte ∷ bytes) more going h long = long_so s byte bytes more (front more) going (front_before (byte ∷ bytes) more h) long

-- where the bytes end in a line, this has no steps and no ports

ends_keeps : (s : Scenario) (b : Bool)
    → ((if b then record s { lines = s.lines + 1; ending = Ended } else bad s Place).roster ≡ s.roster) × ((if b then record s {
      lines = s.lines + 1;
      ending = Ended;
    } else bad s Place).steps ≡ s.steps)
ends_keeps s true = (refl, refl)
ends_keeps s false = (refl, refl)

last_keeps : (s : Scenario) (b : Bool) → ((if b then ends s else bad s Unended).roster ≡ s.roster) × ((if b then ends s else bad s Unended).steps ≡ s.steps)
last_keeps s true = ends_keeps s (step s.roster.place)
last_keeps s false = (refl, refl)

closes_by : (d : Ending) (s : Scenario) (line : List ℕ) → ((closes_at d s line).roster ≡ s.roster) × ((closes_at d s line).steps ≡ s.steps)
closes_by Going s line = last_keeps s (is_end (words line))
closes_by Ended s line = (refl, refl)
closes_by (Bad n why) s line = (refl, refl)

pub closes_keeps : (s : Scenario) (line : List ℕ) → ((closes s line).roster ≡ s.roster) × ((closes s line).steps ≡ s.steps)
closes_keeps s line = closes_by s.ending s line
