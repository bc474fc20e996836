-- A generated scenario is read as the steps of which it was made.
use Rattle.std.proofs.Common.{◌≡◌, ℕ, zero, suc, ◌+◌, ◌*◌, ◌/◌, ◌%◌, ◌<◌, ◌≤◌, ◌==◌, nat_lt, nat_le, Bool, true, false, ◌&&◌}
use Rattle.std.proofs.Common.{if◌then◌else◌, List, [], ◌∷◌, ◌++◌, length, take, drop, refl, sym, ◌∙◌, ap, ap₂, arith, length-append, append_assoc, append-nil}
use Rattle.std.specs.Prelude.{codes}
use Rattle.std.specs.Cmp.{first_so, second_so}
use Rattle.std.specs.Fmt.{decimal, digits}
use Rattle.std.specs.List.{list_all, flat_map}
use Rattle.std.specs.declared.result.Result.TheVariants.{Ok, Err}
use Rattle.std.proofs.lemmas.Fmt.{length-decimal-le}
use Rattle.std.proofs.lemmas.List.Folds.{list_all-append}
use Rattle.std.proofs.lemmas.Bool.{ltb-true, le-ltb, and_from}
use Rattle.br_model.specs.declared.domains.Edition.TheVariants.{One}
use Rattle.br_model.specs.declared.scenario.LineWhy.TheVariants.{Long}
use Rattle.br_model.specs.declared.scenario.Place.TheVariants.{Header, Declarations, Steps}
use Rattle.br_model.specs.declared.scenario.Said.TheVariants.{Does, Declares, Opens, Ends}
use Rattle.br_model.specs.declared.steps.Command.TheVariants.{PortUp}
use Rattle.br_model.specs.declared.steps.Step.{Step}
use Rattle.br_model.specs.declared.steps.Step.TheVariants.{Rx, Cmd, Now, Turn, Report, Publish}
use Rattle.br_model.specs.Data.Digits.{hex_of}
use Rattle.br_model.specs.Table.Domains.{first_chip_domain, software}
use Rattle.br_model.specs.Program.Generator.{most_frames, station, broadcast, destination, frame, each, frame_steps, frames_from, number_of, drawn, ports, steps, head, made, made_scenario}
use Rattle.br_model.specs.Text.Head.{port_line}
use Rattle.br_model.specs.Text.LineForms.{comes_by_line, line_says}
use Rattle.br_model.specs.Text.Operands.{last_moment, is_byte}
use Rattle.br_model.specs.Text.Roster.{Entry, Roster, chips_of, first_roster, has_number}
use Rattle.br_model.specs.Text.Scenario.{Scenario, Going, Ended, opened, read, scenario, whole_says, longest_line}
use Rattle.br_model.specs.Text.ScenarioText.{has_line, step_words, step_text}
use Rattle.br_model.specs.Text.Spelling.{shown}
use Rattle.br_model.specs.Text.Words.{is_word}
use Rattle.br_model.specs.Table.Setup.{first_own}
use Rattle.br_model.specs.Theorems.WholeLines.{is_line}
use Rattle.br_model.specs.Theorems.WrittenSteps.{is_whole}
use Rattle.br_model.proofs.Worked.Computing.{computing}
use Rattle.br_model.proofs.Text.Reading.{closed, scenario_is, read_line}
use Rattle.br_model.proofs.Text.WrittenLines.{step_read, given_whole, shown_whole}
use Rattle.br_model.proofs.Text.Feedless.{hex_digit_feedless, decimal_feedless, lines_joined}
use Rattle.br_model.proofs.Data.Hex.{length-hex_of}

-- a step whose line is read back

record IsGood (s : Step) : Type 0 where
  feedless : is_line (step_words ports s) ≡ true
  short : length (step_words ports s) ≤ longest_line
  line : has_line ports s ≡ true
  comes : comes_by_line false (chips_of ports) s ≡ true
  whole : is_whole s ≡ true

abbrev AreGood : List Step → Type 0
AreGood [] = Unit {0}
AreGood (s ∷ l) = IsGood s × AreGood l

good_append : (l m : List Step) → AreGood l → AreGood m → AreGood (l ++ m)
good_append [] m h k = k
good_append (s ∷ l) m h k = (h.0, good_append l m h.1 k)

-- what the lines so far have said, of which the first step is one
abbrev at : ℕ → List Step → Scenario
at n done = record { lines = n; roster = record { place = Steps; check = false; edition = One; own = first_own; ports = ports }; steps = done; ending = Going }

says : (r : Roster) (s : Step) → r ≡ (at 0 []).roster → IsGood s → whole_says r (step_words ports s) ≡ Ok (Does s)
unfolding computing
says r s is h =
    ap (λ (r : Roster). whole_says r (step_words ports s)) is
    ∙ ap (λ b. if b then Err Long else line_says (at 0 []).roster (step_words ports s)) (le-ltb longest_line (length (step_words ports s)) h.short)
    ∙ step_read (at 0 []).roster s refl h.comes refl h.line
    ∙ ap (λ (t : Step). Ok (Does t)) (given_whole s h.whole)

one_read : (s : Step) (n : ℕ) (done : List Step) (more : List ℕ) → IsGood s → read 0 (at n done) (step_text ports s ++ more) ≡ read 0 (at (n + 1) (done ++ s ∷ [])) more
one_read s n done more h =
    ap (read 0 (at n done)) (append_assoc (step_words ports s) (10 ∷ []) more)
    ∙ read_line (at n done) (Does s) (step_words ports s) [] more refl h.feedless (says (at n done).roster s refl h) refl

all_read : (l : List Step) (n : ℕ) (done : List Step) (more : List ℕ) → AreGood l
    → read 0 (at n done) (flat_map (step_text ports) l ++ more) ≡ read 0 (at (n + length l) (done ++ l)) more
all_read [] n done more h = ap₂ (λ (k : ℕ) (all : List Step). read 0 (at k all) more) {y = n + 0} (omega arith) (sym (append-nil done))
all_read (s ∷ l) n done more h =
    ap (read 0 (at n done)) (append_assoc (step_text ports s) (flat_map (step_text ports) l) more)
    ∙ one_read s n done (flat_map (step_text ports) l ++ more) h.0
    ∙ all_read l (n + 1) (done ++ s ∷ []) more h.1
    ∙ ap₂ (λ (k : ℕ) (all : List Step). read 0 (at k all) more) {y = n + suc (length l)} (omega arith) (append_assoc done (s ∷ []) l)

-- the generated steps

hex_feedless : (bytes : List ℕ) → list_all is_byte bytes ≡ true → is_line (hex_of bytes) ≡ true
hex_feedless [] h = refl
hex_feedless (b ∷ bytes) h =
    let fits : b < 256 = ltb-true b 256 (first_so _ _ h) in
    and_from _ _ (hex_digit_feedless (b / 16) (omega arith)) (and_from _ _ (hex_digit_feedless (b % 16) (omega arith)) (hex_feedless bytes (second_so _ _ h)))

is_station_byte : (s : ℕ) → s < 9 → list_all is_byte (station s) ≡ true
is_station_byte s h = and_from (is_byte (0x10 + s)) true (small s h) refl
  where
    small : (s : ℕ) → s < 9 → is_byte (0x10 + s) ≡ true
    small s h = grind arith

destination_bytes : (b : Bool) (d : ℕ) → d < 9 → list_all is_byte (if b then broadcast else station d) ≡ true
destination_bytes true d h = refl
destination_bytes false d h = is_station_byte d h

destination_length : (b : Bool) (d : ℕ) → length (if b then broadcast else station d) ≡ 6
destination_length true d = refl
destination_length false d = refl

frame_bytes : (n : ℕ) → list_all is_byte (frame n) ≡ true
frame_bytes n =
    let d : ℕ = n / 48 % 9 in
    list_all-append is_byte (destination d) _
    ∙ and_from _ _ (destination_bytes (d == 8) d (omega arith))
    (list_all-append is_byte (station (n / 6 % 8)) (0x88 ∷ 0xB5 ∷ 0 ∷ 0 ∷ []) ∙ and_from _ _ (is_station_byte (n / 6 % 8) (omega arith)) refl)

frame_length : (n : ℕ) → length (frame n) ≡ 16
frame_length n =
    let d : ℕ = n / 48 % 9 in
    length-append (destination d) (station (n / 6 % 8) ++ (0x88 ∷ 0xB5 ∷ 0 ∷ 0 ∷ [])) ∙ ap (λ k. k + 10) (destination_length (d == 8) d)

some_word : (bytes : List ℕ) → length bytes ≡ 16 → is_word bytes ≡ true
some_word [] h = absurd (omega arith)
some_word (b ∷ bytes) h = refl

entry_good : (port : ℕ) (bytes : List ℕ) → port < 7 → has_number ports port ≡ true → length bytes ≡ 16 → list_all is_byte bytes ≡ true → IsGood (Rx port bytes)
entry_good port bytes few declared sized are =
    let as_is : shown bytes ≡ bytes = shown_whole bytes (omega arith) (omega arith) in
    let digits : length (decimal port) ≤ 20 = length-decimal-le 20 port (omega arith) (omega arith) (omega arith) in
    record {
      feedless = ap (λ (shown : List ℕ). is_line (decimal port ++ (32 ∷ hex_of shown))) as_is
          ∙ lines_joined (decimal port) (32 ∷ hex_of bytes) (decimal_feedless port (omega arith)) (hex_feedless bytes are);
      short = rw as_is (omega (arith, digits, sized, length-append (decimal port) (32 ∷ hex_of bytes), length-hex_of bytes));
      line =
          let in_range : (is_word (shown bytes) && list_all is_byte (shown bytes)) ≡ true =
          ap (λ (shown : List ℕ). is_word shown && list_all is_byte shown) as_is ∙ and_from (is_word bytes) _ (some_word bytes sized) are in
          and_from (has_number ports port) _ declared (and_from (is_word (shown bytes) && list_all is_byte (shown bytes)) true in_range refl);
      comes = refl;
      whole = and_from _ _ (some (length bytes) sized) (not_long (length bytes) sized);
    }
  where
    some : (n : ℕ) → n ≡ 16 → nat_lt 0 n ≡ true
    some n h = grind arith

    not_long : (n : ℕ) → n ≡ 16 → nat_le n 9022 ≡ true
    not_long n h = grind arith

moment_good : (moment : ℕ) → moment ≤ last_moment → IsGood (Now moment)
moment_good moment h = record {
  feedless = decimal_feedless moment (omega arith);
  short = let digits : length (decimal moment) ≤ 20 = length-decimal-le 20 moment (omega arith) (omega arith) (omega arith) in omega (arith, digits);
  line = small moment h;
  comes = early moment h;
  whole = refl;
}
  where
    small : (n : ℕ) → n ≤ last_moment → ((nat_le 0 n && nat_le n last_moment) && true) ≡ true
    small n h = grind arith

    early : (n : ℕ) → n ≤ last_moment → nat_le n last_moment ≡ true
    early n h = grind arith

each_good : (b : Bool) (s : Step) → IsGood s → AreGood (if b then s ∷ [] else [])
each_good true s h = (h, tt)
each_good false s h = tt

is_port : (r : ℕ) → r < 6 → has_number ports (r + 1) ≡ true
is_port r h = grind arith

frame_good : (i n : ℕ) → i ≤ most_frames → AreGood (frame_steps i n)
unfolding digits
frame_good i n few = (
  entry_good (n % 6 + 1) (frame n) (omega arith) (is_port (n % 6) (omega arith)) (frame_length n) (frame_bytes n),
  (
    record { feedless = refl; short = omega arith; line = refl; comes = refl; whole = refl },
    good_append (each 3 i (Report first_chip_domain)) _ (each_good (i % 3 == 0) (Report first_chip_domain) (record { feedless = refl; short = omega arith; line = refl; comes = refl; whole = refl }))
        (good_append (each 5 i (Turn first_chip_domain)) _ (each_good (i % 5 == 0) (Turn first_chip_domain) (record { feedless = refl; short = omega arith; line = refl; comes = refl; whole = refl }))
        (good_append (each 7 i Publish) _ (each_good (i % 7 == 0) Publish (record { feedless = refl; short = omega arith; line = refl; comes = refl; whole = refl }))
        (each_good (i % 64 == 0) (Now (1000 * i)) (moment_good (1000 * i) (omega arith))))),
  ),
)

frames_good : (count i x : ℕ) → i + count ≤ most_frames + 1 → AreGood (frames_from count i x)
unfolding frames_from
frames_good zero i x few = tt
frames_good (suc count) i x few =
    good_append (frame_steps i (number_of (drawn x))) (frames_from count (i + 1) (drawn x))
    (frame_good i (number_of (drawn x)) (omega arith)) (frames_good count (i + 1) (drawn x) (omega arith))

-- the lines before the steps, and the first step

abbrev begun : ℕ → List Entry → Scenario
begun n declared = record { lines = n; roster = record { place = Declarations; check = false; edition = One; own = first_own; ports = declared }; steps = []; ending = Going }

-- the lines of these ports, and what is behind them
abbrev port_lines : List Entry → List ℕ → List ℕ
port_lines declared more = flat_map port_line declared ++ more

says_opens : whole_says (first_roster false) (codes "scenario 1") ≡ Ok (Opens One)
unfolding computing
says_opens = refl

says_port_1 : whole_says (record (first_roster false) { place = Header }) (codes "port 1 g1 chip 1") ≡ Ok (Declares 1 (codes "g1") first_chip_domain)
unfolding computing
says_port_1 = refl

says_port_2 : whole_says (begun 2 (take 1 ports)).roster (codes "port 2 g2 chip 1") ≡ Ok (Declares 2 (codes "g2") first_chip_domain)
unfolding computing
says_port_2 = refl

says_port_3 : whole_says (begun 3 (take 2 ports)).roster (codes "port 3 g3 chip 1") ≡ Ok (Declares 3 (codes "g3") first_chip_domain)
unfolding computing
says_port_3 = refl

says_port_4 : whole_says (begun 4 (take 3 ports)).roster (codes "port 4 g4 chip 1") ≡ Ok (Declares 4 (codes "g4") first_chip_domain)
unfolding computing
says_port_4 = refl

says_port_5 : whole_says (begun 5 (take 4 ports)).roster (codes "port 5 g5 soft") ≡ Ok (Declares 5 (codes "g5") software)
unfolding computing
says_port_5 = refl

says_port_6 : whole_says (begun 6 (take 5 ports)).roster (codes "port 6 g6 soft") ≡ Ok (Declares 6 (codes "g6") software)
unfolding computing
says_port_6 = refl

head_read : (more : List ℕ) → read 0 (opened false) (head ++ more) ≡ read 0 (begun 7 ports) more
unfolding digits
head_read more =
    read_line (opened false) (Opens One) (codes "scenario 1") [] (port_lines (drop 0 ports) more) refl refl says_opens refl
    ∙ read_line (record (opened false) { lines = 1; roster = record (first_roster false) { place = Header } }) (Declares 1 (codes "g1") first_chip_domain) (codes "port 1 g1 chip 1") []
    (port_lines (drop 1 ports) more) refl refl says_port_1 refl
    ∙ read_line (begun 2 (take 1 ports)) (Declares 2 (codes "g2") first_chip_domain) (codes "port 2 g2 chip 1") [] (port_lines (drop 2 ports) more) refl refl says_port_2 refl
    ∙ read_line (begun 3 (take 2 ports)) (Declares 3 (codes "g3") first_chip_domain) (codes "port 3 g3 chip 1") [] (port_lines (drop 3 ports) more) refl refl says_port_3 refl
    ∙ read_line (begun 4 (take 3 ports)) (Declares 4 (codes "g4") first_chip_domain) (codes "port 4 g4 chip 1") [] (port_lines (drop 4 ports) more) refl refl says_port_4 refl
    ∙ read_line (begun 5 (take 4 ports)) (Declares 5 (codes "g5") software) (codes "port 5 g5 soft") [] (port_lines (drop 5 ports) more) refl refl says_port_5 refl
    ∙ read_line (begun 6 (take 5 ports)) (Declares 6 (codes "g6") software) (codes "port 6 g6 soft") [] (port_lines (drop 6 ports) more) refl refl says_port_6 refl

says_first : whole_says (begun 7 ports).roster (codes "cmd port up g1") ≡ Ok (Does (Cmd (PortUp 1)))
unfolding computing
says_first = refl

first_read : (more : List ℕ) → read 0 (begun 7 ports) (step_text ports (Cmd (PortUp 1)) ++ more) ≡ read 0 (at 8 (Cmd (PortUp 1) ∷ [])) more
first_read more = read_line (begun 7 ports) (Does (Cmd (PortUp 1))) (codes "cmd port up g1") [] more refl refl says_first refl

end_read : (n : ℕ) (done : List Step) → read 0 (at n done) (codes "end" ++ 10 ∷ []) ≡ record { scenario = record (at (n + 1) done) { ending = Ended }; line = []; behind = [] }
unfolding computing
end_read n done =
    read_line (at n done) Ends (codes "end") [] [] refl refl refl refl
    ∙ ap (λ (all : List Step). record { scenario = record (at (n + 1) all) { ending = Ended }; line = []; behind = [] }) (append-nil done)

-- the steps behind the first
later : ℕ → ℕ → List Step
later x count = Cmd (PortUp 2) ∷ Cmd (PortUp 3) ∷ Cmd (PortUp 4) ∷ Cmd (PortUp 5) ∷ Cmd (PortUp 6) ∷ Publish ∷ frames_from count 1 x

later_good : (x count : ℕ) → count ≤ most_frames → AreGood (later x count)
unfolding later digits
later_good x count few =
    let good : (s : Step) → is_line (step_words ports s) ≡ true → length (step_words ports s) ≤ longest_line → has_line ports s ≡ true → comes_by_line false (chips_of ports) s ≡ true
    → is_whole s ≡ true → IsGood s =
    λ s a b c d e. record { feedless = a; short = b; line = c; comes = d; whole = e } in (
      good _ refl (omega arith) refl refl refl,
      (
        good _ refl (omega arith) refl refl refl,
        (
          good _ refl (omega arith) refl refl refl,
          (
            good _ refl (omega arith) refl refl refl,
            (
              good _ refl (omega arith) refl refl refl,
              (good _ refl (omega arith) refl refl refl, frames_good count 1 x (omega arith)),
            ),
          ),
        ),
      ),
    )

pub made_read : (x count : ℕ) → count ≤ most_frames → scenario (made x count) ≡ made_scenario x count
unfolding made later
made_read x count few =
    let tail : List ℕ = codes "end" ++ 10 ∷ [] in
    let rest : List Step = later x count in
    scenario_is (made x count)
    ∙ ap closed (
    head_read (flat_map (step_text ports) (steps x count) ++ tail)
    ∙ ap (read 0 (begun 7 ports)) (append_assoc (step_text ports (Cmd (PortUp 1))) (flat_map (step_text ports) rest) tail)
    ∙ first_read (flat_map (step_text ports) rest ++ tail)
    ∙ all_read rest 8 (Cmd (PortUp 1) ∷ []) tail (later_good x count few)
    ∙ end_read (8 + length rest) (Cmd (PortUp 1) ∷ rest)
    )
    ∙ ap (λ n. record (at n (steps x count)) { ending = Ended }) {x = 8 + length rest + 1} {y = 8 + length (steps x count)} (omega arith)
