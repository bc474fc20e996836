-- What would become of a line.
use Rattle.std.proofs.Common.{◌≡◌, ℕ, zero, suc, ◌+◌, ◌<◌, ◌≤◌, true, false, if◌then◌else◌, List, [], ◌∷◌, ◌++◌, length, nat_lt, Option, Some, Result, Ok, Err, refl, sym, ◌∙◌, ap, subst, IfOk, ◌⊎◌, inl, inr}
use Rattle.std.proofs.Common.{arith}
use Rattle.br_model.specs.declared.capture.Packet.{Packet}
use Rattle.br_model.specs.declared.scenario.Item.{Item}
use Rattle.br_model.specs.declared.scenario.LineWhy.{LineWhy}
use Rattle.br_model.specs.declared.scenario.LineWhy.TheVariants as why
use Rattle.br_model.specs.declared.scenario.Said.{Said}
use Rattle.br_model.specs.declared.scenario.Said.TheVariants.{Blank, Opens, Bridge, Declares, Does, Captures, Ends}
use Rattle.br_model.specs.Text.LineForms.{line_says}
use Rattle.br_model.specs.Text.Roster.{Roster}
use Rattle.br_model.specs.Text.Scenario.{Scenario, Ending, Going, Bad, Progress, bad, captured, longest_line, read, reads, section_length, takes, takes_steps, whole_says}
use Rattle.br_model.specs.Theorems.WholeLines.{is_line}
use Rattle.br_model.specs.Wire.Captures.{Fault, cut, packets, read as read_blocks}
use Rattle.br_model.proofs.Text.Reading.{read_bad, read_line, read_long, read_part}
use Rattle.scenario_reader.specs.declared.reader.Last.{Last}
use Rattle.scenario_reader.specs.declared.reader.Last.TheVariants as lasts
use Rattle.scenario_reader.specs.Reading.{Follows, ReaderState}
use Rattle.scenario_text.specs.Items.{Reads, item_of}
use Rattle.whole_texts.specs.declared.replaying.Told.{Told}
use Rattle.whole_texts.specs.declared.session.Awaits.{Awaits}
use Rattle.whole_texts.specs.declared.session.Awaits.TheVariants.{Line}
use Rattle.whole_texts.specs.declared.session.Session.{Session}
use Rattle.whole_texts.specs.Sessions.{IsAt, SoAt, state}
use Rattle.whole_texts.specs.Trials.{EndsFor, TellsEnd, ending_at, ending_with, item_ends}

-- the second, where it isn't the first
the_other : {A B : Type 0} → A ⊎ B → (A → ⊥) → B
the_other (inl a) not = absurd (not a)
the_other (inr b) not = b

-- a section of no bytes has no packets
no_packets : (ports : ℕ) → packets [] ports ≡ Ok []
unfolding cut read_blocks
no_packets ports = refl

-- of no more bytes nothing more is read
reads_nothing : (s : Scenario) → (read 0 s []).scenario.ending ≡ s.ending
unfolding read
reads_nothing s = refl

module _ (s : Scenario) (line : List ℕ) (going : s.ending ≡ Going) (feed : is_line line ≡ true) where
  abbrev ends : Ending
  ends = (reads s (line ++ 10 ∷ [])).ending

  taken : (said : Said) → whole_says s.roster line ≡ Ok said → 0 ≡ section_length said → ends ≡ (takes s said []).ending
  taken said says sized = ap (λ (p : Progress). p.scenario.ending) (read_line s said line [] [] going feed says sized) ∙ reads_nothing (takes s said [])

  empty : takes_steps s (Captures 0) (captured s.roster.ports (packets [] (length s.roster.ports))) ≡ takes_steps s (Captures 0) (Ok [])
  empty = ap (λ (r : Result (List Packet) Fault). takes_steps s (Captures 0) (captured s.roster.ports r)) (no_packets (length s.roster.ports))

  -- it says this
  pub says_so : (said : Said) → whole_says s.roster line ≡ Ok said → ending_at (item_ends (item_of said)) ≡ ends
  says_so Blank says = sym (taken Blank says refl)
  says_so (Opens edition) says = sym (taken (Opens edition) says refl)
  says_so (Bridge mac) says = sym (taken (Bridge mac) says refl)
  says_so (Declares port name dom) says = sym (taken (Declares port name dom) says refl)
  says_so (Does step) says = sym (taken (Does step) says refl)
  says_so (Captures zero) says = sym (taken (Captures 0) says refl ∙ ap (λ (t : Scenario). t.ending) empty)
  says_so (Captures (suc n)) says = sym (ap (λ (p : Progress). p.scenario.ending) (read_part s (Captures (suc n)) line [] going feed says (omega arith)) ∙ going)
  says_so Ends says = sym (taken Ends says refl)

  -- it is bad
  pub is_bad : (because : LineWhy) → whole_says s.roster line ≡ Err because → Bad (s.lines + 1) because ≡ ends
  is_bad because says = sym (ap (λ (p : Progress). p.scenario.ending) (read_bad s because line [] going feed says))

  pub is_long : longest_line < length line → Bad (s.lines + 1) why.Long ≡ ends
  is_long long = sym (ap (λ (t : Scenario). t.ending) (read_long s line (10 ∷ []) going feed long))

  short_says : length line ≤ longest_line → whole_says s.roster line ≡ line_says s.roster line
  short_says short = ap (λ b. if b then Err why.Long else line_says s.roster line) (not_long (length line) short)
    where
      not_long : (n : ℕ) → n ≤ longest_line → nat_lt longest_line n ≡ false
      not_long n h = grind arith

  module _ (x : ReaderState) (f : Follows s x) (short : length line ≤ longest_line) where
    here : (said : Result Said LineWhy) → line_says x.roster line ≡ said → whole_says s.roster line ≡ said
    here said says = short_says short ∙ ap (λ (r : Roster). line_says r line) (sym f.roster) ∙ says

    pub item_so : (r q : Roster) (item : Item) → r ≡ x.roster → Reads r q line item → ending_at (item_ends item) ≡ ends
    item_so r q item same h =
        ap (λ (i : Item). ending_at (item_ends i)) h.gives ∙ says_so h.said (here (Ok h.said) (ap (λ (p : Roster). line_says p line) (sym same) ∙ h.says))

    why_so : (r : Roster) (because : LineWhy) (last : Last) → r ≡ x.roster → line_says r line ≡ Err because → last ≡ lasts.Bad (x.lines + 1) because
        → ending_at (Some last) ≡ ends
    why_so r because last same says is =
        ap (λ (l : Last). ending_at (Some l)) is ∙ ap (λ (n : ℕ). Bad (n + 1) because) f.lines
        ∙ is_bad because (here (Err because) (ap (λ (p : Roster). line_says p line) (sym same) ∙ says))

  pub long_so : (x : ReaderState) → Follows s x → (last : Last) → longest_line < length line → last ≡ lasts.Bad (x.lines + 1) why.Long → ending_at (Some last) ≡ ends
  long_so x f last long is = ap (λ (l : Last). ending_at (Some l)) is ∙ ap (λ (n : ℕ). Bad (n + 1) why.Long) f.lines ∙ is_long long

-- for which this was answered
pub bad_told : {E : Type 0} (x : ReaderState) (line : List ℕ) (r : Roster) (because : LineWhy) (o : Result (Option Last) E) → is_line line ≡ true → length line ≤ longest_line → r ≡ x.roster
    → (because ≡ why.NoMemory) ⊎ (line_says r line ≡ Err because) → IfOk o (EndsFor x.lines because)
    → IfOk o (λ end. (s : Scenario) → Follows s x → ending_at end ≡ (reads s (line ++ 10 ∷ [])).ending)
bad_told x line r because (Ok end) feed short same bad h =
    λ s f. ap ending_at h.1 ∙ why_so s line f.going feed x f short r because (lasts.Bad (x.lines + 1) because) same (the_other bad h.0) refl
bad_told x line r because (Err e) feed short same bad h = tt

-- in a session that waits for a line
pub session_so : (x : Session) (line : List ℕ) (end : Option Last) → x.awaits ≡ Line
    → ((s : Scenario) → Follows s x.play.reader → ending_at end ≡ (reads s (line ++ 10 ∷ [])).ending)
    → (bytes given : List ℕ) → IsAt bytes given x → ending_at end ≡ ending_with bytes line
session_so x line end waits ends bytes given at =
    let so : SoAt Line bytes given (state x) = subst (λ (a : Awaits). SoAt a bytes given (state x)) waits at.so in
    ends so.scenario so.stands.follows ∙ ap (λ (p : Progress). p.scenario.ending) (sym (so.reads_so (line ++ 10 ∷ [])))

pub trial_told : {E : Type 0} (x : Session) (line : List ℕ) (end : Option Last) (r : Result Told E) → ((bytes given : List ℕ) → IsAt bytes given x → ending_at end ≡ ending_with bytes line)
    → IfOk r (TellsEnd (ending_at end)) → IfOk r (λ told. (bytes given : List ℕ) → IsAt bytes given x → TellsEnd (ending_with bytes line) told)
trial_told x line end (Ok told) same h = λ bytes given at. subst (λ (e : Ending). TellsEnd e told) (same bytes given at) h
trial_told x line end (Err e) same h = tt
