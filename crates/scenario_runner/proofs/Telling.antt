-- The text of a run, from its first line to its last.
use Rattle.std.proofs.Common.{◌≡◌, ◌⊎◌, ℕ, ◌+◌, ◌≤◌, ◌==◌, ◌||◌, false, not, nat_lt, is_some, List, [], ◌∷◌, ◌++◌, length, take, drop}
use Rattle.std.proofs.Common.{None, Some, Option, Result, Ok, Err, inl, inr, refl, sym, ◌∙◌, ap, subst, arith, codes, append_assoc, length-append}
use Rattle.std.specs.Io.KnownBytes.{Appends, Consumes}
use Rattle.std.specs.List.{list_all}
use Rattle.std.proofs.KnownBytes.{Appends-trans}
use Rattle.std.proofs.lemmas.List.{append-nil}
use Rattle.run_io.specs.declared.lines.LineFault.{LineFault}
use Rattle.run_io.specs.Reading.{Reading, holds_next, is_no_feed, max_line}
use Rattle.br_model.specs.Table.Limits.{most_bytes}
use Rattle.br_model.specs.Plane.Runs.{end_line}
use Rattle.br_model.specs.Plane.World.{World}
use Rattle.br_model.specs.Program.Runs.{run_of, body_of, body, body_parts, told, last_text}
use Rattle.br_model.specs.Text.Scenario.{Scenario, Ending, opened, scenario}
use Rattle.br_model.specs.Text.Transcript.{line_text, text as lines_text}
use Rattle.br_model.proofs.Program.SameRuns.{no_steps, no_steps_end}
use Rattle.scenario_runner.specs.declared.replay.Halt.{Halt}
use Rattle.scenario_runner.specs.declared.replay.Halt.TheVariants.{Stopped, WriteFault}
use Rattle.run_status.specs.declared.stop.Stop.{Stop}
use Rattle.run_status.specs.declared.stop.Stop.TheVariants.{ReadFault, NoMemory, TooLong}
use Rattle.scenario_reader.specs.declared.reader.Last.{Last}
use Rattle.scenario_reader.specs.declared.reader.Last.TheVariants as lasts
use Rattle.scenario_runner.specs.declared.session.Session.{Session}
use Rattle.run_world.specs.declared.voice.Voice.{Voice}
use Rattle.scenario_runner.specs.Advancing.{Advanced}
use Rattle.run_status.specs.Writing.{Breaks, Grows, Moves, Written}
use Rattle.scenario_runner.specs.Halting.{IsBehind, IsOpened, Told, Plays, PlayedSection}
use Rattle.run_status.specs.Statuses.{first_line}
use Rattle.scenario_runner.specs.Playing.{Playing, Played}
use Rattle.scenario_reader.specs.Reading.{ReaderState, ending_of}
use Rattle.scenario_runner.specs.Session.{Follows, IsSaid, IsWorld, end_line_of, last_line}
use Rattle.scenario_runner.proofs.Reaching.{lacked_all, lacks_none}
use Rattle.run_status.proofs.Writing.{broken, moved, nothing_wrote}

nothing_read : (left : Option (List ℕ)) (held : List ℕ) → held ≡ [] → Consumes left left held
nothing_read None held h = tt
nothing_read (Some xs) held h = ap (λ (b : List ℕ). b ++ xs) (sym h)

-- the run at its start
pub started : (left : Option (List ℕ)) (reader : Reading) (session : Session) (text : List ℕ) → reader.held ≡ [] → reader.taken ≡ 0 → reader.limit ≡ most_bytes → reader.fault ≡ None
    → Follows (opened false) session → session.reader.lines ≡ 0 → text ≡ codes "transcript 1" ++ 10 ∷ [] → Playing left most_bytes reader left session text
started left reader session text held none top fault follows lines told = record {
  scenario = opened false;
  reached = record {
    lines = [];
    input = reader.held;
    given = nothing_read left reader.held held;
    parts = refl;
    reads = λ more. refl;
    counts = omega (arith, none, ap length held);
    within = omega (arith, none);
    limited = top;
  };
  follows = follows;
  told = told ∙ sym (no_steps (opened false) refl);
  numbers = omega (arith, lines);
  sound = fault;
}

-- and more is held
pub grown : (before after : Option (List ℕ)) (old new : List ℕ) (all : List ℕ) (w : Written before after old all) → Written before after new (w.gone ++ new)
grown before after old new all w = record { gone = w.gone; wrote = w.wrote; together = refl }

-- the last line

last_world : (s : Scenario) (w : Option World) → IsWorld s w → end_line_of w ≡ end_line (run_of s).0
last_world s None h = sym (no_steps_end s h)
last_world s (Some w) h = ap end_line h.0

last_is : (s : Scenario) (w : Option World) (last : Last) → IsWorld s w → last_line last w ≡ last_text (ending_of last) (run_of s).0
last_is s w lasts.Ended h = ap line_text (last_world s w h)
last_is s w (lasts.Bad n why) h = refl

told_by : (input text : List ℕ) (w : Option World) (last : Last) → (scenario input).ending ≡ ending_of last → IsWorld (scenario input) w → text ≡ body input → text ++ last_line last w ≡ told input
unfolding told body
told_by input text w last ends world body_is =
    ap (λ (b : List ℕ). b ++ last_line last w) body_is
    ∙ ap (λ (b : List ℕ). body_of (run_of (scenario input)) ++ b) (last_is (scenario input) w last world ∙ ap (λ (d : Ending). last_text d (run_of (scenario input)).0) (sym ends))

-- Its writer may be another one then.
pub finished : (left now : Option (List ℕ)) (x y : Session) (text : List ℕ) (last : Last) → y.reader ≡ x.reader → y.world ≡ x.world → y.voice ≡ x.voice → Played left most_bytes now x text last
    → Told left now y (text ++ last_line last x.world) last
finished left now x y text last reader world voice p = record {
  answered = record {
    input = p.input;
    read = p.read;
    ends = p.ends;
    answers = told_by p.input text x.world last p.ends p.agrees.world p.told;
    whole = p.whole;
    within = p.within;
  };
  agrees = record {
    ports = ap (λ (r : ReaderState). r.roster.ports) reader ∙ p.agrees.ports;
    world = subst (λ (w : Option World). IsWorld (scenario p.input) w) (sym world) p.agrees.world;
    said = subst (λ (v : Voice). IsSaid (scenario p.input) v) (sym voice) p.agrees.said;
  };
}

-- a line takes a byte at least
pub few_lines : (left now : Option (List ℕ)) (reader : Reading) (x : Session) (text : List ℕ) → Playing left most_bytes reader now x text → x.reader.lines ≤ most_bytes
few_lines left now reader x text p =
    omega (arith, p.numbers, ap length p.reached.parts, length-append p.reached.lines reader.held, p.reached.counts, p.reached.within)

-- a line was read, with its text held

pub split_all : (before after : Option (List ℕ)) (text all : List ℕ) (w : Written before after text all) (left now : Option (List ℕ)) (reader : Reading) (session : Session)
    → Playing left most_bytes reader now session all → Playing left most_bytes reader now session (w.gone ++ text)
split_all before after text all w left now reader session p = subst (λ (b : List ℕ). Playing left most_bytes reader now session b) w.together p

pub play_ends : (left now before after : Option (List ℕ)) (x y : Session) (held all text text' : List ℕ) (w : Written before after held all) (last : Last) → y.reader ≡ x.reader
    → y.world ≡ x.world → y.voice ≡ x.voice
    → Played left most_bytes now x (w.gone ++ text) last → text' ≡ text ++ last_line last x.world → (whole : List ℕ) × Written before after text' whole × Told left now y whole last
play_ends left now before after x y held all text text' w last roster world voice p e = (
  w.gone ++ text',
  record { gone = w.gone; wrote = w.wrote; together = refl },
  subst (λ (b : List ℕ). Told left now y b last) (append_assoc w.gone text (last_line last x.world) ∙ ap (λ (b : List ℕ). w.gone ++ b) (sym e))
      (finished left now x y (w.gone ++ text) last roster world voice p),
)

pub play_stops : (left now before after : Option (List ℕ)) (reader : Reading) (x : Session) (held all text : List ℕ) (w : Written before after held all) (stop : Stop) (result : Result Last Halt)
    → result ≡ Err (Stopped stop) → Advanced left most_bytes reader now x (w.gone ++ text) (Err stop) → Plays left now x before after text result
play_stops left now before after reader x held all text w ReadFault result is a =
    subst (Plays left now x before after text) (sym is) (w.gone ++ text, record { gone = w.gone; wrote = w.wrote; together = refl }, a)
play_stops left now before after reader x held all text w TooLong result is a =
    subst (Plays left now x before after text) (sym is) (w.gone ++ text, record { gone = w.gone; wrote = w.wrote; together = refl }, a)
play_stops left now before after reader x held all text w NoMemory result is a =
    subst (Plays left now x before after text) (sym is) (w.gone ++ text, record { gone = w.gone; wrote = w.wrote; together = refl }, a)

-- there is no memory for the first line
pub first_lacks : (left taken : Option (List ℕ)) (x : Session) (text : List ℕ) (result : Result Last Halt) → text ≡ [] → result ≡ Err (Stopped NoMemory) → Plays left left x taken taken text result
unfolding body_parts
first_lacks left taken x text result none is =
    subst (Plays left left x taken taken text) (sym is) (
      [],
      record { gone = []; wrote = nothing_wrote taken; together = sym none },
      record { input = []; read = nothing_read left [] refl; count = 0; told = refl },
    )

-- a write fails between two lines
pub play_breaks : (left now before mid after : Option (List ℕ)) (reader : Reading) (x y : Session) (text text' all : List ℕ) (result : Result Last Halt) → Written before mid text all
    → Playing left most_bytes reader now x all → Breaks mid after text → result ≡ Err WriteFault → Plays left now y before after text' result
play_breaks left now before mid after reader x y text text' all result w p b is =
    subst (Plays left now y before after text') (sym is)
    (all, drop b.0 text, broken before mid after text all w b, lacked_all left most_bytes now reader p.scenario [] p.reached all p.told)

-- there is no memory for the last line
pub end_lacks : (left now before after : Option (List ℕ)) (x y : Session) (text text' all : List ℕ) (last : Last) (result : Result Last Halt) → Written before after text all
    → Played left most_bytes now x all last → text' ≡ text → result ≡ Err (Stopped NoMemory) → Plays left now y before after text' result
end_lacks left now before after x y text text' all last result w p same is =
    subst (Plays left now y before after text') (sym is)
    (all, subst (λ (b : List ℕ). Written before after b all) (sym same) w, lacks_none left now p.input all p.read p.told)

-- a section was read, and perhaps its steps done

pub section_ends : (left now before after : Option (List ℕ)) (reader : Reading) (x y : Session) (text text' : List ℕ) (last : Last) → y.reader ≡ x.reader → y.world ≡ x.world → y.voice ≡ x.voice
    → PlayedSection left reader now x before after text (Ok (Some last))
    → text' ≡ text ++ last_line last x.world → (whole : List ℕ) × Written before after text' whole × Told left now y whole last
section_ends left now before after reader x y text text' last roster world voice p e =
    play_ends left now before after x y text p.0 text text' p.1 last roster world voice (subst (λ (b : List ℕ). Played left most_bytes now x b last) p.1.together p.2) e

pub section_halts : (left now before after : Option (List ℕ)) (reader : Reading) (x y : Session) (text : List ℕ) (halt : Halt) (result : Result Last Halt) → result ≡ Err halt
    → PlayedSection left reader now x before after text (Err halt) → Plays left now y before after text result
section_halts left now before after reader x y text halt result is p = subst (Plays left now y before after text) (sym is) p

-- and the first line was there before
pub opened_more : (begun mid after : Option (List ℕ)) → IsOpened begun mid → Grows mid after → IsOpened begun after
opened_more begun mid after o g =
    (o.0 ++ g.0, subst (λ (b : List ℕ). Appends begun after b) (append_assoc first_line o.0 g.0) (Appends-trans _ _ _ _ _ o.1 g.1))

-- before a line: nothing was read, so that a reader holds none, or the first line is written
abbrev pub StandsBehind : Reading → Option (List ℕ) → Option (List ℕ) → Option (List ℕ) → Option (List ℕ) → Type 0
StandsBehind reader left now before after = ((holds_next reader ≡ false) × Consumes left now []) ⊎ IsOpened before after

-- at first
none_held : (r : Reading) → r.held ≡ [] → r.taken ≡ 0 → r.limit ≡ most_bytes → r.fault ≡ None → holds_next r ≡ false
none_held r held taken limit fault =
    ap (λ (o : Option LineFault). is_some o || not (list_all is_no_feed r.held) || nat_lt max_line (length r.held) || (r.taken == r.limit)) fault
    ∙ ap (λ (bytes : List ℕ). not (list_all is_no_feed bytes) || nat_lt max_line (length bytes) || (r.taken == r.limit)) held
    ∙ ap (λ n. n == r.limit) taken
    ∙ ap (λ n. 0 == n) limit

pub first_unread : (left before : Option (List ℕ)) (r : Reading) → r.held ≡ [] → r.taken ≡ 0 → r.limit ≡ most_bytes → r.fault ≡ None → StandsBehind r left left before before
first_unread left before r held taken limit fault = inl (none_held r held taken limit fault, nothing_read left [] refl)

-- what a body begins with
first_of : (s : Scenario) → body_of (run_of s) ≡ first_line ++ lines_text (run_of s).1
first_of s = sym (append_assoc (codes "transcript 1") (10 ∷ []) (lines_text (run_of s).1))

-- all goes to the sink before the first read
pub opens : (left now begun mid after : Option (List ℕ)) (reader : Reading) (x : Session) (text text' all : List ℕ) → Written begun mid text all → Playing left most_bytes reader now x all
    → Moves mid after text text' → (holds_next reader ≡ false → text' ≡ []) → StandsBehind reader left now begun mid → IsOpened begun after
opens left now begun mid after reader x text text' all w p m empty (inl h) =
    let v = moved begun mid after text text' all w m in (
      lines_text (run_of p.scenario).1,
      subst (λ (b : List ℕ). Appends begun after b)
          (sym (append-nil v.gone) ∙ ap (λ (b : List ℕ). v.gone ++ b) (sym (empty h.0)) ∙ sym v.together ∙ p.told ∙ first_of p.scenario) v.wrote,
    )
opens left now begun mid after reader x text text' all w p m empty (inr o) = opened_more begun mid after o (m.moved, m.wrote)

-- or some of it does
pub behind_broken : (left now begun mid after : Option (List ℕ)) (reader : Reading) (text : List ℕ) → Breaks mid after text → StandsBehind reader left now begun mid → IsBehind left now begun after
behind_broken left now begun mid after reader text b (inl h) = inl h.1
behind_broken left now begun mid after reader text b (inr o) = inr (opened_more begun mid after o (take b.0 text, b.2))

pub unread_behind : (left taken : Option (List ℕ)) → IsBehind left left taken taken
unread_behind left taken = inl (nothing_read left [] refl)
