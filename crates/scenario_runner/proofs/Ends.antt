-- How a command that runs a scenario ends, once its last line is written.
use Rattle.std.proofs.Common.{◌≡◌, ℕ, List, [], ◌++◌, Option, None, Some, Ok, Err, IfSome, String, string_bytes, inl, inr, refl, sym, ◌∙◌, ap, subst, arith, codes, append_assoc, length-append}
use Rattle.std.specs.declared.alloc.Global.{Global}
use Rattle.std.specs.Io.KnownBytes.{Appends, append_known}
use Rattle.std.proofs.KnownBytes.{Consumes-nil}
use Rattle.std.proofs.lemmas.List.{append-nil}
use Rattle.run_io.specs.Causes.{Rose}
use Rattle.br_model.specs.declared.listing.Listing.{Listing}
use Rattle.br_model.specs.declared.change.Change.{Change}
use Rattle.br_model.specs.Table.Limits.{most_bytes}
use Rattle.br_model.specs.Program.Listings.{listed, listed_at, listing_text}
use Rattle.br_model.specs.Program.Outcomes.{Call, Answers, Read, ReadsBehind, Wrote, scenario_lines}
use Rattle.br_model.specs.Plane.Runs.{run}
use Rattle.br_model.specs.Plane.World.{World, Stepped}
use Rattle.br_model.specs.Text.Roster.{Entry}
use Rattle.br_model.specs.Program.Runs.{body, body_parts, told, told_of, run_of, setup_of}
use Rattle.br_model.specs.Text.Scenario.{Scenario, Ending, Going, Ended, Bad, scenario}
use Rattle.br_model.specs.Table.Table.{table}
use Rattle.br_model.proofs.Plane.Running.{run_none}
use Rattle.scenario_runner.specs.declared.replay.Halt.TheVariants as halts
use Rattle.run_status.specs.declared.stop.Stop.{Stop}
use Rattle.run_status.specs.declared.stop.Stop.TheVariants as stops
use Rattle.scenario_reader.specs.declared.reader.Last.{Last}
use Rattle.scenario_reader.specs.declared.reader.Last.TheVariants as lasts
use Rattle.scenario_runner.specs.declared.session.Session.{Session}
use Rattle.run_status.specs.declared.status.Status.{Status}
use Rattle.run_status.specs.declared.status.Status.TheVariants as statuses
use Rattle.scenario_reader.specs.Reading.{ending_of}
use Rattle.scenario_runner.specs.Halting.{Answered, Halted, Halts, IsBehind, Plays, Told, Yields}
use Rattle.run_status.specs.Writing.{Breaks, Grows, Written}
use Rattle.run_status.specs.Statuses.{At, EndsIn, Replays, Ways, call_of, first_line, last_line, no_parts, nothing, reading_ways, replay_ways, scenario_ways}
use Rattle.scenario_runner.specs.Playing.{Below, Filled}
use Rattle.scenario_runner.specs.Session as session
use Rattle.run_status.specs.Stopping as stopping
use Rattle.br_model.specs.declared.steps.Step.{Step}
use Rattle.br_model.specs.Table.Setup.{Setup}
use Rattle.mcast_querier.specs.Runs.{queried, queried_at}
use Rattle.neigh_netlink.specs.Monitor.{monitored, monitored_at}
use Rattle.run_world.specs.declared.asking.Asking.{Asking as AskingOf}
use Rattle.run_world.specs.declared.monitor.Monitor.{Monitor as MonitorOf}
use Rattle.run_world.specs.declared.voice.Voice.{Voice}
use Rattle.run_world.specs.declared.voice.Voice.TheVariants.{Silent, Monitor, Querier}
use Rattle.scenario_runner.specs.Speaking.{answer_at, answer_by}
use Rattle.run_world.specs.Voices.{lines_of, said_by}
use Rattle.run_status.proofs.Ends.{Broke, Went, all_broke, all_wrote, by_status, grew, lacks, with_rest}
use Rattle.scenario_runner.proofs.Telling.{opened_more}

-- what the answer to some bytes depends on

unfoldable pub Same : (List ℕ → List ℕ) → Type 0
Same answer = (a b : List ℕ) → scenario a ≡ scenario b → answer a ≡ answer b

told_same : Same told
unfolding told Same
told_same a b e = ap told_of e

pub listed_same : (listing : Listing) → Same (listed listing)
unfolding listed Same
listed_same listing a b e = ap (λ (s : Scenario). listed_at s.ending listing s) e

pub answered_same : (voice : Voice) → Same (answer_by voice)
unfolding answer_by Same
answered_same voice a b e = ap (λ (s : Scenario). answer_at s.ending (lines_of voice (setup_of s.roster) s.steps)) e

pub whole_same : (answer : List ℕ → List ℕ) (left : Option (List ℕ)) (input : List ℕ) (ending : Ending) → Same answer → (scenario input).ending ≡ ending
    → IfSome left (λ bytes. scenario bytes ≡ scenario input)
    → IfSome left (λ bytes. ((scenario bytes).ending ≡ ending) × (answer bytes ≡ answer input))
unfolding Same
whole_same answer None input ending same e h = tt
whole_same answer (Some bytes) input ending same e h = (ap (λ (s : Scenario). s.ending) h ∙ e, same bytes input h)

module _ (failed : Type 0) (left left_now before now : Option (List ℕ)) (r : Status) where
  answers : (answer : List ℕ → List ℕ) (text : List ℕ) (last : Last) (after : Option (List ℕ)) → Same answer → Answered answer left left_now text last → Appends before after text
      → Answers scenario_lines answer (call_of left left_now before after) (ending_of last)
  answers answer text last after same t a = record {
    input = t.input;
    read = t.read;
    ends = t.ends;
    wrote = subst (λ (b : List ℕ). Appends before after b) t.answers a;
    whole = whole_same answer left t.input (ending_of last) same t.ends t.whole;
  }

  module _ (answer opening : List ℕ → List ℕ) (parts : ℕ → List ℕ → List ℕ) where
    abbrev W : Ways
    W = reading_ways failed scenario_lines most_bytes answer opening parts

    abbrev Ends : Type 0
    Ends = EndsIn W r (call_of left left_now before now)

    -- the scenario has ended
    ends : (text : List ℕ) (last : Last) → Same answer → Answered answer left left_now text last → (Went r → r ≡ session.status_of last) → (Went r → Appends before now text)
        → Broke r before now text → Ends
    ends text lasts.Ended same t =
        by_status W left left_now before now text statuses.Ok (λ after a. (answers answer text lasts.Ended after same t a, t.within)) r
    ends text (lasts.Bad n why) same t =
        by_status W left left_now before now text statuses.BadLine (λ after a. ((n, why, answers answer text (lasts.Bad n why) after same t a), t.within)) r

    -- the run stops
    stops_at : (all : List ℕ) (f : Below left most_bytes left_now all) → failed → (Went r → r ≡ statuses.ReadFault)
        → (Went r → Appends before now (opening f.stops.input ++ last_line (codes "read fault"))) → Broke r before now (opening f.stops.input ++ last_line (codes "read fault")) → Ends
    stops_at all f fault =
        by_status W left left_now before now (opening f.stops.input ++ last_line (codes "read fault")) statuses.ReadFault
        (λ after a. (fault, record { stops = record { input = f.stops.input; read = f.stops.read; going = f.stops.going; wrote = a }; below = f.below })) r

    fills : (all : List ℕ) (f : Filled left most_bytes left_now all) → (Went r → r ≡ statuses.TooLong)
        → (Went r → Appends before now (opening f.stops.input ++ last_line (codes "too long"))) → Broke r before now (opening f.stops.input ++ last_line (codes "too long")) → Ends
    fills all f =
        by_status W left left_now before now (opening f.stops.input ++ last_line (codes "too long")) statuses.TooLong
        (λ after a. record { stops = record { input = f.stops.input; read = f.stops.read; going = f.stops.going; wrote = a }; full = f.full }) r

  -- a replay

  abbrev Replayed : Type 0
  Replayed = EndsIn (replay_ways failed) r (call_of left left_now before now)

  replay_ends : (mid : Option (List ℕ)) (text : List ℕ) (x : Session) (last : Last) → Plays left left_now x before mid text (Ok last)
      → (Went r → r ≡ session.status_of last) → (Went r → Appends mid now (text ++ [])) → Broke r mid now (text ++ []) → Replayed
  replay_ends mid text x last p s a b =
      ends told body body_parts p.0 last told_same p.2.answered s
      (λ n. subst (λ (o : List ℕ). Appends before now o) (append-nil p.0) (all_wrote before mid now text p.0 [] p.1 (a n)))
      (λ e. subst (λ (o : List ℕ). Breaks before now o) (append-nil p.0) (all_broke before mid now text p.0 [] p.1 (b e)))

  -- with its last line
  all_lasts : (mid : Option (List ℕ)) (text all whole last : List ℕ) → Written before mid text all → all ≡ whole → (Went r → Appends mid now (text ++ last)) → Went r
      → Appends before now (whole ++ last)
  all_lasts mid text all whole last w is a n = subst (λ (o : List ℕ). Appends before now (o ++ last)) is (all_wrote before mid now text all last w (a n))

  breaks : (mid : Option (List ℕ)) (text all whole last : List ℕ) → Written before mid text all → all ≡ whole → Broke r mid now (text ++ last) → Broke r before now (whole ++ last)
  breaks mid text all whole last w is b e = subst (λ (o : List ℕ). Breaks before now (o ++ last)) is (all_broke before mid now text all last w (b e))

  replay_stops : (mid : Option (List ℕ)) (text : List ℕ) (stop : Stop) → Halted left left_now before mid text (halts.Stopped stop) → (stop ≡ stops.ReadFault → failed)
      → (Went r → r ≡ stopping.stop_status stop) → (Went r → Appends mid now (text ++ stopping.stop_line stop)) → Broke r mid now (text ++ stopping.stop_line stop) → Replayed
  replay_stops mid text stops.ReadFault p f s a b =
      stops_at told body body_parts p.0 p.2 (f refl) s (all_lasts mid text p.0 _ _ p.1 p.2.stops.told a) (breaks mid text p.0 _ _ p.1 p.2.stops.told b)
  replay_stops mid text stops.TooLong p f s a b =
      fills told body body_parts p.0 p.2 s (all_lasts mid text p.0 _ _ p.1 p.2.stops.told a) (breaks mid text p.0 _ _ p.1 p.2.stops.told b)
  replay_stops mid text stops.NoMemory p f s a b =
      lacks failed scenario_lines most_bytes left left_now before now r told body body_parts p.2.input p.2.count p.2.read s
      (all_lasts mid text p.0 _ _ p.1 p.2.told a) (breaks mid text p.0 _ _ p.1 p.2.told b)

  -- a text that is written when the scenario has ended

  pub yield_ends : (answer : List ℕ → List ℕ) → Same answer → (x : Last × String Global) → Yields answer left left_now (Ok x) → (Went r → r ≡ session.status_of x.0)
      → (Went r → Appends before now (string_bytes x.1))
      → Broke r before now (string_bytes x.1) → EndsIn (scenario_ways failed answer) r (call_of left left_now before now)
  yield_ends answer same x p = ends answer nothing no_parts (string_bytes x.1) x.0 same p

  pub yield_stops : (answer : List ℕ → List ℕ) (stop : Stop) → Yields answer left left_now (Err stop) → (stop ≡ stops.ReadFault → failed) → (Went r → r ≡ stopping.stop_status stop)
      → (Went r → Appends before now (stopping.stop_line stop)) → Broke r before now (stopping.stop_line stop) → EndsIn (scenario_ways failed answer) r (call_of left left_now before now)
  yield_stops answer stops.ReadFault p f = stops_at answer nothing no_parts p.0 p.1 (f refl)
  yield_stops answer stops.TooLong p f = fills answer nothing no_parts p.0 p.1
  yield_stops answer stops.NoMemory p f = lacks failed scenario_lines most_bytes left left_now before now r answer nothing no_parts p.0 0 p.1

-- what any status says of what was read and written

module _ (failed : Type 0) (answer opening : List ℕ → List ℕ) (parts : ℕ → List ℕ → List ℕ) where
  abbrev Seen : Call → Type 0
  Seen c = (input : List ℕ) × Read c input × (output : List ℕ) × Wrote c output

  whole_seen : (r : Status) (c : Call) → At (reading_ways failed scenario_lines most_bytes answer opening parts) r c → Seen c
  whole_seen statuses.Ok c h = (h.0.input, h.0.read, _, h.0.wrote)
  whole_seen statuses.No c h = absurd h
  whole_seen statuses.Usage c h = absurd h
  whole_seen statuses.BadLine c h = (h.0.2.input, h.0.2.read, _, h.0.2.wrote)
  whole_seen statuses.ReadFault c h = (h.1.stops.input, h.1.stops.read, _, h.1.stops.wrote)
  whole_seen statuses.WriteFault c h = absurd h
  whole_seen statuses.NoMemory c h = (h.input, h.read, _, h.wrote)
  whole_seen statuses.TooLong c h = (h.stops.input, h.stops.read, _, h.stops.wrote)

  seen : (r : Status) (c : Call) → EndsIn (reading_ways failed scenario_lines most_bytes answer opening parts) r c → Seen c
  seen statuses.Ok c h = whole_seen statuses.Ok c h
  seen statuses.No c h = absurd h
  seen statuses.Usage c h = absurd h
  seen statuses.BadLine c h = whole_seen statuses.BadLine c h
  seen statuses.ReadFault c h = whole_seen statuses.ReadFault c h
  seen statuses.WriteFault c h = let o = whole_seen h.otherwise.0 (record c { taken_now = append_known c.taken_now h.missing }) h.otherwise.1 in (o.0, o.1, h.output, h.wrote)
  seen statuses.NoMemory c h = whole_seen statuses.NoMemory c h
  seen statuses.TooLong c h = whole_seen statuses.TooLong c h

-- a replay with its first line

module _ (failed : Type 0) (left left_now before now : Option (List ℕ)) (r : Status) where
  replays : IsBehind left left_now before now → EndsIn (replay_ways failed) r (call_of left left_now before now) → Replays failed r (call_of left left_now before now)
  replays b h = let s = seen failed told body body_parts r (call_of left left_now before now) h in (h, first b s)
    where
      first : IsBehind left left_now before now → Seen failed told body body_parts (call_of left left_now before now) → ReadsBehind first_line (call_of left left_now before now)
      first (inl none) s = record { input = []; read = none; output = s.2; wrote = s.3; behind = inl refl }
      first (inr o) s = record { input = s.0; read = s.1; output = first_line ++ o.0; wrote = o.1; behind = inr (o.0, refl) }

  still_behind : (mid : Option (List ℕ)) → IsBehind left left_now before mid → Grows mid now → IsBehind left left_now before now
  still_behind mid (inl none) g = inl none
  still_behind mid (inr o) g = inr (opened_more before mid now o g)

  pub replays_end : (mid : Option (List ℕ)) (text : List ℕ) (x : Session) (last : Last) → Plays left left_now x before mid text (Ok last) → IsBehind left left_now before mid
      → (Went r → r ≡ session.status_of last) → (Went r → Appends mid now (text ++ [])) → Broke r mid now (text ++ []) → Replays failed r (call_of left left_now before now)
  replays_end mid text x last p first s a b =
      replays (still_behind mid first (grew mid now (text ++ []) r a b)) (replay_ends failed left left_now before now r mid text x last p s a b)

  pub replays_stop : (mid : Option (List ℕ)) (text : List ℕ) (stop : Stop) → Halted left left_now before mid text (halts.Stopped stop) → IsBehind left left_now before mid
      → (stop ≡ stops.ReadFault → failed) → (Went r → r ≡ stopping.stop_status stop) → (Went r → Appends mid now (text ++ stopping.stop_line stop)) → Broke r mid now (text ++ stopping.stop_line stop)
      → Replays failed r (call_of left left_now before now)
  replays_stop mid text stop p first f s a b =
      replays (still_behind mid first (grew mid now (text ++ stopping.stop_line stop) r a b)) (replay_stops failed left left_now before now r mid text stop p f s a b)

-- a write failed on the way
pub replays_break : (failed : Type 0) (left left_now before now : Option (List ℕ)) (text : List ℕ) → Halted left left_now before now text halts.WriteFault → IsBehind left left_now before now
    → Replays failed statuses.WriteFault (call_of left left_now before now)
replays_break failed left left_now before now text p first =
    let last : List ℕ = last_line (codes "no memory") in
    let missing : List ℕ = p.1 ++ last in
    replays failed left left_now before now statuses.WriteFault first (record {
      output = p.2.gone;
      wrote = p.2.wrote;
      missing = missing;
      some = omega (arith, length-append p.1 last);
      otherwise = (
        statuses.NoMemory,
        record {
          input = p.3.input;
          read = p.3.read;
          count = p.3.count;
          wrote =
              subst (λ (o : List ℕ). Appends before (append_known now missing) o)
              (sym (append_assoc p.2.gone p.1 last) ∙ ap (λ (o : List ℕ). o ++ last) (sym p.2.together ∙ p.3.told)) (with_rest before now p.2.gone missing p.2.wrote);
        },
      );
    })

-- there is no memory for its first line
pub replays_nothing : (before now : Option (List ℕ)) (r : Status) (left : Option (List ℕ)) → (Went r → r ≡ statuses.NoMemory) → (Went r → Appends before now (last_line (codes "no memory")))
    → Broke r before now (last_line (codes "no memory")) → (failed : Type 0) → Replays failed r (call_of left left before now)
unfolding body_parts
replays_nothing before now r left s a b failed =
    replays failed left left before now r (inl (Consumes-nil left)) (lacks failed scenario_lines most_bytes left left before now r told body body_parts [] 0 (Consumes-nil left) s a b)

history_is : (s : Scenario) (w : Option World) → session.IsWorld s w → session.history_of w ≡ (run_of s).0.history
history_is s None h =
    sym (ap (λ (x : Stepped). x.0.history) (ap (run (setup_of s.roster)) h ∙ run_none (setup_of s.roster)))
history_is s (Some w) h = ap (λ (w : World). w.history) h.0

listing_is : (listing : Listing) (s : Scenario) (x : Session) (last : Last) → session.Agrees s x
    → session.listing_or_bad listing last x.reader.roster.ports x.world ≡ listed_at (ending_of last) listing s
listing_is listing s x lasts.Ended h =
    ap (λ (ports : List Entry). listing_text listing ports (table (session.history_of x.world))) h.ports
    ∙ ap (λ (history : List Change). listing_text listing s.roster.ports (table history)) (history_is s x.world h.world)
listing_is listing s x (lasts.Bad n why) h = refl

answer_is : (listing : Listing) (input : List ℕ) (d : Ending) → (scenario input).ending ≡ d → listed_at d listing (scenario input) ≡ listed listing input
unfolding listed
answer_is listing input d e = ap (λ (d : Ending). listed_at d listing (scenario input)) (sym e)

-- the listing of a session at its end
pub listed_by : (left now : Option (List ℕ)) (listing : Listing) (x : Session) (all text : List ℕ) (last : Last) → Told left now x all last
    → text ≡ session.listing_or_bad listing last x.reader.roster.ports x.world → Answered (listed listing) left now text last
listed_by left now listing x all text last t is = record {
  input = t.answered.input;
  read = t.answered.read;
  ends = t.answered.ends;
  answers = is ∙ listing_is listing (scenario t.answered.input) x last t.agrees ∙ answer_is listing t.answered.input (ending_of last) t.answered.ends;
  whole = t.answered.whole;
  within = t.answered.within;
}

-- what was said of the run, at its end

said_is : (s : Scenario) (v : Voice) → session.IsSaid s v → said_by v ≡ lines_of v (setup_of s.roster) s.steps
said_is s Silent h = refl
said_is s (Monitor m) h = h
said_is s (Querier a) h = h.1

answered_is : (v : Voice) (input : List ℕ) (d : Ending) → (scenario input).ending ≡ d → answer_at d (lines_of v (setup_of (scenario input).roster) (scenario input).steps) ≡ answer_by v input
unfolding answer_by
answered_is v input d e = ap (λ (d : Ending). answer_at d (lines_of v (setup_of (scenario input).roster) (scenario input).steps)) (sym e)

pub said_at_end : (left now : Option (List ℕ)) (v : Voice) (x : Session) (all text : List ℕ) (last : Last) → Told left now x all last → lines_of x.voice ≡ lines_of v
    → text ≡ answer_at (ending_of last) (said_by x.voice) → Answered (answer_by v) left now text last
said_at_end left now v x all text last t same is =
    let s = scenario t.answered.input in
    let lines : said_by x.voice ≡ lines_of v (setup_of s.roster) s.steps =
    said_is s x.voice t.agrees.said ∙ ap (λ (l : Setup → List Step → List ℕ). l (setup_of s.roster) s.steps) same in record {
      input = t.answered.input;
      read = t.answered.read;
      ends = t.answered.ends;
      answers = is ∙ ap (λ (l : List ℕ). answer_at (ending_of last) l) lines ∙ answered_is v t.answered.input (ending_of last) t.answered.ends;
      whole = t.answered.whole;
      within = t.answered.within;
    }

-- of a monitor
pub monitored_is : (m : MonitorOf) → answer_by (Monitor m) ≡ monitored
unfolding answer_by monitored
monitored_is m = λ i bytes. at (scenario bytes) (scenario bytes).ending i
  where
    at : (s : Scenario) (d : Ending) → answer_at d (lines_of (Monitor m) (setup_of s.roster) s.steps) ≡ monitored_at d s
    at s Going = refl
    at s Ended = refl
    at s (Bad n why) = refl

-- of a querier
pub queried_is : (a : AskingOf) → answer_by (Querier a) ≡ queried a.addresses.four a.addresses.six
unfolding answer_by queried
queried_is a = λ i bytes. at (scenario bytes) (scenario bytes).ending i
  where
    at : (s : Scenario) (d : Ending) → answer_at d (lines_of (Querier a) (setup_of s.roster) s.steps) ≡ queried_at d a.addresses.four a.addresses.six s
    at s Going = refl
    at s Ended = refl
    at s (Bad n why) = refl

-- when faults come

pub calm_ends : (last : Last) (s : Status) → s ≡ session.status_of last → Went s
calm_ends lasts.Ended s e = λ f. let g : statuses.Ok ≡ statuses.WriteFault = sym e ∙ f in absurd (cc)
calm_ends (lasts.Bad n why) s e = λ f. let g : statuses.BadLine ≡ statuses.WriteFault = sym e ∙ f in absurd (cc)

pub read_failed : (T : Type 0) (reads reads_now writes writes_now : ℕ) (stop : Stop) → Halts {T = T} reads reads_now writes writes_now (Err (halts.Stopped stop)) → stop ≡ stops.ReadFault
    → Rose reads reads_now
read_failed T reads reads_now writes writes_now stops.ReadFault h e = h
read_failed T reads reads_now writes writes_now stops.NoMemory h e = absurd (cc)
read_failed T reads reads_now writes writes_now stops.TooLong h e = absurd (cc)

pub yields_stop : (left now before after : Option (List ℕ)) (text : List ℕ) (answer : List ℕ → List ℕ) (stop : Stop) → Halted left now before after text (halts.Stopped stop)
    → Yields answer left now (Err stop)
yields_stop left now before after text answer stops.ReadFault h = (h.0, h.2)
yields_stop left now before after text answer stops.NoMemory h = (h.2.input, h.2.read)
yields_stop left now before after text answer stops.TooLong h = (h.0, h.2)
