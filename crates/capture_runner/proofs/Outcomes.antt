-- How each command ends, once its last line is written.
use Rattle.std.proofs.Common.{◌≡◌, ℕ, List, Option, None, Some, Ok, Err, IfSome, String, string_bytes, refl, sym, ◌∙◌, ap, subst, codes}
use Rattle.std.specs.declared.alloc.Global.{Global}
use Rattle.std.specs.Io.KnownBytes.{Appends}
use Rattle.run_io.specs.Causes.{Rose}
use Rattle.br_model.specs.Table.Limits.{most_bytes, most_live_bytes}
use Rattle.br_model.specs.Program.Listings.{listed}
use Rattle.br_model.specs.Program.Checks.{HasChecked}
use Rattle.br_model.specs.Program.Generator.{made}
use Rattle.br_model.specs.Program.Outcomes.{Answers, Call, HasLines, Lines, scenario_lines}
use Rattle.br_model.specs.Program.Summary.{summary}
use Rattle.br_model.specs.Program.Runs.{bad_alone, bad_told, body, body_parts, told}
use Rattle.br_model.specs.Text.Scenario.{Scenario, Bad, scenario}
use Rattle.br_model.proofs.Program.LiveRuns.{live_is}
use Rattle.br_model.proofs.Program.Completing.{AreApart, never_bad, never_filled, never_found_bad, never_full, scenarios_apart}
use Rattle.chip_audit.specs.Lines.{audited}
use Rattle.scenario_reader.specs.declared.reader.Last.{Last as LastRead}
use Rattle.scenario_reader.specs.declared.reader.Last.TheVariants as read_lasts
use Rattle.command_line.specs.declared.asked.Asked.{Asked}
use Rattle.command_line.specs.declared.asked.Asked.TheVariants as asks
use Rattle.run_status.specs.declared.stop.Stop.{Stop}
use Rattle.run_status.specs.declared.stop.Stop.TheVariants as stops
use Rattle.run_status.specs.declared.status.Status.{Status}
use Rattle.run_status.specs.declared.status.Status.TheVariants as statuses
use Rattle.capture_runner.specs.Living.{AnsweredLive, StopsLiving}
use Rattle.capture_runner.specs.Outcome.{Asks, EndsWell, Outcome, follow_ways}
use Rattle.run_status.specs.Statuses.{Caused, EndsIn, call_of, check_ways, last_line, live_ways, no_parts, nothing, reading_ways, scenario_ways, writing_ways}
use Rattle.capture_runner.specs.Following as following
use Rattle.run_status.specs.Stopping as stopping
use Rattle.neigh_netlink.specs.declared.follower.FollowEnd.{FollowEnd}
use Rattle.neigh_netlink.specs.declared.follower.FollowEnd.TheVariants as follow_lasts
use Rattle.neigh_netlink.specs.Follow.{Ending as FollowEnding, Following as FollowingLines, followed, followed_at, follows}
use Rattle.neigh_netlink.specs.MessageLines.{ending_of as follow_ending, message_lines}
use Rattle.mcast_querier.specs.Runs.{queried}
use Rattle.neigh_netlink.specs.Monitor.{monitored}
use Rattle.capture_runner.proofs.Followed.{messages_apart}
use Rattle.run_status.proofs.Ends.{Broke, Went, by_status, checks_nothing, lives_nothing, reads_nothing, refuses_nothing, writes_nothing}
use Rattle.scenario_runner.specs.Session.{status_of}
use Rattle.scenario_runner.proofs.Ends.{Same, replays_nothing, whole_same}

-- a run by workers

bad_same : Same bad_told
unfolding bad_told Same
bad_same a b e = ap (λ (s : Scenario). bad_alone s.ending) e

module _ (failed : Type 0) (left left_now before now : Option (List ℕ)) (r : Status) where
  abbrev Living : Type 0
  Living = EndsIn (live_ways failed) r (call_of left left_now before now)

  pub live_ends : (last : LastRead) (text : List ℕ) → AnsweredLive left left_now text last → (Went r → r ≡ status_of last) → (Went r → Appends before now text) → Broke r before now text → Living
  live_ends read_lasts.Ended text p =
      by_status (live_ways failed) left left_now before now text statuses.Ok (λ after a. (
        record {
          input = p.input;
          read = p.read;
          ends = p.ends;
          steps = p.steps;
          live = live_is p.steps (scenario p.input) p.live;
          written = p.written;
          wrote = subst (λ (b : List ℕ). Appends before after b) p.text_is a;
          whole = p.whole;
        },
        p.within,
      )) r
  live_ends (read_lasts.Bad n why) text p =
      by_status (live_ways failed) left left_now before now text statuses.BadLine (λ after a. (
        (
          n,
          why,
          record {
            input = p.input;
            read = p.read;
            ends = p.ends;
            wrote = subst (λ (b : List ℕ). Appends before after b) p.text_is a;
            whole = whole_same bad_told left p.input (Bad n why) bad_same p.ends p.whole;
          },
        ),
        p.within,
      )) r

  pub live_stops : (stop : Stop) → StopsLiving left left_now stop → (stop ≡ stops.ReadFault → failed) → (Went r → r ≡ stopping.stop_status stop)
      → (Went r → Appends before now (stopping.stop_line stop))
      → Broke r before now (stopping.stop_line stop) → Living
  live_stops stops.ReadFault p f =
      by_status (live_ways failed) left left_now before now (last_line (codes "read fault")) statuses.ReadFault
      (λ after a. (f refl, record { stops = record { input = p.1.stops.input; read = p.1.stops.read; going = p.1.stops.going; wrote = a }; below = p.1.below })) r
  live_stops stops.TooLong p f =
      by_status (live_ways failed) left left_now before now (last_line (codes "too long")) statuses.TooLong
      (λ after a. record { stops = record { input = p.1.stops.input; read = p.1.stops.read; going = p.1.stops.going; wrote = a }; full = p.1.full }) r
  live_stops stops.NoMemory p f =
      by_status (live_ways failed) left left_now before now (last_line (codes "no memory")) statuses.NoMemory
      (λ after a. record { input = p.0; read = p.1; count = 0; wrote = a }) r

-- there is no memory at first

module _ (before now : Option (List ℕ)) (r : Status) (left : Option (List ℕ)) (s : Went r → r ≡ statuses.NoMemory) (a : Went r → Appends before now (last_line (codes "no memory")))
    (b : Broke r before now (last_line (codes "no memory"))) where
  abbrev unread : Call
  unread = call_of left left before now

  reads : (failed : Type 0) (answer : List ℕ → List ℕ) → EndsIn (scenario_ways failed answer) r unread
  reads failed = reads_nothing before now r left s a b failed scenario_lines most_bytes

  pub lacks_at_first : (failed : Type 0) (a : Option Asked) → Outcome failed a r unread
  lacks_at_first failed None = refuses_nothing before now r left s a b
  lacks_at_first failed (Some asks.Replay) = replays_nothing before now r left s a b failed
  lacks_at_first failed (Some asks.Check) = checks_nothing before now r left s a b failed
  lacks_at_first failed (Some (asks.Show listing)) = reads failed (listed listing)
  lacks_at_first failed (Some asks.Monitor) = reads failed monitored
  lacks_at_first failed (Some asks.Audit) = reads failed audited
  lacks_at_first failed (Some asks.Follow) = reads_nothing before now r left s a b failed message_lines most_bytes followed
  lacks_at_first failed (Some (asks.Querier four six)) = reads failed (queried four six)
  lacks_at_first failed (Some (asks.Live workers)) = lives_nothing before now r left s a b failed
  lacks_at_first failed (Some (asks.Gen number count)) = writes_nothing before now r left (made number count) s a b
  lacks_at_first failed (Some (asks.Demo number count)) = writes_nothing before now r left (summary number count) s a b

pub outcome_by : (failed : Type 0) (c : Call) (a b : Option Asked) (r : Status) → a ≡ b → Outcome failed b r c → Outcome failed a r c
outcome_by failed c a b r is o = subst (λ (a : Option Asked). Outcome failed a r c) (sym is) o

-- completeness

module _ (failed : Type 0) (c : Call) (reads reads_now writes writes_now : ℕ) (read_well : Rose reads reads_now → ⊥) (wrote_well : Rose writes writes_now → ⊥) where
  reading : {End Why : Type 0} (a : Option Asked) (lines : Lines End Why) (apart : AreApart lines) (limit : ℕ) (answer opening : List ℕ → List ℕ) (parts : ℕ → List ℕ → List ℕ) (r : Status)
      → HasLines lines limit c → EndsIn (reading_ways failed lines limit answer opening parts) r c → Caused r reads reads_now writes writes_now → EndsWell a r
  reading a lines apart limit answer opening parts statuses.Ok has o cause = tt
  reading a lines apart limit answer opening parts statuses.No has o cause = absurd o
  reading a lines apart limit answer opening parts statuses.Usage has o cause = o
  reading a lines apart limit answer opening parts statuses.BadLine has o cause = never_bad lines apart answer c limit has o.0
  reading a lines apart limit answer opening parts statuses.ReadFault has o cause = read_well cause
  reading a lines apart limit answer opening parts statuses.WriteFault has o cause = wrote_well cause
  reading a lines apart limit answer opening parts statuses.NoMemory has o cause = tt
  reading a lines apart limit answer opening parts statuses.TooLong has o cause = never_full lines apart limit opening c (last_line (codes "too long")) has o

  checking : (r : Status) → HasChecked most_bytes c → EndsIn (check_ways failed) r c → Caused r reads reads_now writes writes_now → EndsWell (Some asks.Check) r
  checking statuses.Ok has o cause = tt
  checking statuses.No has o cause = refl
  checking statuses.Usage has o cause = o
  checking statuses.BadLine has o cause = never_found_bad most_bytes c has o
  checking statuses.ReadFault has o cause = read_well cause
  checking statuses.WriteFault has o cause = wrote_well cause
  checking statuses.NoMemory has o cause = tt
  checking statuses.TooLong has o cause = never_filled most_bytes nothing c (last_line (codes "too long")) has o

  living : (workers : ℕ) (r : Status) → HasLines scenario_lines most_live_bytes c → EndsIn (live_ways failed) r c
      → Caused r reads reads_now writes writes_now → EndsWell (Some (asks.Live workers)) r
  living workers statuses.Ok has o cause = tt
  living workers statuses.No has o cause = absurd o
  living workers statuses.Usage has o cause = o
  living workers statuses.BadLine has o cause = never_bad scenario_lines scenarios_apart bad_told c most_live_bytes has o.0
  living workers statuses.ReadFault has o cause = read_well cause
  living workers statuses.WriteFault has o cause = wrote_well cause
  living workers statuses.NoMemory has o cause = tt
  living workers statuses.TooLong has o cause = never_full scenario_lines scenarios_apart most_live_bytes nothing c (last_line (codes "too long")) has o

  writing : (a : Option Asked) (output : List ℕ) (r : Status) → EndsIn (writing_ways output) r c → Caused r reads reads_now writes writes_now → EndsWell a r
  writing a output statuses.Ok o cause = tt
  writing a output statuses.No o cause = absurd o
  writing a output statuses.Usage o cause = o
  writing a output statuses.BadLine o cause = o
  writing a output statuses.ReadFault o cause = o
  writing a output statuses.WriteFault o cause = wrote_well cause
  writing a output statuses.NoMemory o cause = tt
  writing a output statuses.TooLong o cause = o

  completes : (a : Option Asked) (r : Status) → Outcome failed a r c → Caused r reads reads_now writes writes_now → Asks a c → EndsWell a r
  completes None r o cause has = absurd has
  completes (Some asks.Replay) r o cause has = reading (Some asks.Replay) scenario_lines scenarios_apart most_bytes told body body_parts r has o.0 cause
  completes (Some asks.Check) r o cause has = checking r has o cause
  completes (Some (asks.Show listing)) r o cause has = reading (Some (asks.Show listing)) scenario_lines scenarios_apart most_bytes (listed listing) nothing no_parts r has o cause
  completes (Some asks.Monitor) r o cause has = reading (Some asks.Monitor) scenario_lines scenarios_apart most_bytes monitored nothing no_parts r has o cause
  completes (Some asks.Audit) r o cause has = reading (Some asks.Audit) scenario_lines scenarios_apart most_bytes audited nothing no_parts r has o cause
  completes (Some (asks.Querier four six)) r o cause has = reading (Some (asks.Querier four six)) scenario_lines scenarios_apart most_bytes (queried four six) nothing no_parts r has o cause
  completes (Some asks.Follow) r o cause has = reading (Some asks.Follow) message_lines messages_apart most_bytes followed nothing no_parts r has o cause
  completes (Some (asks.Live workers)) r o cause has = living workers r has o cause
  completes (Some (asks.Gen number count)) r o cause has = writing (Some (asks.Gen number count)) (made number count) r o cause
  completes (Some (asks.Demo number count)) r o cause has = writing (Some (asks.Demo number count)) (summary number count) r o cause

  pub completes_by : (a b : Option Asked) (r : Status) → a ≡ b → Outcome failed b r c → Caused r reads reads_now writes writes_now → Asks a c → EndsWell a r
  completes_by a b r is o cause has =
      subst (λ (x : Option Asked). EndsWell x r) (sym is) (completes b r o cause (subst (λ (b : Option Asked). Asks b c) is has))

-- lines of messages

module _ (failed : Type 0) (left left_now before now : Option (List ℕ)) (r : Status) where
  abbrev Followed : Type 0
  Followed = EndsIn (follow_ways failed) r (call_of left left_now before now)

  followed_same : (left : Option (List ℕ)) (input : List ℕ) (ending : FollowEnding) → (follows input).ending ≡ ending → IfSome left (λ bytes. follows bytes ≡ follows input)
      → IfSome left (λ bytes. ((follows bytes).ending ≡ ending) × (followed bytes ≡ followed input))
  unfolding followed
  followed_same None input ending e h = tt
  followed_same (Some bytes) input ending e h = (ap (λ (f : FollowingLines). f.ending) h ∙ e, ap (λ (f : FollowingLines). followed_at f.ending f.table) h)

  follow_answers : (text : List ℕ) (end : FollowEnd) (after : Option (List ℕ)) → following.Answered left left_now text end → Appends before after text
      → Answers message_lines followed (call_of left left_now before after) (follow_ending end)
  follow_answers text end after t a = record {
    input = t.input;
    read = t.read;
    ends = t.ends;
    wrote = subst (λ (b : List ℕ). Appends before after b) t.answers a;
    whole = followed_same left t.input (follow_ending end) t.ends t.whole;
  }

  -- the lines have ended
  pub follow_ends : (x : FollowEnd × String Global) → following.Yields left left_now (Ok x) → (Went r → r ≡ following.status_of x.0) → (Went r → Appends before now (string_bytes x.1))
      → Broke r before now (string_bytes x.1) → Followed
  follow_ends x = by (string_bytes x.1) x.0
    where
      by : (text : List ℕ) (end : FollowEnd) → following.Answered left left_now text end → (Went r → r ≡ following.status_of end) → (Went r → Appends before now text) → Broke r before now text
          → Followed
      by text follow_lasts.Ended t =
          by_status (follow_ways failed) left left_now before now text statuses.Ok (λ after a. (follow_answers text follow_lasts.Ended after t a, t.within)) r
      by text (follow_lasts.Bad n why) t =
          by_status (follow_ways failed) left left_now before now text statuses.BadLine (λ after a. ((n, why, follow_answers text (follow_lasts.Bad n why) after t a), t.within)) r

  -- the reading stops
  pub follow_stops : (stop : Stop) → following.Yields left left_now (Err stop) → (stop ≡ stops.ReadFault → failed) → (Went r → r ≡ stopping.stop_status stop)
      → (Went r → Appends before now (stopping.stop_line stop)) → Broke r before now (stopping.stop_line stop) → Followed
  follow_stops stops.ReadFault p f =
      by_status (follow_ways failed) left left_now before now (last_line (codes "read fault")) statuses.ReadFault
      (λ after a. (f refl, record { stops = record { input = p.stops.input; read = p.stops.read; going = p.stops.going; wrote = a }; below = p.below })) r
  follow_stops stops.TooLong p f =
      by_status (follow_ways failed) left left_now before now (last_line (codes "too long")) statuses.TooLong
      (λ after a. record { stops = record { input = p.stops.input; read = p.stops.read; going = p.stops.going; wrote = a }; full = p.full }) r
  follow_stops stops.NoMemory p f =
      by_status (follow_ways failed) left left_now before now (last_line (codes "no memory")) statuses.NoMemory
      (λ after a. record { input = p.0; read = p.1; count = 0; wrote = a }) r

pub calm_follow : (end : FollowEnd) (s : Status) → s ≡ following.status_of end → Went s
calm_follow follow_lasts.Ended s e = λ f. let g : statuses.Ok ≡ statuses.WriteFault = sym e ∙ f in absurd (cc)
calm_follow (follow_lasts.Bad n why) s e = λ f. let g : statuses.BadLine ≡ statuses.WriteFault = sym e ∙ f in absurd (cc)
