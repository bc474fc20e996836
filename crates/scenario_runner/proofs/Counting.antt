-- Lines are counted, step by step.
use Rattle.std.proofs.Common.{◌≡◌, ℕ, ◌+◌, ◌≤◌, false, cond, length, List, [], ◌∷◌, ◌++◌, codes, refl, sym, ◌∙◌, ap, subst, arith, append_assoc, append-nil}
use Rattle.std.specs.Fmt.{decimal}
use Rattle.std.specs.Str.{bytes_eq}
use Rattle.std.proofs.lemmas.List.Sums.{sum_by-append}
use Rattle.br_model.specs.declared.steps.Step.{Step}
use Rattle.br_model.specs.declared.transcript.Line.{Line}
use Rattle.br_model.specs.Program.Generator.{made_scenario, most_frames, steps}
use Rattle.br_model.specs.Plane.Runs.{run, then_step, pending}
use Rattle.br_model.specs.Plane.Steps.{world_step}
use Rattle.br_model.specs.Plane.World.{World, Stepped, first_world}
use Rattle.br_model.specs.Program.Runs.{run_of, setup_of}
use Rattle.br_model.specs.Text.Scenario.{Scenario}
use Rattle.br_model.specs.Table.Setup.{Setup}
use Rattle.br_model.specs.Program.Summary.{kind_of, count_of, summary, summary_text}
use Rattle.br_model.proofs.Program.MadeRead.{made_read}
use Rattle.br_model.proofs.Plane.Running.{run_push, run_none}
use Rattle.scenario_runner.specs.declared.demo.Tally.{Tally}
use Rattle.transcript_lines.specs.Rows.{sent_lines}
use Rattle.scenario_runner.specs.Counting.{Tallies, Adds, AddsSent, Ran, RunsOn}

-- the tally of lines more, by how many of each kind they are
pub adds : (old new : Tally) (lines : List Line) → new.chip ≡ old.chip + count_of (codes "chip") lines → new.soft ≡ old.soft + count_of (codes "soft") lines
    → new.tx ≡ old.tx + count_of (codes "tx") lines → new.overrun ≡ old.overrun + count_of (codes "overrun") lines → Adds old lines new
adds old new lines chip soft tx overrun before t = record {
  chip = one (codes "chip") chip t.chip;
  soft = one (codes "soft") soft t.soft;
  tx = one (codes "tx") tx t.tx;
  overrun = one (codes "overrun") overrun t.overrun;
}
  where
    one : (word : List ℕ) {x y : ℕ} → x ≡ y + count_of word lines → y ≡ count_of word before → x ≡ count_of word (before ++ lines)
    one word e f = e ∙ ap (λ n. n + count_of word lines) f ∙ sym (sum_by-append (λ line. cond (bytes_eq (kind_of line) word) 1 0) before lines)

pub adds_none : (t : Tally) → Adds t [] t
adds_none t before h = subst (λ (lines : List Line). Tallies lines t) (sym (append-nil before)) h

pub adds_more : (a b c : Tally) (lines more : List Line) → Adds a lines b → Adds b more c → Adds a (lines ++ more) c
adds_more a b c lines more h k before t = subst (λ (all : List Line). Tallies all c) (append_assoc before lines more) (k (before ++ lines) (h before t))

-- the lines of a frame that leaves these ports, of each kind

one_more : (word : List ℕ) (lines more : List Line) → count_of word (lines ++ more) ≡ count_of word lines + count_of word more
one_more word lines more = sum_by-append (λ line. cond (bytes_eq (kind_of line) word) 1 0) lines more

tx_sent : (id : ℕ) (ports untagged plain tagged : List ℕ) → count_of (codes "tx") (sent_lines id ports untagged plain tagged) ≡ length ports
tx_sent id [] untagged plain tagged = refl
tx_sent id (port ∷ ports) untagged plain tagged =
    omega (arith, one_more (codes "tx") (sent_lines id (port ∷ []) untagged plain tagged) (sent_lines id ports untagged plain tagged), tx_sent id ports untagged plain tagged)

none_sent : (word : List ℕ) → bytes_eq (codes "tx") word ≡ false → (id : ℕ) (ports untagged plain tagged : List ℕ) → count_of word (sent_lines id ports untagged plain tagged) ≡ 0
none_sent word other id [] untagged plain tagged = refl
none_sent word other id (port ∷ ports) untagged plain tagged =
    let first : count_of word (sent_lines id (port ∷ []) untagged plain tagged) ≡ 0 = rw other refl in
    omega (arith, one_more word (sent_lines id (port ∷ []) untagged plain tagged) (sent_lines id ports untagged plain tagged), first, none_sent word other id ports untagged plain tagged)

pub adds_sent : (old new : Tally) (ports : List ℕ) → new.chip ≡ old.chip → new.soft ≡ old.soft → new.tx ≡ old.tx + length ports → new.overrun ≡ old.overrun → AddsSent old ports new
adds_sent old new ports chip soft tx overrun id untagged plain tagged =
    adds old new (sent_lines id ports untagged plain tagged)
    (omega (arith, chip, none_sent (codes "chip") refl id ports untagged plain tagged))
    (omega (arith, soft, none_sent (codes "soft") refl id ports untagged plain tagged))
    (omega (arith, tx, tx_sent id ports untagged plain tagged))
    (omega (arith, overrun, none_sent (codes "overrun") refl id ports untagged plain tagged))

pub runs_none : (w : World) (t : Tally) → RunsOn w t [] w t
runs_none w t setup before h = subst (λ (done : List Step). Ran setup done w t) (sym (append-nil before)) h

-- one step more
pub runs_step : (w u : World) (a c : Tally) (step : Step) (lines : List Line) → (u, lines) ≡ world_step w step → Adds a lines c → RunsOn w a (step ∷ []) u c
runs_step w u a c step lines stepped added setup before ran =
    let x : Stepped = run setup before in
    let next : (u, lines) ≡ world_step x.0 step = stepped ∙ ap (λ (w : World). world_step w step) ran.world_is in
    let all : run setup (before ++ step ∷ []) ≡ then_step x step = run_push setup before step in record {
      world_is = ap (λ (y : Stepped). y.0) next ∙ sym (ap (λ (y : Stepped). y.0) all);
      tallies = subst (λ (l : List Line). Tallies l c) (ap (λ (y : Stepped). x.1 ++ y.1) next ∙ sym (ap (λ (y : Stepped). y.1) all)) (added x.1 ran.tallies);
    }

pub runs_more : (w v u : World) (a b c : Tally) (done more : List Step) → RunsOn w a done v b → RunsOn v b more u c → RunsOn w a (done ++ more) u c
runs_more w v u a b c done more h k setup before ran =
    subst (λ (all : List Step). Ran setup all u c) (append_assoc before done more) (k setup (before ++ done) (h setup before ran))

-- before the first step
pub ran_none : (setup : Setup) (w : World) (t : Tally) → w ≡ first_world setup → Tallies [] t → Ran setup [] w t
ran_none setup w t e h = record {
  world_is = e ∙ sym (ap (λ (x : Stepped). x.0) (run_none setup));
  tallies = subst (λ (l : List Line). Tallies l t) (sym (ap (λ (x : Stepped). x.1) (run_none setup))) h;
}

-- the line of these counts
pub line_is : (frames : ℕ) (w : World) (t : Tally) (lines : List Line) → Tallies lines t
    → codes "demo frames " ++ (decimal
    frames ++ (codes " chip " ++ (decimal
    t.chip ++ (codes " soft " ++ (decimal
    t.soft ++ (codes " tx " ++ (decimal
    t.tx ++ (codes " overrun " ++ (decimal t.overrun ++ (codes " changes " ++ (decimal (length w.history) ++ (codes " pending " ++ (decimal (pending w) ++ 10 ∷ [])))))))))))))
    ≡ summary_text frames (w, lines)
line_is frames w t lines h =
    λ i. codes "demo frames " ++ (decimal
    frames ++ (codes " chip " ++ (decimal
    (h.chip i) ++ (codes " soft " ++ (decimal
    (h.soft i) ++ (codes " tx " ++ (decimal
    (h.tx i) ++ (codes " overrun " ++ (decimal (h.overrun i) ++ (codes " changes " ++ (decimal (length w.history) ++ (codes " pending " ++ (decimal (pending w) ++ 10 ∷ [])))))))))))))

-- the summary of the whole run
pub summed : (x count : ℕ) (w : World) (t : Tally) → count ≤ most_frames → Ran (setup_of (made_scenario x count).roster) (steps x count) w t
    → summary x count ≡ summary_text count (w, (run_of (made_scenario x count)).1)
unfolding summary
summed x count w t few r =
    ap (λ (s : Scenario). summary_text count (run_of s)) (made_read x count few)
    ∙ ap (λ (v : World). summary_text count (v, (run_of (made_scenario x count)).1)) (sym r.world_is)

-- the line of a run that is over
pub summary_is : (x count changes waiting : ℕ) (w : World) (t : Tally) (done : List Step) → count ≤ most_frames → Ran (setup_of (made_scenario x count).roster) done w t
    → done ≡ steps x count → changes ≡ length w.history → waiting ≡ pending w
    → codes "demo frames " ++ (decimal
    count ++ (codes " chip " ++ (decimal
    t.chip ++ (codes " soft " ++ (decimal
    t.soft ++ (codes " tx " ++ (decimal t.tx ++ (codes " overrun " ++ (decimal t.overrun ++ (codes " changes " ++ (decimal changes ++ (codes " pending " ++ (decimal waiting ++ 10 ∷ [])))))))))))))
    ≡ summary x count
summary_is x count changes waiting w t done few r whole c p =
    let ran = subst (λ (l : List Step). Ran (setup_of (made_scenario x count).roster) l w t) whole r in
    (λ i. codes "demo frames " ++ (decimal
    count ++ (codes " chip " ++ (decimal
    t.chip ++ (codes " soft " ++ (decimal
    t.soft ++ (codes " tx " ++ (decimal t.tx ++ (codes " overrun " ++ (decimal t.overrun ++ (codes " changes " ++ (decimal (c i) ++ (codes " pending " ++ (decimal (p i) ++ 10 ∷ []))))))))))))))
    ∙ line_is count w t (run_of (made_scenario x count)).1 ran.tallies
    ∙ sym (summed x count w t few ran)
