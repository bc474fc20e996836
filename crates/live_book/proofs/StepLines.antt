-- The lines of a step tell whether it accepted changes, and whether it was refused for want of room.
use Rattle.std.proofs.Common.{◌≡◌, ℕ, ◌+◌, ◌==◌, nat_lt, Bool, true, false, not, ◌&&◌, ◌||◌, cond, if◌then◌else◌, List}
use Rattle.std.proofs.Common.{[], ◌∷◌, ◌++◌, length, Option, None, Some, refl, sym, ap, ap₂, ◌∙◌, arith, length-append}
use Rattle.std.proofs.Math.Bool.{and-true}
use Rattle.std.specs.List.{fold, list_all, list_any}
use Rattle.std.specs.declared.result.Result.{Result}
use Rattle.std.specs.declared.result.Result.TheVariants.{Ok, Err}
use Rattle.std.proofs.lemmas.List.Folds.{list_all-append, list_any-append}
use Rattle.std.proofs.lemmas.List.Sums.{fold-append}
use Rattle.lemmas.proofs.Numbers.{ltb-itself}
use Rattle.lemmas.proofs.Tests.{or-false}
use Rattle.br_model.specs.declared.bpdu.BpduMsg.{BpduMsg}
use Rattle.br_model.specs.declared.change.Change.{Change}
use Rattle.br_model.specs.declared.frame.Class.{Class}
use Rattle.br_model.specs.declared.frame.Head.{Head}
use Rattle.br_model.specs.declared.steps.Event.TheVariants as events
use Rattle.br_model.specs.declared.steps.Refusal.{Refusal}
use Rattle.br_model.specs.declared.steps.Refusal.TheVariants.{HistoryFull, NothingReported}
use Rattle.br_model.specs.declared.steps.Step.{Step}
use Rattle.br_model.specs.declared.steps.Step.TheVariants.{Report}
use Rattle.br_model.specs.declared.transcript.Line.{Line}
use Rattle.br_model.specs.declared.transcript.Line.TheVariants as lines
use Rattle.br_model.specs.Control.Learning.{Triple}
use Rattle.br_model.specs.Control.Reaction.{Reaction}
use Rattle.br_model.specs.Control.Refusals.{refusal_number}
use Rattle.br_model.specs.Forward.Shares.{chip_out, soft_out}
use Rattle.br_model.specs.Plane.Chip.{applies, Chip}
use Rattle.br_model.specs.Plane.ChipSteps.{tells, reports}
use Rattle.br_model.specs.Plane.Entering.{class_of}
use Rattle.br_model.specs.Plane.Serving.{holds, posts}
use Rattle.br_model.specs.Plane.Steps.{publishes, world_step}
use Rattle.br_model.specs.Plane.World.{World, Waiting, Holding, Stepped, accepts, after_lines, answered, chip_at, control_lines, done, reacts, refused, sent, table_at, table_of_chip, with_chip}
use Rattle.br_model.specs.Program.LiveRun.{is_report_at, says_full}
use Rattle.br_model.specs.Theorems.FrameLines.{entering}
use Rattle.br_model.proofs.Plane.StepEnds.{Ends, does-ends, ends_answered, ends_applied, ends_entered, ends_held, ends_idle, ends_published, ends_refused, ends_sent, ends_unread}
use Rattle.br_model.proofs.Plane.StepEnds.{by_chip, by_software, Enters, finds_room, Joins, overruns, passes_by}
use Rattle.live_book.specs.Reading.{is_published, refused_after}

-- lines that tell of no step
record Quiet (told : List Line) : Type 0 where
  all : (may : ℕ → Bool) → list_all (is_published may) told ≡ true
  same : (is_report : ℕ → Bool) (b : Bool) → fold (refused_after is_report) b told ≡ b

nothing : Quiet []
nothing = record { all = λ may. refl; same = λ is_report b. refl }

quiet_sent : (id : ℕ) (out : List (ℕ × List ℕ)) → Quiet (sent id out)
quiet_sent id [] = record { all = λ may. refl; same = λ is_report b. refl }
quiet_sent id (x ∷ out) = let q = quiet_sent id out in record { all = q.all; same = q.same }

quiet_control : (own : ℕ) (messages : List (ℕ × BpduMsg)) → Quiet (control_lines own messages)
quiet_control own [] = record { all = λ may. refl; same = λ is_report b. refl }
quiet_control own (x ∷ messages) = let q = quiet_control own messages in record { all = q.all; same = q.same }

-- What a step leaves that began with so many steps and this history: its lines tell whether it accepted changes, and change nothing of
-- what is known of a chip's reports unless it is one of them.
pub record Told (number : ℕ) (history : List Change) (y : Stepped) : Type 0 where
  pub steps : y.0.steps ≡ number
  pub published : (may : ℕ → Bool) → list_all (is_published may) y.1 ≡ (not (nat_lt (length history) (length y.0.history)) || may number)
  pub kept : (is_report : ℕ → Bool) (b : Bool) → is_report number ≡ false → fold (refused_after is_report) b y.1 ≡ b

grown : (a b : ℕ) → (b == 0) ≡ not (nat_lt a (a + b))
grown a b = grind arith

-- where nothing is accepted
unchanged : (history after : List Change) (c : Bool) → after ≡ history → (not (nat_lt (length history) (length after)) || c) ≡ true
unchanged history after c same =
    ap (λ (h : List Change). not (nat_lt (length history) (length h)) || c) same ∙ ap (λ b. not b || c) (ltb-itself (length history))

silent : (number : ℕ) (history : List Change) (y : Stepped) → y.0.steps ≡ number → y.0.history ≡ history → Quiet y.1 → Told number history y
silent number history y steps same q = record {
  steps = steps;
  published = λ may. q.all may ∙ sym (unchanged history y.0.history (may number) same);
  kept = λ is_report b none. q.same is_report b;
}

behind : (number : ℕ) (history : List Change) (before : List Line) (y : Stepped) → Quiet before → Told number history y → Told number history (after_lines before y)
behind number history before y q t = record {
  steps = t.steps;
  published = λ may. list_all-append (is_published may) before y.1 ∙ ap (λ b. b && list_all (is_published may) y.1) (q.all may) ∙ t.published may;
  kept = λ is_report b none. fold-append (refused_after is_report) b before y.1 ∙ ap (λ c. fold (refused_after is_report) c y.1) (q.same is_report b) ∙ t.kept is_report b none;
}

by_refused : (w : World) (why : Refusal) → Told w.steps w.history (refused w why)
by_refused w why = record {
  steps = refl;
  published = λ may. sym (unchanged w.history w.history (may w.steps) refl);
  kept = λ is_report b none. ap (λ c. cond c (refusal_number why == refusal_number HistoryFull) b) none;
}

by_done : (w : World) → Told w.steps w.history (done w)
by_done w = record {
  steps = refl;
  published = λ may. sym (unchanged w.history w.history (may w.steps) refl);
  kept = λ is_report b none. ap (λ c. cond c false b) none;
}

ended : (w : World) (r : Reaction) → Told w.steps w.history (accepts w r, lines.Done w.steps (length r.changes) ∷ [])
ended w r = record {
  steps = refl;
  published = λ may.
      and-true ((length r.changes == 0) || may w.steps)
      ∙ ap (λ b. b || may w.steps) (grown (length w.history) (length r.changes) ∙ ap (λ n. not (nat_lt (length w.history) n)) (sym (length-append w.history r.changes)));
  kept = λ is_report b none. ap (λ c. cond c false b) none;
}

by_answered : (w v : World) (r : Result Reaction Refusal) → v.steps ≡ w.steps → v.history ≡ w.history → Told w.steps w.history (answered w v r)
by_answered w v (Err why) steps history = by_refused w why
by_answered w v (Ok r) steps history =
    let t = behind v.steps v.history (control_lines v.setup.own r.messages) (accepts v r, lines.Done v.steps (length r.changes) ∷ []) (quiet_control v.setup.own r.messages) (ended v r) in record {
      steps = t.steps ∙ steps;
      published = λ may. t.published may ∙ ap₂ (λ (h : List Change) n. not (nat_lt (length h) (length (v.history ++ r.changes))) || may n) history steps;
      kept = λ is_report b none. t.kept is_report b (ap is_report steps ∙ none);
    }

decided : (id changes applied : ℕ) (class : Class) (out : List (ℕ × List ℕ)) → Quiet (lines.Chip id changes applied class ∷ sent id out)
decided id changes applied class out = let q = quiet_sent id out in record { all = q.all; same = q.same }

quiet_first : {w : World} {port : ℕ} {bytes : List ℕ} {head : Head} {chips : List Chip} {f : Waiting} {first : List Line} {b : Bool}
    → Enters w port bytes head chips f first b → Quiet first
quiet_first (by_software on) = nothing
quiet_first {w} {port} {bytes} {head} (by_chip c on) =
    decided w.next (length w.history) c.count (class_of w c (entering w port bytes head)) (chip_out w.setup.domains (table_of_chip w c) port bytes head)

quiet_last : {held : List Holding} {waiting after : List Waiting} {f : Waiting} {b : Bool} {last : List Line} → Joins held waiting f b after last → Quiet last
quiet_last passes_by = nothing
quiet_last (finds_room room) = nothing
quiet_last (overruns full) = record { all = λ may. refl; same = λ is_report b. refl }

by_posts : (w : World) (f : Waiting) (point : ℕ) → Told w.steps w.history (posts w f point)
by_posts w f point =
    let q = quiet_sent f.id (soft_out w.setup.domains (table_at w point) f.port f.bytes f.head f.mark) in
    behind w.steps w.history (lines.Soft f.id point ∷ sent f.id (soft_out w.setup.domains (table_at w point) f.port f.bytes f.head f.mark)) _ (record { all = q.all; same = q.same })
    (by_answered w w (reacts w (events.Sight f.port f.bytes f.head)) refl refl)

ends_told : (w : World) {s : Step} {y : Stepped} → Ends w s y → Told w.steps w.history y
ends_told w (ends_refused why) = by_refused w why
ends_told w (ends_unread port bytes why is) =
    silent w.steps w.history (record w { next = w.next + 1 }, lines.Unread w.next why ∷ []) refl refl (record { all = λ may. refl; same = λ is_report b. refl })
ends_told w (ends_entered port bytes n) =
    let v = record w { next = w.next + 1; chips = n.chips; waiting = n.waiting } in
    behind w.steps w.history n.first (v, n.last) (quiet_first n.enters) (silent w.steps w.history (v, n.last) refl refl (quiet_last n.joins))
ends_told w (ends_held f later is) = silent w.steps w.history (holds w (f ∷ later)) refl refl (record { all = λ may. refl; same = λ is_report b. refl })
ends_told w (ends_sent f held waiting point leaves) = by_posts (record w { held = held; waiting = waiting }) f point
ends_told w (ends_applied dom c d at is) = by_done (with_chip w (applies c d))
ends_told w (ends_idle dom) = by_done w
ends_told w (ends_answered chips e answers) = by_answered w (record w { chips = chips }) (reacts w e) refl refl
ends_told w ends_published = by_done (publishes w (length w.history))

abbrev counted : World → World
counted w = record w { steps = w.steps + 1 }

pub step_told : (w : World) (s : Step) → Told (w.steps + 1) w.history (world_step w s)
step_told w s = ends_told (counted w) (does-ends (counted w) s)

-- A report's lines tell how it ended.

none_full : (own : ℕ) (messages : List (ℕ × BpduMsg)) → list_any says_full (control_lines own messages) ≡ false
none_full own [] = refl
none_full own (x ∷ messages) = none_full own messages

abbrev Says : ℕ → List Line → Type 0
Says number told = (is_report : ℕ → Bool) (b : Bool) → is_report number ≡ true → fold (refused_after is_report) b told ≡ list_any says_full told

says_refused : (w : World) (why : Refusal) → Says w.steps (refused w why).1
says_refused w why is_report b own =
    ap (λ c. cond c (refusal_number why == refusal_number HistoryFull) b) own ∙ sym (or-false (refusal_number why == refusal_number HistoryFull))

says_answered : (w v : World) (r : Result Reaction Refusal) → v.steps ≡ w.steps → Says w.steps (answered w v r).1
says_answered w v (Err why) steps = says_refused w why
says_answered w v (Ok r) steps = λ is_report b own.
    let control = control_lines v.setup.own r.messages in
    let last : List Line = lines.Done v.steps (length r.changes) ∷ [] in
    fold-append (refused_after is_report) b control last
    ∙ ap (λ c. fold (refused_after is_report) c last) ((quiet_control v.setup.own r.messages).same is_report b)
    ∙ ap (λ c. cond c false b) (ap is_report steps ∙ own)
    ∙ sym (list_any-append says_full control last ∙ ap (λ c. c || list_any says_full last) (none_full v.setup.own r.messages))

says_tells : (w : World) (c : Chip) (rs : List Triple) → Says w.steps (tells w c rs).1
says_tells w c [] = says_refused w NothingReported
says_tells w c (x ∷ later) = says_answered w (with_chip w (record c { reports = later })) (reacts w (events.Told x.0 x.1 x.2)) refl

says_reports : (w : World) (o : Option Chip) → Says w.steps (reports w o).1
says_reports w None = says_refused w NothingReported
says_reports w (Some c) = says_tells w c c.reports

-- whether the step's report, if it is this chip's, was refused for want of room
abbrev Reported : World → ℕ → Step → Type 0
Reported w dom s = (is_report : ℕ → Bool) (b : Bool) → is_report (w.steps + 1) ≡ is_report_at dom s
    → fold (refused_after is_report) b (world_step w s).1 ≡ (if is_report_at dom s then list_any says_full (world_step w s).1 else b)

report_step : (w : World) (dom d : ℕ) (c : Bool) → (d == dom) ≡ c → (is_report : ℕ → Bool) (b : Bool) → is_report (w.steps + 1) ≡ c
    → fold (refused_after is_report) b (world_step w (Report d)).1 ≡ cond c (list_any says_full (world_step w (Report d)).1) b
report_step w dom d true is is_report b own = says_reports (counted w) (chip_at w d) is_report b own
report_step w dom d false is is_report b none = (step_told w (Report d)).kept is_report b none

pub step_reported : (w : World) (dom : ℕ) (s : Step) → Reported w dom s
step_reported w dom (Report d) is_report b is = report_step w dom d (d == dom) refl is_report b is
step_reported w dom s is_report b none = (step_told w s).kept is_report b none
