-- How a command ends, once its last line is written.
use Rattle.std.proofs.Common.{◌≡◌, ℕ, ◌<◌, List, [], ◌++◌, length, take, drop, Option, None, Some, Err, refl, sym, ◌∙◌, ap, subst, arith, codes, append_assoc, length-drop}
use Rattle.std.specs.Io.KnownBytes.{Appends, Consumes, append_known}
use Rattle.std.proofs.KnownBytes.{Appends-trans, Consumes-nil}
use Rattle.std.proofs.lemmas.List.{take-append-drop}
use Rattle.run_io.specs.Causes.{Rose}
use Rattle.br_model.specs.Program.Outcomes.{Call, Lines}
use Rattle.run_status.specs.declared.stop.Stop.{Stop}
use Rattle.run_status.specs.declared.stop.Stop.TheVariants as stops
use Rattle.run_status.specs.declared.status.Status.{Status}
use Rattle.run_status.specs.declared.status.Status.TheVariants as statuses
use Rattle.run_status.specs.Stopping.{Caused as StopsBy}
use Rattle.run_status.specs.Writing.{Breaks, Grows, Written}
use Rattle.run_status.specs.Statuses.{At, Caused, EndsIn, Ways, call_of, check_ways, last_line, live_ways, no_parts, nothing, reading_ways, refusing_ways, writing_ways}
use Rattle.run_status.specs.Stopping as stopping
use Rattle.run_status.proofs.Writing.{breaks_behind}

-- no fault of writing
abbrev pub Went : Status → Type 0
Went r = r ≡ statuses.WriteFault → ⊥

-- then a front was written, and not all
abbrev pub Broke : Status → Option (List ℕ) → Option (List ℕ) → List ℕ → Type 0
Broke r before now text = r ≡ statuses.WriteFault → Breaks before now text

-- had the sink taken the rest, too
pub with_rest : (before now : Option (List ℕ)) (front rest : List ℕ) → Appends before now front → Appends before (append_known now rest) (front ++ rest)
with_rest None now front rest a = tt
with_rest (Some xs) None front rest a = absurd a
with_rest (Some xs) (Some ys) front rest a = ap (λ (b : List ℕ). b ++ rest) a ∙ append_assoc xs front rest

-- a status that is this one, unless the sink failed
module _ (ways : Ways) (left left_now before now : Option (List ℕ)) (output : List ℕ) (s : Status)
    (whole : (after : Option (List ℕ)) → Appends before after output → At ways s (call_of left left_now before after)) where
  went : (r : Status) → Went r → (Went r → r ≡ s) → (Went r → Appends before now output) → At ways r (call_of left left_now before now)
  went r n is a = subst (λ (r : Status). At ways r (call_of left left_now before now)) (sym (is n)) (whole now (a n))

  broke : Breaks before now output → EndsIn ways statuses.WriteFault (call_of left left_now before now)
  broke b =
      let rest : List ℕ = drop b.0 output in record {
        output = take b.0 output;
        wrote = b.2;
        missing = rest;
        some = omega (arith, b.1, length-drop b.0 output);
        otherwise = (
          s,
          whole (append_known now rest)
              (subst (λ (o : List ℕ). Appends before (append_known now rest) o) (take-append-drop b.0 output) (with_rest before now (take b.0 output) rest b.2)),
        );
      }

  pub by_status : (r : Status) → (Went r → r ≡ s) → (Went r → Appends before now output) → Broke r before now output → EndsIn ways r (call_of left left_now before now)
  by_status statuses.WriteFault is a b = broke (b refl)
  by_status statuses.Ok is a b = went statuses.Ok (λ e. absurd (cc)) is a
  by_status statuses.No is a b = went statuses.No (λ e. absurd (cc)) is a
  by_status statuses.Usage is a b = went statuses.Usage (λ e. absurd (cc)) is a
  by_status statuses.BadLine is a b = went statuses.BadLine (λ e. absurd (cc)) is a
  by_status statuses.ReadFault is a b = went statuses.ReadFault (λ e. absurd (cc)) is a
  by_status statuses.NoMemory is a b = went statuses.NoMemory (λ e. absurd (cc)) is a
  by_status statuses.TooLong is a b = went statuses.TooLong (λ e. absurd (cc)) is a

-- what was written, with the last piece
pub all_wrote : (before mid now : Option (List ℕ)) (text all last : List ℕ) → Written before mid text all → Appends mid now (text ++ last) → Appends before now (all ++ last)
all_wrote before mid now text all last w a =
    subst (λ (b : List ℕ). Appends before now b)
    (sym (append_assoc w.gone text last) ∙ ap (λ (b : List ℕ). b ++ last) (sym w.together))
    (Appends-trans _ _ _ _ _ w.wrote a)

-- or with a front of it
pub all_broke : (before mid now : Option (List ℕ)) (text all last : List ℕ) → Written before mid text all → Breaks mid now (text ++ last) → Breaks before now (all ++ last)
all_broke before mid now text all last w b =
    subst (λ (o : List ℕ). Breaks before now o)
    (sym (append_assoc w.gone text last) ∙ ap (λ (b : List ℕ). b ++ last) (sym w.together))
    (breaks_behind before mid now w.gone (text ++ last) w.wrote b)

-- a command that reads lines lacks memory
pub lacks : {End Why : Type 0} (failed : Type 0) (lines : Lines End Why) (limit : ℕ) (left left_now before now : Option (List ℕ)) (r : Status)
    (answer opening : List ℕ → List ℕ) (parts : ℕ → List ℕ → List ℕ) (input : List ℕ) (n : ℕ) → Consumes left left_now input
    → (Went r → r ≡ statuses.NoMemory) → (Went r → Appends before now (parts n input ++ last_line (codes "no memory"))) → Broke r before now (parts n input ++ last_line (codes "no memory"))
    → EndsIn (reading_ways failed lines limit answer opening parts) r (call_of left left_now before now)
lacks failed lines limit left left_now before now r answer opening parts input n read =
    by_status (reading_ways failed lines limit answer opening parts) left left_now before now (parts n input ++ last_line (codes "no memory")) statuses.NoMemory
    (λ after a. record { input = input; read = read; count = n; wrote = a }) r

-- what the sink took since then, by the status
pub grew : (mid now : Option (List ℕ)) (text : List ℕ) (r : Status) → (Went r → Appends mid now text) → Broke r mid now text → Grows mid now
grew mid now text statuses.WriteFault a b = let c = b refl in (take c.0 text, c.2)
grew mid now text statuses.Ok a b = (text, a (λ e. absurd (cc)))
grew mid now text statuses.No a b = (text, a (λ e. absurd (cc)))
grew mid now text statuses.Usage a b = (text, a (λ e. absurd (cc)))
grew mid now text statuses.BadLine a b = (text, a (λ e. absurd (cc)))
grew mid now text statuses.ReadFault a b = (text, a (λ e. absurd (cc)))
grew mid now text statuses.NoMemory a b = (text, a (λ e. absurd (cc)))
grew mid now text statuses.TooLong a b = (text, a (λ e. absurd (cc)))

-- nothing is read

module _ (before now : Option (List ℕ)) (r : Status) (left : Option (List ℕ)) where
  abbrev unread : Call
  unread = call_of left left before now

  pub writes : (output : List ℕ) → (Went r → r ≡ statuses.Ok) → (Went r → Appends before now output) → Broke r before now output → EndsIn (writing_ways output) r unread
  writes output = by_status (writing_ways output) left left before now output statuses.Ok (λ after a. (Consumes-nil left, a)) r

  pub writes_nothing : (output : List ℕ) → (Went r → r ≡ statuses.NoMemory) → (Went r → Appends before now (last_line (codes "no memory"))) → Broke r before now (last_line (codes "no memory"))
      → EndsIn (writing_ways output) r unread
  writes_nothing output = by_status (writing_ways output) left left before now (last_line (codes "no memory")) statuses.NoMemory (λ after a. (Consumes-nil left, a)) r

  pub refuses : (Went r → r ≡ statuses.Usage) → (Went r → Appends before now (last_line (codes "usage"))) → Broke r before now (last_line (codes "usage")) → EndsIn refusing_ways r unread
  refuses = by_status refusing_ways left left before now (last_line (codes "usage")) statuses.Usage (λ after a. (Consumes-nil left, a)) r

  -- there is no memory at first
  module _ (s : Went r → r ≡ statuses.NoMemory) (a : Went r → Appends before now (last_line (codes "no memory"))) (b : Broke r before now (last_line (codes "no memory"))) where
    pub refuses_nothing : EndsIn refusing_ways r unread
    refuses_nothing = by_status refusing_ways left left before now (last_line (codes "no memory")) statuses.NoMemory (λ after a. (Consumes-nil left, a)) r s a b

    pub reads_nothing : {End Why : Type 0} (failed : Type 0) (lines : Lines End Why) (limit : ℕ) (answer : List ℕ → List ℕ)
        → EndsIn (reading_ways failed lines limit answer nothing no_parts) r unread
    reads_nothing failed lines limit answer = lacks failed lines limit left left before now r answer nothing no_parts [] 0 (Consumes-nil left) s a b

    pub checks_nothing : (failed : Type 0) → EndsIn (check_ways failed) r unread
    checks_nothing failed =
        by_status (check_ways failed) left left before now (last_line (codes "no memory")) statuses.NoMemory
        (λ after a. record { input = []; read = Consumes-nil left; count = 0; wrote = a }) r s a b

    pub lives_nothing : (failed : Type 0) → EndsIn (live_ways failed) r unread
    lives_nothing failed =
        by_status (live_ways failed) left left before now (last_line (codes "no memory")) statuses.NoMemory
        (λ after a. record { input = []; read = Consumes-nil left; count = 0; wrote = a }) r s a b

-- a write failed before all was written
pub writes_front : (before now : Option (List ℕ)) (output missing : List ℕ) (left : Option (List ℕ)) → Written before now missing output → 0 < length missing
    → EndsIn (writing_ways output) statuses.WriteFault (call_of left left before now)
writes_front before now output missing left w some = record {
  output = w.gone;
  wrote = w.wrote;
  missing = missing;
  some = some;
  otherwise = (
    statuses.Ok,
    (Consumes-nil left, subst (λ (o : List ℕ). Appends before (append_known now missing) o) (sym w.together) (with_rest before now w.gone missing w.wrote)),
  );
}

-- when faults come

pub caused : (s r : Status) (reads reads_now writes writes_now : ℕ) → (Went r → r ≡ s) → (r ≡ statuses.WriteFault → Rose writes writes_now) → Caused s reads reads_now writes writes_now
    → Caused r reads reads_now writes writes_now
caused s statuses.WriteFault reads reads_now writes writes_now h w c = w refl
caused s statuses.Ok reads reads_now writes writes_now h w c = tt
caused s statuses.No reads reads_now writes writes_now h w c = tt
caused s statuses.Usage reads reads_now writes writes_now h w c = tt
caused s statuses.BadLine reads reads_now writes writes_now h w c = tt
caused s statuses.ReadFault reads reads_now writes writes_now h w c =
    subst (λ (r : Status). Caused r reads reads_now writes writes_now) (sym (h (λ e. absurd (cc)))) c
caused s statuses.NoMemory reads reads_now writes writes_now h w c = tt
caused s statuses.TooLong reads reads_now writes writes_now h w c = tt

pub calm_stops : (stop : Stop) (s : Status) → s ≡ stopping.stop_status stop → Went s
calm_stops stops.ReadFault s e = λ f. let g : statuses.ReadFault ≡ statuses.WriteFault = sym e ∙ f in absurd (cc)
calm_stops stops.NoMemory s e = λ f. let g : statuses.NoMemory ≡ statuses.WriteFault = sym e ∙ f in absurd (cc)
calm_stops stops.TooLong s e = λ f. let g : statuses.TooLong ≡ statuses.WriteFault = sym e ∙ f in absurd (cc)

pub read_stopped : (T : Type 0) (reads reads_now : ℕ) (stop : Stop) → StopsBy {T = T} reads reads_now (Err stop) → stop ≡ stops.ReadFault → Rose reads reads_now
read_stopped T reads reads_now stops.ReadFault h e = h
read_stopped T reads reads_now stops.NoMemory h e = absurd (cc)
read_stopped T reads reads_now stops.TooLong h e = absurd (cc)
