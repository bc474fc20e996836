-- What is accepted fits: the history after a reaction stands.
use Rattle.std.proofs.Common.{◌≡◌, ◌≤◌, true, false, ◌&&◌, cond, List, [], ◌∷◌, ◌++◌, length, refl, sym, ap, ◌∙◌, arith, append_assoc, length-append}
use Rattle.std.proofs.lemmas.Bool.{leb-true, and_from}
use Rattle.std.proofs.lemmas.List.{append-nil}
use Rattle.std.specs.declared.result.Result.{Result}
use Rattle.std.specs.declared.result.Result.TheVariants.{Ok, Err}
use Rattle.std.specs.List.{fold}
use Rattle.lemmas.proofs.Tests.{and_assoc}
use Rattle.br_model.specs.declared.change.Change.{Change}
use Rattle.br_model.specs.declared.steps.Event.{Event}
use Rattle.br_model.specs.declared.steps.Refusal.{Refusal}
use Rattle.br_model.specs.declared.steps.Refusal.TheVariants.{HistoryFull}
use Rattle.br_model.specs.Control.Control.{Control, keeps_up}
use Rattle.br_model.specs.Control.Course.{Course, from, makes}
use Rattle.br_model.specs.Table.Limits.{fits, all_fit, most_changes}
use Rattle.br_model.specs.Control.Reaction.{Reaction, has_room, in_room, react, happens}
use Rattle.br_model.specs.Table.Setup.{Setup}
use Rattle.br_model.specs.Table.Table.{Table, start, apply, table}
use Rattle.br_model.proofs.Control.ReactionSteps.{IsKept, happens-keeps, makes-table}
use Rattle.br_model.proofs.Control.SnoopSteps.{snoops-keeps}

pub fit-append : (t : Table) (cs ds : List Change) → all_fit t (cs ++ ds) ≡ (all_fit t cs && all_fit (fold apply t cs) ds)
fit-append t [] ds = refl
fit-append t (c ∷ cs) ds = ap (λ b. fits t c && b) (fit-append (apply t c) cs ds) ∙ and_assoc (fits t c) (all_fit (apply t c) cs) (all_fit (fold apply (apply t c) cs) ds)

-- The course stands where its changes come behind this history: they fit, and its table is theirs.
abbrev OnCourse : List Change → Course → Type 0
OnCourse h r = (r.table ≡ table (h ++ r.changes)) × (all_fit start (h ++ r.changes) ≡ true)

module _ (h : List Change) where
  makes-on : (r : Course) (c : Change) → OnCourse h r → OnCourse h (makes r c)
  makes-on r c on = (makes-table h r c on.0, fit)
    where
      fit : all_fit start (h ++ (makes r c).changes) ≡ true
      fit =
          (elim (fits r.table c) as (λ b. fits r.table c ≡ b
          → all_fit start (h ++ (cond b (record r { table = apply r.table c; control = keeps_up r.control c; changes = r.changes ++ c ∷ [] }) r).changes) ≡ true) [
            | true ↦ λ it_fits.
                ap (all_fit start) (sym (append_assoc h r.changes (c ∷ [])))
                ∙ fit-append start (h ++ r.changes) (c ∷ [])
                ∙ and_from _ _ on.1 (and_from _ _ (ap (λ t. fits t c) (sym on.0) ∙ it_fits) refl)
            | false ↦ λ it_fits. on.1
          ]) refl

  happens-on : (setup : Setup) (r : Course) (e : Event) → OnCourse h r → IsKept (OnCourse h) (happens setup r e)
  happens-on =
      happens-keeps (OnCourse h) makes-on (λ r k messages same _ on. on) (λ r key port known on. on)
      (snoops-keeps (OnCourse h) (λ r c _ on. makes-on r c on) (λ r m end there on. on) (λ r six known on. on) (λ r port there on. on))

  -- what is accepted fits, and the history stays within its limit
  abbrev pub Accepts : Result Reaction Refusal → Type 0
  Accepts (Err why) = Unit {0}
  Accepts (Ok r) = (all_fit start (h ++ r.changes) ≡ true) × (length (h ++ r.changes) ≤ most_changes)

  in_room-accepts : (answer : Result Course Refusal) → IsKept (OnCourse h) answer → Accepts (in_room h answer)
  in_room-accepts (Err why) on = tt
  in_room-accepts (Ok r) on =
      (elim (has_room h r.changes) as (λ b. has_room h r.changes ≡ b → Accepts (cond b (Ok (record { changes = r.changes; control = r.control; messages = r.messages })) (Err HistoryFull))) [
        | true ↦ λ e. (on.1, omega (arith, leb-true _ _ e, length-append h r.changes))
        | false ↦ λ e. tt
      ]) refl

  pub react-accepts : (setup : Setup) (control : Control) (e : Event) → all_fit start h ≡ true → Accepts (react setup h control e)
  unfolding react
  react-accepts setup control e fit =
      in_room-accepts (happens setup (from (table h) control) e)
      (happens-on setup (from (table h) control) e (sym (ap table (append-nil h)), ap (all_fit start) (append-nil h) ∙ fit))
