-- Each change moves the addresses and their moments together, and so does every course.
use Rattle.std.proofs.Common.{◌≡◌, ℕ, Option, None, Some, true, false, cond, List, [], ◌∷◌, ◌++◌, refl, sym, ap, ◌∙◌, subst}
use Rattle.std.proofs.lemmas.List.{append-nil}
use Rattle.std.specs.Prelude.{is_some, ◌==◌, ◌&&◌}
use Rattle.std.specs.FinMap.Entries.{is_some-find}
use Rattle.std.specs.List.{list_any}
use Rattle.std.specs.Option.{option_map_or}
use Rattle.std.specs.Ordering.{eq_by_cmp}
use Rattle.std.specs.declared.result.Result.{Result}
use Rattle.std.specs.declared.result.Result.TheVariants.{Ok, Err}
use Rattle.br_model.specs.declared.change.Change.{Change}
use Rattle.br_model.specs.declared.change.Change.TheVariants.{AddrPut, AddrDel}
use Rattle.br_model.specs.declared.change.Kind.{Kind}
use Rattle.br_model.specs.declared.steps.Event.{Event}
use Rattle.br_model.specs.declared.steps.Refusal.{Refusal}
use Rattle.br_model.specs.declared.steps.Refusal.TheVariants.{HistoryFull}
use Rattle.br_model.specs.declared.steps.Step.{Step}
use Rattle.br_model.specs.Control.Control.{Control, first_control, keeps_up, renewed}
use Rattle.br_model.specs.Control.Course.{Course, from, makes}
use Rattle.br_model.specs.Control.Ends.{keys}
use Rattle.br_model.specs.Control.Learning.{Address, is_dynamic, is_renewed}
use Rattle.br_model.specs.Control.Reaction.{Reaction, has_room, in_room, happens, react}
use Rattle.br_model.specs.Data.Maps.{pair_cmp, get, joined, parted, is_ascending}
use Rattle.br_model.specs.Plane.Runs.{run}
use Rattle.br_model.specs.Table.Limits.{fits}
use Rattle.br_model.specs.Table.Setup.{Setup}
use Rattle.br_model.specs.Table.Table.{Table, start, apply, table}
use Rattle.br_model.specs.Theorems.StampsTied.{AreStamped}
use Rattle.br_model.proofs.Control.ReactionSteps.{IsKept, happens-keeps, makes-table}
use Rattle.br_model.proofs.Control.SnoopSteps.{snoops-keeps}
use Rattle.br_model.proofs.Data.KeySets.{keys-put, keys-put_there, keys-without, ascending-put, ascending-without}
use Rattle.br_model.proofs.Data.PairKeys.{pair_total}
use Rattle.br_model.proofs.Plane.Reacting.{run-keeps}

pub stamped-start : (own : ℕ) → AreStamped start (first_control own)
stamped-start own = record { addresses = refl; ascend = refl }

-- of a table with the same addresses, and a control state with the same moments
stamped-elsewhere : (t u : Table) (k l : Control) → AreStamped t k → t.addr ≡ u.addr → l.updated ≡ k.updated → AreStamped u l
stamped-elsewhere t u k l stamped addr updated = record {
  addresses = ap keys updated ∙ stamped.addresses ∙ ap keys addr;
  ascend = ap (is_ascending pair_cmp) updated ∙ stamped.ascend;
}

-- what a change does to the addresses, `keeps_up` does to their moments
pub stamped-apply : (t : Table) (k : Control) (c : Change) → AreStamped t k → AreStamped (apply t c) (keeps_up k c)
stamped-apply t k (AddrPut vid mac port kind) stamped = record {
  addresses = keys-put pair_cmp k.updated (vid, mac) k.now ∙ ap (λ s. joined pair_cmp s (vid, mac)) stamped.addresses ∙ sym (keys-put pair_cmp t.addr (vid, mac) (port, kind));
  ascend = ascending-put pair_cmp pair_total k.updated (vid, mac) k.now stamped.ascend;
}
stamped-apply t k (AddrDel vid mac) stamped = record {
  addresses = keys-without pair_cmp k.updated (vid, mac) ∙ ap (λ s. parted pair_cmp s (vid, mac)) stamped.addresses ∙ sym (keys-without pair_cmp t.addr (vid, mac));
  ascend = ascending-without pair_cmp k.updated (vid, mac) stamped.ascend;
}
stamped-apply t k c stamped = stamped-elsewhere t _ k _ stamped refl refl

makes-stamped : (r : Course) (c : Change) → AreStamped r.table r.control → AreStamped (makes r c).table (makes r c).control
makes-stamped r c stamped =
    elim (fits r.table c) as
    (λ b. (λ (s : Course). AreStamped s.table s.control) (cond b (record r { table = apply r.table c; control = keeps_up r.control c; changes = r.changes ++ c ∷ [] }) r)) [
      | true ↦ stamped-apply r.table r.control c stamped
      | false ↦ stamped
    ]

-- an address has a moment just where it has an entry
there-both : (t : Table) (k : Control) (key : Address) → AreStamped t k → is_some (get pair_cmp k.updated key) ≡ is_some (get pair_cmp t.addr key)
there-both t k key stamped =
    is_some-find pair_cmp key k.updated ∙ ap (λ s. list_any (eq_by_cmp pair_cmp key) s) stamped.addresses ∙ sym (is_some-find pair_cmp key t.addr)

-- what is renewed is there
renewal-there : (t : Table) (key : Address) (port : ℕ) → is_renewed t key port ≡ true → is_some (get pair_cmp t.addr key) ≡ true
renewal-there t key port known = by (get pair_cmp t.addr key) known
  where
    by : (o : Option (ℕ × Kind)) → option_map_or (λ e. is_dynamic e.1 && e.0 == port) o false ≡ true → is_some o ≡ true
    by None h = h
    by (Some e) h = refl

renewal-stamped : (r : Course) (key : Address) (port : ℕ) → is_renewed r.table key port ≡ true → AreStamped r.table r.control → AreStamped r.table (renewed r.control key)
renewal-stamped r key port known stamped = record {
  addresses =
      keys-put_there pair_cmp pair_total r.control.updated key r.control.now stamped.ascend (there-both r.table r.control key stamped ∙ renewal-there r.table key port known)
      ∙ stamped.addresses;
  ascend = ascending-put pair_cmp pair_total r.control.updated key r.control.now stamped.ascend;
}

-- A reaction behind a history
module _ (h : List Change) where
  abbrev Stands : Course → Type 0
  Stands r = (r.table ≡ table (h ++ r.changes)) × AreStamped r.table r.control

  makes-stand : (r : Course) (c : Change) → Stands r → Stands (makes r c)
  makes-stand r c stands = (makes-table h r c stands.0, makes-stamped r c stands.1)

  happens-stands : (setup : Setup) (r : Course) (e : Event) → Stands r → IsKept Stands (happens setup r e)
  happens-stands =
      happens-keeps Stands makes-stand
      (λ r k messages _ same stands. (stands.0, stamped-elsewhere r.table r.table r.control k stands.1 refl same))
      (λ r key port known stands. (stands.0, renewal-stamped r key port known stands.1))
      (snoops-keeps Stands (λ r c _ stands. makes-stand r c stands)
      (λ r m end there stands. (stands.0, stamped-elsewhere r.table r.table r.control _ stands.1 refl refl))
      (λ r six known stands. (stands.0, stamped-elsewhere r.table r.table r.control _ stands.1 refl refl))
      (λ r port there stands. (stands.0, stamped-elsewhere r.table r.table r.control _ stands.1 refl refl)))

  abbrev Leaves : Result Reaction Refusal → Type 0
  Leaves (Err why) = Unit {0}
  Leaves (Ok r) = AreStamped (table (h ++ r.changes)) r.control

  in_room-leaves : (answer : Result Course Refusal) → IsKept Stands answer → Leaves (in_room h answer)
  in_room-leaves (Err why) stands = tt
  in_room-leaves (Ok r) stands =
      elim (has_room h r.changes) as (λ b. Leaves (cond b (Ok (record { changes = r.changes; control = r.control; messages = r.messages })) (Err HistoryFull))) [
        | true ↦ subst (λ t. AreStamped t r.control) stands.0 stands.1
        | false ↦ tt
      ]

  pub react-stamped : (setup : Setup) (control : Control) (e : Event) (r : Reaction) → AreStamped (table h) control → react setup h control e ≡ Ok r → AreStamped (table (h ++ r.changes)) r.control
  unfolding react
  react-stamped setup control e r stamped is =
      subst Leaves is
      (in_room-leaves (happens setup (from (table h) control) e) (happens-stands setup (from (table h) control) e (sym (ap table (append-nil h)), stamped)))

pub run-stamped : (setup : Setup) (steps : List Step) → AreStamped (table (run setup steps).0.history) (run setup steps).0.control
run-stamped setup steps =
    run-keeps (λ h k. AreStamped (table h) k) (λ w e r q is. react-stamped w.history w.setup w.control e r q is) setup steps (stamped-start setup.own)

pub run-each : (setup : Setup) (steps : List Step) (key : Address)
    → is_some (get pair_cmp (run setup steps).0.control.updated key) ≡ is_some (get pair_cmp (table (run setup steps).0.history).addr key)
run-each setup steps key = there-both (table (run setup steps).0.history) (run setup steps).0.control key (run-stamped setup steps)
