-- What snooping learned stays tied to its ends on every course.
use Rattle.std.proofs.Common.{◌≡◌, ℕ, ◌+◌, Bool, Option, true, false, cond, List, [], ◌∷◌, ◌++◌, Some, sym, ap, ◌∙◌, subst}
use Rattle.std.proofs.lemmas.Cmp.{nat_cmp_total}
use Rattle.std.proofs.lemmas.List.{append-nil}
use Rattle.std.specs.Prelude.{is_some}
use Rattle.std.specs.FinMap.Entries.{is_some-find}
use Rattle.std.specs.Ordering.{nat_cmp}
use Rattle.std.specs.declared.result.Result.{Result}
use Rattle.std.specs.declared.result.Result.TheVariants.{Ok, Err}
use Rattle.br_model.specs.declared.change.Change.{Change}
use Rattle.br_model.specs.declared.frame.Head.{Head}
use Rattle.br_model.specs.declared.frame.McastMsg.{McastMsg}
use Rattle.br_model.specs.declared.steps.Event.{Event}
use Rattle.br_model.specs.declared.steps.Refusal.{Refusal}
use Rattle.br_model.specs.declared.steps.Refusal.TheVariants.{HistoryFull}
use Rattle.br_model.specs.Control.Control.{Control, keeps_up}
use Rattle.br_model.specs.Control.Course.{Course, from, makes}
use Rattle.br_model.specs.Control.Ends.{Ends, lasts, querier_time, queries, routes}
use Rattle.br_model.specs.Theorems.EndsTied.{IsTied}
use Rattle.br_model.specs.Table.Groups.{Membership, membership_cmp}
use Rattle.br_model.specs.Table.Limits.{fits}
use Rattle.br_model.specs.Data.Maps.{get, has}
use Rattle.br_model.specs.Control.Reaction.{Reaction, has_room, in_room, happens, react}
use Rattle.br_model.specs.Table.Setup.{Setup}
use Rattle.br_model.specs.Control.Snooping.{said, snoops}
use Rattle.br_model.specs.Table.Table.{Table, apply, table, ip_version}
use Rattle.br_model.specs.Forward.Targets.{knows_querier}
use Rattle.br_model.proofs.Control.EndsTied.{tied-apply, tied-groups, tied-routers, tied-queriers}
use Rattle.br_model.proofs.Table.GroupOrders.{membership_total}
use Rattle.br_model.proofs.Data.KeySets.{keys-put_there, ascending-put}
use Rattle.br_model.proofs.Control.ReactionSteps.{IsKept, happens-keeps, makes-table}
use Rattle.br_model.proofs.Control.SnoopSteps.{said-keeps, snoops-keeps}

-- the table of the course is tied to its ends
abbrev pub Tied : Course → Type 0
Tied r = IsTied r.table r.control.ends

pub makes-tied : (r : Course) (c : Change) → Tied r → Tied (makes r c)
makes-tied r c tied =
    elim (fits r.table c) as (λ b. Tied (cond b (record r { table = apply r.table c; control = keeps_up r.control c; changes = r.changes ++ c ∷ [] }) r)) [
      | true ↦ tied-apply r.table r.control c tied
      | false ↦ tied
    ]

-- An end is renewed of what is there
module _ (t : Table) (e : Ends) (tied : IsTied t e) where
  pub member-renewed : (m : Membership) (end : Option ℕ) → is_some (get membership_cmp e.groups m) ≡ true → IsTied t (lasts e m end)
  member-renewed m end there =
      tied-groups t e tied _ _
      (keys-put_there membership_cmp membership_total e.groups m end tied.groups_ascend there ∙ tied.groups)
      (ascending-put membership_cmp membership_total e.groups m end tied.groups_ascend)

  pub querier-renewed : (now : ℕ) (six : Bool) → knows_querier t six ≡ true → IsTied t (queries true e now six)
  querier-renewed now six known =
      tied-queriers t e tied _ _
      (keys-put_there nat_cmp nat_cmp_total e.queriers (ip_version six) (now + querier_time) tied.queriers_ascend
      (is_some-find nat_cmp (ip_version six) e.queriers ∙ ap (λ s. has nat_cmp s (ip_version six)) tied.queriers ∙ known)
      ∙ tied.queriers)
      (ascending-put nat_cmp nat_cmp_total e.queriers (ip_version six) (now + querier_time) tied.queriers_ascend)

  pub router-renewed : (now port : ℕ) → has nat_cmp t.routers port ≡ true → IsTied t (routes true e now port)
  router-renewed now port there =
      tied-routers t e tied _ _
      (keys-put_there nat_cmp nat_cmp_total e.routers port (now + querier_time) tied.routers_ascend
      (is_some-find nat_cmp port e.routers ∙ ap (λ s. has nat_cmp s port) tied.routers ∙ there)
      ∙ tied.routers)
      (ascending-put nat_cmp nat_cmp_total e.routers port (now + querier_time) tied.routers_ascend)

pub said-tied : (port vid : ℕ) (bytes : List ℕ) (m : McastMsg) (r : Course) → Tied r → Tied (said port vid bytes m r)
said-tied =
    said-keeps Tied (λ r c _ tied. makes-tied r c tied)
    (λ r m end there tied. member-renewed r.table r.control.ends tied m (Some end) there)
    (λ r six known tied. querier-renewed r.table r.control.ends tied r.control.now six known)
    (λ r port there tied. router-renewed r.table r.control.ends tied r.control.now port there)

-- A reaction behind a history
module _ (h : List Change) where
  -- the table of the course is that of the changes, and tied to its ends
  abbrev Stands : Course → Type 0
  Stands r = (r.table ≡ table (h ++ r.changes)) × Tied r

  makes-stand : (r : Course) (c : Change) → Stands r → Stands (makes r c)
  makes-stand r c stands = (makes-table h r c stands.0, makes-tied r c stands.1)

  snoops-stand : (port : ℕ) (bytes : List ℕ) (head : Head) (r : Course) → Stands r → Stands (snoops port bytes head r)
  snoops-stand =
      snoops-keeps Stands (λ r c _ stands. makes-stand r c stands)
      (λ r m end there stands. (stands.0, member-renewed r.table r.control.ends stands.1 m (Some end) there))
      (λ r six known stands. (stands.0, querier-renewed r.table r.control.ends stands.1 r.control.now six known))
      (λ r port there stands. (stands.0, router-renewed r.table r.control.ends stands.1 r.control.now port there))

  happens-stands : (setup : Setup) (r : Course) (e : Event) → Stands r → IsKept Stands (happens setup r e)
  happens-stands = happens-keeps Stands makes-stand (λ r k messages same _ stands. (stands.0, subst (λ e. IsTied r.table e) (sym same) stands.1)) (λ r key port known stands. stands) snoops-stand

  abbrev Leaves : Result Reaction Refusal → Type 0
  Leaves (Err why) = Unit {0}
  Leaves (Ok r) = IsTied (table (h ++ r.changes)) r.control.ends

  in_room-leaves : (answer : Result Course Refusal) → IsKept Stands answer → Leaves (in_room h answer)
  in_room-leaves (Err why) stands = tt
  in_room-leaves (Ok r) stands =
      elim (has_room h r.changes) as (λ b. Leaves (cond b (Ok (record { changes = r.changes; control = r.control; messages = r.messages })) (Err HistoryFull))) [
        | true ↦ subst (λ t. IsTied t r.control.ends) stands.0 stands.1
        | false ↦ tt
      ]

  pub react-tied : (setup : Setup) (control : Control) (e : Event) (r : Reaction) → IsTied (table h) control.ends → react setup h control e ≡ Ok r → IsTied (table (h ++ r.changes)) r.control.ends
  unfolding react
  react-tied setup control e r tied is =
      subst Leaves is
      (in_room-leaves (happens setup (from (table h) control) e) (happens-stands setup (from (table h) control) e (sym (ap table (append-nil h)), tied)))
