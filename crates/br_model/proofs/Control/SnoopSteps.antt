-- Snooping makes changes and renews the ends of what is there: what both keep, a message keeps.
use Rattle.std.proofs.Common.{◌≡◌, ℕ, ◌+◌, Bool, true, false, not, cond, List, [], ◌∷◌, ◌++◌, fold, Option, None, Some, refl, ap, ◌∙◌}
use Rattle.std.specs.Prelude.{min, is_some}
use Rattle.std.specs.Option.{option_map_or}
use Rattle.std.specs.Ordering.{nat_cmp, is_eq}
use Rattle.std.specs.Cmp.{tied_itself}
use Rattle.std.specs.FinMap.Entries.{find-put}
use Rattle.std.proofs.lemmas.Bool.{not-false}
use Rattle.br_model.specs.declared.change.Change.{Change}
use Rattle.br_model.specs.declared.change.Change.TheVariants as changes
use Rattle.br_model.specs.declared.frame.Act.{Act}
use Rattle.br_model.specs.declared.frame.Act.TheVariants.{Join, Part, Nothing}
use Rattle.br_model.specs.declared.frame.Head.{Head}
use Rattle.br_model.specs.declared.frame.McastMsg.{McastMsg}
use Rattle.br_model.specs.declared.frame.McastMsg.TheVariants.{Plain, Payload, Query, Report, Leave, Records, Unrecognized}
use Rattle.br_model.specs.declared.group.Group.{Group}
use Rattle.br_model.specs.Forward.Admission.{admit}
use Rattle.br_model.specs.Control.Control.{keeps_up, ends_with}
use Rattle.br_model.specs.Control.Course.{Course, makes}
use Rattle.br_model.specs.Control.Ends.{member_time, leave_time, end_of, routes, queries}
use Rattle.br_model.specs.Table.GroupPairs.{has_room}
use Rattle.br_model.specs.Table.Groups.{Membership, is_link_local, membership_cmp}
use Rattle.br_model.specs.Data.Maps.{get, has}
use Rattle.br_model.specs.Wire.Messages.{message}
use Rattle.br_model.specs.Wire.Records.{acts}
use Rattle.br_model.specs.Control.Snooping.{fastleave, end_at, until, joins, leaves, leaves_from, acted, querier_heard, router_heard, said, snoops_in, snoops}
use Rattle.br_model.specs.Table.Table.{apply}
use Rattle.br_model.specs.Forward.Targets.{has_flag, knows_querier}
use Rattle.br_model.proofs.Control.Aside.{is_aside}
use Rattle.br_model.proofs.Table.GroupOrders.{membership_total}

-- what keeps P: a change, and an end that is renewed, of what is there
module _
    (P : Course → Type 0)
    (by-change : (r : Course) (c : Change) → is_aside c ≡ true → P r → P (makes r c))
    (by-member : (r : Course) (m : Membership) (end : ℕ) → is_some (get membership_cmp r.control.ends.groups m) ≡ true → P r → P (until end m r))
    (by-querier : (r : Course) (six : Bool) → knows_querier r.table six ≡ true → P r → P (record r { control = ends_with r.control (queries true r.control.ends r.control.now six) }))
    (by-router : (r : Course) (port : ℕ) → has nat_cmp r.table.routers port ≡ true → P r → P (record r { control = ends_with r.control (routes true r.control.ends r.control.now port) }))
  where
    -- either way, it holds
    either : (b : Bool) (x y : Course) → (b ≡ true → P x) → (b ≡ false → P y) → P (cond b x y)
    either true x y p q = p refl
    either false x y p q = q refl

    -- of an end that is there, or isn't
    at_end : (m : Membership) (f : ℕ → Course) (r : Course) → ((end : ℕ) → is_some (get membership_cmp r.control.ends.groups m) ≡ true → P (f end)) → P r → P (option_map_or f (end_at r m) r)
    at_end m f r p q = by (get membership_cmp r.control.ends.groups m) (λ end is. p end is)
      where
        by : (o : Option (Option ℕ)) → ((end : ℕ) → is_some o ≡ true → P (f end)) → P (option_map_or f (end_of o) r)
        by None p = q
        by (Some None) p = q
        by (Some (Some end)) p = p end refl

    -- a membership that was made is there
    made-keeps : (port vid : ℕ) (group : Group) (end : ℕ) (r : Course) → has_room r.table.groups vid group ≡ true → P r → P (until end (vid, group, port) (makes r (changes.GroupJoin port vid group)))
    made-keeps port vid group end r room p =
        let m : Membership = (vid, group, port) in
        let c = changes.GroupJoin port vid group in
        by-member (makes r c) m end
        (ap (λ b. is_some (get membership_cmp (cond b (record r { table = apply r.table c; control = keeps_up r.control c; changes = r.changes ++ c ∷ [] }) r).control.ends.groups m)) room
        ∙ ap is_some (find-put membership_cmp membership_total m m None r.control.ends.groups)
        ∙ ap (λ o. is_some (cond (is_eq o) (Some None) (get membership_cmp r.control.ends.groups m))) (tied_itself membership_total m))
        (by-change r c refl p)

    joins-keeps : (port vid : ℕ) (group : Group) (r : Course) → P r → P (joins port vid group r)
    joins-keeps port vid group r p =
        let m : Membership = (vid, group, port) in
        let end = r.control.now + member_time in
        let renewed = at_end m (λ old. until end m r) r (λ old there. by-member r m end there p) p in
        either (is_link_local group) r _ (λ _. p) (λ _.
        either (not (has_room r.table.groups vid group)) r _ (λ _. p) (λ room.
        either (has membership_cmp r.table.groups m) _ _ (λ _. renewed) (λ _. made-keeps port vid group end r (not-false _ room) p)))

    leaves-keeps : (port vid : ℕ) (group : Group) (r : Course) → P r → P (leaves port vid group r)
    leaves-keeps port vid group r p =
        let m : Membership = (vid, group, port) in
        at_end m (λ end. leaves_from port vid group end r) r
        (λ end there. either (has_flag r.table port fastleave) _ _ (λ _. by-change r (changes.GroupPart port vid group) refl p) (λ _. by-member r m (min end (r.control.now + leave_time)) there p))
        p

    acted-keeps : (port vid : ℕ) (r : Course) (a : Act) → P r → P (acted port vid r a)
    acted-keeps port vid r (Join group) p = joins-keeps port vid group r p
    acted-keeps port vid r (Part group) p = leaves-keeps port vid group r p
    acted-keeps port vid r Nothing p = p

    all-keep : (port vid : ℕ) (r : Course) (said : List Act) → P r → P (fold (acted port vid) r said)
    all-keep port vid r [] p = p
    all-keep port vid r (a ∷ later) p = all-keep port vid (acted port vid r a) later (acted-keeps port vid r a p)

    querier-keeps : (six : Bool) (r : Course) → P r → P (querier_heard six r)
    querier-keeps six r p = either (knows_querier r.table six) _ _ (λ known. by-querier r six known p) (λ _. by-change r (changes.Querier six true) refl p)

    router-keeps : (port : ℕ) (r : Course) → P r → P (router_heard port r)
    router-keeps port r p = either (has nat_cmp r.table.routers port) _ _ (λ there. by-router r port there p) (λ _. by-change r (changes.Router port true) refl p)

    pub said-keeps : (port vid : ℕ) (bytes : List ℕ) (m : McastMsg) (r : Course) → P r → P (said port vid bytes m r)
    said-keeps port vid bytes Plain r p = p
    said-keeps port vid bytes (Payload group) r p = p
    said-keeps port vid bytes (Query six counted) r p = either counted _ r (λ _. router-keeps port (querier_heard six r) (querier-keeps six r p)) (λ _. p)
    said-keeps port vid bytes (Report group) r p = joins-keeps port vid group r p
    said-keeps port vid bytes (Leave group) r p = leaves-keeps port vid group r p
    said-keeps port vid bytes (Records six first count) r p = all-keep port vid r (acts bytes six first count) p
    said-keeps port vid bytes Unrecognized r p = p

    snoops_in-keeps : (port : ℕ) (o : Option ℕ) (bytes : List ℕ) (head : Head) (r : Course) → P r → P (snoops_in port o bytes head r)
    snoops_in-keeps port None bytes head r p = p
    snoops_in-keeps port (Some vid) bytes head r p = either r.table.snoop _ r (λ _. said-keeps port vid bytes (message bytes head) r p) (λ _. p)

    pub snoops-keeps : (port : ℕ) (bytes : List ℕ) (head : Head) (r : Course) → P r → P (snoops port bytes head r)
    snoops-keeps port bytes head r p = snoops_in-keeps port (admit r.table port head) bytes head r p
