-- Each change moves the table and its ends together, and what renews an end leaves the table as it is.
use Rattle.std.proofs.Common.{◌≡◌, ℕ, Bool, true, false, List, Option, None, refl, ap, ◌∙◌}
use Rattle.std.specs.Ordering.{nat_cmp}
use Rattle.std.proofs.lemmas.Cmp.{nat_cmp_total}
use Rattle.br_model.specs.declared.change.Change.{Change}
use Rattle.br_model.specs.declared.change.Change.TheVariants.{GroupJoin, GroupPart, Router, Querier}
use Rattle.br_model.specs.Control.Control.{Control, keeps_up}
use Rattle.br_model.specs.Control.Ends.{Ends, no_ends, lasts, parts, routes, queries, keys}
use Rattle.br_model.specs.Theorems.EndsTied.{IsTied}
use Rattle.br_model.specs.Table.Groups.{Membership, membership_cmp}
use Rattle.br_model.specs.Data.Maps.{joined, parted, is_ascending}
use Rattle.br_model.specs.Table.Table.{Table, start, apply, ip_version, switched}
use Rattle.br_model.proofs.Table.GroupOrders.{membership_total}
use Rattle.br_model.proofs.Data.KeySets.{keys-put, keys-without, ascending-put, ascending-without}

pub tied-start : IsTied start no_ends
tied-start = record { groups = refl; routers = refl; queriers = refl; groups_ascend = refl; routers_ascend = refl; queriers_ascend = refl }

-- of a table with the same groups, routers and queriers
tied-elsewhere : (t u : Table) (e : Ends) → IsTied t e → t.groups ≡ u.groups → t.routers ≡ u.routers → t.queriers ≡ u.queriers → IsTied u e
tied-elsewhere t u e tied g r q = record {
  groups = tied.groups ∙ g;
  routers = tied.routers ∙ r;
  queriers = tied.queriers ∙ q;
  groups_ascend = tied.groups_ascend;
  routers_ascend = tied.routers_ascend;
  queriers_ascend = tied.queriers_ascend;
}

-- One part changes
module _ (t : Table) (e : Ends) (tied : IsTied t e) where
  pub tied-groups : (ms : List Membership) (ends : List (Membership × Option ℕ)) → keys ends ≡ ms → is_ascending membership_cmp ends ≡ true
      → IsTied (record t { groups = ms }) (record e { groups = ends })
  tied-groups ms ends same ascend = record {
    groups = same;
    routers = tied.routers;
    queriers = tied.queriers;
    groups_ascend = ascend;
    routers_ascend = tied.routers_ascend;
    queriers_ascend = tied.queriers_ascend;
  }

  pub tied-routers : (ps : List ℕ) (ends : List (ℕ × ℕ)) → keys ends ≡ ps → is_ascending nat_cmp ends ≡ true → IsTied (record t { routers = ps }) (record e { routers = ends })
  tied-routers ps ends same ascend = record {
    groups = tied.groups;
    routers = same;
    queriers = tied.queriers;
    groups_ascend = tied.groups_ascend;
    routers_ascend = ascend;
    queriers_ascend = tied.queriers_ascend;
  }

  pub tied-queriers : (vs : List ℕ) (ends : List (ℕ × ℕ)) → keys ends ≡ vs → is_ascending nat_cmp ends ≡ true → IsTied (record t { queriers = vs }) (record e { queriers = ends })
  tied-queriers vs ends same ascend = record {
    groups = tied.groups;
    routers = tied.routers;
    queriers = same;
    groups_ascend = tied.groups_ascend;
    routers_ascend = tied.routers_ascend;
    queriers_ascend = ascend;
  }

  pub tied-lasts : (m : Membership) (end : Option ℕ) → IsTied (record t { groups = joined membership_cmp t.groups m }) (lasts e m end)
  tied-lasts m end =
      tied-groups _ _
      (keys-put membership_cmp e.groups m end ∙ ap (λ s. joined membership_cmp s m) tied.groups)
      (ascending-put membership_cmp membership_total e.groups m end tied.groups_ascend)

  pub tied-parts : (m : Membership) → IsTied (record t { groups = parted membership_cmp t.groups m }) (parts e m)
  tied-parts m =
      tied-groups _ _
      (keys-without membership_cmp e.groups m ∙ ap (λ s. parted membership_cmp s m) tied.groups)
      (ascending-without membership_cmp e.groups m tied.groups_ascend)

  pub tied-routes : (on : Bool) (now port : ℕ) → IsTied (record t { routers = switched on t.routers port }) (routes on e now port)
  tied-routes true now port =
      tied-routers _ _
      (keys-put nat_cmp e.routers port _ ∙ ap (λ s. joined nat_cmp s port) tied.routers)
      (ascending-put nat_cmp nat_cmp_total e.routers port _ tied.routers_ascend)
  tied-routes false now port =
      tied-routers _ _
      (keys-without nat_cmp e.routers port ∙ ap (λ s. parted nat_cmp s port) tied.routers)
      (ascending-without nat_cmp e.routers port tied.routers_ascend)

  pub tied-queries : (on : Bool) (now : ℕ) (six : Bool) → IsTied (record t { queriers = switched on t.queriers (ip_version six) }) (queries on e now six)
  tied-queries true now six =
      tied-queriers _ _
      (keys-put nat_cmp e.queriers (ip_version six) _ ∙ ap (λ s. joined nat_cmp s (ip_version six)) tied.queriers)
      (ascending-put nat_cmp nat_cmp_total e.queriers (ip_version six) _ tied.queriers_ascend)
  tied-queries false now six =
      tied-queriers _ _
      (keys-without nat_cmp e.queriers (ip_version six) ∙ ap (λ s. parted nat_cmp s (ip_version six)) tied.queriers)
      (ascending-without nat_cmp e.queriers (ip_version six) tied.queriers_ascend)

-- what a change does to the table, `keeps_up` does to its ends
pub tied-apply : (t : Table) (k : Control) (c : Change) → IsTied t k.ends → IsTied (apply t c) (keeps_up k c).ends
tied-apply t k (GroupJoin port vid group) tied = tied-lasts t k.ends tied (vid, group, port) None
tied-apply t k (GroupPart port vid group) tied = tied-parts t k.ends tied (vid, group, port)
tied-apply t k (Router port on) tied = tied-routes t k.ends tied on k.now port
tied-apply t k (Querier six on) tied = tied-queries t k.ends tied on k.now six
tied-apply t k c tied = tied-elsewhere t _ k.ends tied refl refl refl
