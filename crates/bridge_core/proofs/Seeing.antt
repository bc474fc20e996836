-- What a frame comes to that is seen, by what the spanning tree is told and who is heard.
use Rattle.std.proofs.Common.{◌≡◌, ◌<◌, ◌^◌, ℕ, Bool, true, false, if◌then◌else◌, List, [], Option, None, Some, refl, sym, ap, subst, ◌∙◌, arith}
use Rattle.std.specs.declared.result.Result.{Result}
use Rattle.std.specs.declared.result.Result.TheVariants.{Ok}
use Rattle.br_model.specs.declared.frame.Head.{Head}
use Rattle.br_model.specs.declared.frame.McastMsg.{McastMsg}
use Rattle.br_model.specs.declared.steps.Refusal.{Refusal}
use Rattle.br_model.specs.declared.tree.TreeEvent.{TreeEvent}
use Rattle.br_model.specs.Control.Course.{Course, from, makes_all}
use Rattle.br_model.specs.Wire.Messages.{message}
use Rattle.br_model.specs.Control.Reaction.{learns, learns_of, sees}
use Rattle.br_model.specs.Control.Learning.{Address}
use Rattle.br_model.specs.Table.DomainPorts.{is_in_domain}
use Rattle.br_model.specs.Table.Domains.{Domains, software}
use Rattle.br_model.specs.Table.Setup.{Setup}
use Rattle.br_model.specs.Control.Snooping.{snoops}
use Rattle.br_model.specs.Table.Table.{Table, table, with_addresses}
use Rattle.br_model.specs.Control.TreeReaction.{heard, tells_tree}
use Rattle.bridge_state.specs.declared.plan.Plan.{Plan}
use Rattle.bridge_core.specs.Answers.{carried_out, standing}
use Rattle.bridge_state.specs.Plans.{IsSound, renewed_at}
use Rattle.bridge_state.specs.Standing.{clocked}
use Rattle.br_model.specs.Data.Maps.{pair_cmp, get}
use Rattle.br_model.specs.Table.Limits.{all_fit}
use Rattle.std.specs.Prelude.{IfSome, IsSome}
use Rattle.bridge_state.specs.Hearing.{most}
use Rattle.bridge_core.specs.Kept.{Controlled}
use Rattle.bridge_state.specs.Lessons.{IsTaught, of_bridge}
use Rattle.bridge_state.proofs.Reactions.{heard_alone}
use Rattle.bridge_state.proofs.Speaking.{tree-hears-alone, unheard-quiet}

-- Where somebody is heard, the spanning tree is told nothing.
pub told-nothing : (t : Table) (port : ℕ) (bytes : List ℕ) (head : Head) (m : McastMsg) → m ≡ message bytes head → 0 < most m → heard t port bytes head ≡ None
told-nothing t port bytes head m is some = by (heard t port bytes head) refl
  where
    by : (o : Option TreeEvent) → heard t port bytes head ≡ o → o ≡ None
    by None e = refl
    by (Some event) e = absurd (omega (arith, some, ap (λ (x : McastMsg). most x) (is ∙ tree-hears-alone t port bytes head event e)))

module _ (setup : Setup) (r : Course) (port : ℕ) (bytes : List ℕ) (head : Head) where
  -- A frame of which the spanning tree is told nothing teaches, and then its message is read.
  pub sees-said : (does : Course → Course) → heard r.table port bytes head ≡ None → snoops port bytes head (learns_of setup port head r) ≡ does (learns_of setup port head r)
      → does (learns_of setup port head r) ≡ sees setup port bytes head r
  sees-said does none e = sym e ∙ sym (ap (λ o. tells_tree o (snoops port bytes head (learns_of setup port head r))) none)

  -- A frame that it reads does nothing else.
  pub sees-told : (event : TreeEvent) → heard r.table port bytes head ≡ Some event → tells_tree (Some event) r ≡ sees setup port bytes head r
  sees-told event e =
      let unlearned : learns_of setup port head r ≡ r = ap (λ o. taught o (is_in_domain setup.domains software port)) (heard_alone r.table port bytes head event e)
      ∙ untaught (is_in_domain setup.domains software port) in
      let unheard = unheard-quiet (with_addresses r.table []) port bytes head r refl (message bytes head) refl (ap (λ (x : McastMsg). most x) (tree-hears-alone r.table port bytes head event e)) in
      sym (
      ap (λ x. tells_tree (heard r.table port bytes head) (snoops port bytes head x)) unlearned
      ∙ ap (λ x. tells_tree (heard r.table port bytes head) x) unheard
      ∙ ap (λ o. tells_tree o r) e
      )
    where
      taught : Option Address → Bool → Course
      taught o b = if b then learns port o r else r

      untaught : (b : Bool) → taught None b ≡ r
      untaught true = refl
      untaught false = refl

abbrev pub yes : Course → Result Course Refusal
yes x = Ok x

-- the plan comes to this course
pub came_to : (x y : Course) → yes y ≡ yes x → x ≡ y
came_to x y e = cc

-- what a frame teaches, where this bridge stands
pub taught_so : (b : Controlled) (domains : Domains) (own : ℕ) (t : Table) (port : ℕ) (head : Head) (key : Option Address)
    → of_bridge domains own ≡ b.setup → t ≡ table b.history → IsTaught domains t port head key
    → learns_of b.setup port head (standing b) ≡ learns port key (standing b)
taught_so b domains own t port head key setup at taught =
    subst (λ (x : Setup). learns_of x port head (standing b) ≡ learns port key (standing b)) setup
    (subst (λ (x : Table). learns_of (of_bridge domains own) port head (from x b.control) ≡ learns port key (from x b.control)) at (taught own b.control))

-- A plan of which the spanning tree is told this, and nothing else is done.

module _ (b : Controlled) (p : Plan) (event : TreeEvent) (early : p.clock.now < 2 ^ 53) (clock : clocked p.clock b.control ≡ b.control) (renewed : p.renewed ≡ None) (none : p.changes.items ≡ [])
    (tells : p.tree_event ≡ Some event) where
  pub sound-alone : IsSound (table b.history) p
  sound-alone = record {
    early = early;
    there = subst (λ (o : Option Address). IfSome o (λ key. IsSome (get pair_cmp (table b.history).addr key))) (sym renewed) tt;
    fits = ap (all_fit (table b.history)) none;
  }

  pub tells_alone : tells_tree (Some event) (standing b) ≡ carried_out b p
  tells_alone =
      sym (λ i. tells_tree (tells i) (makes_all (record { table = table b.history; control = (ap (renewed_at (clocked p.clock b.control)) renewed ∙ clock) i; changes = []; messages = [] }) (none i)))
