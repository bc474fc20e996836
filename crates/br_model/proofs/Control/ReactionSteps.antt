-- A reaction makes changes, snoops, and sets what is neither table nor ends: what all of these keep, it keeps.
use Rattle.std.proofs.Common.{◌≡◌, ℕ, true, false, cond, List, [], ◌∷◌, ◌++◌, Option, None, Some, refl, sym, ap, ◌∙◌, append_assoc}
use Rattle.std.proofs.lemmas.List.Sums.{fold_push}
use Rattle.std.specs.Prelude.{nat_lt}
use Rattle.std.specs.declared.result.Result.{Result}
use Rattle.std.specs.declared.result.Result.TheVariants.{Ok, Err}
use Rattle.br_model.specs.declared.bpdu.BpduMsg.{BpduMsg}
use Rattle.br_model.specs.declared.change.Change.{Change}
use Rattle.br_model.specs.declared.frame.Head.{Head}
use Rattle.br_model.specs.declared.steps.Command.{Command}
use Rattle.br_model.specs.declared.steps.Command.TheVariants as commands
use Rattle.br_model.specs.declared.steps.Event.{Event}
use Rattle.br_model.specs.declared.steps.Event.TheVariants.{Cmd, Moment, Sight, Told, Forget}
use Rattle.br_model.specs.declared.steps.Refusal.{Refusal}
use Rattle.br_model.specs.declared.steps.Refusal.TheVariants.{Backward}
use Rattle.br_model.specs.declared.tree.TreeEvent.{TreeEvent}
use Rattle.br_model.specs.declared.tree.TreeEvent.TheVariants as tree_events
use Rattle.br_model.specs.Control.Ageing.{expired, forgets, forgotten}
use Rattle.br_model.specs.Control.Commands.{command, sets, tells}
use Rattle.br_model.specs.Control.Control.{Control, keeps_up, renewed}
use Rattle.br_model.specs.Control.Course.{Course, makes, makes_all}
use Rattle.br_model.specs.Table.DomainPorts.{is_in_domain}
use Rattle.br_model.specs.Table.Domains.{software}
use Rattle.br_model.specs.Control.Ends.{endings}
use Rattle.br_model.specs.Control.Learning.{Address, is_renewed, teach, taught, reported}
use Rattle.br_model.specs.Table.Limits.{fits}
use Rattle.br_model.specs.Control.Reaction.{happens, commanded, passes_to, at_moment, ages, ends, sees, learns_of, learns, renews}
use Rattle.br_model.specs.Table.Setup.{Setup}
use Rattle.br_model.specs.Control.Snooping.{snoops}
use Rattle.br_model.specs.Table.Table.{start, apply, table}
use Rattle.br_model.specs.Control.TreeReaction.{tells_tree, heard, states}
use Rattle.br_model.specs.Tree.Step.{tree_step, sent}

-- the table stays that of the changes
pub makes-table : (h : List Change) (r : Course) (c : Change) → r.table ≡ table (h ++ r.changes) → (makes r c).table ≡ table (h ++ (makes r c).changes)
makes-table h r c is =
    elim (fits r.table c) as
    (λ b. (λ (s : Course). s.table ≡ table (h ++ s.changes)) (cond b (record r { table = apply r.table c; control = keeps_up r.control c; changes = r.changes ++ c ∷ [] }) r)) [
      | true ↦ ap (λ t. apply t c) is ∙ sym (fold_push apply start (h ++ r.changes) c) ∙ ap table (append_assoc h r.changes (c ∷ []))
      | false ↦ is
    ]

sets-ends : (k : Control) (c : Command) → (sets k c).ends ≡ k.ends
sets-ends k (commands.Ageing seconds) = refl
sets-ends k c = refl

sets-updated : (k : Control) (c : Command) → (sets k c).updated ≡ k.updated
sets-updated k (commands.Ageing seconds) = refl
sets-updated k c = refl

-- what is refused has no course
abbrev pub IsKept : (Course → Type 0) → Result Course Refusal → Type 0
IsKept P (Err why) = Unit {0}
IsKept P (Ok r) = P r

module _
    (P : Course → Type 0)
    (by-change : (r : Course) (c : Change) → P r → P (makes r c))
    (by-rest : (r : Course) (k : Control) (messages : List (ℕ × BpduMsg)) → k.ends ≡ r.control.ends → k.updated ≡ r.control.updated → P r → P (record r { control = k; messages = messages }))
    (by-renewal : (r : Course) (key : Address) (port : ℕ) → is_renewed r.table key port ≡ true → P r → P (record r { control = renewed r.control key }))
    (by-snooping : (port : ℕ) (bytes : List ℕ) (head : Head) (r : Course) → P r → P (snoops port bytes head r))
  where
    makes_all-keeps : (r : Course) (cs : List Change) → P r → P (makes_all r cs)
    makes_all-keeps r [] p = p
    makes_all-keeps r (c ∷ cs) p = makes_all-keeps (makes r c) cs (by-change r c p)

    told-keeps : (r : Course) (o : Option TreeEvent) → P r → P (tells_tree o r)
    told-keeps r None p = p
    told-keeps r (Some event) p =
        let a = tree_step r.control.tree r.control.now event in
        makes_all-keeps _ (states r.control.tree a.tree) (by-rest r (record r.control { tree = a.tree }) (r.messages ++ sent a) refl refl p)

    commanded-keeps : (r : Course) (c : Command) (answer : Result (List Change) Refusal) → P r → IsKept P (commanded r c answer)
    commanded-keeps r c (Err why) p = tt
    commanded-keeps r c (Ok changes) p =
        let set = record r { control = sets r.control c } in
        told-keeps (makes_all set changes) (tells r.table c) (makes_all-keeps set changes (by-rest r (sets r.control c) r.messages (sets-ends r.control c) (sets-updated r.control c) p))

    passes-keeps : (r : Course) (now : ℕ) → P r → IsKept P (passes_to now r)
    passes-keeps r now p =
        let later = at_moment now r in
        let aged = ages later in
        elim (nat_lt now r.control.now) as (λ b. IsKept P (cond b (Err Backward) (Ok (tells_tree (Some tree_events.Moment) (ends aged))))) [
          | true ↦ tt
          | false ↦
              told-keeps (ends aged) (Some tree_events.Moment)
              (makes_all-keeps aged (endings aged.control.now aged.control.ends) (makes_all-keeps later (forgets (expired r.table later.control)) (by-rest r later.control r.messages refl refl p)))
        ]

    learns-keeps : (r : Course) (port : ℕ) (o : Option Address) → P r → P (learns port o r)
    learns-keeps r port None p = p
    learns-keeps r port (Some key) p =
        makes_all-keeps (renews key port r) (taught r.table key port)
        ((elim (is_renewed r.table key port) as (λ b. is_renewed r.table key port ≡ b → P (cond b (record r { control = renewed r.control key }) r)) [
          | true ↦ λ known. by-renewal r key port known p
          | false ↦ λ _. p
        ]) refl)

    learns_of-keeps : (setup : Setup) (r : Course) (port : ℕ) (head : Head) → P r → P (learns_of setup port head r)
    learns_of-keeps setup r port head p =
        elim (is_in_domain setup.domains software port) as (λ b. P (cond b (learns port (teach r.table port head) r) r)) [ true ↦ learns-keeps r port (teach r.table port head) p | false ↦ p ]

    sees-keeps : (setup : Setup) (r : Course) (port : ℕ) (bytes : List ℕ) (head : Head) → P r → P (sees setup port bytes head r)
    sees-keeps setup r port bytes head p =
        let learned = learns_of setup port head r in
        told-keeps (snoops port bytes head learned) (heard r.table port bytes head) (by-snooping port bytes head learned (learns_of-keeps setup r port head p))

    pub happens-keeps : (setup : Setup) (r : Course) (e : Event) → P r → IsKept P (happens setup r e)
    happens-keeps setup r (Cmd c) p = commanded-keeps r c (command r.table c) p
    happens-keeps setup r (Moment now) p = passes-keeps r now p
    happens-keeps setup r (Sight port bytes head) p = sees-keeps setup r port bytes head p
    happens-keeps setup r (Told vid mac port) p = makes_all-keeps r (reported r.table (vid, mac) port) p
    happens-keeps setup r (Forget triples) p = makes_all-keeps r (forgets (forgotten r.table triples)) p
