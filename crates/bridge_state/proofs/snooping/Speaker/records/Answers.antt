use Rattle.std.proofs.Common.{◌++◌, List, [], ◌∷◌, fold, length, refl, sym, ap, subst, ◌∙◌, arith, append_assoc, length-append}
use Rattle.std.proofs.lemmas.List.{append-nil}
use Rattle.std.proofs.lemmas.List.Sums.{fold_push}
use Rattle.br_model.specs.declared.frame.Act.{Act}
use Rattle.br_model.specs.declared.change.Change.{Change}
use Rattle.br_model.specs.Control.Snooping.{acted}
use Rattle.bridge_state.specs.Hearing.{Adds, list_of}
use Rattle.bridge_state.proofs.Hearing.{after, like, stays, at_most_one}
use Rattle.bridge_state.proofs.snooping.Speaker.records.Goals as goal

pub loop-act-init : goal.loop-act-init
loop-act-init c = record {
  splits = sym c.into_iter-act-iterator.ensures.into_iter_gives;
  adds = ([], sym (append-nil c.args.changes.now.items), stays c.args.self.now c.args.groups.now);
  count = omega arith;
  capacity = refl;
}

pub add-requires : goal.add-requires
add-requires c =
    omega (
      arith,
      c.requires.room,
      c.args.changes.now.ok.0,
      c.loop-act.changes.ok.0,
      c.loop-act.invariant.count,
      c.loop-act.invariant.capacity,
      ap (λ (l : List Act). length l) (c.loop-act.invariant.splits ∙ ap (λ (l : List Act). c.loop-act.yielded ++ l) c.in-Some.ensures.steps),
      length-append c.loop-act.yielded (c.in-Some.act ∷ c.next.new.self),
    )

pub loop-act-preserved : goal.loop-act-preserved
loop-act-preserved c =
    let s = c.args.self.now in
    let inv = c.loop-act.invariant in
    let more = list_of c.act-change.result in record {
      splits = inv.splits ∙ ap (λ (l : List Act). c.loop-act.yielded ++ l) c.in-Some.ensures.steps ∙ sym (append_assoc c.loop-act.yielded (c.in-Some.act ∷ []) c.next.new.self);
      adds = (
        inv.adds.0 ++ more,
        c.add.ensures.items ∙ ap (λ (l : List Change). l ++ more) inv.adds.1 ∙ append_assoc c.args.changes.now.items inv.adds.0 more,
        like s c.args.groups.now c.act-change.new.groups (inv.adds.0 ++ more) (λ r. acted s.port s.vid (fold (acted s.port s.vid) r c.loop-act.yielded) c.in-Some.act)
            (λ r. fold (acted s.port s.vid) r (c.loop-act.yielded ++ c.in-Some.act ∷ []))
            (λ r h. fold_push (acted s.port s.vid) r c.loop-act.yielded c.in-Some.act)
            (after s c.args.groups.now c.loop-act.groups c.act-change.new.groups inv.adds.0 more (λ r. fold (acted s.port s.vid) r c.loop-act.yielded)
            (λ r. acted s.port s.vid r c.in-Some.act) inv.adds.2 c.act-change.ensures),
      );
      count = omega (
        arith,
        ap (λ (l : List Change). length l) c.add.ensures.items,
        length-append c.loop-act.changes.items more,
        at_most_one c.act-change.result,
        inv.count,
        length-append c.loop-act.yielded (c.in-Some.act ∷ []),
      );
      capacity = c.add.ensures.capacity ∙ inv.capacity;
    }

pub returns-clause-adds : goal.returns-clause-adds
returns-clause-adds c =
    let s = c.args.self.now in
    let all = c.loop-act.invariant.splits ∙ ap (λ (l : List Act). c.loop-act.yielded ++ l) c.in-None.ensures.steps.0 ∙ append-nil c.loop-act.yielded in
    subst (λ (l : List Act). Adds s c.args.groups.now c.loop-act.groups c.args.changes.now.items c.loop-act.changes.items (λ r. fold (acted s.port s.vid) r l)) (sym all) c.loop-act.invariant.adds

pub returns-clause-count : goal.returns-clause-count
returns-clause-count c =
    let all = c.loop-act.invariant.splits ∙ ap (λ (l : List Act). c.loop-act.yielded ++ l) c.in-None.ensures.steps.0 ∙ append-nil c.loop-act.yielded in
    omega (arith, c.loop-act.invariant.count, ap (λ (l : List Act). length l) all)
