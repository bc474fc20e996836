use Rattle.std.proofs.Common.{◌≡◌, true, [], ◌∷◌, ◌++◌, List, sym, ap, ◌∙◌, subst, append_assoc, rules}
use Rattle.std.proofs.lemmas.List.{append-nil}
use Rattle.std.specs.Cmp.{first_so, second_so}
use Rattle.std.specs.List.{list_all}
use Rattle.br_model.specs.declared.steps.Step.{Step}
use Rattle.br_model.specs.Table.Domains.{chip_domains}
use Rattle.br_model.specs.Table.Setup.{Setup}
use Rattle.br_model.specs.Text.LineForms.{comes_by_line}
use Rattle.transcript_check.specs.Besides.{IsBeside}
use Rattle.transcript_check.proofs.Comparisons.{compares_more, compares_none, nothing_left}
use Rattle.transcript_check.proofs.checking.compare_steps.Goals as goal

pub loop-step-init : goal.loop-step-init
loop-step-init c = record { parts = search rules; by_line = search rules; compares = compares_none c.args.beside.now }

pub loop-step-preserved : goal.loop-step-preserved
loop-step-preserved c =
    let so_far = c.loop-step.invariant in
    let next = (rw c.in-Some.is at c.next.ensures.steps).0 in record {
      parts = so_far.parts ∙ ap (λ (l : List Step). c.loop-step.yielded ++ l) next ∙ sym (append_assoc c.loop-step.yielded (c.in-Some.step ∷ []) c.next.new.self.rest.items);
      by_line = second_so _ _ (ap (list_all (comes_by_line true (chip_domains c.args.beside.now.world.value.setup.domains))) (sym next) ∙ so_far.by_line);
      compares = compares_more c.args.beside.now c.loop-step.beside c.step.new.self _ _ so_far.compares c.in_ok-step.ensures;
    }

pub step-requires-clause-world : goal.step-requires-clause-world
step-requires-clause-world c =
    let p = c.requires.stands in
    (c.loop-step.invariant.compares p.0 p.1 p.2 p.3).stands

pub step-requires-clause-by_line : goal.step-requires-clause-by_line
step-requires-clause-by_line c =
    let so_far = c.loop-step.invariant in
    let p = c.requires.stands in
    let next = (rw c.in-Some.is at c.next.ensures.steps).0 in
    let same = (so_far.compares p.0 p.1 p.2 p.3).setup_is ∙ sym p.3.setup_is in
    ap (λ (s : Setup). comes_by_line true (chip_domains s.domains) c.in-Some.step) same
    ∙ first_so _ _ (ap (list_all (comes_by_line true (chip_domains c.args.beside.now.world.value.setup.domains))) (sym next) ∙ so_far.by_line)

pub returns : goal.returns
returns c = λ transcript setup before b.
    let so_far = c.loop-step.invariant in
    let new = c.loop-step.beside in
    let left = c.loop-step.step-iterator.rest in
    let all : c.args.steps.items ≡ c.loop-step.yielded =
    so_far.parts ∙ ap (λ (l : List Step). c.loop-step.yielded ++ l) (nothing_left left.items (sym left.ok.0 ∙ c.in-None.ensures.steps.0)) ∙ append-nil c.loop-step.yielded in
    subst (λ (l : List Step). IsBeside transcript setup (before ++ l) new.world.value new.cursor new.differs) (sym all) (so_far.compares transcript setup before b)
