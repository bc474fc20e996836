use Rattle.std.proofs.Common.{◌≡◌, true, [], ◌∷◌, ◌++◌, List, sym, ap, ◌∙◌, refl, subst, append_assoc, rules, string_bytes}
use Rattle.std.proofs.lemmas.List.{append-nil}
use Rattle.std.specs.Cmp.{first_so, second_so}
use Rattle.std.specs.List.{list_all}
use Rattle.br_model.specs.declared.steps.Step.{Step}
use Rattle.br_model.specs.Text.LineForms.{comes_by_line}
use Rattle.br_model.specs.Text.Roster.{chips_of}
use Rattle.scenario_reader.specs.Reading.{ReaderState}
use Rattle.scenario_play.specs.Playing.{DoesAll, played}
use Rattle.scenario_play.proofs.Steps.{does_fits, does_more, does_none, does_ready, keeps_on, nothing_left}
use Rattle.scenario_play.proofs.play.Play.do_steps.Goals as goal

pub loop-step-init : goal.loop-step-init
loop-step-init g c = record {
  parts = search rules;
  by_line = search rules;
  reader = search rules;
  ready = search rules;
  fits = search rules;
  keeps = record { checks = refl; says = refl };
  does = does_none (played c.args.self.now (g.W.Stage.stands c.args.stage.now) (string_bytes c.args.text.now));
}

pub loop-step-preserved : goal.loop-step-preserved
loop-step-preserved g c =
    let so_far = c.loop-step.invariant in
    let done = c.in_ok-step.ensures.does in
    let first = played c.args.self.now (g.W.Stage.stands c.args.stage.now) (string_bytes c.args.text.now) in
    let old = played c.loop-step.self (g.W.Stage.stands c.loop-step.stage) (string_bytes c.loop-step.text) in
    let new = played c.step.new.self (g.W.Stage.stands c.step.new.stage) (string_bytes c.step.new.text) in
    let next = (rw c.in-Some.is at c.next.ensures.steps).0 in record {
      parts = so_far.parts ∙ ap (λ (l : List Step). c.loop-step.yielded ++ l) next ∙ sym (append_assoc c.loop-step.yielded (c.in-Some.step ∷ []) c.next.new.self.rest.items);
      by_line = second_so _ _ (ap (list_all (comes_by_line c.args.self.now.reader.roster.check (chips_of c.args.self.now.reader.roster.ports))) (sym next) ∙ so_far.by_line);
      reader = done.reader ∙ so_far.reader;
      ready = does_ready old new c.in-Some.step done;
      fits = does_fits old new c.in-Some.step done;
      keeps = keeps_on first.stage old.stage new.stage so_far.keeps done.done.keeps;
      does = does_more first old new _ _ so_far.does done;
    }

pub step-requires-clause-by_line : goal.step-requires-clause-by_line
step-requires-clause-by_line g c =
    let so_far = c.loop-step.invariant in
    let next = (rw c.in-Some.is at c.next.ensures.steps).0 in
    ap (λ (r : ReaderState). comes_by_line r.roster.check (chips_of r.roster.ports) c.in-Some.step) so_far.reader
    ∙ first_so _ _ (ap (list_all (comes_by_line c.args.self.now.reader.roster.check (chips_of c.args.self.now.reader.roster.ports))) (sym next) ∙ so_far.by_line)

pub returns-clause-does : goal.returns-clause-does
returns-clause-does g c =
    let so_far = c.loop-step.invariant in
    let left = c.loop-step.step-iterator.rest in
    let first = played c.args.self.now (g.W.Stage.stands c.args.stage.now) (string_bytes c.args.text.now) in
    let all : c.args.steps.items ≡ c.loop-step.yielded =
    so_far.parts ∙ ap (λ (l : List Step). c.loop-step.yielded ++ l) (nothing_left left.items (sym left.ok.0 ∙ c.in-None.ensures.steps.0)) ∙ append-nil c.loop-step.yielded in
    subst (λ (l : List Step). DoesAll first l (played c.loop-step.self (g.W.Stage.stands c.loop-step.stage) (string_bytes c.loop-step.text))) (sym all) so_far.does
