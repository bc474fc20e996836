use Rattle.std.proofs.Common.{◌∷◌, [], ◌++◌, ℕ, List, sym, ap, ◌∙◌, subst, append-nil, append_assoc}
use Rattle.std.specs.List.{flat_map}
use Rattle.mcast_querier.specs.Runs.{heard_in}
use Rattle.transcript_lines.specs.Rows.{sent_lines}
use Rattle.run_world.specs.Hearing.{Hears}
use Rattle.run_world.proofs.Hearing.{sent_more}
use Rattle.run_world.proofs.entered.Entered.hear_sent.Goals as goal

pub returns : goal.returns
returns c = λ askers untagged plain tagged keeps.
    let all = c.ports.invariant in
    let ports = all.splits ∙ ap (λ (l : List ℕ). c.ports.yielded ++ l) c.in-None.ensures.steps.0 ∙ append-nil c.ports.yielded in
    subst (λ (l : List ℕ). Hears c.args.querier.now (flat_map (heard_in askers c.args.now) (sent_lines c.args.id l untagged plain tagged)) c.ports.querier) (sym ports)
    (all.hears askers untagged plain tagged keeps)

pub ports-preserved : goal.ports-preserved
ports-preserved c =
    let all = c.ports.invariant in
    let next = c.in-Some.ensures.steps in record {
      splits = all.splits ∙ ap (λ (l : List ℕ). c.ports.yielded ++ l) next ∙ sym (append_assoc c.ports.yielded (c.in-Some.port ∷ []) c.next.new.self);
      hears = λ askers untagged plain tagged keeps.
          sent_more askers c.args.now c.args.id c.ports.yielded c.in-Some.port untagged plain tagged c.args.querier.now c.ports.querier c.hear_at.new.querier
          (all.hears askers untagged plain tagged keeps) (λ bytes. c.hear_at.ensures askers bytes keeps);
    }
