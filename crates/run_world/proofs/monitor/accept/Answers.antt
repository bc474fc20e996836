use Rattle.std.proofs.Common.{◌++◌, ◌∙◌, ap, List}
use Rattle.std.proofs.lemmas.Result.{on_ok_weaker}
use Rattle.neigh_netlink.specs.declared.neigh.Neigh.{Neigh}
use Rattle.run_world.proofs.Monitoring.{grew, kept_front, kept_on, told_on}
use Rattle.run_world.proofs.monitor.accept.Goals as goal

pub follow-requires-clause-from : goal.follow-requires-clause-from
follow-requires-clause-from g c =
    rw (c.history-from.ensures.value, c.history.ensures.value) (grew c.args.world.now c.step.new.self c.args.step _ c.in_ok-step.ensures.so)

pub follow-requires-clause-kept : goal.follow-requires-clause-kept
follow-requires-clause-kept g c =
    rw (c.history-from.ensures.value, c.history.ensures.value) (kept_front c.args.world.now c.step.new.self c.args.step _ c.in_ok-step.ensures.so c.args.stream.now c.requires.kept)

pub returns-clause-kept : goal.returns-clause-kept
returns-clause-kept g c =
    on_ok_weaker c.follow.result (λ kept. kept ∙ kept_on c.args.world.now c.step.new.self c.args.step _ c.in_ok-step.ensures.so c.args.stream.now c.requires.kept)
    (rw c.history.ensures.value at c.follow.ensures.kept)

pub returns-clause-messages : goal.returns-clause-messages
returns-clause-messages g c =
    on_ok_weaker c.follow.result
    (λ told. told
    ∙ ap (λ (l : List Neigh). c.args.messages.now.items ++ l) (told_on c.args.world.now c.step.new.self c.args.step _ c.in_ok-step.ensures.so c.args.stream.now c.requires.kept c.requires.other))
    (rw (c.history-from.ensures.value, c.history.ensures.value) at c.follow.ensures.messages)
