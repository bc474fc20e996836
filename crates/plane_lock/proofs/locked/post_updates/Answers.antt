use Rattle.std.proofs.Common.{◌≡◌, ◌≤◌, ◌<◌, List, [], ◌∷◌, ◌++◌, length, take, slice_get, Some, sym, ap, ◌∙◌, arith}
use Rattle.std.proofs.lemmas.List.{length-take-le, take_all}
use Rattle.std.proofs.lemmas.Option.{slice_get_within}
use Rattle.br_model.specs.declared.change.Update.{Update}
use Rattle.br_model.specs.Table.Change.{updates}
use Rattle.deferred_queue.specs.Ends.{Posting}
use Rattle.br_model.proofs.Plane.Growing.{few-updates, ticket-there}
use Rattle.plane_lock.proofs.Prefixes.{none-there, prefix-take, take-one}
use Rattle.plane_lock.proofs.locked.post_updates.Goals as goal

pub loop-ticket-init : goal.loop-ticket-init
loop-ticket-init g c =
    let p = c.args.plane.now.world in
    let us = updates p.setup.domains.edition p.history in
    ap (λ (l : List Update). record c.args.poster.now { posted = l }) (prefix-take c.args.poster.now.posted us c.requires ∙ ap (λ n. take n us) (sym c.posted-ticket.ensures))

pub post-requires-clause-ticket : goal.post-requires-clause-ticket
post-requires-clause-ticket g c =
    let p = c.args.plane.now.world in
    let us = updates p.setup.domains.edition p.history in
    let at : slice_get us c.loop-ticket.ticket ≡ Some c.in-Some.update = sym c.update.ensures ∙ c.in-Some.is in
    let below : c.loop-ticket.ticket ≤ length us = omega (arith, slice_get_within us c.loop-ticket.ticket c.in-Some.update at) in
    ticket-there p.setup.domains.edition p.history c.loop-ticket.ticket c.in-Some.update at
    ∙ (sym (length-take-le c.loop-ticket.ticket us below) ∙ sym (ap (λ (x : Posting). length x.posted) c.loop-ticket.invariant))

pub post-requires-clause-room : goal.post-requires-clause-room
post-requires-clause-room g c =
    let p = c.args.plane.now.world in
    let us = updates p.setup.domains.edition p.history in
    let at : slice_get us c.loop-ticket.ticket ≡ Some c.in-Some.update = sym c.update.ensures ∙ c.in-Some.is in
    let there : c.loop-ticket.ticket < length us = slice_get_within us c.loop-ticket.ticket c.in-Some.update at in
    let below : c.loop-ticket.ticket ≤ length us = omega (arith, there) in
    let long : length c.loop-ticket.poster.posted ≡ c.loop-ticket.ticket = ap (λ (x : Posting). length x.posted) c.loop-ticket.invariant ∙ length-take-le c.loop-ticket.ticket us below in
    omega (arith, long, there, few-updates p.setup.domains.edition p.history, c.stands.ensures.world.history.few)

pub loop-ticket-preserved : goal.loop-ticket-preserved
loop-ticket-preserved g c =
    let p = c.args.plane.now.world in
    let us = updates p.setup.domains.edition p.history in
    let first = c.args.poster.now in
    c.post.ensures
    ∙ (ap (λ (x : Posting). record x { posted = x.posted ++ c.in-Some.update ∷ [] }) c.loop-ticket.invariant
    ∙ ap (λ (l : List Update). record first { posted = l }) (take-one us c.loop-ticket.ticket c.in-Some.update (sym c.update.ensures ∙ c.in-Some.is)))

pub returns-in-None : goal.returns-in-None
returns-in-None g c =
    let p = c.args.plane.now.world in
    let us = updates p.setup.domains.edition p.history in
    c.loop-ticket.invariant
    ∙ ap (λ (l : List Update). record c.args.poster.now { posted = l }) (take_all c.loop-ticket.ticket us (none-there us c.loop-ticket.ticket (sym c.update.ensures ∙ c.in-None.is)))

pub returns : goal.returns
returns g c =
    let p = c.args.plane.now.world in
    let us = updates p.setup.domains.edition p.history in
    c.loop-ticket.invariant
    ∙ ap (λ (l : List Update). record c.args.poster.now { posted = l })
    (take_all c.loop-ticket.ticket us (omega (arith, c.loop-ticket-test.false, few-updates p.setup.domains.edition p.history, c.stands.ensures.world.history.few)))
