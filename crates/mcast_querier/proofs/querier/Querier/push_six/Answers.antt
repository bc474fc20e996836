use Rattle.std.proofs.Common.{◌≡◌, ◌++◌, sym, ap, subst, ◌∙◌}
use Rattle.std.specs.Prelude.{OnOk}
use Rattle.std.proofs.lemmas.Result.{on_ok_weaker}
use Rattle.mcast_querier.specs.Election.{Election}
use Rattle.mcast_querier.specs.Querier.{QuerierState, query_of}
use Rattle.mcast_querier.specs.Queries.{query_six}
use Rattle.mcast_querier.proofs.Pushed.{pushed}
use Rattle.mcast_querier.proofs.querier.Querier.push_six.Goals as goal

pub returns : goal.returns
returns c =
    let q = c.self.inside in
    let leaves = sym c.queries_at.ensures ∙ c.if-not-queries_at.false in
    let is = c.in_ok-query.ensures ∙ c.query_six.ensures ∙ ap (λ (e : Election). query_six q.own e.address) c.six.view_is in
    subst (λ (q : QuerierState). OnOk c.push.result (c.push.new.self ≡ c.args.queries.now ++ query_of q.six c.args.now (query_six q.own q.six.address)))
    c.self.view_is
    (on_ok_weaker c.push.result
    (pushed q.six c.args.now (query_six q.own q.six.address) c.in_ok-query.query c.args.queries.now c.push.new.self leaves is)
    c.push.ensures.ok)
