use Rattle.std.proofs.Common.{refl, sym, ◌∙◌}
use Rattle.mcast_querier.specs.Hearing.{asker_in}
use Rattle.run_world.proofs.Hearing.{keeps_none}
use Rattle.run_world.proofs.entered.Entered.keep.Goals as goal

pub returns-else-asks : goal.returns-else-asks
returns-else-asks c = λ askers keeps.
    keeps_none c.args.self.now (record { count = c.in_ok-self.field-0; queries = c.args.self.now.queries }) askers (asker_in c.args.bytes.now) c.in_ok-self.ensures keeps (λ place. refl)
    (sym c.asks.ensures ∙ c.if-asks.false)
