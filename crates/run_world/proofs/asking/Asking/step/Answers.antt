use Rattle.std.proofs.Common.{Some, refl, string_bytes}
use Rattle.std.proofs.lemmas.Result.{on_ok_weaker}
use Rattle.run_world.specs.declared.asking.Asking.{Asking}
use Rattle.run_world.proofs.Querying.{said_more}
use Rattle.run_world.proofs.asking.Asking.step.Goals as goal

pub step-requires-clause-here : goal.step-requires-clause-here
step-requires-clause-here g c = rw c.in-Some.is at c.requires.here

pub returns-clause-says : goal.returns-clause-says
returns-clause-says g c =
    let new : Asking = record { addresses = c.args.self.now.addresses; host = Some c.step.new.self; text = c.step.new.text } in
    on_ok_weaker c.step.result
    (λ hears. said_more c.args.self.now c.in-Some.host c.step.new.self (string_bytes c.step.new.text) c.args.world.now c.args.step new c.in-Some.is hears refl refl refl)
    c.step.ensures.hears
