use Rattle.std.proofs.Common.{◌||◌, ℕ, refl, sym}
use Rattle.br_model.specs.Tree.Timers.{is_tcn_due}
use Rattle.stp_core.specs.Due.{is_change_over, says_hello, is_timer_due}
use Rattle.stp_core.proofs.Firsts.{first_either, first_same}
use Rattle.stp_core.proofs.parameters.Parameters.timers_due.Goals as goal

pub returns : goal.returns
returns c =
    let t = c.args.self.now in
    let change = λ (now : ℕ). is_change_over now t in
    let notification = λ (now : ℕ). is_tcn_due now t in
    let hello = λ (now : ℕ). says_hello now t in
    first_same _ c.min-2.result (λ now. (change now || notification now) || hello now) (λ now. is_timer_due now t) (sym c.min-2.ensures) (λ now. refl)
    (first_either c.min.result c.hello_expiry.result (λ now. change now || notification now) hello
    (first_same _ c.min.result (λ now. change now || notification now) (λ now. change now || notification now) (sym c.min.ensures) (λ now. refl)
    (first_either c.change_expiry.result c.notification_expiry.result change notification c.change_expiry.ensures c.notification_expiry.ensures))
    c.hello_expiry.ensures)
