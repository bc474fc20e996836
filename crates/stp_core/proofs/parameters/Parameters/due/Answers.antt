use Rattle.std.proofs.Common.{◌≡◌, ◌∙◌, ◌&&◌, ◌||◌, ℕ, List, true, false, refl, ap, ap₂, sym}
use Rattle.std.specs.List.{list_any}
use Rattle.br_model.specs.declared.tree.TreePort.{TreePort}
use Rattle.br_model.specs.Tree.Timers.{forward_delay}
use Rattle.stp_core.specs.declared.vectors.Election.{Election}
use Rattle.stp_core.specs.Due.{election_of, is_any_due, is_due_at, is_timer_due}
use Rattle.stp_core.proofs.Firsts.{first_either, first_same, first_none}
use Rattle.stp_core.proofs.parameters.Parameters.due.Goals as goal

pub returns-then-self : goal.returns-then-self
unfolding is_any_due
returns-then-self c =
    let t = c.args.self.now in
    let es = c.self.inside.places in
    let on : t.on ≡ true = ap (λ u. u.on) (sym c.self.view_is) ∙ c.if-self.true in
    let timer = λ (now : ℕ). is_timer_due now t in
    let ports = λ (now : ℕ). list_any (is_due_at c.election.result c.forward_delay.result now) es in
    first_same _ c.min.result (λ now. timer now || ports now) (is_any_due t) (sym c.min.ensures)
    (λ now.
    ap₂ (λ (el : Election) (delay : ℕ). timer now || list_any (is_due_at el delay now) es) c.election.ensures c.forward_delay.ensures
    ∙ ap (λ (xs : List (ℕ × TreePort)). timer now || list_any (is_due_at (election_of t) (forward_delay t) now) xs) (ap (λ u. u.ports) c.self.view_is)
    ∙ sym (ap (λ b. b && (timer now || list_any (is_due_at (election_of t) (forward_delay t) now) t.ports)) on))
    (first_either c.timers_due.result c.due.result timer ports c.timers_due.ensures c.due.ensures)

pub returns-else-self : goal.returns-else-self
unfolding is_any_due
returns-else-self c =
    let t = c.args.self.now in
    let off : t.on ≡ false = ap (λ u. u.on) (sym c.self.view_is) ∙ c.if-self.false in
    first_same _ _ (λ _. false) (is_any_due t) refl
    (λ now. sym (ap (λ b. b && (is_timer_due now t || list_any (is_due_at (election_of t) (forward_delay t) now) t.ports)) off))
    first_none
