use Rattle.std.proofs.Common.{◌≡◌, List, IfOk, ap, subst, ◌∙◌}
use Rattle.br_model.specs.Control.Ageing.{forgets}
use Rattle.br_model.specs.Control.Learning.{Address}
use Rattle.bridge_state.specs.Entries.{old_keys}
use Rattle.bridge_state.proofs.ageing.forgets_old.Goals as goal

pub returns : goal.returns
returns c =
    subst (λ (keys : List Address). IfOk c.forgets.result (λ changes. changes.items ≡ forgets keys))
    (c.as_slice.ensures ∙ c.in_ok-keys.ensures ∙ ap (λ stay. old_keys c.args.now stay c.args.state.now.addresses) c.stay-stay.ensures)
    c.forgets.ensures
