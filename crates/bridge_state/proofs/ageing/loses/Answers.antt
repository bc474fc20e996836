use Rattle.std.proofs.Common.{List, ap, refl, ◌∙◌}
use Rattle.br_model.specs.Control.Ageing.{forgets, forgotten}
use Rattle.br_model.specs.Control.Learning.{Triple}
use Rattle.bridge_state.specs.Standing.{table_of, control_of}
use Rattle.bridge_state.proofs.Reactions.{makes, fit_forgets}
use Rattle.bridge_state.proofs.ageing.loses.Goals as goal

pub returns : goal.returns
returns c =
    let t = table_of c.args.state.now in
    let gone = forgotten t c.args.stations.now in
    makes t (control_of c.args.state.now) _ _ (forgets gone) c.requires refl refl
    (c.in_ok-forgets_reported.ensures ∙ ap (λ (s : List Triple). forgets (forgotten t s)) c.as_slice.ensures)
    refl (fit_forgets t gone) refl
