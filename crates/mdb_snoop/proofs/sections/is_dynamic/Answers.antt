use Rattle.std.proofs.Common.{sym, ap, ◌∙◌}
use Rattle.std.specs.Ordering.{nat_cmp}
use Rattle.br_model.specs.Data.Maps.{get}
use Rattle.mdb_snoop.specs.Database.{is_dynamic}
use Rattle.mdb_snoop.proofs.Flat.{get-at, get-gap}
use Rattle.mdb_snoop.proofs.sections.is_dynamic.Goals as goal

pub returns-in-Ok : goal.returns-in-Ok
returns-in-Ok g c =
    let at = c.in-Ok.ensures.found in
    c.is_dynamic.ensures
    ∙ ap (λ s. is_dynamic (get nat_cmp s.1 c.args.port)) (at.reads _)
    ∙ ap is_dynamic (sym (get-at _ _ _ c.args.port at))

pub returns-in-Err : goal.returns-in-Err
returns-in-Err g c = ap is_dynamic (sym (get-gap _ _ _ c.args.port c.in-Err.ensures.gap))
