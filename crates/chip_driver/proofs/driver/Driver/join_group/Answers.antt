use Rattle.std.proofs.Common.{sym, subst, ap, ◌∙◌}
use Rattle.br_model.specs.Table.Groups.{Membership, membership_cmp}
use Rattle.br_model.specs.Data.Maps.{joined}
use Rattle.std.specs.Prelude.{List}
use Rattle.chip_driver.specs.declared.shadow.Shadow.{Shadow}
use Rattle.chip_driver.specs.Drives.{Drives, driven}
use Rattle.chip_driver.proofs.Standing.{drives_groups}
use Rattle.chip_driver.proofs.driver.Driver.join_group.Goals as goal

pub returns-clause-drives : goal.returns-clause-drives
returns-clause-drives c d t before =
    let old : Drives d (driven c.self.inside.dom c.self.inside.count c.self.inside.kept) t = subst (λ r. Drives d r t) (sym c.self.view_is) before in
    drives_groups d t _ (driven c.self.inside.dom c.self.inside.count c.self.inside.kept) c.join.new.self old c.join.ensures.kept (ap (λ (s : Shadow). s.routers) c.join.ensures.shadow) c.join.ensures.rest
    (c.join.ensures.members ∙ ap (λ (ms : List Membership). joined membership_cmp ms (c.args.v, c.args.g, c.args.p)) old.groups)
