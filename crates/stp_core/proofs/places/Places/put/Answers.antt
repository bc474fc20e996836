use Rattle.std.proofs.Common.{◌∙◌, ℕ, List, ap, arith}
use Rattle.std.specs.Ordering.{nat_cmp}
use Rattle.br_model.specs.declared.tree.TreePort.{TreePort}
use Rattle.br_model.specs.Data.Maps.{put}
use Rattle.stp_core.proofs.places.Places.put.Goals as goal

pub returns : goal.returns
returns c = c.put.ensures.entries ∙ ap (λ (es : List (ℕ × TreePort)). put nat_cmp es c.args.p c.args.x) c.self.view_is

pub invariant_of-self : goal.invariant_of-self
invariant_of-self c =
    c.put.ensures.empty _ (omega (arith, c.max-self-inside.ensures)) (λ k up. c.self.invariant k (omega (arith, c.max-self-inside.ensures, up)))
