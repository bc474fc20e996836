use Rattle.std.proofs.Common.{◌∙◌, ap, sym, inl, inr}
use Rattle.plane_parts.specs.Sent.{share_of}
use Rattle.plane_parts.proofs.Leaving.{within_own}
use Rattle.cut_walk.proofs.deed.share.Goals as goal

pub returns-in-Copy : goal.returns-in-Copy
returns-in-Copy c port on =
    let v = c.args.verdict.now in
    let own = c.and.ensures ∙ within_own c.args.domains.now port c.args.own v.ports c.ports_of.result on c.members_ascend.ensures.ordered c.ports_of.ensures in
    elim c.in-Copy.is [
      | inl is ↦ own ∙ ap (λ k. share_of c.args.domains.now port k v.ports) (sym is)
      | inr is ↦ own ∙ ap (λ k. share_of c.args.domains.now port k v.ports) (sym is)
    ]
