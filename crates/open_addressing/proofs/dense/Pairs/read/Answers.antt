use Rattle.std.proofs.Common.{◌≡◌, ℕ, List, Option, None, get_or, sym, ap, subst, ◌<◌, ◌∙◌, length}
use Rattle.lists.specs.Padded.{padded}
use Rattle.open_addressing.proofs.Zipped.{padded-read, padded-within}
use Rattle.open_addressing.proofs.dense.Pairs.read.Goals as goal

pub returns : goal.returns
returns g c =
    let s = c.self.inside in
    let h = subst (λ (cs : List (Option (ℕ × g.row.V.Denot))). c.args.i < length cs) (sym c.self.view_is) c.requires in
    let is = subst (λ (es : List (ℕ × g.row.V.Denot)). c.item_or.result ≡ get_or (padded (0, s.blank) s.count es) c.args.i (0, s.blank)) c.as_slice.ensures.value
    (c.item_or.ensures.padded s.count (padded-within s.count s.pairs.items c.args.i s.blank h)) in
    ap (λ (cs : List (Option (ℕ × g.row.V.Denot))). get_or cs c.args.i None) (sym c.self.view_is)
    ∙ padded-read s.count s.pairs.items c.args.i s.blank c.item_or.result h is
