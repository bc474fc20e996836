use Rattle.std.proofs.Common.{◌≡◌, ◌-◌, ◌++◌, length, replicate, ap, sym, ◌∙◌, arith}
use Rattle.std.proofs.lemmas.List.{append-nil}
use Rattle.lists.proofs.padded.lay.Goals as goal

pub returns-else-len-clause-items : goal.returns-else-len-clause-items
returns-else-len-clause-items g c =
    let old = c.args.items.now.items in
    let none : c.args.len - length old ≡ 0 = omega (arith, c.args.items.now.ok.0) in
    sym (append-nil old) ∙ ap (λ n. old ++ replicate n c.args.blank) (sym none)
