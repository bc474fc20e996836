use Rattle.std.proofs.Common.{◌≡◌, List, ℕ, IfOk, replicate, rules, subst}
use Rattle.vlan_groups.proofs.joined.no_sets.Goals as goal

pub returns : goal.returns
returns c = subst (λ (e : List ℕ). IfOk c.vec.result (λ v. v.items ≡ replicate c.args.count e)) c.empty-none.ensures (search rules)
