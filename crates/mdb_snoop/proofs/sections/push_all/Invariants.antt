use Rattle.std.proofs.Common.{◌≡◌, ◌++◌, map}
use Rattle.mdb_snoop.proofs.sections.push_all.Given as goal

abbrev pub invariant-loop-number : goal.invariant-loop-number
invariant-loop-number l = l.out.items ≡ l.fn.out.items ++ map (λ p. (l.vid, l.group, p)) l.yielded
