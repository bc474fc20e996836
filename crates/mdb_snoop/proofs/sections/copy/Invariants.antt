use Rattle.std.proofs.Common.{◌≡◌, ◌≤◌, take}
use Rattle.std.specs.Vec.{vec_capacity}
use Rattle.br_model.specs.Table.GroupPairs.{max_pairs}
use Rattle.mdb_snoop.proofs.sections.copy.Given as goal

abbrev pub invariant-loop-section : goal.invariant-loop-section
invariant-loop-section l = (l.copies.items ≡ take l.section-index l.sections) × (max_pairs ≤ vec_capacity l.copies)
