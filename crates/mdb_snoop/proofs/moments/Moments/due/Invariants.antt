use Rattle.std.proofs.Common.{◌≡◌, ◌&&◌}
use Rattle.std.specs.Prelude.{nat_le, slice_index}
use Rattle.br_model.specs.Table.Domains.{port_places}
use Rattle.port_sets.specs.Numbers.{numbers_below, has_number}
use Rattle.mdb_snoop.proofs.moments.Moments.due.Given as goal

abbrev pub invariant-loop-port : goal.invariant-loop-port
invariant-loop-port l = l.due ≡ numbers_below port_places (λ m. has_number l.yielded m && nat_le (slice_index l.self-inside.moments m) l.now)
