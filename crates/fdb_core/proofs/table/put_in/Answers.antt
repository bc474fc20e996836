use Rattle.std.proofs.Common.{◌≡◌, ℕ, List, ap, sym, subst}
use Rattle.std.specs.Ordering.{nat_cmp}
use Rattle.std.specs.FinMap.Entries as entries
use Rattle.open_addressing.specs.Finite as numbers
use Rattle.fdb_core.specs.declared.entries.Entry.{Entry}
use Rattle.fdb_core.specs.Places.{IsTold}
use Rattle.fdb_core.proofs.table.put_in.Goals as goal

pub returns-clause-told : goal.returns-clause-told
returns-clause-told c before =
    let es = c.args.entries.now.entries in
    let is : c.put_in.new.self.entries ≡ entries.put nat_cmp c.args.key c.args.entry es = ap (λ (t : numbers.Table Entry). t.entries) c.put_in.ensures in
    c.settle.ensures.told
    (subst (λ (l : List (ℕ × Entry)). IsTold c.note.new.self.complete c.note.new.self.latest c.note.new.self.places.items l) (sym is)
    (c.note.ensures es c.args.entry c.requires.news (c.make_room.ensures before)))
