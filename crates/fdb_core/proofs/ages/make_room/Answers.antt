use Rattle.std.proofs.Common.{List, rules, sym, subst}
use Rattle.std.proofs.lemmas.Fn.{filter_same}
use Rattle.fdb_core.specs.Places.{Place, Tells, is_current}
use Rattle.fdb_core.proofs.Places.{tells-left}
use Rattle.fdb_core.proofs.ages.make_room.Goals as goal

pub returns-then-len-capacity : goal.returns-then-len-capacity
returns-then-len-capacity c = λ told complete.
    subst (λ (ps : List Place). Tells c.args.ages.now.latest ps c.args.entries.now.entries)
    (sym (filter_same _ (is_current c.args.entries.now.entries) _ (λ x b f' k. search rules) _ _ c.retain.ensures.filtered))
    (tells-left c.args.ages.now.latest c.args.ages.now.places.items c.args.entries.now.entries (told complete))
