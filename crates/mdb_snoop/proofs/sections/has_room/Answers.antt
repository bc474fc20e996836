use Rattle.std.proofs.Common.{length, ◌∙◌, sym, ap}
use Rattle.std.specs.Prelude.{◌||◌, nat_lt}
use Rattle.br_model.specs.Table.GroupPairs.{max_pairs}
use Rattle.mdb_snoop.proofs.Questions.{room-is}
use Rattle.mdb_snoop.proofs.sections.has_room.Goals as goal

pub returns-then-has : goal.returns-then-has
returns-then-has g c =
    c.if-has.true
    ∙ sym (room-is c.args.sections.now c.args.key.now.0 c.args.key.now.1 c.requires ∙ ap (λ b. b || nat_lt (length c.args.sections.now) max_pairs) (sym c.has.ensures ∙ c.if-has.true))

pub returns-else-has : goal.returns-else-has
returns-else-has g c =
    sym (room-is c.args.sections.now c.args.key.now.0 c.args.key.now.1 c.requires ∙ ap (λ b. b || nat_lt (length c.args.sections.now) max_pairs) (sym c.has.ensures ∙ c.if-has.false))
