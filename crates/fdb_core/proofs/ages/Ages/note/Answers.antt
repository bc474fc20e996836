use Rattle.std.proofs.Common.{◌≡◌, None, ◌∷◌, [], ◌++◌, sym, ap, ◌∙◌, arith}
use Rattle.fdb_core.specs.Places.{Place}
use Rattle.fdb_core.proofs.Places.{tells-put, told-noted, none_of}
use Rattle.fdb_core.proofs.ages.Ages.note.Goals as goal

pub returns-in_default : goal.returns-in_default
returns-in_default c = λ es x is told so.
    let none : c.args.news ≡ None = none_of c.args.news c.in_default.not-Some in
    tells-put es c.args.key x c.args.self.now.latest c.args.self.now.places.items (sym is ∙ none) (told so)

pub returns : goal.returns
returns c = λ es x is told.
    told-noted c.args.self.now.complete c.args.self.now.latest c.in-Some.moment c.args.key c.args.self.now.places.items c.push_back_reserved.new.self.items es x (sym c.in-Some.is ∙ is) (omega arith)
    (c.push_back_reserved.ensures.items ∙ ap (λ (p : Place). c.args.self.now.places.items ++ p ∷ []) c.new.ensures) told
