use Rattle.std.proofs.Common.{◌≡◌, ℕ, ◌+◌, true, List, [], ◌∷◌, ◌++◌, length, refl, sym, ap, ◌∙◌, arith, append_assoc, length-append}
use Rattle.std.proofs.lemmas.Bool.{and_from}
use Rattle.std.proofs.lemmas.List.{append-nil}
use Rattle.br_model.specs.declared.change.Change.{Change}
use Rattle.br_model.specs.declared.change.Change.TheVariants.{SetFlags}
use Rattle.br_model.specs.Table.Limits.{all_fit}
use Rattle.br_model.specs.Table.Table.{start}
use Rattle.br_model.proofs.Plane.History.{fit-append}
use Rattle.br_model.proofs.Table.Within.{within_of}
use Rattle.table_publish.specs.Board.{Shelf, all_of}
use Rattle.table_publish.specs.Object.{Object, published}
use Rattle.live_tests.proofs.tests.seats.publish_flags.Goals as goal

-- a change of flags always fits
more_fit : (h : List Change) (port flags : ℕ) → all_fit start h ≡ true → all_fit start (h ++ SetFlags port flags ∷ []) ≡ true
more_fit h port flags fit = fit-append start h (SetFlags port flags ∷ []) ∙ and_from _ _ fit refl

all_published : (o : Object) (p : List Change) → (published o p).changes ++ [] ≡ o.changes ++ p
all_published o [] = refl
all_published o (c ∷ cs) = append-nil (o.changes ++ c ∷ cs)

-- the board with one more change of flags
module _ (old new : Shelf) (port flags : ℕ) (is : new ≡ record old { pending = old.pending ++ SetFlags port flags ∷ [] }) where
  all : all_of new ≡ all_of old ++ SetFlags port flags ∷ []
  all = ap all_of is ∙ sym (append_assoc old.object.changes old.pending (SetFlags port flags ∷ []))

  appended_fit : all_fit start (all_of old) ≡ true → all_fit start (all_of new) ≡ true
  appended_fit fit = ap (all_fit start) all ∙ more_fit (all_of old) port flags fit

  appended_more : length (all_of new) ≡ length (all_of old) + 1
  appended_more = ap length all ∙ length-append (all_of old) (SetFlags port flags ∷ [])

pub append-requires : goal.append-requires
append-requires g c = within_of (all_of c.args.board.now ++ SetFlags c.args.port c.args.flags ∷ [])
    (omega (arith, c.requires.few, length-append (all_of c.args.board.now) (SetFlags c.args.port c.args.flags ∷ [])))
    (more_fit (all_of c.args.board.now) c.args.port c.args.flags c.requires.fit)

pub returns-in-Ok-clause-fit : goal.returns-in-Ok-clause-fit
returns-in-Ok-clause-fit g c =
    let now : c.publish.new.self ≡ record { board = c.append.new.self.board; object = published c.append.new.self.object c.append.new.self.pending; pending = [] } = c.in-Ok.ensures.ok in
    ap (λ (s : Shelf). all_fit start (all_of s)) now
    ∙ (ap (all_fit start) (all_published c.append.new.self.object c.append.new.self.pending) ∙ appended_fit c.args.board.now c.append.new.self c.args.port c.args.flags c.append.ensures c.requires.fit)

pub returns-in-Ok-clause-count : goal.returns-in-Ok-clause-count
returns-in-Ok-clause-count g c =
    let now : c.publish.new.self ≡ record { board = c.append.new.self.board; object = published c.append.new.self.object c.append.new.self.pending; pending = [] } = c.in-Ok.ensures.ok in
    ap (λ (s : Shelf). length (all_of s)) now
    ∙ (ap length (all_published c.append.new.self.object c.append.new.self.pending) ∙ appended_more c.args.board.now c.append.new.self c.args.port c.args.flags c.append.ensures)

pub returns-in-Err-clause-fit : goal.returns-in-Err-clause-fit
returns-in-Err-clause-fit g c =
    ap (λ (s : Shelf). all_fit start (all_of s)) c.in-Err.ensures.err ∙ appended_fit c.args.board.now c.append.new.self c.args.port c.args.flags c.append.ensures c.requires.fit

pub returns-in-Err-clause-count : goal.returns-in-Err-clause-count
returns-in-Err-clause-count g c =
    ap (λ (s : Shelf). length (all_of s)) c.in-Err.ensures.err ∙ appended_more c.args.board.now c.append.new.self c.args.port c.args.flags c.append.ensures
