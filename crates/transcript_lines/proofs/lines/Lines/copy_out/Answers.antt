use Rattle.std.proofs.Common.{arith, ◌≡◌, ◌++◌, List, ℕ, Vec, Global, map, drop, sym, ap, ap₂, ◌∙◌}
use Rattle.std.proofs.lemmas.List.{take_rest}
use Rattle.br_model.specs.declared.transcript.Line.{Line}
use Rattle.transcript_lines.specs.declared.row.Row.{Row}
use Rattle.transcript_lines.specs.Rows.{Listed, expand, moved_row}
use Rattle.transcript_lines.proofs.RowLaws.{copied, copied_inside, saved_all}
use Rattle.transcript_lines.proofs.lines.Lines.copy_out.Goals as goal

-- The rows and bytes behind the savepoint, in an arena of their own.

bytes-are : (c : goal.After-new-4) → c.add.new.arena.items ≡ drop c.self.inside.saved_bytes c.self.inside.bytes.items
bytes-are c =
    c.add.ensures.items
    ∙ ap₂ (λ (a b : List ℕ). a ++ b) (ap (λ (v : Vec ℕ Global). v.items) c.replace-bytes.ensures.value ∙ c.self.invariant.4)
    (take_rest c.deref-2.result.now c.self.inside.saved_bytes ∙ ap (drop c.self.inside.saved_bytes) c.deref-2.ensures.value)

rows-are : (c : goal.After-new-4) → c.add_moved.new.rows.items ≡ map (moved_row c.self.inside.saved_bytes) (drop c.self.inside.saved_rows c.self.inside.rows.items)
rows-are c =
    c.add_moved.ensures.items
    ∙ ap₂ (λ (a b : List Row). a ++ map (moved_row c.self.inside.saved_bytes) b) (ap (λ (v : Vec Row Global). v.items) c.replace-rows.ensures.value ∙ c.self.invariant.3)
    (take_rest c.deref.result.now c.self.inside.saved_rows ∙ ap (drop c.self.inside.saved_rows) c.deref.ensures.value)

pub invariant_of-result : goal.invariant_of-result
invariant_of-result c = (
  saved_all _ _ _ _
      (copied_inside c.self.inside.saved_bytes c.self.inside.saved_rows c.self.inside.bytes.items _ c.self.inside.rows.items _ c.self.invariant.0 (bytes-are c) (rows-are c))
      (c.len.ensures ∙ c.add_moved.new.rows.ok.0) (c.len-2.ensures ∙ c.add.new.arena.ok.0),
  record { all = c.add_moved.new.rows.ok.1; copy = omega (arith, c.len.ensures) },
  record { all = c.add.new.arena.ok.1; copy = omega (arith, c.len-2.ensures) },
  c.new-3.ensures.items,
  c.new-4.ensures.items,
)

pub returns-clause-copy : goal.returns-clause-copy
returns-clause-copy c =
    sym (ap (λ (l : Listed). l.lines) c.self.view_is)
    ∙ (copied c.self.inside.saved_bytes c.self.inside.saved_rows c.self.inside.bytes.items _ c.self.inside.rows.items _ c.self.invariant.0.behind (bytes-are c) (rows-are c)
    ∙ ap (λ (l : List Line). l ++ expand c.add.new.arena.items c.add_moved.new.rows.items) (ap (λ (l : Listed). l.saved) c.self.view_is))
