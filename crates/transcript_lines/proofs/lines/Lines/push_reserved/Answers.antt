use Rattle.std.proofs.Common.{arith, [], sym, ap}
use Rattle.std.proofs.lemmas.List.{append-nil}
use Rattle.transcript_lines.specs.declared.row.Row.TheVariants.{One}
use Rattle.transcript_lines.specs.Rows.{Listed}
use Rattle.transcript_lines.proofs.RowLaws.{fit_more, saved_kept_one, saved_more, pushed_one}
use Rattle.transcript_lines.proofs.lines.Lines.push_reserved.Goals as goal

pub invariant_of-self : goal.invariant_of-self
invariant_of-self c = (
  saved_more c.self.inside.bytes.items [] _ c.self.inside.rows.items _ (One c.args.line) _ _ c.self.invariant.0
      (sym (append-nil c.self.inside.bytes.items)) c.push_reserved.ensures.items tt c.requires.plain,
  fit_more _ _ _ _ 1 _ _ _ c.self.invariant.1 (ap (λ (l : Listed). l.rows) c.self.view_is) c.requires.room c.push_reserved.ensures.len (omega (arith, c.push_reserved.ensures.capacity)),
  c.self.invariant.2,
  c.self.invariant.3,
  c.self.invariant.4,
)

pub returns-clause-lines : goal.returns-clause-lines
returns-clause-lines c =
    pushed_one c.self.inside.bytes.items c.self.inside.rows.items _ (One c.args.line) _ (ap (λ (l : Listed). l.lines) c.self.view_is)
    c.push_reserved.ensures.items

pub returns-clause-saved : goal.returns-clause-saved
returns-clause-saved c =
    saved_kept_one c.self.inside.bytes.items c.self.inside.rows.items _ (One c.args.line) c.self.inside.saved_rows _ c.self.invariant.0.rows_before
    (ap (λ (l : Listed). l.saved) c.self.view_is) c.push_reserved.ensures.items
