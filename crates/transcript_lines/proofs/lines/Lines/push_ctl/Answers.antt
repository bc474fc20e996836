use Rattle.std.proofs.Common.{arith, ◌++◌, ◌∷◌, [], ap, ◌∙◌}
use Rattle.br_model.specs.declared.transcript.Line.TheVariants as line
use Rattle.transcript_lines.specs.declared.row.Row.TheVariants.{Ctl}
use Rattle.transcript_lines.specs.Rows.{Listed}
use Rattle.transcript_lines.proofs.RowLaws.{at-last, fit_more, fits, saved_kept, saved_more, pushed}
use Rattle.transcript_lines.proofs.lines.Lines.push_ctl.Goals as goal

pub invariant_of-self : goal.invariant_of-self
invariant_of-self c = (
  saved_more c.self.inside.bytes.items _ _ c.self.inside.rows.items _ (Ctl c.args.port c.store-bytes.result) _ _ c.self.invariant.0 c.store-bytes.ensures.items c.push_reserved.ensures.items
      (fits _ _ _ c.store-bytes.result c.store-bytes.ensures.items c.store-bytes.ensures.from c.store-bytes.ensures.size)
      (omega (arith, c.self.invariant.0.bytes_before, c.store-bytes.ensures.from)),
  fit_more _ _ _ _ 1 _ _ _ c.self.invariant.1 (ap (λ (l : Listed). l.rows) c.self.view_is) c.requires.rows c.push_reserved.ensures.len (omega (arith, c.push_reserved.ensures.capacity)),
  fit_more _ _ _ _ _ _ _ _ c.self.invariant.2 (ap (λ (l : Listed). l.bytes) c.self.view_is) (omega (arith, c.requires.bytes)) c.store-bytes.ensures.len c.store-bytes.ensures.capacity,
  c.self.invariant.3,
  c.self.invariant.4,
)

pub returns-clause-lines : goal.returns-clause-lines
returns-clause-lines c =
    pushed c.self.inside.bytes.items _ _ c.self.inside.rows.items _ (Ctl c.args.port c.store-bytes.result) _ c.self.invariant.0.inside
    (ap (λ (l : Listed). l.lines) c.self.view_is) c.store-bytes.ensures.items c.push_reserved.ensures.items
    ∙ ap (λ b. c.args.self.now.lines ++ line.Ctl c.args.port b ∷ [])
    (at-last _ _ _ c.store-bytes.result c.store-bytes.ensures.items c.store-bytes.ensures.from c.store-bytes.ensures.size)

pub returns-clause-saved : goal.returns-clause-saved
returns-clause-saved c =
    saved_kept c.self.inside.bytes.items _ _ c.self.inside.rows.items _ (Ctl c.args.port c.store-bytes.result) c.self.inside.saved_rows _ c.self.invariant.0.inside c.self.invariant.0.rows_before
    (ap (λ (l : Listed). l.saved) c.self.view_is) c.store-bytes.ensures.items c.push_reserved.ensures.items
