use Rattle.std.proofs.Common.{arith, ◌≡◌, ◌≤◌, ◌+◌, ◌++◌, List, ℕ, length, vec_len, ap, ap₂, ◌∙◌}
use Rattle.br_model.specs.declared.transcript.Line.{Line}
use Rattle.transcript_lines.specs.declared.row.Row.{Row}
use Rattle.transcript_lines.specs.declared.row.Row.TheVariants.{Sent}
use Rattle.transcript_lines.specs.Rows.{Listed, sent_lines}
use Rattle.transcript_lines.proofs.RowLaws.{at-first, at-last, fit_more, fits, grows, saved_kept, saved_more, pushed}
use Rattle.std.proofs.lemmas.List.{append_assoc, length-append}
use Rattle.transcript_lines.proofs.lines.Lines.push_sent.Goals as goal

module _ (c : goal.After-push_reserved) where
  abbrev row : Row
  row = Sent c.args.id c.args.ports c.args.untagged c.store-plain.result c.store_tagged-tagged.result

  abbrev form : List ℕ
  form = c.store_tagged-tagged.ensures.form.form

  first : length c.self.inside.bytes.items ≤ length c.store-plain.new.arena.items
  first = grows _ _ _ c.store-plain.ensures.items

  last : length c.store-plain.new.arena.items ≤ length c.store_tagged-tagged.new.arena.items
  last = grows _ _ _ c.store_tagged-tagged.ensures.form.items

  both : c.store_tagged-tagged.new.arena.items ≡ c.self.inside.bytes.items ++ ((c.args.front.now ++ c.args.rest.now) ++ form)
  both = c.store_tagged-tagged.ensures.form.items
      ∙ ap (λ l. l ++ form) c.store-plain.ensures.items
      ∙ append_assoc c.self.inside.bytes.items (c.args.front.now ++ c.args.rest.now) form

  -- so many bytes
  more : ℕ
  more = (length c.args.front.now + length c.args.rest.now) + length form

  few : more ≤ (length c.args.front.now + length c.args.rest.now) + (length c.args.front.now + (length c.args.tag.now + length c.args.rest.now))
  unfolding more
  few = omega (arith, c.store_tagged-tagged.ensures.form.short, length-append c.args.front.now (c.args.tag.now ++ c.args.rest.now), length-append c.args.tag.now c.args.rest.now)

  long : vec_len c.store_tagged-tagged.new.arena ≡ vec_len c.self.inside.bytes + more
  unfolding more
  long = omega (
    arith,
    c.store_tagged-tagged.new.arena.ok.0,
    c.store-plain.new.arena.ok.0,
    c.store-plain.ensures.len,
    ap length c.store_tagged-tagged.ensures.form.items,
    length-append c.store-plain.new.arena.items form,
  )

pub invariant_of-self : goal.invariant_of-self
invariant_of-self c = (
  saved_more c.self.inside.bytes.items _ _ c.self.inside.rows.items _ (row c) _ _ c.self.invariant.0 (both c) c.push_reserved.ensures.items (
    omega (arith, fits _ _ _ c.store-plain.result c.store-plain.ensures.items c.store-plain.ensures.from c.store-plain.ensures.size, last c),
    fits _ _ _ c.store_tagged-tagged.result c.store_tagged-tagged.ensures.form.items c.store_tagged-tagged.ensures.form.from c.store_tagged-tagged.ensures.form.size,
  ) (
    omega (arith, c.self.invariant.0.bytes_before, c.store-plain.ensures.from),
    omega (arith, c.self.invariant.0.bytes_before, c.store_tagged-tagged.ensures.form.from, first c),
  ),
  fit_more _ _ _ _ 1 _ _ _ c.self.invariant.1 (ap (λ (l : Listed). l.rows) c.self.view_is) c.requires.rows c.push_reserved.ensures.len (omega (arith, c.push_reserved.ensures.capacity)),
  fit_more _ _ _ _ (more c) _ _ _ c.self.invariant.2 (ap (λ (l : Listed). l.bytes) c.self.view_is) (omega (arith, c.requires.bytes, few c)) (long c)
      (omega (arith, c.store-plain.ensures.capacity, c.store_tagged-tagged.ensures.capacity)),
  c.self.invariant.3,
  c.self.invariant.4,
)

pub returns-clause-lines : goal.returns-clause-lines
returns-clause-lines c =
    pushed c.self.inside.bytes.items _ _ c.self.inside.rows.items _ (row c) _ c.self.invariant.0.inside (ap (λ (l : Listed). l.lines) c.self.view_is) (both c) c.push_reserved.ensures.items
    ∙ ap₂ (λ plain tagged. c.args.self.now.lines ++ sent_lines c.args.id c.args.ports c.args.untagged plain tagged)
    (at-first c.self.inside.bytes.items _ _ _ _ c.store-plain.result c.store-plain.ensures.items c.store_tagged-tagged.ensures.form.items c.store-plain.ensures.from
    c.store-plain.ensures.size)
    (at-last _ _ _ c.store_tagged-tagged.result c.store_tagged-tagged.ensures.form.items c.store_tagged-tagged.ensures.form.from c.store_tagged-tagged.ensures.form.size)
    ∙ ap (λ (ls : List Line). c.args.self.now.lines ++ ls) (c.store_tagged-tagged.ensures.form.same c.args.id (c.args.front.now ++ c.args.rest.now))

pub returns-clause-bytes : goal.returns-clause-bytes
returns-clause-bytes c = omega (arith, c.store-plain.ensures.capacity, c.store_tagged-tagged.ensures.capacity, long c, few c, ap (λ (l : Listed). l.bytes) c.self.view_is)

pub returns-clause-saved : goal.returns-clause-saved
returns-clause-saved c =
    saved_kept c.self.inside.bytes.items _ _ c.self.inside.rows.items _ (row c) c.self.inside.saved_rows _ c.self.invariant.0.inside c.self.invariant.0.rows_before
    (ap (λ (l : Listed). l.saved) c.self.view_is) (both c) c.push_reserved.ensures.items
