use Rattle.std.proofs.Common.{ℕ, ◌++◌, not, if◌then◌else◌, List, [], refl, sym, ap, ◌∙◌, arith}
use Rattle.std.proofs.lemmas.List.{append-nil}
use Rattle.std.proofs.lemmas.Bool.{not-false}
use Rattle.br_model.specs.declared.transcript.Line.TheVariants as lines
use Rattle.port_sets.specs.Numbers.{has_number}
use Rattle.port_sets.proofs.Numbers.{filter-set}
use Rattle.transcript_lines.proofs.RowLaws.{none_left}
use Rattle.transcript_lines.proofs.lines.store_tagged.Goals as goal

pub returns-then-is_empty-clause-form : goal.returns-then-is_empty-clause-form
returns-then-is_empty-clause-form c =
    let arena = c.args.arena.now.items in
    let ports = c.args.ports in
    let untagged = c.args.untagged in
    let whole : List ℕ = c.args.front.now ++ (c.args.tag.now ++ c.args.rest.now) in
    let none = filter-set 256 ports (λ m. not (has_number untagged m)) c.members_ascend.ensures.ordered ∙ sym c.minus.ensures ∙ c.is_empty.ensures.0 c.if-is_empty.true in
    record {
      form = [];
      items = sym (append-nil arena);
      from = c.len.ensures ∙ c.args.arena.now.ok.0;
      size = refl;
      short = omega arith;
      same = λ id plain. none_left (λ m. not (has_number untagged m)) ports (λ p. lines.Tx id p (if has_number untagged p then plain else []))
          (λ p. lines.Tx id p (if has_number untagged p then plain else whole))
          (λ m no. ap (λ b. lines.Tx id m (if b then plain else [])) (not-false (has_number untagged m) no)
          ∙ sym (ap (λ b. lines.Tx id m (if b then plain else whole)) (not-false (has_number untagged m) no))) none;
    }

pub returns-clause-form : goal.returns-clause-form
returns-clause-form c = record {
  form = c.args.front.now ++ (c.args.tag.now ++ c.args.rest.now);
  items = c.store.ensures.items;
  from = c.store.ensures.from;
  size = c.store.ensures.size;
  short = omega arith;
  same = λ id plain. refl;
}
