use Rattle.std.proofs.Common.{rules, ℕ, ◌+◌, ◌*◌, ◌^◌, ◌==◌, List, get_or, lit<, refl, sym, ap, ◌∙◌, arith}
use Rattle.std.specs.List.{slice_split}
use Rattle.std.proofs.lemmas.Iterator.Splits.{YieldsList-from_str_split}
use Rattle.std.proofs.lemmas.Iterator.Consumers.{YieldsList-turn, YieldsList-end}
use Rattle.std.proofs.lemmas.List.{length_push}
use Rattle.br_model.specs.Text.IpWords.{octet}
use Rattle.br_model.specs.Text.Words.{Word}
use Rattle.bridge_command.proofs.Parts.{none_read, more_read, not_read, other_count, all_read, room}
use Rattle.bridge_command.proofs.ip_words.address_four.Goals as goal

abbrev parts : Word → List Word
parts w = slice_split (λ c. c == 46) w

pub loop-part-init : goal.loop-part-init
loop-part-init c = (none_read (2 ^ 8) octet 4 (parts c.args.word.now), refl)

pub returns-then-count-eq-OCTETS : goal.returns-then-count-eq-OCTETS
returns-then-count-eq-OCTETS c =
    let t = YieldsList-turn
    (YieldsList-from_str_split {s = c.into_iter-part-iterator.result} 46 c.args.word.now (lit< tt) (search rules) (search rules) (search rules)) c.loop-part.yielded _ c.loop-part.yielded_by _ _
    c.in-Some.part c.in-Some.is c.next.ensures.steps in
    other_count (2 ^ 8) octet 4 (parts c.args.word.now) (λ e. omega arith)

pub overflow_mul-address : goal.overflow_mul-address
overflow_mul-address c =
    let r = c.loop-part.invariant.0 in
    let m = room (2 ^ 8) 4 c.loop-part.count c.loop-part.address (lit< tt) r.few c.if-count-eq-OCTETS.false r.small in
    omega arith

pub returns-in_err-octet : goal.returns-in_err-octet
returns-in_err-octet c =
    let t = YieldsList-turn
    (YieldsList-from_str_split {s = c.into_iter-part-iterator.result} 46 c.args.word.now (lit< tt) (search rules) (search rules) (search rules)) c.loop-part.yielded _ c.loop-part.yielded_by _ _
    c.in-Some.part c.in-Some.is c.next.ensures.steps in
    let i = c.loop-part.invariant.1 in
    c.from_residual.ensures
    ∙ not_read (2 ^ 8) octet 4 (parts c.args.word.now) c.loop-part.count c.loop-part.address c.in-Some.part.now c.loop-part.invariant.0 (omega arith) (t.1
    ∙ ap (λ (n : ℕ). get_or (parts c.args.word.now) n c.in-Some.part.now) (sym i)) (sym c.in_err-octet.ensures)

pub overflow_add-address : goal.overflow_add-address
overflow_add-address c =
    let r = c.loop-part.invariant.0 in
    let m = room (2 ^ 8) 4 c.loop-part.count c.loop-part.address (lit< tt) r.few c.if-count-eq-OCTETS.false r.small in
    omega arith

pub overflow_add-count : goal.overflow_add-count
overflow_add-count c = let few = c.loop-part.invariant.0.few in omega arith

pub loop-part-preserved : goal.loop-part-preserved
loop-part-preserved c =
    let t = YieldsList-turn
    (YieldsList-from_str_split {s = c.into_iter-part-iterator.result} 46 c.args.word.now (lit< tt) (search rules) (search rules) (search rules)) c.loop-part.yielded _ c.loop-part.yielded_by _ _
    c.in-Some.part c.in-Some.is c.next.ensures.steps in
    let i = c.loop-part.invariant.1 in
    let r = c.loop-part.invariant.0 in (
      more_read (2 ^ 8) octet 4 (parts c.args.word.now) c.loop-part.count c.loop-part.address c.in_ok-octet.field-0 (c.loop-part.address * (2 ^ 8) + c.from.result) c.in-Some.part.now r
          (omega arith) (t.1 ∙ ap (λ (n : ℕ). get_or (parts c.args.word.now) n c.in-Some.part.now) (sym i)) c.if-count-eq-OCTETS.false (sym c.in_ok-octet.ensures) (omega arith) (omega arith),
      ap (λ (n : ℕ). n + 1) i ∙ sym (length_push c.loop-part.yielded c.in-Some.part),
    )

pub returns-then-count-eq-OCTETS-2 : goal.returns-then-count-eq-OCTETS-2
returns-then-count-eq-OCTETS-2 c =
    let e = YieldsList-end
    (YieldsList-from_str_split {s = c.into_iter-part-iterator.result} 46 c.args.word.now (lit< tt) (search rules) (search rules) (search rules)) c.loop-part.yielded _ c.loop-part.yielded_by _ _
    c.in-None.is c.next.ensures.steps in
    all_read (2 ^ 8) octet 4 (parts c.args.word.now) c.loop-part.count c.loop-part.address c.loop-part.invariant.0 (c.loop-part.invariant.1 ∙ e.1) c.if-count-eq-OCTETS-2.true

pub returns-else-count-eq-OCTETS-2 : goal.returns-else-count-eq-OCTETS-2
returns-else-count-eq-OCTETS-2 c =
    let e = YieldsList-end
    (YieldsList-from_str_split {s = c.into_iter-part-iterator.result} 46 c.args.word.now (lit< tt) (search rules) (search rules) (search rules)) c.loop-part.yielded _ c.loop-part.yielded_by _ _
    c.in-None.is c.next.ensures.steps in
    other_count (2 ^ 8) octet 4 (parts c.args.word.now) (λ all. c.if-count-eq-OCTETS-2.false (c.loop-part.invariant.1 ∙ e.1 ∙ all))
