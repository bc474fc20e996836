use Rattle.std.proofs.Common.{◌≡◌, ◌∙◌, ℕ, Option, Some, None, length, set, get_or, sym, ap, ap₂, ◌<◌, arith}
use Rattle.std.specs.Option.{option_map}
use Rattle.std.proofs.lemmas.List.{length-set}
use Rattle.br_model.specs.declared.tree.TreePort.{TreePort}
use Rattle.stp_core.proofs.PlaceLaws.{passed-none, passed-more, passed-all, passed-empty}
use Rattle.stp_core.proofs.places.change_each.Goals as goal
use Rattle.stp_core.proofs.places.change_each.Goals.{in-Some, in_default}

pub loop-p-init : goal.loop-p-init
loop-p-init g c = record { sized = c.told-places; passed = passed-none (g.R.Rule.changed c.args.rule.now) c.args.places.now }

pub loop-p-preserved : goal.loop-p-preserved
loop-p-preserved g c =
    let f = g.R.Rule.changed c.args.rule.now in
    let ps = c.loop-p.places in
    let p = c.loop-p.p in
    let here = ap (λ (n : ℕ). get_or ps n None) (sym c.from.ensures) in
    let low : p < length ps = omega (arith, c.loop-p-test.true, c.loop-p.invariant.sized) in
    elim c.match-places-from.branch [
      | in-Some w ↦
          let is : c.match-places-from.places ≡ set ps c.from.result (Some w.change.new.x) = w.places-is in
          let written = is ∙ ap₂ (λ (n : ℕ) (o : Option TreePort). set ps n o) c.from.ensures (ap Some w.change.ensures ∙ sym (ap (option_map (λ (x : TreePort). f (p, x))) (here ∙ w.in-Some.is))) in
          record {
            sized = ap length written ∙ length-set ps p (option_map (λ (x : TreePort). f (p, x)) (get_or ps p None)) ∙ c.loop-p.invariant.sized;
            passed = passed-more f c.args.places.now ps c.match-places-from.places p low c.loop-p.invariant.passed written;
          }
      | in_default w ↦
          let is : c.match-places-from.places ≡ set ps c.from.result (get_or ps c.from.result None) = w.places-is in
          let written = is ∙ ap₂ (λ (n : ℕ) (o : Option TreePort). set ps n o) c.from.ensures (w.in_default.is ∙ sym (ap (option_map (λ (x : TreePort). f (p, x))) (here ∙ w.in_default.is))) in
          record {
            sized = ap length written ∙ length-set ps p (option_map (λ (x : TreePort). f (p, x)) (get_or ps p None)) ∙ c.loop-p.invariant.sized;
            passed = passed-more f c.args.places.now ps c.match-places-from.places p low c.loop-p.invariant.passed written;
          }
    ]

pub returns-clause-entries : goal.returns-clause-entries
returns-clause-entries g c =
    passed-all (g.R.Rule.changed c.args.rule.now) c.args.places.now c.loop-p.places (c.loop-p.invariant.sized ∙ sym c.told-places) c.args.used c.loop-p.p
    (omega (arith, c.loop-p-test.false)) c.requires c.loop-p.invariant.passed

pub returns-clause-empty : goal.returns-clause-empty
returns-clause-empty g c =
    passed-empty (g.R.Rule.changed c.args.rule.now) c.args.places.now c.loop-p.places c.args.used c.loop-p.p c.requires c.loop-p.invariant.passed
