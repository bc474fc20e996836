use Rattle.std.proofs.lemmas.Option.{IfSome_then}
use Rattle.std.proofs.Common.{map}
use Rattle.lemmas.proofs.Endings.{none_then}
use Rattle.br_model.specs.Text.Words.{words}
use Rattle.scenario_text.proofs.Splits.{goes_on, is_all, too_many, too_many_last}
use Rattle.section_lines.proofs.words.find_words.Goals as goal

pub loop-end-preserved : goal.loop-end-preserved
loop-end-preserved c =
    goes_on (map (λ w. w.now) c.loop-end.found.items) (map (λ w. w.now) c.push_word.new.found.items) c.loop-end.rest.now c.split_at.result.0.now c.split_at.result.1.now c.in-Some.end
    (words c.args.line.now) c.in-Some.ensures c.split_at.ensures.front c.split_at.ensures.back c.loop-end.invariant c.in_ok-push_word.ensures.fits

pub returns-clause-few : goal.returns-clause-few
returns-clause-few c =
    IfSome_then c.push_word-2.result c.push_word-2.ensures.fits
    (λ u e. is_all (map (λ w. w.now) c.loop-end.found.items) (map (λ w. w.now) c.push_word-2.new.found.items) c.loop-end.rest.now (words c.args.line.now)
    c.in_default.ensures c.loop-end.invariant e)

pub returns-in_err-push_word-clause-many : goal.returns-in_err-push_word-clause-many
returns-in_err-push_word-clause-many c =
    too_many c.from_residual.result (map (λ w. w.now) c.loop-end.found.items) c.loop-end.rest.now c.split_at.result.0.now c.split_at.result.1.now c.in-Some.end (words c.args.line.now) 12
    c.in-Some.ensures c.split_at.ensures.front c.split_at.ensures.back c.loop-end.invariant c.in_err-push_word.ensures.full

pub returns-clause-many : goal.returns-clause-many
returns-clause-many c =
    none_then c.push_word-2.result c.push_word-2.ensures.full
    (λ long. too_many_last (map (λ w. w.now) c.loop-end.found.items) c.loop-end.rest.now (words c.args.line.now) 12 c.in_default.ensures c.loop-end.invariant long)
