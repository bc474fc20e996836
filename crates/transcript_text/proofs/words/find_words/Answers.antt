use Rattle.std.proofs.Common.{lit<, map, rules, Some, None}
use Rattle.std.proofs.lemmas.Str.Pattern.{split_once_first}
use Rattle.lemmas.proofs.Endings.{none_then}
use Rattle.transcript_text.proofs.Spaces.{goes_on, is_all, too_many, some_then, parts}
use Rattle.transcript_text.proofs.words.find_words.Goals as goal

pub loop-word-preserved : goal.loop-word-preserved
loop-word-preserved c =
    let cut = split_once_first 32 c.loop-word.rest.now (Some (c.in-Some.word, c.in-Some.after)) c.in-Some.ensures.cases (lit< tt) in (
      search rules,
      goes_on (map (λ w. w.now) c.loop-word.found.items) (map (λ w. w.now) c.push_word.new.found.items) c.in-Some.word.now c.in-Some.after.now c.loop-word.rest.now (parts c.args.line.now)
          c.in_ok-push_word.ensures.fits cut.1 cut.2 cut.0 c.loop-word.invariant.1,
    )

pub returns-clause-few : goal.returns-clause-few
returns-clause-few c =
    some_then c.push_word-2.result c.push_word-2.ensures.fits
    (λ e. is_all (map (λ w. w.now) c.loop-word.found.items) (map (λ w. w.now) c.push_word-2.new.found.items) c.loop-word.rest.now (parts c.args.line.now) e
    (split_once_first 32 c.loop-word.rest.now None c.in_default.ensures.cases (lit< tt)) c.loop-word.invariant.1)

pub returns-clause-many : goal.returns-clause-many
returns-clause-many c =
    none_then c.push_word-2.result c.push_word-2.ensures.full
    (λ full. too_many (map (λ w. w.now) c.loop-word.found.items) c.loop-word.rest.now (parts c.args.line.now) 6 full c.loop-word.invariant.1)
