use Rattle.std.proofs.Common.{◌+◌, length, refl, ap, ◌∙◌, subst, arith, string_bytes}
use Rattle.std.proofs.lemmas.Result.{on_ok_weaker}
use Rattle.whole_texts.specs.declared.session.Session.{Session}
use Rattle.scenario_play.specs.declared.play.Taken.{Taken}
use Rattle.scenario_play.specs.declared.play.Taken.TheVariants as taken
use Rattle.scenario_play.specs.Playing.{After, IsBehind, played}
use Rattle.whole_texts.specs.Stages.{lone}
use Rattle.whole_texts.proofs.Stages.{fits_lone}
use Rattle.whole_texts.proofs.Sessions.{line_few, line_steady, takes_last, takes_line, takes_to_section, takes_with_section}
use Rattle.scenario_play.proofs.Steps.{ready_of, stands_by}
use Rattle.whole_texts.proofs.session.Session.take_line.Goals as goal

pub take-requires-clause-few : goal.take-requires-clause-few
take-requires-clause-few c = let few = line_few c.args.self.now c.args.line.now c.requires.sound c.requires.wanted in omega (arith, few, c.requires.sound.most)

pub take-requires-clause-feedless : goal.take-requires-clause-feedless
take-requires-clause-feedless c = c.requires.wanted.feedless

pub take-requires-clause-steady : goal.take-requires-clause-steady
take-requires-clause-steady c = line_steady c.args.self.now c.args.line.now c.requires.sound c.requires.wanted

pub take-requires-clause-fits : goal.take-requires-clause-fits
take-requires-clause-fits c = fits_lone _

pub returns-in-On : goal.returns-in-On
returns-in-On c =
    let line = c.args.line.now in
    let t = played c.take.new.self (lone c.take.new.stage.world) (string_bytes c.take.new.text) in
    let took = c.in_ok-taken.ensures in
    takes_line c.args.self.now line c.requires.sound c.requires.wanted _ refl refl took.lines took.steady
    (λ given s h. subst (λ (r : Taken). After given s line t r) c.in-On.is (took.after given s h))

pub end_section-requires-clause-steady : goal.end_section-requires-clause-steady
end_section-requires-clause-steady c = c.in_ok-taken.ensures.steady

pub end_section-requires-clause-lines : goal.end_section-requires-clause-lines
end_section-requires-clause-lines c =
    let few = line_few c.args.self.now c.args.line.now c.requires.sound c.requires.wanted in omega (arith, few, c.in_ok-taken.ensures.lines)

pub end_section-requires-clause-behind : goal.end_section-requires-clause-behind
end_section-requires-clause-behind c =
    let roster = c.take.new.self.reader.roster in (subst (λ (r : Taken). IsBehind roster r) c.in-Section.is c.in_ok-taken.ensures.behind).1

pub returns-then-length-eq0 : goal.returns-then-length-eq0
returns-then-length-eq0 c =
    let old = c.args.self.now in
    let line = c.args.line.now in
    let t = played c.take.new.self (lone c.take.new.stage.world) (string_bytes c.take.new.text) in
    let w : Session = record old { play = c.take.new.self; stage = c.take.new.stage; text = c.take.new.text; taken = old.taken + (length line + 1) } in
    on_ok_weaker c.end_section.result
    (takes_with_section old line c.requires.sound c.requires.wanted w refl
    (λ given s h. subst (λ (r : Taken). After given s line t r) (c.in-Section.is ∙ ap taken.Section c.if-length-eq0.true) (c.in_ok-taken.ensures.after given s h))
    c.end_section.new.self)
    c.end_section.ensures

pub returns-else-length-eq0 : goal.returns-else-length-eq0
returns-else-length-eq0 c =
    let line = c.args.line.now in
    let t = played c.take.new.self (lone c.take.new.stage.world) (string_bytes c.take.new.text) in
    let took = c.in_ok-taken.ensures in
    takes_to_section c.args.self.now line c.requires.sound c.requires.wanted _ refl c.in-Section.length refl (omega (arith, c.if-length-eq0.false)) took.lines took.steady
    (subst (λ (r : Taken). IsBehind t.reader.roster r) c.in-Section.is took.behind)
    (λ given s h. subst (λ (r : Taken). After given s line t r) c.in-Section.is (took.after given s h))

pub finish-requires : goal.finish-requires
finish-requires c =
    let t = played c.take.new.self (lone c.take.new.stage.world) (string_bytes c.take.new.text) in stands_by t.reader.roster t.stage.world (ready_of t.reader.roster t.stage.world c.in_ok-taken.ensures.steady)

pub returns-in-Ends : goal.returns-in-Ends
returns-in-Ends c =
    let old = c.args.self.now in
    let line = c.args.line.now in
    let t = played c.take.new.self (lone c.take.new.stage.world) (string_bytes c.take.new.text) in
    let w : Session = record old { play = c.take.new.self; stage = c.take.new.stage; text = c.take.new.text; taken = old.taken + (length line + 1) } in
    on_ok_weaker c.finish.result
    (takes_last old line c.requires.sound c.requires.wanted w c.in-Ends.last refl
    (λ given s h. subst (λ (r : Taken). After given s line t r) c.in-Ends.is (c.in_ok-taken.ensures.after given s h))
    c.finish.new.self)
    c.finish.ensures
