use Rattle.std.proofs.Common.{Option, refl, subst, string_bytes}
use Rattle.std.proofs.lemmas.Result.{on_ok_weaker}
use Rattle.scenario_reader.specs.declared.reader.Last.{Last}
use Rattle.whole_texts.specs.declared.session.Session.{Session}
use Rattle.scenario_play.specs.Playing.{AfterSection, played}
use Rattle.whole_texts.specs.Stages.{lone}
use Rattle.whole_texts.proofs.Stages.{fits_lone}
use Rattle.whole_texts.proofs.Sessions.{breaks_section, ends_section}
use Rattle.scenario_play.proofs.Steps.{ready_of, stands_by}
use Rattle.whole_texts.proofs.session.Session.end_section.Goals as goal

pub take_section-requires-clause-ready : goal.take_section-requires-clause-ready
take_section-requires-clause-ready c = ready_of c.args.self.now.play.reader.roster _ c.requires.steady

pub take_section-requires-clause-fits : goal.take_section-requires-clause-fits
take_section-requires-clause-fits c = fits_lone _

pub returns-in-None : goal.returns-in-None
returns-in-None c =
    let section = c.args.section.now in
    let t = played c.take_section.new.self (lone c.take_section.new.stage.world) (string_bytes c.take_section.new.text) in
    let took = c.in_ok-take_section.ensures in
    ends_section c.args.self.now section _ refl refl took.reader took.ready c.requires.lines c.requires.behind
    (λ given s line h. subst (λ (o : Option Last). AfterSection given s line section t o) c.in-None.is (took.after given s line h))

pub finish-requires : goal.finish-requires
finish-requires c = let t = played c.take_section.new.self (lone c.take_section.new.stage.world) (string_bytes c.take_section.new.text) in stands_by t.reader.roster t.stage.world c.in_ok-take_section.ensures.ready

pub returns-in-Some : goal.returns-in-Some
returns-in-Some c =
    let old = c.args.self.now in
    let section = c.args.section.now in
    let t = played c.take_section.new.self (lone c.take_section.new.stage.world) (string_bytes c.take_section.new.text) in
    let w : Session = record old { play = c.take_section.new.self; stage = c.take_section.new.stage; text = c.take_section.new.text } in
    on_ok_weaker c.finish.result
    (breaks_section old section w c.in-Some.last refl
    (λ given s line h. subst (λ (o : Option Last). AfterSection given s line section t o) c.in-Some.is (c.in_ok-take_section.ensures.after given s line h)) c.finish.new.self)
    c.finish.ensures
