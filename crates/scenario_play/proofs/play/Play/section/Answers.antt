use Rattle.std.proofs.Common.{[], ℕ, ◌≤◌, length, take, Option, sym, subst, arith, length-take-le, string_bytes}
use Rattle.scenario_reader.specs.declared.reader.Last.{Last}
use Rattle.scenario_play.specs.Playing.{AfterSection, AtSection, played}
use Rattle.scenario_play.proofs.Lines.{cut_off, over_in_section, section_goes_on}
use Rattle.scenario_play.proofs.play.Play.section.Goals as goal

pub returns-then-behind-length-clause-goes : goal.returns-then-behind-length-clause-goes
returns-then-behind-length-clause-goes g c = λ s line h. cut_off [] s line c.args.length _ h c.args.behind.now _ (omega (arith, c.if-behind-length.true)) c.bad_section.ensures

pub returns-in-None-clause-goes : goal.returns-in-None-clause-goes
returns-in-None-clause-goes g c = λ s line h.
    let n = c.args.length in
    let behind = c.args.behind.now in
    let within : n ≤ length behind = omega (arith, c.if-behind-length.false) in
    let there = subst (λ (k : ℕ). AtSection [] s line k (played c.args.self.now (g.W.Stage.stands c.args.stage.now) (string_bytes c.args.text.now))) (sym (length-take-le n behind within)) h in
    let new = played c.take_section.new.self (g.W.Stage.stands c.take_section.new.stage) (string_bytes c.take_section.new.text) in
    section_goes_on s line n behind new within c.in_ok-take_section.ensures.fits
    (subst (λ (o : Option Last). AfterSection [] s line (take n behind) new o) c.in-None.is (c.in_ok-take_section.ensures.after [] s line there))

pub returns-in-Some-clause-goes : goal.returns-in-Some-clause-goes
returns-in-Some-clause-goes g c = λ s line h.
    let n = c.args.length in
    let behind = c.args.behind.now in
    let within : n ≤ length behind = omega (arith, c.if-behind-length.false) in
    let there = subst (λ (k : ℕ). AtSection [] s line k (played c.args.self.now (g.W.Stage.stands c.args.stage.now) (string_bytes c.args.text.now))) (sym (length-take-le n behind within)) h in
    let new = played c.take_section.new.self (g.W.Stage.stands c.take_section.new.stage) (string_bytes c.take_section.new.text) in
    over_in_section s line n behind new c.in-Some.last
    (subst (λ (o : Option Last). AfterSection [] s line (take n behind) new o) c.in-Some.is (c.in_ok-take_section.ensures.after [] s line there))
