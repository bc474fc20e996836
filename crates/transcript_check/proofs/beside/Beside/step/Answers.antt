use Rattle.std.proofs.Common.{◌≡◌, ◌++◌, ℕ, true, List, Option, sym, ap, subst, ◌∙◌}
use Rattle.br_model.specs.declared.transcript.Line.{Line}
use Rattle.br_model.specs.Plane.World.{World}
use Rattle.br_model.specs.Program.Checks.{Difference, lines_in}
use Rattle.br_model.specs.Text.Transcript.{text}
use Rattle.check_world.specs.Worlds.{Tells}
use Rattle.transcript_check.specs.Besides.{IsBeside}
use Rattle.transcript_check.specs.Comparing.{Compares}
use Rattle.transcript_check.specs.Lines.{is_whole}
use Rattle.transcript_check.proofs.Besides.{goes_on, none_of, passes}
use Rattle.transcript_check.proofs.Texts.{whole_text}
use Rattle.transcript_check.proofs.beside.Beside.step.Goals as goal

pub compare-requires : goal.compare-requires
compare-requires c =
    let told = c.step.new.lines.lines in
    subst (λ (t : List ℕ). is_whole t ≡ true) (sym (c.as_bytes.ensures.value ∙ c.in_ok-append_lines.ensures.ok ∙ ap (λ (b : List ℕ). b ++ text told) c.clear-2.ensures.bytes)) (whole_text told)

pub returns : goal.returns
returns c transcript setup steps b =
    let a = c.in_ok-step.ensures in
    let lines : c.step.new.lines.lines ≡ a.lines = a.added ∙ ap (λ (ls : List Line). ls ++ a.lines) c.clear.ensures.lines in
    let text-is : c.as_bytes.result.now ≡ text a.lines =
    c.as_bytes.ensures.value ∙ c.in_ok-append_lines.ensures.ok ∙ ap (λ (b : List ℕ). b ++ text c.step.new.lines.lines) c.clear-2.ensures.bytes ∙ ap text lines in
    let none = none_of c.args.self.now.differs (sym c.is_some.ensures ∙ c.if-is_some.false) in
    goes_on transcript setup steps c.args.step c.args.self.now.world.value c.args.self.now.cursor c.step.new.self a.lines c.compare.new.self c.in_ok-self.field-0
    (subst (λ (o : Option Difference). IsBeside transcript setup steps c.args.self.now.world.value c.args.self.now.cursor o) none b)
    (subst (λ (w : World). Tells w c.args.step c.step.new.self a.lines) c.deref_mut.ensures.value a.so)
    (subst (λ (t : List ℕ). Compares c.args.self.now.cursor c.compare.new.self (lines_in t) c.in_ok-self.field-0) text-is c.in_ok-self.ensures)

pub returns-then-is_some : goal.returns-then-is_some
returns-then-is_some c transcript setup steps b =
    passes transcript setup steps c.args.step c.args.self.now.world.value c.args.self.now.cursor c.args.self.now.differs (sym c.is_some.ensures ∙ c.if-is_some.true) b
