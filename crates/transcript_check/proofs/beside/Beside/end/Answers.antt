use Rattle.std.proofs.Common.{◌≡◌, ◌++◌, ℕ, true, List, Option, None, Some, sym, ap, subst, ◌∙◌}
use Rattle.std.proofs.lemmas.Result.{IfOk-weaker}
use Rattle.br_model.specs.Plane.Runs.{end_line}
use Rattle.br_model.specs.Plane.World.{World}
use Rattle.br_model.specs.Program.Checks.{Difference, lines_in}
use Rattle.br_model.specs.Text.Transcript.{line_text}
use Rattle.transcript_check.specs.Besides.{IsBeside}
use Rattle.transcript_check.specs.Comparing.{Compares}
use Rattle.transcript_check.specs.Lines.{is_whole}
use Rattle.transcript_check.proofs.Besides.{ends_differing, last_differs, ends_so}
use Rattle.transcript_check.proofs.Texts.{whole_line}
use Rattle.transcript_check.proofs.beside.Beside.end.Goals as goal

pub compare-requires : goal.compare-requires
compare-requires c =
    let last = c.end_line-last.result in
    subst (λ (t : List ℕ). is_whole t ≡ true) (sym (c.as_bytes.ensures.value ∙ c.in_ok-append.ensures.ok ∙ ap (λ (b : List ℕ). b ++ line_text last) c.clear.ensures.bytes)) (whole_line last)

pub returns-in-Some : goal.returns-in-Some
returns-in-Some c transcript setup steps b =
    let w = c.args.self.now.world.value in
    let cursor = c.args.self.now.cursor in
    ends_differing transcript setup steps w cursor cursor c.in-Some.difference
    (subst (λ (o : Option Difference). IsBeside transcript setup steps w cursor o) (sym c.take.ensures.value ∙ c.in-Some.is) b)

pub returns-in-Some-2 : goal.returns-in-Some-2
returns-in-Some-2 c transcript setup steps b =
    let w = c.args.self.now.world.value in
    let cursor = c.args.self.now.cursor in
    let next = c.compare.new.self in
    let last = c.end_line-last.result in
    let text-is : c.as_bytes.result.now ≡ line_text (end_line w) =
    c.as_bytes.ensures.value ∙ c.in_ok-append.ensures.ok ∙ ap (λ (b : List ℕ). b ++ line_text last) c.clear.ensures.bytes ∙ ap line_text c.end_line-last.ensures
    ∙ ap (λ (v : World). line_text (end_line v)) c.deref.ensures in
    last_differs transcript setup steps w cursor next c.in-Some-2.difference
    (subst (λ (o : Option Difference). IsBeside transcript setup steps w cursor o) (sym c.take.ensures.value ∙ c.in_default.is) b)
    (subst (λ (t : List ℕ). Compares cursor next (lines_in t) (Some c.in-Some-2.difference)) text-is
    (subst (λ (o : Option Difference). Compares cursor next (lines_in c.as_bytes.result.now) o) c.in-Some-2.is c.in_ok-difference.ensures))

pub returns : goal.returns
returns c =
    let w = c.args.self.now.world.value in
    let cursor = c.args.self.now.cursor in
    let next = c.compare.new.self in
    let last = c.end_line-last.result in
    let text-is : c.as_bytes.result.now ≡ line_text (end_line w) =
    c.as_bytes.ensures.value ∙ c.in_ok-append.ensures.ok ∙ ap (λ (b : List ℕ). b ++ line_text last) c.clear.ensures.bytes ∙ ap line_text c.end_line-last.ensures
    ∙ ap (λ (v : World). line_text (end_line v)) c.deref.ensures in
    let same : Compares cursor next (lines_in (line_text (end_line w))) None =
    subst (λ (t : List ℕ). Compares cursor next (lines_in t) None) text-is
    (subst (λ (o : Option Difference). Compares cursor next (lines_in c.as_bytes.result.now) o) c.in-None.is c.in_ok-difference.ensures) in
    IfOk-weaker c.end.result _ _
    (λ o there transcript setup steps b.
    ends_so transcript setup steps w cursor next o (subst (λ (d : Option Difference). IsBeside transcript setup steps w cursor d) (sym c.take.ensures.value ∙ c.in_default.is) b) same there)
    c.end.ensures
