use Rattle.std.proofs.Common.{List, length, string_bytes, ap, refl, subst, ℕ}
use Rattle.std.proofs.lemmas.Str.{IsUtf8-string_bytes}
use Rattle.br_model.specs.Text.Roster.{Roster}
use Rattle.scenario_play.specs.Playing.{IsDone}
use Rattle.scenario_play.proofs.Cutting.{torn}
use Rattle.scenario_play.proofs.Steps.{does_cut}
use Rattle.scenario_play.proofs.play.Play.step.Goals as goal

pub cut_if_torn-requires : goal.cut_if_torn-requires
cut_if_torn-requires g c =
    let before = c.args.text.now in
    let after = c.append_lines-appended.new.to in
    let whole = ap (λ (bytes : List ℕ). length bytes) c.as_bytes-whole.ensures.value in
    record {
      seam = torn c.append_lines-appended.result (string_bytes before) (string_bytes after) (length c.as_bytes-whole.result.now) (IsUtf8-string_bytes before)
          (IsUtf8-string_bytes after) whole c.append_lines-appended.ensures.err;
    }

pub returns-clause-does : goal.returns-clause-does
returns-clause-does g c = does_cut c.cut_if_torn.result c.append_lines-appended.result _ _ c.args.step _ _ c.cut_if_torn.ensures.same c.cut_if_torn.ensures.ok c.append_lines-appended.ensures.ok refl
    (subst (λ (r : Roster). IsDone r (g.W.Stage.stands c.args.stage.now) c.args.step (g.W.Stage.stands c.do_step.new.stage) c.do_step.new.lines.lines) c.roster-roster.ensures
    c.in_ok-do_step.ensures)
