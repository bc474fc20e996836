-- A run beside a transcript, step by step.
use Rattle.std.proofs.Common.{◌≡◌, ℕ, true, false, List, [], ◌∷◌, ◌++◌, Option, None, Some, refl, sym, ap, ◌∙◌, subst, append_assoc, codes}
use Rattle.std.proofs.lemmas.List.{append-nil}
use Rattle.std.specs.Option.{is_some}
use Rattle.br_model.specs.declared.steps.Step.{Step}
use Rattle.br_model.specs.declared.transcript.Line.{Line}
use Rattle.br_model.specs.Plane.Runs.{run, end_line}
use Rattle.br_model.specs.Plane.Steps.{world_step}
use Rattle.br_model.specs.Plane.World.{World, Stepped, first_world}
use Rattle.br_model.specs.Program.Checks.{Difference, difference, lines_in}
use Rattle.br_model.specs.Program.Runs.{body_of}
use Rattle.br_model.specs.Table.Setup.{Setup}
use Rattle.br_model.specs.Text.Transcript.{line_text, text}
use Rattle.br_model.specs.Theorems.Invariants.{IsWorld}
use Rattle.br_model.proofs.Plane.Applied.{step-setup}
use Rattle.br_model.proofs.Plane.Kept.{first-world, step-world}
use Rattle.br_model.proofs.Plane.Running.{run_none, run_push, text-append}
use Rattle.transcript_check.specs.Besides.{IsBeside, start_of}
use Rattle.transcript_check.specs.Comparing.{Compares, EndsThere, Standing, differs_at}
use Rattle.transcript_check.specs.Lines.{is_whole}
use Rattle.check_world.specs.Worlds.{Tells}
use Rattle.transcript_check.proofs.Cutting.{whole_append, whole_lines}
use Rattle.transcript_check.proofs.Texts.{whole_text}

-- comparing goes on

pub joined : (a b c : Standing) (xs ys : List (List ℕ)) (o : Option Difference) → Compares a b xs None → Compares b c ys o → Compares a c (xs ++ ys) o
joined a b c xs ys None f g = λ more. ap (differs_at a) (append_assoc xs ys more) ∙ f (ys ++ more) ∙ g more
joined a b c xs ys (Some d) f g = λ more. ap (differs_at a) (append_assoc xs ys more) ∙ f (ys ++ more) ∙ g more

-- or has ended
pub still : (a b : Standing) (xs ys : List (List ℕ)) (d : Difference) → Compares a b xs (Some d) → Compares a b (xs ++ ys) (Some d)
still a b xs ys d f = λ more. ap (differs_at a) (append_assoc xs ys more) ∙ f (ys ++ more)

-- the body is one of whole lines
whole_body : (x : Stepped) → is_whole (body_of x) ≡ true
whole_body x = whole_append (codes "transcript 1" ++ 10 ∷ []) (text x.1) refl (whole_text x.1)

body_push : (setup : Setup) (steps : List Step) (step : Step) (w : World) (told : List Line) → world_step (run setup steps).0 step ≡ (w, told)
    → body_of (run setup (steps ++ step ∷ [])) ≡ body_of (run setup steps) ++ text told
body_push setup steps step w told is =
    ap body_of (run_push setup steps step)
    ∙ ap (λ (x : List ℕ). codes "transcript 1" ++ 10 ∷ x) (text-append (run setup steps).1 (world_step (run setup steps).0 step).1)
    ∙ ap (λ (x : Stepped). body_of (run setup steps) ++ text x.1) is

lines_push : (setup : Setup) (steps : List Step) (step : Step) (w : World) (told : List Line) → world_step (run setup steps).0 step ≡ (w, told)
    → lines_in (body_of (run setup (steps ++ step ∷ []))) ≡ lines_in (body_of (run setup steps)) ++ lines_in (text told)
lines_push setup steps step w told is =
    ap lines_in (body_push setup steps step w told is) ∙ whole_lines (body_of (run setup steps)) (text told) (whole_body (run setup steps))

-- before any step
pub begun : (transcript : List ℕ) (setup : Setup) (w : World) (cursor : Standing) (differs : Option Difference) → w ≡ first_world setup
    → Compares (start_of transcript) cursor (lines_in (codes "transcript 1" ++ 10 ∷ [])) differs → IsBeside transcript setup [] w cursor differs
begun transcript setup w cursor differs first is = record {
  stands = subst IsWorld (sym first) (first-world setup);
  setup_is = ap (λ (v : World). v.setup) first;
  world_is = λ none. first ∙ sym (ap (λ (x : Stepped). x.0) (run_none setup));
  compared = subst (λ (x : Stepped). Compares (start_of transcript) cursor (lines_in (body_of x)) differs) (sym (run_none setup)) is;
}

module _ (transcript : List ℕ) (setup : Setup) (steps : List Step) (step : Step) (w : World) (cursor : Standing) where
  -- a step more, where a line differs already
  pub passes_by : (d : Difference) → IsBeside transcript setup steps w cursor (Some d) → IsBeside transcript setup (steps ++ step ∷ []) w cursor (Some d)
  passes_by d b =
      let x = world_step (run setup steps).0 step in
      record {
        stands = b.stands;
        setup_is = b.setup_is;
        world_is = λ none. absurd (cc);
        compared = subst (λ (ls : List (List ℕ)). Compares (start_of transcript) cursor ls (Some d)) (sym (lines_push setup steps step x.0 x.1 refl))
            (still (start_of transcript) cursor (lines_in (body_of (run setup steps))) (lines_in (text x.1)) d b.compared);
      }

  pub passes : (o : Option Difference) → is_some o ≡ true → IsBeside transcript setup steps w cursor o → IsBeside transcript setup (steps ++ step ∷ []) w cursor o
  passes None h b = absurd (cc)
  passes (Some d) h b = passes_by d b

  -- or none does
  pub goes_on : (v : World) (told : List Line) (next : Standing) (o : Option Difference) → IsBeside transcript setup steps w cursor None → Tells w step v told
      → Compares cursor next (lines_in (text told)) o
      → IsBeside transcript setup (steps ++ step ∷ []) v next o
  goes_on v told next o b tells is =
      let told-by : world_step (run setup steps).0 step ≡ (v, told) = ap (λ (x : World). world_step x step) (sym (b.world_is refl)) ∙ tells in
      record {
        stands = subst (λ (x : Stepped). IsWorld x.0) tells (step-world w step b.stands);
        setup_is = sym (ap (λ (x : Stepped). x.0.setup) tells) ∙ step-setup w step ∙ b.setup_is;
        world_is = λ none. sym (ap (λ (x : Stepped). x.0) (run_push setup steps step ∙ ap (λ (x : Stepped). (x.0, (run setup steps).1 ++ x.1)) told-by));
        compared = subst (λ (ls : List (List ℕ)). Compares (start_of transcript) next ls o) (sym (lines_push setup steps step v told told-by))
            (joined (start_of transcript) cursor next (lines_in (body_of (run setup steps))) (lines_in (text told)) o b.compared is);
      }

-- the end

module _ (transcript : List ℕ) (setup : Setup) (steps : List Step) (w : World) (cursor next : Standing) where
  abbrev whole_of : List ℕ
  whole_of = body_of (run setup steps) ++ line_text (end_line (run setup steps).0)

  last_lines : lines_in whole_of ≡ lines_in (body_of (run setup steps)) ++ lines_in (line_text (end_line (run setup steps).0))
  last_lines = whole_lines (body_of (run setup steps)) (line_text (end_line (run setup steps).0)) (whole_body (run setup steps))

  pub ends_differing : (d : Difference) → IsBeside transcript setup steps w cursor (Some d) → difference whole_of transcript ≡ Some d
  ends_differing d b =
      ap (differs_at (start_of transcript)) (last_lines ∙ sym (append-nil (lines_in (body_of (run setup steps)) ++ lines_in (line_text (end_line (run setup steps).0)))))
      ∙ still (start_of transcript) cursor (lines_in (body_of (run setup steps))) (lines_in (line_text (end_line (run setup steps).0))) d b.compared []

  -- the last line differs
  pub last_differs : (d : Difference) → IsBeside transcript setup steps w cursor None → Compares cursor next (lines_in (line_text (end_line w))) (Some d) → difference whole_of transcript ≡ Some d
  last_differs d b is =
      let last = subst (λ (v : World). Compares cursor next (lines_in (line_text (end_line v))) (Some d)) (b.world_is refl) is in
      ap (differs_at (start_of transcript)) (last_lines ∙ sym (append-nil (lines_in (body_of (run setup steps)) ++ lines_in (line_text (end_line (run setup steps).0)))))
      ∙ joined (start_of transcript) cursor next (lines_in (body_of (run setup steps))) (lines_in (line_text (end_line (run setup steps).0))) (Some d) b.compared last []

  -- or what is behind it, or nothing
  pub ends_so : (o : Option Difference) → IsBeside transcript setup steps w cursor None → Compares cursor next (lines_in (line_text (end_line w))) None → EndsThere next o
      → difference whole_of transcript ≡ o
  ends_so o b is there =
      let last = subst (λ (v : World). Compares cursor next (lines_in (line_text (end_line v))) None) (b.world_is refl) is in
      ap (differs_at (start_of transcript)) (last_lines ∙ sym (append-nil (lines_in (body_of (run setup steps)) ++ lines_in (line_text (end_line (run setup steps).0)))))
      ∙ joined (start_of transcript) cursor next (lines_in (body_of (run setup steps))) (lines_in (line_text (end_line (run setup steps).0))) None b.compared last []
      ∙ there

pub none_of : {X : Type 0} (o : Option X) → is_some o ≡ false → o ≡ None
none_of None h = refl
none_of (Some x) h = absurd (cc)
