-- Frames are written as lines, and go to the sink.
use Rattle.std.proofs.Common.{◌≡◌, ℕ, ◌<◌, List, [], ◌++◌, length, drop, Option, refl, sym, ◌∙◌, ap, subst, arith, append_assoc, length-append, length-drop}
use Rattle.std.specs.Io.KnownBytes.{Appends}
use Rattle.std.proofs.KnownBytes.{Appends-trans}
use Rattle.std.proofs.lemmas.List.{append-nil}
use Rattle.scenario_generator.specs.Generating.{At, text_left}
use Rattle.scenario_runner.specs.Generating.{Together}
use Rattle.run_status.specs.Writing.{Breaks, Moves, Written}
use Rattle.run_status.proofs.Writing.{breaks_behind, broken, moved, started_written}

-- before the first frame
pub together_first : (taken : Option (List ℕ)) (text whole : List ℕ) (frames : At) → text ++ text_left frames ≡ whole → Together taken taken text frames whole
together_first taken text whole frames is = record { all = text; written = started_written taken text; whole_is = is }

-- a frame more, after some of what is held was written
pub together_more : (before mid now : Option (List ℕ)) (old held text lines whole : List ℕ) (frames next : At) → Together before mid old frames whole → Moves mid now old held
    → text ≡ held ++ lines → text_left frames ≡ lines ++ text_left next → Together before now text next whole
together_more before mid now old held text lines whole frames next t m grown rest =
    let w = moved before mid now old held t.all t.written m in record {
      all = w.gone ++ text;
      written = record { gone = w.gone; wrote = w.wrote; together = refl };
      whole_is =
          append_assoc w.gone text (text_left next)
          ∙ ap (λ (b : List ℕ). w.gone ++ b) (ap (λ (b : List ℕ). b ++ text_left next) grown ∙ append_assoc held lines (text_left next) ∙ ap (λ (b : List ℕ). held ++ b) (sym rest))
          ∙ sym (append_assoc w.gone held (text_left frames))
          ∙ ap (λ (b : List ℕ). b ++ text_left frames) (sym w.together)
          ∙ t.whole_is;
    }

-- a write fails before a frame
pub together_breaks : (before mid now : Option (List ℕ)) (text whole : List ℕ) (frames : At) → Together before mid text frames whole → Breaks mid now text
    → (missing : List ℕ) × Written before now missing whole × (0 < length missing)
together_breaks before mid now text whole frames t b =
    let w = broken before mid now text t.all t.written b in
    let rest : List ℕ = drop b.0 text in (
      rest ++ text_left frames,
      record {
        gone = w.gone;
        wrote = w.wrote;
        together = sym t.whole_is ∙ ap (λ (l : List ℕ). l ++ text_left frames) w.together ∙ append_assoc w.gone rest (text_left frames);
      },
      omega (arith, b.1, length-drop b.0 text, length-append rest (text_left frames)),
    )

-- the last line too
all_is : (before mid : Option (List ℕ)) (old text whole : List ℕ) (frames : At) (t : Together before mid old frames whole) → text ≡ old ++ text_left frames → t.written.gone ++ (text ++ []) ≡ whole
all_is before mid old text whole frames t grown =
    ap (λ (b : List ℕ). t.written.gone ++ b) (append-nil text ∙ grown) ∙ sym (append_assoc t.written.gone old (text_left frames))
    ∙ ap (λ (b : List ℕ). b ++ text_left frames) (sym t.written.together) ∙ t.whole_is

-- and all goes to the sink
pub all_put : (before mid now : Option (List ℕ)) (old text whole : List ℕ) (frames : At) → Together before mid old frames whole → text ≡ old ++ text_left frames → Appends mid now (text ++ [])
    → Appends before now whole
all_put before mid now old text whole frames t grown wrote =
    subst (λ (b : List ℕ). Appends before now b) (all_is before mid old text whole frames t grown) (Appends-trans _ _ _ _ _ t.written.wrote wrote)

-- or a front of it
pub all_broke : (before mid now : Option (List ℕ)) (old text whole : List ℕ) (frames : At) → Together before mid old frames whole → text ≡ old ++ text_left frames → Breaks mid now (text ++ [])
    → Breaks before now whole
all_broke before mid now old text whole frames t grown breaks =
    subst (λ (b : List ℕ). Breaks before now b) (all_is before mid old text whole frames t grown) (breaks_behind before mid now t.written.gone (text ++ []) t.written.wrote breaks)
