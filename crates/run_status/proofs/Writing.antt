-- What goes to a sink, piece by piece.
use Rattle.std.proofs.Common.{ℕ, ◌+◌, List, [], ◌++◌, length, take, drop, None, Some, Option, refl, sym, ◌∙◌, ap, subst, arith, append_assoc, length-append}
use Rattle.std.specs.Io.KnownBytes.{Appends}
use Rattle.std.proofs.KnownBytes.{Appends-trans}
use Rattle.std.proofs.Math.Seq.{take-append-add}
use Rattle.std.proofs.lemmas.List.{append-nil, take-append-drop, take-append-le}
use Rattle.run_status.specs.Writing.{Breaks, Grows, Moves, Written}

-- nothing
pub nothing_wrote : (taken : Option (List ℕ)) → Appends taken taken []
nothing_wrote None = tt
nothing_wrote (Some xs) = sym (append-nil xs)

pub started_written : (taken : Option (List ℕ)) (text : List ℕ) → Written taken taken text text
started_written taken text = record { gone = []; wrote = nothing_wrote taken; together = refl }

-- what is held goes to the sink
pub moved : (before mid after : Option (List ℕ)) (old new all : List ℕ) → Written before mid old all → Moves mid after old new → Written before after new all
moved before mid after old new all w m = record {
  gone = w.gone ++ m.moved;
  wrote = Appends-trans _ _ _ _ _ w.wrote m.wrote;
  together = w.together ∙ ap (λ (b : List ℕ). w.gone ++ b) m.held ∙ sym (append_assoc w.gone m.moved new);
}

-- a front of it does
pub broken : (before mid after : Option (List ℕ)) (text all : List ℕ) → Written before mid text all → (b : Breaks mid after text) → Written before after (drop b.0 text) all
broken before mid after text all w b = record {
  gone = w.gone ++ take b.0 text;
  wrote = Appends-trans _ _ _ _ _ w.wrote b.2;
  together =
      w.together ∙ ap (λ (l : List ℕ). w.gone ++ l) (sym (take-append-drop b.0 text)) ∙ sym (append_assoc w.gone (take b.0 text) (drop b.0 text));
}

-- behind what went there before
pub breaks_behind : (before mid after : Option (List ℕ)) (gone text : List ℕ) → Appends before mid gone → Breaks mid after text → Breaks before after (gone ++ text)
breaks_behind before mid after gone text a b = (
  length gone + b.0,
  omega (arith, b.1, length-append gone text),
  subst (λ (o : List ℕ). Appends before after o) (sym (take-append-add gone text b.0)) (Appends-trans _ _ _ _ _ a b.2),
)

-- before more that was to go
pub breaks_before : (before after : Option (List ℕ)) (text more : List ℕ) → Breaks before after text → Breaks before after (text ++ more)
breaks_before before after text more b = (
  b.0,
  omega (arith, b.1, length-append text more),
  subst (λ (o : List ℕ). Appends before after o) (sym (take-append-le b.0 text more (omega (arith, b.1)))) b.2,
)

-- what the sink took

pub grows_none : (taken : Option (List ℕ)) → Grows taken taken
grows_none taken = ([], nothing_wrote taken)

pub grows_by : (before mid after : Option (List ℕ)) (more : List ℕ) → Grows before mid → Appends mid after more → Grows before after
grows_by before mid after more g a = (g.0 ++ more, Appends-trans _ _ _ _ _ g.1 a)

pub grows_on : (before mid after : Option (List ℕ)) → Grows before mid → Grows mid after → Grows before after
grows_on before mid after g h = grows_by before mid after h.0 g h.1
