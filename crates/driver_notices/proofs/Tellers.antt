-- One change more, or a turn.
use Rattle.std.proofs.Common.{◌≡◌, ℕ, ◌+◌, ◌<◌, ◌≤◌, Bool, true, false, cond, List, [], ◌∷◌, ◌++◌, length, take, Option, None, Some, refl, sym, ap, ◌∙◌, arith}
use Rattle.std.specs.List.{filter, slice_get}
use Rattle.std.specs.Option.{option_map, option_to_list}
use Rattle.std.proofs.lemmas.List.{length-take-le}
use Rattle.br_model.specs.declared.change.Change.{Change}
use Rattle.br_model.specs.declared.change.Update.{Update}
use Rattle.br_model.specs.declared.domains.Edition.{Edition}
use Rattle.br_model.specs.Plane.Chip.{Chip}
use Rattle.br_model.specs.Plane.World.{World, next_of}
use Rattle.br_model.specs.Table.Change.{deferred, updates}
use Rattle.br_model.specs.Table.Cut.{deferred_count, under_ticket}
use Rattle.br_model.proofs.Plane.Growing.{few-deferred}
use Rattle.br_model.proofs.Table.Cuts.{updates-at}
use Rattle.driver_notices.specs.declared.line.NoticeLine.{NoticeLine}
use Rattle.driver_notices.specs.declared.line.NoticeLine.TheVariants.{Told, Queued, Applied}
use Rattle.driver_notices.specs.Notices.{lines_of, taken}
use Rattle.driver_notices.specs.Tellers.{line_of_update, next_count, next_line}

module _ (edition : Edition) (step : ℕ) where
  pub lines-push : (n : ℕ) (cs : List Change) (c : Change)
      → lines_of edition step n (cs ++ c ∷ []) ≡ lines_of edition step n cs ++ next_line edition step (n + deferred_count edition cs) c ∷ []
  lines-push n [] c =
      let e : n ≡ n + 0 = omega arith in
      (elim (deferred edition c) as (λ b. cond {A = List NoticeLine} b (Queued step (n + 1) c ∷ []) (Told step c ∷ []) ≡ cond {A = NoticeLine} b (Queued step (n + 1) c) (Told step c) ∷ []) [
        | true ↦ refl
        | false ↦ refl
      ])
      ∙ ap (λ m. next_line edition step m c ∷ []) e
  lines-push n (x ∷ cs) c =
      elim (deferred edition x) as (λ b. cond b (Queued step (n + 1) x ∷ lines_of edition step (n + 1) (cs ++ c ∷ [])) (Told step x ∷ lines_of edition step n (cs ++ c ∷ []))
      ≡ cond b (Queued step (n + 1) x ∷ lines_of edition step (n + 1) cs) (Told step x ∷ lines_of edition step n cs)
      ++ next_line edition step (n + length (cond b (x ∷ filter (deferred edition) cs) (filter (deferred edition) cs))) c ∷ []) [
        | true ↦
            let e : n + 1 + deferred_count edition cs ≡ n + length (x ∷ filter (deferred edition) cs) = omega arith in
            ap (λ l. Queued step (n + 1) x ∷ l) (lines-push (n + 1) cs c ∙ ap (λ m. lines_of edition step (n + 1) cs ++ next_line edition step m c ∷ []) e)
        | false ↦ ap (λ l. Told step x ∷ l) (lines-push n cs c)
      ]

pub count-push : (edition : Edition) (n : ℕ) (cs : List Change) (c : Change) → n + deferred_count edition (cs ++ c ∷ []) ≡ next_count edition (n + deferred_count edition cs) c
count-push edition n [] c =
    elim (deferred edition c) as (λ b. n + length (cond b (c ∷ []) []) ≡ cond b (n + 0 + 1) (n + 0)) [
      | true ↦ omega arith
      | false ↦ omega arith
    ]
count-push edition n (x ∷ cs) c =
    elim (deferred edition x) as (λ b. n + length (cond b (x ∷ filter (deferred edition) (cs ++ c ∷ [])) (filter (deferred edition) (cs ++ c ∷ [])))
    ≡ next_count edition (n + length (cond b (x ∷ filter (deferred edition) cs) (filter (deferred edition) cs))) c) [
      | true ↦
          let e : n + length (x ∷ filter (deferred edition) (cs ++ c ∷ [])) ≡ n + 1 + deferred_count edition (cs ++ c ∷ []) = omega arith in
          let f : n + 1 + deferred_count edition cs ≡ n + length (x ∷ filter (deferred edition) cs) = omega arith in
          e ∙ count-push edition (n + 1) cs c ∙ ap (λ m. next_count edition m c) f
      | false ↦ count-push edition n cs c
    ]

-- Fewer are counted than changes may come.
pub count-below : (edition : Edition) (n i most : ℕ) (cs : List Change) → i < length cs → n + length cs ≤ most → n + deferred_count edition (take i cs) < most
count-below edition n i most cs lt le =
    let short : i ≤ length cs = omega (arith, lt) in
    omega (arith, lt, le, few-deferred edition (take i cs), length-take-le i cs short)

pub update-taken : (step dom : ℕ) (w : World) (c : Chip) (u : Option Update) → u ≡ slice_get (updates w.setup.domains.edition w.history) c.count
    → option_to_list (line_of_update step dom u) ≡ taken step dom w (Some c)
update-taken step dom w c u is =
    ap (λ o. option_to_list (line_of_update step dom o)) (is ∙ updates-at w.setup.domains.edition w.history c.count) ∙ by (next_of w c)
  where
    by : (o : Option Change) → option_to_list (line_of_update step dom (option_map (under_ticket c.count) o)) ≡ option_to_list (option_map (Applied step dom (c.count + 1)) o)
    by None = refl
    by (Some d) = refl
