-- What a reaction comes to for the world.
use Rattle.std.proofs.Common.{◌≡◌, ℕ, List, [], ◌∷◌, ◌++◌, length, Result, Ok, Err, refl, sym, ap, ap₂, subst, ◌∙◌, append_assoc}
use Rattle.std.specs.declared.alloc.AllocError.{AllocError}
use Rattle.br_model.specs.declared.steps.Refusal.{Refusal}
use Rattle.br_model.specs.declared.transcript.Line.{Line}
use Rattle.br_model.specs.declared.transcript.Line.TheVariants as lines
use Rattle.br_model.specs.Control.Reaction.{Reaction}
use Rattle.br_model.specs.Plane.Chip.{Chip}
use Rattle.br_model.specs.Plane.World.{World, accepts, after_lines, answered, control_lines}
use Rattle.br_model.specs.Table.Setup.{Setup}
use Rattle.bridge_state.specs.declared.faults.EventFault.{EventFault}
use Rattle.bridge_state.specs.declared.faults.EventFault.TheVariants.{Refused, NoMemory}
use Rattle.plane_parts.specs.Added.{Added}
use Rattle.plane_parts.specs.Queued.{Queued}
use Rattle.plane_reactions.specs.Reacted.{Comes, Lasts, Reacted, Seen}

-- behind these lines
comes : {S : Type 0} (seen : Seen S) (s t : S) (kept : List Chip) (before after : List Line) (step : ℕ) (outcome : Result ℕ EventFault) (last : Line) (answer : Result Reaction Refusal)
    → Reacted seen s t kept before after outcome answer → Lasts step outcome (Ok last) → (q : Queued)
    → after_lines before (answered (seen.world s q step) (record (seen.world s q step) { chips = kept }) answer) ≡ (seen.world t q step, after ++ last ∷ [])
comes seen s t kept before after step (Ok changes) last answer did ends q =
    let r = did.0 in
    let w = seen.world s q step in
    let sends = control_lines (seen.setup s).own r.messages in
    let done : last ≡ lines.Done step (length r.changes) = cc in
    let came : seen.world t q step ≡ accepts (record w { chips = kept }) r = ap (λ x. seen.world x q step) did.3 ∙ seen.made_is s r kept q step in
    ap (λ (a : Result Reaction Refusal). after_lines before (answered w (record w { chips = kept }) a)) did.1
    ∙ ap₂ (λ (set : Setup) (n : ℕ). (accepts (record w { chips = kept }) r, before ++ (control_lines set.own r.messages ++ lines.Done n (length r.changes) ∷ [])))
    (seen.setup_is s q step) (seen.steps_are s q step)
    ∙ ap (λ (ls : List Line). (accepts (record w { chips = kept }) r, ls)) (sym (append_assoc before sends (lines.Done step (length r.changes) ∷ [])))
    ∙ sym (ap₂ (λ (x : World) (ls : List Line). (x, ls)) came (ap₂ (λ (ls : List Line) (l : Line). ls ++ l ∷ []) did.4 done))
comes seen s t kept before after step (Err (Refused why)) last answer did ends q =
    let w = seen.world s q step in
    let refusal : last ≡ lines.Refused step why = cc in
    ap (λ (a : Result Reaction Refusal). after_lines before (answered w (record w { chips = kept }) a)) did.0
    ∙ ap (λ (n : ℕ). (w, before ++ lines.Refused n why ∷ [])) (seen.steps_are s q step)
    ∙ sym (ap₂ (λ (x : World) (ls : List Line). (x, ls)) (ap (λ x. seen.world x q step) did.1) (ap₂ (λ (ls : List Line) (l : Line). ls ++ l ∷ []) did.2 refusal))
comes seen s t kept before after step (Err NoMemory) last answer did ends q = absurd cc

-- a step without memory for its end
pub not_ended : {S : Type 0} (seen : Seen S) (s t : S) (kept : List Chip) (before after : List Line) (step : ℕ) (outcome : Result ℕ EventFault) (end : Result Line AllocError)
    (fault : AllocError) (answer : Result Reaction Refusal)
    → Reacted seen s t kept before after outcome answer → Lasts step outcome end → end ≡ Err fault → (t ≡ s) × (after ≡ before)
not_ended seen s t kept before after step (Ok changes) end fault answer did ends at = absurd (let e : Ok (lines.Done step changes) ≡ Err fault = sym ends ∙ at in cc)
not_ended seen s t kept before after step (Err (Refused why)) end fault answer did ends at = absurd (let e : Ok (lines.Refused step why) ≡ Err fault = sym ends ∙ at in cc)
not_ended seen s t kept before after step (Err NoMemory) end fault answer did ends at = did

-- a step that a reaction ends
pub ended : {S : Type 0} (seen : Seen S) (s t : S) (kept : List Chip) (first before after told : List Line) (step : ℕ) (outcome : Result ℕ EventFault) (end : Result Line AllocError) (last : Line)
    (answer : Result Reaction Refusal) → before ≡ first → Reacted seen s t kept before after outcome answer → Lasts step outcome end → end ≡ Ok last → told ≡ after ++ last ∷ []
    → Comes seen (λ w. after_lines first (answered w (record w { chips = kept }) answer)) s step t told
ended seen s t kept first before after told step outcome end last answer is did ends at all q =
    ap (λ (ls : List Line). after_lines ls (answered (seen.world s q step) (record (seen.world s q step) { chips = kept }) answer)) (sym is)
    ∙ comes seen s t kept before after step outcome last answer did (subst (λ (e : Result Line AllocError). Lasts step outcome e) at ends) q
    ∙ ap (λ (ls : List Line). (seen.world t q step, ls)) (sym all)

-- the reaction's lines behind the first ones, without those that were there before
behind_first : {S : Type 0} (seen : Seen S) (s t : S) (kept : List Chip) (there first before after : List Line) (step : ℕ) (outcome : Result ℕ EventFault) (last : Line)
    (answer : Result Reaction Refusal)
    → before ≡ there ++ first → Reacted seen s t kept before after outcome answer → Lasts step outcome (Ok last)
    → (own : List Line) × (Reacted seen s t kept first own outcome answer) × (after ≡ there ++ own)
behind_first seen s t kept there first before after step (Ok changes) last answer is did ends =
    let sends = control_lines (seen.setup s).own did.0.messages in
    (first ++ sends, (did.0, did.1, did.2, did.3, refl), did.4 ∙ ap (λ ls. ls ++ sends) is ∙ append_assoc there first sends)
behind_first seen s t kept there first before after step (Err (Refused why)) last answer is did ends = (first, (did.0, did.1, refl), did.2 ∙ is)
behind_first seen s t kept there first before after step (Err NoMemory) last answer is did ends = absurd cc

-- a step that a reaction ends, with its lines behind others
pub ended_behind : {S : Type 0} (seen : Seen S) (s t : S) (kept : List Chip) (there first before after told : List Line) (step : ℕ) (outcome : Result ℕ EventFault) (end : Result Line AllocError)
    (last : Line) (answer : Result Reaction Refusal) → before ≡ there ++ first → Reacted seen s t kept before after outcome answer → Lasts step outcome end → end ≡ Ok last
    → told ≡ after ++ last ∷ [] → Added (Comes seen (λ w. after_lines first (answered w (record w { chips = kept }) answer)) s step t) there told
ended_behind seen s t kept there first before after told step outcome end last answer is did ends at all =
    let known : Lasts step outcome (Ok last) = subst (λ (e : Result Line AllocError). Lasts step outcome e) at ends in
    let own = behind_first seen s t kept there first before after step outcome last answer is did known in
    record {
      lines = own.0 ++ last ∷ [];
      so = ended seen s t kept first first own.0 (own.0 ++ last ∷ []) step outcome end last answer refl own.1 ends at refl;
      added = all ∙ ap (λ ls. ls ++ last ∷ []) own.2 ∙ append_assoc there own.0 (last ∷ []);
    }
