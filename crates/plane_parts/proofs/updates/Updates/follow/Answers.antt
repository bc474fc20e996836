use Rattle.std.proofs.Common.{◌≡◌, ◌≤◌, ◌++◌, ◌∷◌, [], length, take, cond, ap, sym, ◌∙◌, arith}
use Rattle.std.proofs.lemmas.List.{length-take-le}
use Rattle.br_model.specs.Table.Change.{deferred}
use Rattle.plane_parts.specs.Places.{places}
use Rattle.plane_parts.proofs.Placing.{more, few}
use Rattle.plane_parts.proofs.updates.Updates.follow.Goals as goal

pub note-requires : goal.note-requires
note-requires c =
    let at = c.loop-place.place in
    let h = c.args.history.now in
    let noted : length c.loop-place.self ≤ length (take at h) = rw c.loop-place.invariant (few c.args.edition (take at h)) in
    let long : length (take at h) ≡ at = length-take-le at h (omega (arith, c.loop-place-test.true)) in
    omega (arith, c.requires.few, c.loop-place-test.true)

pub loop-place-preserved : goal.loop-place-preserved
loop-place-preserved c = c.note.ensures
    ∙ ap (λ ps. cond (deferred c.args.edition c.index-history-place.result) (ps ++ c.loop-place.place ∷ []) ps) c.loop-place.invariant
    ∙ (ap (λ d. cond (deferred c.args.edition d) (places c.args.edition (take c.loop-place.place c.args.history.now) ++ c.loop-place.place ∷ [])
    (places c.args.edition (take c.loop-place.place c.args.history.now))) c.index-history-place.is
    ∙ sym (more c.args.edition c.args.history.now c.loop-place.place c.index-history-place.result c.loop-place-test.true))
