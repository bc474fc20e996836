use Rattle.std.proofs.Common.{◌++◌, ◌<◌, [], ◌∷◌, List, ℕ, Option, None, Vec, Global, length, take, map, filter_map, get_or, sym, ap, ◌∙◌, arith}
use Rattle.std.proofs.lemmas.List.{append-nil, length-map, take_all}
use Rattle.std.specs.List.{cons_option}
use Rattle.lemmas.proofs.Lists.{filter_map-next}
use Rattle.open_addressing.specs.Finite.{key_if}
use Rattle.open_addressing.specs.Zipped.{pair_cell}
use Rattle.open_addressing.proofs.Zipped.{keys-padded}
use Rattle.open_addressing.proofs.dense.Pairs.keys_where.Goals as goal
use Rattle.open_addressing.proofs.dense.Pairs.keys_where.Goals.{in-Some+in_ok-push, in_default}

pub key_if-requires : goal.key_if-requires
key_if-requires g c = omega (arith, ap length c.as_slice.ensures.value, c.self.inside.pairs.ok.0)

pub loop-i-preserved : goal.loop-i-preserved
loop-i-preserved g c =
    let es = c.self.inside.pairs.items in
    let h = key_if (g.T.Test.passes c.args.test.now) in
    let within : c.loop-i.i < length (map pair_cell es) = omega (arith, length-map es pair_cell, c.self.inside.pairs.ok.0) in
    let next = filter_map-next h (map pair_cell es) c.loop-i.i None within in
    let got = c.key_if.ensures ∙ ap (λ (xs : List (ℕ × g.row.V.Denot)). h (get_or (map pair_cell xs) c.loop-i.i None)) c.as_slice.ensures.value in
    let made = λ (o : Option ℕ). filter_map h (take c.loop-i.i (map pair_cell es)) ++ cons_option o [] in
    elim c.match-key_if.branch [
      | in-Some+in_ok-push w ↦ ap (λ (v : Vec ℕ Global). v.items) w.keys-is ∙ w.in_ok-push.ensures.items ∙ ap (λ (ks : List ℕ). ks ++ w.in-Some.key ∷ []) c.loop-i.invariant
          ∙ ap made (sym w.in-Some.is ∙ got) ∙ sym next
      | in_default w ↦ ap (λ (v : Vec ℕ Global). v.items) w.keys-is ∙ c.loop-i.invariant ∙ sym (append-nil _) ∙ ap made (sym w.in_default.is ∙ got) ∙ sym next
    ]

pub returns : goal.returns
returns g c =
    let es = c.self.inside.pairs.items in
    let s = c.self.inside in
    let p = g.T.Test.passes c.args.test.now in
    c.loop-i.invariant ∙ ap (filter_map (key_if p)) (take_all c.loop-i.i (map pair_cell es) (omega (arith, length-map es pair_cell, c.self.inside.pairs.ok.0)))
    ∙ sym (keys-padded p s.count es s.blank c.self.invariant.0) ∙ ap (filter_map (key_if p)) c.self.view_is
