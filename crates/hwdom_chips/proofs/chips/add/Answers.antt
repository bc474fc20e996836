use Rattle.std.proofs.Common.{◌≡◌, ◌∷◌, ◌++◌, if◌then◌else◌, ℕ, Bool, true, List, [], map, ap, sym, subst, ◌∙◌}
use Rattle.std.proofs.lemmas.List.{map-append}
use Rattle.std.proofs.lemmas.List.Elements.{All-push}
use Rattle.std.specs.List.{All, filter}
use Rattle.br_model.specs.Plane.Chip.{Chip, first_chip}
use Rattle.br_model.specs.Table.Domains.{has_chip}
use Rattle.hwdom_chips.specs.Chips.{ChipState, IsChip, chips_of}
use Rattle.br_model.proofs.Table.ChipLists.{not-software}
use Rattle.hwdom_chips.proofs.chips.add.Goals as goal

pub make-requires : goal.make-requires
make-requires c = not-software c.args.d.now c.in-Some.dom (sym c.has_chip.ensures ∙ c.if-has_chip.true)

pub returns-in_err-push-in-Some-clause-stand : goal.returns-in_err-push-in-Some-clause-stand
returns-in_err-push-in-Some-clause-stand c = subst (λ (cs : List ChipState). All (IsChip c.args.d.now []) cs) (sym c.in_err-push-in-Some.ensures.items) c.requires.stand

pub returns-in_ok-push-in-Some-clause-stand : goal.returns-in_ok-push-in-Some-clause-stand
returns-in_ok-push-in-Some-clause-stand c =
    subst (λ (cs : List ChipState). All (IsChip c.args.d.now []) cs) (sym c.in_ok-push-in-Some.ensures.items)
    (All-push (IsChip c.args.d.now []) c.args.chips.now.items c.in_ok-make-in-Some.field-0 c.requires.stand c.in_ok-make-in-Some.ensures.stands)

-- the one that passes
filter_one : (test : ℕ → Bool) (k : ℕ) → test k ≡ true → filter test (k ∷ []) ≡ k ∷ []
filter_one test k so = ap (λ (b : Bool). if b then k ∷ [] else []) so

pub returns-in_ok-push-in-Some-clause-chips : goal.returns-in_ok-push-in-Some-clause-chips
returns-in_ok-push-in-Some-clause-chips c =
    let number-is : c.in-Some.dom ≡ c.args.number = c.in-Some.ensures.value in
    let there : has_chip c.args.d.now c.args.number ≡ true = ap (λ (n : ℕ). has_chip c.args.d.now n) (sym number-is) ∙ sym c.has_chip.ensures ∙ c.if-has_chip.true in
    ap chips_of c.in_ok-push-in-Some.ensures.items
    ∙ map-append (λ (s : ChipState). s.chip) c.args.chips.now.items (c.in_ok-make-in-Some.field-0 ∷ [])
    ∙ ap (λ (k : Chip). chips_of c.args.chips.now.items ++ k ∷ []) (c.in_ok-make-in-Some.ensures.first ∙ ap first_chip number-is)
    ∙ ap (λ (ks : List ℕ). chips_of c.args.chips.now.items ++ map first_chip ks) (sym (filter_one (λ k. has_chip c.args.d.now k) c.args.number there))
