use Rattle.std.proofs.Common.{◌≡◌, ◌<◌, ◌^◌, ℕ, true, List, ◌++◌, [], ◌∷◌, length, sym, ap, subst, ◌∙◌, arith, length-append}
use Rattle.std.proofs.lemmas.Bool.{le-leb}
use Rattle.std.proofs.lemmas.List.Sums.{fold-append}
use Rattle.br_model.specs.declared.change.Change.{Change}
use Rattle.br_model.specs.Control.Control.{Control, keeps_up}
use Rattle.br_model.specs.Table.Limits.{all_fit}
use Rattle.br_model.specs.Table.Table.{Table, table, start, apply}
use Rattle.bridge_core.specs.Kept.{Controlled}
use Rattle.bridge_state.specs.Standing.{table_of}
use Rattle.bridge_state.proofs.Fitting.{fit_behind, fits_alone}
use Rattle.bridge_state.proofs.Reactions.{same_clock}
use Rattle.bridge_core.proofs.bridge.Bridge.make_change.Goals as goal

pub apply-requires-clause-fits : goal.apply-requires-clause-fits
apply-requires-clause-fits c =
    fits_alone (table_of c.self.inside.state) c.args.change (ap (λ (t : Table). all_fit t (c.args.change ∷ [])) (c.self.invariant.0 ∙ ap (λ (b : Controlled). table b.history) c.self.view_is)
    ∙ c.requires)

pub returns : goal.returns
returns c =
    let h = ap (λ (b : Controlled). b.history) c.self.view_is in (
      le-leb _ _ (let long = ap (λ (l : List Change). length l) h in omega (arith, c.if-len-ge-MOST_CHANGES.false, c.self.invariant.1, c.len.ensures)),
      λ i. record {
        setup = ap (λ (b : Controlled). b.setup) c.self.view_is i;
        history = (c.push_reserved.ensures.items ∙ ap (λ (l : List Change). l ++ c.args.change ∷ []) (c.in_ok-reserve.ensures.items ∙ h)) i;
        control = (c.apply.ensures.control ∙ ap (λ (b : Controlled). keeps_up b.control c.args.change) c.self.view_is) i;
      },
    )

pub invariant_of-self-2 : goal.invariant_of-self-2
invariant_of-self-2 c =
    let kept = c.self.invariant in
    let old = c.self.inside.history.items in
    let new = c.args.change ∷ [] in
    let grows = c.push_reserved.ensures.items ∙ ap (λ (l : List Change). l ++ c.args.change ∷ []) c.in_ok-reserve.ensures.items in
    let h = ap (λ (b : Controlled). b.history) c.self.view_is in
    let fit : all_fit (table old) new ≡ true = ap (λ (l : List Change). all_fit (table l) new) h ∙ c.requires in (
      c.apply.ensures.table ∙ ap (λ (t : Table). apply t c.args.change) kept.0 ∙ sym (ap table grows ∙ fold-append apply start old new),
      omega (arith, c.if-len-ge-MOST_CHANGES.false, kept.1, c.len.ensures, ap length grows, length-append old new),
      ap (all_fit start) grows ∙ fit_behind start old new kept.2 fit,
      subst (λ (n : ℕ). n < 2 ^ 53) (sym (ap (λ (x : Control). x.now) c.apply.ensures.control ∙ same_clock _ new)) kept.3,
      c.apply.ensures.tied,
    )
