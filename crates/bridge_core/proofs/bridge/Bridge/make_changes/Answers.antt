use Rattle.std.proofs.Common.{◌≡◌, ◌<◌, ◌^◌, ℕ, true, subst, List, ◌++◌, length, sym, ap, ◌∙◌, arith}
use Rattle.std.specs.Prelude.{IfSome, IsSome}
use Rattle.std.specs.List.{fold}
use Rattle.std.proofs.lemmas.Bool.{le-leb}
use Rattle.br_model.specs.declared.change.Change.{Change}
use Rattle.br_model.specs.Control.Control.{Control, keeps_up}
use Rattle.br_model.specs.Table.Limits.{all_fit}
use Rattle.br_model.specs.Table.Table.{Table, table, apply}
use Rattle.bridge_core.specs.Kept.{Controlled}
use Rattle.br_model.specs.Data.Maps.{pair_cmp, get}
use Rattle.bridge_state.specs.Plans.{renewed_at}
use Rattle.br_model.specs.Control.Ends.{Ends}
use Rattle.br_model.specs.Theorems.EndsTied.{IsTied}
use Rattle.bridge_state.specs.Standing.{clocked, table_of}
use Rattle.bridge_state.proofs.Fitting.{grown}
use Rattle.bridge_state.proofs.Reactions.{same_clock, renewed_clock, renewed_ends}
use Rattle.bridge_core.proofs.bridge.Bridge.make_changes.Goals as goal

pub prepare-requires : goal.prepare-requires
prepare-requires c =
    subst (λ (t : Table). IfSome c.args.renewed (λ key. IsSome (get pair_cmp t.addr key)))
    (sym (c.self.invariant.0 ∙ ap (λ (b : Controlled). table b.history) c.self.view_is))
    c.requires.there

pub follow-requires-clause-fits : goal.follow-requires-clause-fits
follow-requires-clause-fits c =
    ap (λ (t : Table). all_fit t c.args.changes.now) (c.prepare.ensures.table ∙ c.self.invariant.0 ∙ ap (λ (b : Controlled). table b.history) c.self.view_is)
    ∙ c.requires.fits

pub follow-requires-clause-tied : goal.follow-requires-clause-tied
follow-requires-clause-tied c =
    subst (λ (t : Table). IsTied t c.prepare.new.self.groups) (sym c.prepare.ensures.table)
    (subst (λ (e : Ends). IsTied (table_of c.self.inside.state) e) (sym (ap (λ (k : Control). k.ends) c.prepare.ensures.control ∙ renewed_ends _ c.args.renewed)) c.self.invariant.4)

pub follow-requires-clause-early : goal.follow-requires-clause-early
follow-requires-clause-early c =
    subst (λ (n : ℕ). n < 2 ^ 53) (sym (ap (λ (k : Control). k.now) c.prepare.ensures.control ∙ renewed_clock _ c.args.renewed)) c.requires.early

pub returns : goal.returns
returns c =
    let h = ap (λ (b : Controlled). b.history) c.self.view_is in (
      le-leb _ _ (let long = ap (λ (l : List Change). length l) h in omega (arith, c.if-changes-len.false, c.self.invariant.1, c.len.ensures)),
      λ i. record {
        setup = ap (λ (b : Controlled). b.setup) c.self.view_is i;
        history = (c.in_ok-extend.ensures.ok ∙ ap (λ (l : List Change). l ++ c.args.changes.now) h) i;
        control = (
            c.follow.ensures.control
            ∙ ap (λ (x : Control). fold keeps_up x c.args.changes.now) (c.prepare.ensures.control ∙ ap (λ (b : Controlled). renewed_at (clocked c.args.clock b.control) c.args.renewed) c.self.view_is)
            ) i;
      },
    )

pub invariant_of-self-2 : goal.invariant_of-self-2
invariant_of-self-2 c =
    let kept = c.self.invariant in
    let old = c.self.inside.history.items in
    let new = c.args.changes.now in
    let grows = c.in_ok-extend.ensures.ok in
    let fit : all_fit (table old) new ≡ true = ap (λ (b : Controlled). all_fit (table b.history) new) c.self.view_is ∙ c.requires.fits in
    let table_is = c.follow.ensures.table ∙ ap (λ (t : Table). fold apply t new) (c.prepare.ensures.table ∙ kept.0) in
    let g = grown old new _ (table_of c.follow.new.self) grows table_is (omega (arith, c.if-changes-len.false, kept.1, c.len.ensures)) kept.2 fit in
    let now = ap (λ (x : Control). x.now) c.follow.ensures.control ∙ same_clock _ new ∙ ap (λ (x : Control). x.now) c.prepare.ensures.control ∙ renewed_clock _ c.args.renewed in
    (g.0, g.1, g.2, subst (λ (n : ℕ). n < 2 ^ 53) (sym now) c.requires.early, c.follow.ensures.tied)
