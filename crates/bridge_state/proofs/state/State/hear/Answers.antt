use Rattle.std.proofs.Common.{List, [], fold, length, refl, sym, ap, subst, ◌∙◌}
use Rattle.br_model.specs.declared.change.Change.{Change}
use Rattle.br_model.specs.Control.Control.{Control, ends_with}
use Rattle.br_model.specs.Control.Ends.{Ends}
use Rattle.br_model.specs.Theorems.EndsTied.{IsTied}
use Rattle.br_model.specs.Table.Limits.{all_fit}
use Rattle.br_model.specs.Table.Table.{Table, apply}
use Rattle.bridge_state.specs.Hearing.{Hears}
use Rattle.bridge_state.specs.Standing.{table_of, control_of, course_of, places}
use Rattle.bridge_state.proofs.Fitting.{fit_behind}
use Rattle.bridge_state.proofs.Hearing.{behind, places-prompt}
use Rattle.bridge_state.proofs.state.State.hear.Goals as goal

pub place_all-requires : goal.place_all-requires
place_all-requires c =
    let old = c.args.changes.now.items in
    let h : Hears c.args.speaker.now c.args.self.now.groups (course_of c.args.self.now old []) =
    record { tied = c.requires.tied; ends = refl; now = sym c.requires.speaker.now; leaves = c.requires.speaker.leaves }
    in
    let added = c.says.ensures.adds in
    let more = behind old added.0 c.deref.result.now c.len-from.result (length c.deref.result.now) (c.deref.ensures.value ∙ added.1) (c.len-from.ensures ∙ c.args.changes.now.ok.0) refl in
    ap (λ (l : List Change). all_fit (table_of c.args.self.now) l) more ∙ (added.2 (course_of c.args.self.now old []) h).0.fits

pub returns-clause-adds : goal.returns-clause-adds
returns-clause-adds c =
    let added = c.says.ensures.adds in
    let more = behind c.args.changes.now.items added.0 c.deref.result.now c.len-from.result (length c.deref.result.now) (c.deref.ensures.value ∙ added.1) (c.len-from.ensures ∙ c.args.changes.now.ok.0) refl in (
      added.0,
      added.1,
      λ made out.
          let h : Hears c.args.speaker.now c.args.self.now.groups (course_of c.args.self.now made out) =
          record { tied = c.requires.tied; ends = refl; now = sym c.requires.speaker.now; leaves = c.requires.speaker.leaves }
          in
          let goes = (added.2 (course_of c.args.self.now made out) h).0 in
          let table = goes.table ∙ sym (c.place_all.ensures.table ∙ ap (λ (l : List Change). fold apply (table_of c.args.self.now) l) more) in
          let control = goes.control
          ∙ sym (c.place_all.ensures.control ∙ ap (λ (l : List Change). fold places (ends_with (control_of c.args.self.now) c.says.new.groups) l) more
          ∙ places-prompt (ends_with (control_of c.args.self.now) c.says.new.groups) added.0 goes.prompt) in
          (λ i. record { table = table i; control = control i; changes = goes.changes i; messages = goes.messages i }),
    )

pub returns-clause-fits : goal.returns-clause-fits
returns-clause-fits c t is fit =
    let old = c.args.changes.now.items in
    let h : Hears c.args.speaker.now c.args.self.now.groups (course_of c.args.self.now old []) =
    record { tied = c.requires.tied; ends = refl; now = sym c.requires.speaker.now; leaves = c.requires.speaker.leaves }
    in
    let added = c.says.ensures.adds in
    ap (all_fit t) added.1 ∙ fit_behind t old added.0 fit (ap (λ (u : Table). all_fit u added.0) is ∙ (added.2 (course_of c.args.self.now old []) h).0.fits)

pub returns-clause-tied : goal.returns-clause-tied
returns-clause-tied c =
    let old = c.args.changes.now.items in
    let h : Hears c.args.speaker.now c.args.self.now.groups (course_of c.args.self.now old []) =
    record { tied = c.requires.tied; ends = refl; now = sym c.requires.speaker.now; leaves = c.requires.speaker.leaves }
    in
    let added = c.says.ensures.adds in
    let then = added.2 (course_of c.args.self.now old []) h in
    let more = behind old added.0 c.deref.result.now c.len-from.result (length c.deref.result.now) (c.deref.ensures.value ∙ added.1) (c.len-from.ensures ∙ c.args.changes.now.ok.0) refl in
    let table = then.0.table ∙ sym (c.place_all.ensures.table ∙ ap (λ (l : List Change). fold apply (table_of c.args.self.now) l) more) in
    let control = c.place_all.ensures.control ∙ ap (λ (l : List Change). fold places (ends_with (control_of c.args.self.now) c.says.new.groups) l) more
    ∙ places-prompt (ends_with (control_of c.args.self.now) c.says.new.groups) added.0 then.0.prompt in
    subst (λ (e : Ends). IsTied (table_of c.place_all.new.self) e) (sym (ap (λ (k : Control). k.ends) control))
    (subst (λ (t : Table). IsTied t c.says.new.groups) table then.1.tied)
