use Rattle.std.proofs.Common.{◌≡◌, Bool, true, false, if◌then◌else◌, ◌&&◌, cond, Option, ℕ, refl, ap, sym, ◌∙◌}
use Rattle.br_model.specs.declared.change.Change.TheVariants.{AddrPut}
use Rattle.br_model.specs.declared.change.Kind.{Kind}
use Rattle.br_model.specs.declared.change.Kind.TheVariants.{Learned}
use Rattle.br_model.specs.Control.Control.{Control}
use Rattle.br_model.specs.Control.Learning.{Address, is_news, is_renewed}
use Rattle.br_model.specs.Data.Maps.{pair_cmp, get, put}
use Rattle.br_model.specs.Table.Limits.{fits}
use Rattle.br_model.specs.Table.Table.{with_addresses}
use Rattle.bridge_state.specs.Entries.{Entries, is_renewed_by}
use Rattle.bridge_state.specs.Lessons.{lesson_of, renewed_by}
use Rattle.bridge_state.specs.Standing.{table_of, control_of}
use Rattle.bridge_state.specs.declared.learning.Lesson.{Lesson}
use Rattle.bridge_state.specs.declared.learning.Lesson.TheVariants.{Known, Renewed, News}
use Rattle.bridge_state.proofs.learning.learn.Goals as goal

tested : (renews news : Bool) (key : Address) (c : Control) → record c { updated = cond renews (put pair_cmp c.updated key c.now) c.updated }
    ≡ renewed_by (if renews then Renewed else if news then News else Known) key c
tested true news key c = refl
tested false true key c = refl
tested false false key c = refl

pub returns-clause-lesson : goal.returns-clause-lesson
returns-clause-lesson c =
    let s = c.args.state.now in
    let key : Address = (c.args.vid, c.args.mac) in
    let e = c.renew_at-entry.ensures in
    c.lesson_by.ensures key (e.place ∙ ap (λ (a : Entries). get pair_cmp a.addr key) (sym e.entries))
    ∙ ap (λ (a : Entries). lesson_of (with_addresses s.ports a.addr) key c.args.port) e.entries

pub returns-clause-table : goal.returns-clause-table
returns-clause-table c = ap (λ (a : Entries). with_addresses c.args.state.now.ports a.addr) c.renew_at-entry.ensures.entries

pub returns-clause-control : goal.returns-clause-control
returns-clause-control c =
    let s = c.args.state.now in
    let t = table_of s in
    let control = control_of s in
    let key : Address = (c.args.vid, c.args.mac) in
    let port = c.args.port in
    let e = c.renew_at-entry.ensures in
    ap (λ (a : Entries). record control { updated = a.updated }) e.entries
    ∙ ap (λ (o : Option (ℕ × Kind)). record control { updated = cond (is_renewed_by port o) (put pair_cmp control.updated key control.now) control.updated }) e.place
    ∙ tested (is_renewed t key port) (is_news t key port && fits t (AddrPut key.0 key.1 port Learned)) key control
    ∙ ap (λ (l : Lesson). renewed_by l key control) (sym (returns-clause-lesson c))
