-- Where no update is pending all entries are offloaded, and none is stale.
use Rattle.std.proofs.Common.{◌≡◌, ℕ, ◌+◌, ◌-◌, ◌≤◌, true, false, ◌&&◌, not, cond, List, [], ◌∷◌, refl, sym, ap, ◌∙◌, arith}
use Rattle.std.specs.List.{filter, list_all}
use Rattle.std.specs.Option.{option_map_or}
use Rattle.std.proofs.lemmas.Bool.{eq-eqb}
use Rattle.lemmas.proofs.Tests.{true_from_T}
use Rattle.br_model.specs.declared.change.Change.{Change}
use Rattle.br_model.specs.declared.change.Kind.{Kind}
use Rattle.br_model.specs.declared.change.Kind.TheVariants.{Local, Static, Learned, Extern}
use Rattle.br_model.specs.declared.domains.Edition.{Edition}
use Rattle.br_model.specs.Plane.Chip.{Chip}
use Rattle.br_model.specs.Plane.Runs.{pending_of}
use Rattle.br_model.specs.Plane.World.{World}
use Rattle.br_model.specs.Table.Cut.{cut, deferred_count}
use Rattle.br_model.specs.Table.Table.{Table, table}
use Rattle.br_model.proofs.Table.Cuts.{cut-all}
use Rattle.neigh_netlink.specs.Neighbours.{Key, same_kind}
use Rattle.chip_audit.specs.declared.entries.Found.{Found}
use Rattle.chip_audit.specs.Audits.{Row, audit_of, is_stale, same_place, stale}
use Rattle.chip_audit.specs.Marks.{all_offloaded}
use Rattle.chip_audit.proofs.Marking.{entries-first, entries-last, table-ascends}
use Rattle.chip_audit.proofs.Own.{FindOwn, find-own}

same-kind : (k : Kind) → same_kind k k ≡ true
same-kind Local = refl
same-kind Static = refl
same-kind Learned = refl
same-kind Extern = refl

same-place : (x : ℕ × Kind) → same_place x x ≡ true
same-place x = λ i. eq-eqb x.0 x.0 refl i && same-kind x.1 i

-- no entry of a table is stale by the table itself
none-stale : (t : Table) (es : List Row) → FindOwn t.addr es → filter (is_stale t) es ≡ []
none-stale t [] own = refl
none-stale t (e ∷ es) own =
    ap (λ b. cond b (e ∷ filter (is_stale t) es) (filter (is_stale t) es))
    (ap (λ o. not (option_map_or (λ (place : ℕ × Kind). same_place place e.1) o false)) own.0 ∙ ap not (same-place e.1))
    ∙ none-stale t es own.1

all-true : (rows : List Row) → list_all (λ (e : Key × Found). e.1.offloaded) (all_offloaded rows) ≡ true
all-true [] = refl
all-true (row ∷ rows) = all-true rows

module _ (w : World) (c : Chip) (none : pending_of w c ≡ 0) where
  abbrev edition : Edition
  edition = w.setup.domains.edition

  all : deferred_count edition w.history ≤ c.count
  all = omega (arith, none)

  same : cut edition w.history c.count ≡ w.history
  same = cut-all edition w.history c.count all

  pub calm-offloaded : list_all (λ e. e.1.offloaded) (audit_of w c).entries ≡ true
  calm-offloaded =
      let past : deferred_count edition w.history ≤ c.count + 0 = omega (arith, all) in
      ap (list_all (λ (e : Key × Found). e.1.offloaded)) (sym (entries-last edition w.history c.count 0 past) ∙ sym (entries-first edition w.history c.count))
      ∙ all-true (table (cut edition w.history c.count)).addr

  pub calm-stale : (audit_of w c).stale ≡ []
  calm-stale =
      ap (λ (h : List Change). stale (table w.history) (table h)) same
      ∙ none-stale (table w.history) (table w.history).addr (find-own (table w.history).addr (true_from_T _ (table-ascends w.history)))
