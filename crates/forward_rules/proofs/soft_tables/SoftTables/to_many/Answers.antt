use Rattle.std.proofs.Common.{◌≡◌, ℕ, Bool, ◌&&◌, ◌||◌, cond, Some, ap, sym, ◌∙◌, arith}
use Rattle.lemmas.proofs.Tests.{or-false}
use Rattle.br_model.specs.Forward.Class.{class_by, is_snooped, is_trapped_in, reaches_host}
use Rattle.br_model.specs.Table.Domains.{host}
use Rattle.br_model.specs.Forward.Eligible.{may, untagged}
use Rattle.br_model.specs.Table.Table.{Table}
use Rattle.br_model.specs.Forward.Targets.{is_for_the_host}
use Rattle.br_model.specs.declared.frame.Class.TheVariants.{Trap}
use Rattle.vlan_groups.specs.Rows.{ports_where}
use Rattle.port_sets.specs.Numbers.{has_number}
use Rattle.forward_rules.proofs.Deciding.{class-is, never-crosses, ports-are, untagged-are}
use Rattle.forward_rules.proofs.SetLaws.{both-within, member-of}
use Rattle.forward_rules.proofs.soft_tables.SoftTables.to_many.Goals as goal
use Rattle.forward_rules.proofs.soft_tables.SoftTables.to_many.Goals.{then-snoops, else-snoops, then-is_trapped, else-is_trapped}

pub returns-clause-ports : goal.returns-clause-ports
returns-clause-ports c =
    ports-are c.args.self.now c.args.p c.args.vid c.args.h.now c.args.m.now c.targets.result c.eligible-eligible.result c.and-ports.result c.requires.other c.requires.admitted c.targets.ensures
    (c.eligible-eligible.ensures.value ∙ ap (λ (t : Table). ports_where (λ q. may t c.args.p q c.args.vid)) c.self.view_is)
    c.and-ports.ensures

pub returns-clause-untagged : goal.returns-clause-untagged
returns-clause-untagged c =
    untagged-are c.args.self.now c.args.vid (λ q. has_number c.targets.result q && has_number c.eligible-eligible.result q) c.and-ports.result c.untagged_of.result c.and.result c.and-ports.ensures
    (c.untagged_of.ensures ∙ ap (λ (t : Table). ports_where (λ q. untagged t q c.args.vid)) c.self.view_is)
    c.and.ensures

pub class_by-class-requires : goal.class_by-class-requires
class_by-class-requires c = both-within c.eligible-eligible.result c.targets.result c.and-ports.result c.eligible-eligible.ensures.ports c.and-ports.ensures

pub returns-clause-class : goal.returns-clause-class
returns-clause-class c =
    let t : Table = c.args.self.now in
    let vid : ℕ = c.args.vid in
    let eligible : c.eligible-eligible.result ≡ ports_where (λ q. may t c.args.p q vid) =
    c.eligible-eligible.ensures.value ∙ ap (λ (x : Table). ports_where (λ q. may x c.args.p q vid)) c.self.view_is in
    let snooped : Bool = t.snoop && is_snooped c.args.m.now in
    let snoops : c.snoops.result ≡ snooped = c.snoops.ensures ∙ ap (λ (x : Table). x.snoop && is_snooped c.args.m.now) c.self.view_is in
    let hosted : Bool = reaches_host t c.args.p vid c.args.h.now in
    let to_host : (is_for_the_host c.args.h.now.dst && has_number c.eligible-eligible.result host) ≡ hosted =
    ap (λ b. is_for_the_host c.args.h.now.dst && b) (member-of (λ q. may t c.args.p q vid) c.eligible-eligible.result host eligible (omega arith)) in
    let by_us : c.if-snoops.is_trapped ≡ (snooped || hosted) =
    elim c.if-snoops.branch [
      | then-snoops w ↦ w.is_trapped-is ∙ w.if-snoops.true ∙ ap (λ b. b || hosted) (sym w.if-snoops.true ∙ snoops)
      | else-snoops w ↦ w.is_trapped-is ∙ w.reaches_host-is_trapped.ensures ∙ to_host ∙ ap (λ b. b || hosted) (sym w.if-snoops.false ∙ snoops)
    ] in
    let trapped : c.if-snoops.is_trapped ≡ is_trapped_in c.args.d.now t c.args.p (Some vid) c.args.h.now c.args.m.now =
    by_us
    ∙ ap (λ b. snooped || b) (sym (or-false hosted) ∙ ap (λ b. hosted || b) (sym (never-crosses c.args.d.now t c.args.p vid c.args.h.now c.requires.unknown))) in
    let cls : c.if-is_trapped.class ≡ cond c.if-snoops.is_trapped Trap (class_by c.args.d.now c.args.p c.and-ports.result) =
    elim c.if-is_trapped.branch [
      | then-is_trapped w ↦ w.class-is ∙ sym (ap (λ b. cond b Trap (class_by c.args.d.now c.args.p c.and-ports.result)) w.if-is_trapped.true)
      | else-is_trapped w ↦ w.class-is ∙ w.class_by-class.ensures ∙ sym (ap (λ b. cond b Trap (class_by c.args.d.now c.args.p c.and-ports.result)) w.if-is_trapped.false)
    ] in
    class-is c.args.d.now t c.args.p vid c.args.h.now c.args.m.now c.if-snoops.is_trapped c.and-ports.result c.if-is_trapped.class c.requires.other c.requires.admitted trapped
    (returns-clause-ports c) cls
