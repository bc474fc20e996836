use Rattle.std.proofs.Common.{◌≡◌, ◌∷◌, ◌++◌, [], ap, sym, ◌∙◌, map}
use Rattle.std.specs.Ordering.{nat_cmp}
use Rattle.br_model.specs.declared.scenario.Place.TheVariants.{Declarations}
use Rattle.br_model.specs.Table.Domains.{Domains}
use Rattle.br_model.specs.Data.Maps.{put}
use Rattle.br_model.specs.Text.Roster.{Roster, Entry, domains_of}
use Rattle.br_model.specs.Text.Declarations.{are_declared}
use Rattle.bridge_command.specs.Seen.{entry}
use Rattle.bridge_command.proofs.Declaring.{grows, domains-append}
use Rattle.bridge_command.proofs.Entries.{declared_last}
use Rattle.bridge_command.proofs.roster.Roster.declare.Goals as goal

pub invariant_of-self-2 : goal.invariant_of-self-2
invariant_of-self-2 c =
    let e : Entry = record { name = c.args.name; port = c.args.port; dom = c.args.dom } in
    let edition = c.self.inside.domains.edition in
    let same : c.set.new.self.edition ≡ edition = ap (λ (m : Domains). m.edition) c.set.ensures in
    let before : map entry c.self.inside.ports.entries ≡ c.args.self.now.ports = ap (λ (r : Roster). r.ports) c.self.view_is in
    let after : map entry c.insert.new.self.entries ≡ c.args.self.now.ports ++ e ∷ [] =
    declared_last c.self.inside.ports.entries c.insert.new.self.entries c.args.self.now.ports c.into_text.result c.args.name c.args.port c.args.dom
    before c.requires c.into_text.ensures c.in_ok-insert.ensures.entries in (
      ap are_declared after ∙ grows c.args.self.now.ports e (ap are_declared (sym before) ∙ c.self.invariant.0) c.requires,
      c.set.ensures ∙ ap (λ (m : Domains). record m { ports = put nat_cmp m.ports c.args.port c.args.dom }) (c.self.invariant.1 ∙ ap (domains_of edition) before)
          ∙ sym (domains-append edition c.args.self.now.ports e) ∙ (λ i. domains_of (sym same i) (sym after i)),
    )

pub returns-clause-ok : goal.returns-clause-ok
returns-clause-ok c =
    let before : map entry c.self.inside.ports.entries ≡ c.args.self.now.ports = ap (λ (r : Roster). r.ports) c.self.view_is in
    let check = ap (λ (r : Roster). r.check) c.self.view_is in
    let own = ap (λ (r : Roster). r.own) c.self.view_is in
    let edition = ap (λ (m : Domains). m.edition) c.set.ensures ∙ ap (λ (r : Roster). r.edition) c.self.view_is in
    λ i. record {
      place = Declarations;
      check = check i;
      edition = edition i;
      own = own i;
      ports = declared_last c.self.inside.ports.entries c.insert.new.self.entries c.args.self.now.ports c.into_text.result c.args.name c.args.port c.args.dom
          before c.requires c.into_text.ensures c.in_ok-insert.ensures.entries i;
    }
