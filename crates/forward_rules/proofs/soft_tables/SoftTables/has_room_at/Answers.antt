use Rattle.std.proofs.Common.{◌≡◌, ℕ, ◌||◌, Bool, true, Option, length, is_some, ap, sym, ◌∙◌}
use Rattle.std.specs.Prelude.{nat_lt}
use Rattle.std.proofs.lemmas.Bool.{le-ltb, lt-ltb}
use Rattle.lemmas.proofs.Tests.{or-false, or-true}
use Rattle.br_model.specs.Table.Limits.{most_addresses}
use Rattle.br_model.specs.Data.Maps.{pair_cmp, get}
use Rattle.br_model.specs.Table.Table.{Table}
use Rattle.br_model.specs.declared.change.Kind.{Kind}
use Rattle.forward_rules.proofs.soft_tables.SoftTables.has_room_at.Goals as goal

pub returns-then-len-lt-MOST_ADDRESSES : goal.returns-then-len-lt-MOST_ADDRESSES
returns-then-len-lt-MOST_ADDRESSES c =
    let known : Bool = is_some (get pair_cmp c.self.inside.fdb.entries (c.args.vid, c.args.mac)) in
    let room : nat_lt c.len.result most_addresses ≡ true = lt-ltb c.len.result most_addresses c.if-len-lt-MOST_ADDRESSES.true in
    room
    ∙ sym (or-true known)
    ∙ ap (λ b. known || b) (sym room ∙ ap (λ n. nat_lt n most_addresses) c.len.ensures)
    ∙ ap (λ (t : Table). is_some (get pair_cmp t.addr (c.args.vid, c.args.mac)) || nat_lt (length t.addr) most_addresses) c.self.view_is

pub returns-else-len-lt-MOST_ADDRESSES : goal.returns-else-len-lt-MOST_ADDRESSES
returns-else-len-lt-MOST_ADDRESSES c =
    let known : Bool = is_some (get pair_cmp c.self.inside.fdb.entries (c.args.vid, c.args.mac)) in
    c.is_some.ensures
    ∙ ap (λ (o : Option (ℕ × Kind)). is_some o) c.find.ensures
    ∙ sym (or-false known)
    ∙ ap (λ b. known || b) (sym (le-ltb c.len.result most_addresses c.if-len-lt-MOST_ADDRESSES.false) ∙ ap (λ n. nat_lt n most_addresses) c.len.ensures)
    ∙ ap (λ (t : Table). is_some (get pair_cmp t.addr (c.args.vid, c.args.mac)) || nat_lt (length t.addr) most_addresses) c.self.view_is
