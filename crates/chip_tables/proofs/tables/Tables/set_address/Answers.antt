use Rattle.std.proofs.Common.{◌≡◌, ◌≤◌, Option, None, length, ap, sym, subst, ◌∙◌, not, arith}
use Rattle.std.specs.Prelude.{IfSome}
use Rattle.std.specs.Ordering.{nat_cmp, eq_by_cmp}
use Rattle.std.specs.FinMap.Entries as entries
use Rattle.br_model.specs.Data.Maps.{pair_cmp, put, without}
use Rattle.br_model.specs.Table.Limits.{most_addresses}
use Rattle.open_addressing.specs.Finite.{Table}
use Rattle.open_addressing.specs.Pairs.{Pair, packed, by_pair}
use Rattle.open_addressing.proofs.Pairs.{put-by_pair, without-by_pair, length-by_pair}
use Rattle.chip_tables.specs.declared.rows.AddressRow.{AddressRow}
use Rattle.chip_tables.specs.Rows.{Rows, set_at}
use Rattle.chip_tables.proofs.Placed.{length-new}
use Rattle.chip_tables.proofs.tables.Tables.set_address.Goals as goal

pub insert-requires-clause-room : goal.insert-requires-clause-room
insert-requires-clause-room c none =
    let k : Pair = (c.args.vid, c.args.mac) in
    let es = c.self.inside.addresses.entries in
    let absent : entries.find nat_cmp (packed k) es ≡ None = ap (λ (q : Pair). entries.find nat_cmp (packed q) es) (sym c.key.ensures.value) ∙ none in
    let given : length
    (put pair_cmp c.args.self.now.addresses k c.in-Some.row) ≤ most_addresses =
    subst (λ (r : Option AddressRow). IfSome r (λ row. length (put pair_cmp c.args.self.now.addresses k row) ≤ most_addresses)) c.in-Some.is c.requires in
    let same : length (put pair_cmp c.args.self.now.addresses k c.in-Some.row) ≡ length (entries.put nat_cmp (packed k) c.in-Some.row es) =
    ap (λ (t : Rows). length (put pair_cmp t.addresses k c.in-Some.row)) (sym c.self.view_is) ∙ ap length (put-by_pair k c.key.ensures.below c.in-Some.row es)
    ∙ length-by_pair (entries.put nat_cmp (packed k) c.in-Some.row es) in
    let more = length-new (packed k) c.in-Some.row es absent in
    omega (arith, c.self.invariant.0)

pub returns-in-Some-clause-row : goal.returns-in-Some-clause-row
returns-in-Some-clause-row c =
    let k : Pair = (c.args.vid, c.args.mac) in
    let es = c.self.inside.addresses.entries in
    ap (λ (t : Table AddressRow). by_pair t.entries) c.insert.ensures.entries ∙ ap (λ (q : Pair). by_pair (entries.put nat_cmp (packed q) c.in-Some.row es)) c.key.ensures.value
    ∙ sym (put-by_pair k c.key.ensures.below c.in-Some.row es) ∙ ap (λ (t : Rows). put pair_cmp t.addresses k c.in-Some.row) c.self.view_is
    ∙ ap (λ (r : Option AddressRow). set_at pair_cmp c.args.self.now.addresses k r) (sym c.in-Some.is)

pub returns-in-None-clause-row : goal.returns-in-None-clause-row
returns-in-None-clause-row c =
    let k : Pair = (c.args.vid, c.args.mac) in
    let es = c.self.inside.addresses.entries in
    ap (λ (t : Table AddressRow). by_pair t.entries) c.take.ensures.rest
    ∙ ap (λ (q : Pair). by_pair (entries.where_key nat_cmp (λ x. not (eq_by_cmp nat_cmp (packed q) x)) es)) c.key-in-None.ensures.value
    ∙ sym (without-by_pair k c.key-in-None.ensures.below es) ∙ ap (λ (t : Rows). without pair_cmp t.addresses k) c.self.view_is
    ∙ ap (λ (r : Option AddressRow). set_at pair_cmp c.args.self.now.addresses k r) (sym c.in-None.is)
