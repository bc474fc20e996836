use Rattle.std.proofs.Common.{option_map, ap, sym, ◌∙◌}
use Rattle.fdb_core.specs.Fdb.{Table, place, is_dynamic_at}
use Rattle.fdb_core.proofs.Addresses.{told, get-told, told-renewed, moments-renewed}
use Rattle.fdb_core.proofs.table.Fdb.renew_at.Goals as goal

pub returns-clause-address : goal.returns-clause-address
returns-clause-address c = get-told place c.args.self.now.entries (c.args.vid, c.args.mac) ∙ ap (option_map place) (sym c.renew_where.ensures.entry)

pub returns-clause-addresses : goal.returns-clause-addresses
returns-clause-addresses c =
    ap (λ (t : Table). told place t.entries) c.renew_where.ensures.entries
    ∙ told-renewed (is_dynamic_at c.args.port) c.args.moment (c.args.vid, c.args.mac) c.renew_where.result c.args.self.now.entries c.len-len.ensures.ascending c.renew_where.ensures.entry

pub returns-clause-moments : goal.returns-clause-moments
returns-clause-moments c =
    ap (λ (t : Table). told (λ e. e.updated) t.entries) c.renew_where.ensures.entries
    ∙ moments-renewed (is_dynamic_at c.args.port) c.args.moment (c.args.vid, c.args.mac) c.renew_where.result c.args.self.now.entries
