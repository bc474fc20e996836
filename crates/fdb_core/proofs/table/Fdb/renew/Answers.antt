use Rattle.std.proofs.Common.{true, cond, is_some, ap, ◌∙◌}
use Rattle.br_model.specs.Data.Maps.{pair_cmp, put}
use Rattle.fdb_core.specs.Fdb.{Table, place}
use Rattle.fdb_core.proofs.Addresses.{told, told-renewed, moments-renewed, one_some}
use Rattle.fdb_core.proofs.ByAddress.{Key}
use Rattle.fdb_core.proofs.table.Fdb.renew.Goals as goal

pub returns-clause-addresses : goal.returns-clause-addresses
returns-clause-addresses c =
    ap (λ (t : Table). told place t.entries) c.renew_where.ensures.entries
    ∙ told-renewed (λ _. true) c.args.moment (c.args.vid, c.args.mac) c.renew_where.result c.args.self.now.entries c.len-len.ensures.ascending c.renew_where.ensures.entry

pub returns-clause-moments : goal.returns-clause-moments
returns-clause-moments c =
    let es = c.args.self.now.entries in
    let k : Key = (c.args.vid, c.args.mac) in
    let o = c.renew_where.result in
    ap (λ (t : Table). told (λ e. e.updated) t.entries) c.renew_where.ensures.entries ∙ moments-renewed (λ _. true) c.args.moment k o es
    ∙ ap (λ b. cond b (put pair_cmp (told (λ e. e.updated) es) k c.args.moment) (told (λ e. e.updated) es)) (one_some o ∙ ap is_some c.renew_where.ensures.entry ∙ c.requires)
