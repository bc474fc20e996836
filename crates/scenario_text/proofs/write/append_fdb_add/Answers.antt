use Rattle.std.proofs.Common.{ℕ, List, ◌++◌, ◌∙◌, ap}
use Rattle.std.specs.String.{string_bytes}
use Rattle.std.proofs.lemmas.Result.{on_ok_weaker}
use Rattle.scenario_text.proofs.Written.{local_words, static_words, extern_words}
use Rattle.scenario_text.proofs.write.append_fdb_add.Goals as goal

pub returns-in-Local : goal.returns-in-Local
returns-in-Local c =
    on_ok_weaker c.append_entry.result
    (λ last. last ∙ ap (λ (line : List ℕ). string_bytes c.args.to.now ++ line) (local_words c.args.roster.now.ports c.args.vid c.args.mac c.args.port c.args.kind c.in-Local.is c.requires))
    c.append_entry.ensures

pub returns-in-Static : goal.returns-in-Static
returns-in-Static c =
    on_ok_weaker c.append_entry-in-Static.result
    (λ last. last ∙ ap (λ (line : List ℕ). string_bytes c.args.to.now ++ line) (static_words c.args.roster.now.ports c.args.vid c.args.mac c.args.port c.args.kind _ c.in-Static.is c.name.ensures))
    c.append_entry-in-Static.ensures

pub returns-in-Extern : goal.returns-in-Extern
returns-in-Extern c =
    on_ok_weaker c.append_entry-in-Extern.result
    (λ last. last
    ∙ ap (λ (line : List ℕ). string_bytes c.args.to.now ++ line) (extern_words c.args.roster.now.ports c.args.vid c.args.mac c.args.port c.args.kind _ c.in-Extern.is c.name-in-Extern.ensures))
    c.append_entry-in-Extern.ensures
