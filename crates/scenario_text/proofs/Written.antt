-- The words of commands whose form goes by their values.
use Rattle.std.proofs.Common.{◌≡◌, ℕ, Bool, true, false, if◌then◌else◌, List, ◌++◌, ◌==◌, [], ◌∷◌, refl, sym, ◌∙◌, ap, append-nil, Some}
use Rattle.std.specs.Option.{option_map}
use Rattle.std.specs.declared.option.Option.TheVariants.{None}
use Rattle.std.specs.Fmt.{decimal}
use Rattle.std.specs.Prelude.{codes}
use Rattle.br_model.specs.declared.change.Kind.{Kind}
use Rattle.br_model.specs.declared.change.Kind.TheVariants.{Local, Static, Learned, Extern}
use Rattle.br_model.specs.declared.steps.Command.TheVariants.{VlanAdd, FdbAdd}
use Rattle.br_model.specs.declared.steps.Step.TheVariants.{Cmd}
use Rattle.br_model.specs.Table.Domains.{host}
use Rattle.br_model.specs.Text.CommandForms.{fdb_add_local}
use Rattle.br_model.specs.Text.Forms.{Form, fills}
use Rattle.br_model.specs.Text.LineForms.{behind_cmd}
use Rattle.br_model.specs.Text.Roster.{Entry}
use Rattle.br_model.specs.Text.ScenarioText.{step_words, names_declared, words_in, knows_in}
use Rattle.br_model.specs.Text.Spelling.{name_of, device_text, mac_text, further}
use Rattle.br_model.specs.Text.Words.{joined}

pub vlan_add_words : (ports : List Entry) (port vid : ℕ) (untagged pvid : Bool)
    → codes "cmd vlan add vid " ++ (decimal vid ++ (codes " dev " ++ (device_text ports port ++ (further pvid (codes "pvid") ++ further untagged (codes "untagged")))))
    ≡ step_words ports (Cmd (VlanAdd port vid untagged pvid))
vlan_add_words ports port vid false false = ap (λ (w : List ℕ). codes "cmd vlan add vid " ++ (decimal vid ++ (codes " dev " ++ w))) (append-nil (device_text ports port))
vlan_add_words ports port vid false true = refl
vlan_add_words ports port vid true false = refl
vlan_add_words ports port vid true true = refl

-- a command that has a form for one number alone
pub entry_words : (ports : List Entry) (b : Bool) (f : Form) → knows_in ports (option_map behind_cmd (if b then Some f else None)) ≡ true
    → joined (words_in ports (Some (behind_cmd f))) ≡ joined (words_in ports (option_map behind_cmd (if b then Some f else None)))
entry_words ports true f h = refl
entry_words ports false f h = absurd (cc)

abbrev fdb_words : ℕ → ℕ → List ℕ → List ℕ → List ℕ
fdb_words mac vid device kind =
    joined (codes "cmd" ∷ codes "fdb" ∷ codes "add" ∷ mac_text mac ∷ codes "dev" ∷ device ∷ codes "vlan" ∷ decimal vid ∷ kind ∷ [])

pub local_words : (ports : List Entry) (vid mac port : ℕ) (kind : Kind) → kind ≡ Local → names_declared ports (Cmd (FdbAdd vid mac port kind)) ≡ true
    → fdb_words mac vid (codes "host") (codes "local") ≡ step_words ports (Cmd (FdbAdd vid mac port kind))
local_words ports vid mac port Local is h = entry_words ports (port == host) (fills fdb_add_local mac vid) h
local_words ports vid mac port Static is h = absurd (cc)
local_words ports vid mac port Learned is h = absurd (cc)
local_words ports vid mac port Extern is h = absurd (cc)

pub static_words : (ports : List Entry) (vid mac port : ℕ) (kind : Kind) (name : List ℕ) → kind ≡ Static → name ≡ name_of ports port
    → fdb_words mac vid name (codes "static") ≡ step_words ports (Cmd (FdbAdd vid mac port kind))
static_words ports vid mac port kind name is e =
    ap (λ (n : List ℕ). fdb_words mac vid n (codes "static")) e ∙ ap (λ (k : Kind). step_words ports (Cmd (FdbAdd vid mac port k))) (sym is)

pub extern_words : (ports : List Entry) (vid mac port : ℕ) (kind : Kind) (name : List ℕ) → kind ≡ Extern → name ≡ name_of ports port
    → fdb_words mac vid name (codes "extern") ≡ step_words ports (Cmd (FdbAdd vid mac port kind))
extern_words ports vid mac port kind name is e =
    ap (λ (n : List ℕ). fdb_words mac vid n (codes "extern")) e ∙ ap (λ (k : Kind). step_words ports (Cmd (FdbAdd vid mac port k))) (sym is)
