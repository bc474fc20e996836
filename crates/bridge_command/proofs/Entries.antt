-- The map of names, as the list of declared ports.
use Rattle.std.proofs.Common.{◌≡◌, ℕ, Bool, true, false, List, [], ◌∷◌, ◌++◌, map, refl, ap, ◌∙◌, Some, if◌then◌else◌, cond, String, string_bytes, is_some}
use Rattle.std.specs.Option.{option_map}
use Rattle.std.specs.Str.{bytes_eq}
use Rattle.std.specs.Map.{lookup}
use Rattle.std.proofs.lemmas.List.{map-append}
use Rattle.indexmap.specs.IndexMap.{insert_entry}
use Rattle.std.specs.declared.alloc.Global.{Global}
use Rattle.br_model.specs.Text.Roster.{Entry, port_named}
use Rattle.br_model.specs.Text.Words.{Word}
use Rattle.br_model.specs.Text.Declarations.{fits_beside}
use Rattle.bridge_command.specs.Seen.{entry}
use Rattle.bridge_command.proofs.Declaring.{parts}

pub named : (es : List (String Global × (ℕ × ℕ))) (w : Word) → port_named (map entry es) w ≡ option_map (λ v. v.0) (lookup (λ k. bytes_eq w (string_bytes k)) es)
named [] w = refl
named (e ∷ es) w = by (bytes_eq w (string_bytes e.0)) (named es w)
  where
    by : (b : Bool) → port_named (map entry es) w ≡ option_map (λ v. v.0) (lookup (λ k. bytes_eq w (string_bytes k)) es)
        → (if b then Some e.1.0 else port_named (map entry es) w) ≡ option_map (λ v. v.0) (cond b (Some e.1) (lookup (λ k. bytes_eq w (string_bytes k)) es))
    by true h = refl
    by false h = h

-- a new name goes last

abbrev same_name : String Global → String Global → Bool
same_name a b = bytes_eq (string_bytes a) (string_bytes b)

inserted : (es : List (String Global × (ℕ × ℕ))) (k : String Global) (v : ℕ × ℕ) → is_some (port_named (map entry es) (string_bytes k)) ≡ false
    → insert_entry same_name es k v ≡ es ++ (k, v) ∷ []
inserted [] k v h = refl
inserted (e ∷ es) k v h = by (same_name k e.0) h (inserted es k v)
  where
    by : (b : Bool) → is_some (if b then Some e.1.0 else port_named (map entry es) (string_bytes k)) ≡ false
        → (is_some (port_named (map entry es) (string_bytes k)) ≡ false → insert_entry same_name es k v ≡ es ++ (k, v) ∷ [])
        → (if b then (e.0, v) ∷ es else e ∷ insert_entry same_name es k v) ≡ e ∷ (es ++ (k, v) ∷ [])
    by true h rest = absurd (cc)
    by false h rest = ap (λ xs. e ∷ xs) (rest h)

pub declared_last : (es new : List (String Global × (ℕ × ℕ))) (ports : List Entry) (k : String Global) (name : Word) (port dom : ℕ)
    → map entry es ≡ ports → fits_beside ports (record { name = name; port = port; dom = dom }) ≡ true → string_bytes k ≡ name
    → new ≡ insert_entry same_name es k (port, dom) → map entry new ≡ ports ++ record { name = name; port = port; dom = dom } ∷ []
declared_last es new ports k name port dom view fits is e =
    let free : is_some (port_named ports name) ≡ false = (parts ports (record { name = name; port = port; dom = dom }) fits).new in
    ap (map entry) (e ∙ inserted es k (port, dom) ((λ i. is_some (port_named (view i) (is i))) ∙ free))
    ∙ map-append entry es ((k, (port, dom)) ∷ [])
    ∙ (λ i. view i ++ record { name = is i; port = port; dom = dom } ∷ [])
