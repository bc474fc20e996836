-- Changes that all fit are all made.
use Rattle.std.proofs.Common.{◌≡◌, ◌+◌, ◌≤◌, Bool, true, false, cond, List, [], ◌∷◌, ◌++◌, map, length, refl, sym, ap, ◌∙◌, arith, append_assoc, length-append}
use Rattle.std.proofs.lemmas.List.{append-nil}
use Rattle.std.proofs.lemmas.List.Sums.{fold-append}
use Rattle.std.specs.Prelude.{nat_le}
use Rattle.std.specs.List.{fold, list_all}
use Rattle.std.specs.Cmp.{first_so, second_so}
use Rattle.std.proofs.lemmas.Bool.{and_from}
use Rattle.br_model.specs.declared.change.Asks.{Asks}
use Rattle.br_model.specs.declared.change.Asks.TheVariants.{Nothing, State, GroupRoom, AddressRoom}
use Rattle.br_model.specs.declared.change.Change.{Change}
use Rattle.br_model.specs.Control.Control.{keeps_up}
use Rattle.br_model.specs.Control.Course.{Course, makes, makes_all}
use Rattle.br_model.specs.Table.Change.{asks}
use Rattle.br_model.specs.Table.Limits.{grants, fits, all_fit, most_changes}
use Rattle.br_model.specs.Table.Table.{Table, table, start, apply}

-- the course after changes that fit
abbrev pub after : Course → List Change → Course
after r cs = record { table = fold apply r.table cs; control = fold keeps_up r.control cs; changes = r.changes ++ cs; messages = r.messages }

made : (r : Course) (c : Change) (cs : List Change) → fits r.table c ≡ true → after (makes r c) cs ≡ after r (c ∷ cs)
made r c cs h =
    ap (λ b. after (cond b (record { table = apply r.table c; control = keeps_up r.control c; changes = r.changes ++ c ∷ []; messages = r.messages }) r) cs) h
    ∙ ap (λ (l : List Change). record { table = fold apply (apply r.table c) cs; control = fold keeps_up (keeps_up r.control c) cs; changes = l; messages = r.messages })
    (append_assoc r.changes (c ∷ []) cs)

pub made_all : (r : Course) (cs : List Change) → all_fit r.table cs ≡ true → makes_all r cs ≡ after r cs
made_all r [] h = ap (λ (l : List Change). record r { changes = l }) (sym (append-nil r.changes))
made_all r (c ∷ cs) h =
    let here = first_so (fits r.table c) (all_fit (apply r.table c) cs) h in
    let later = second_so (fits r.table c) (all_fit (apply r.table c) cs) h in
    made_all (makes r c) cs (ap (λ b. all_fit (cond b (record { table = apply r.table c; control = keeps_up r.control c; changes = r.changes ++ c ∷ []; messages = r.messages }) r).table cs) here
    ∙ later)
    ∙ made r c cs here

-- one change that fits
pub fits_alone : (t : Table) (c : Change) → all_fit t (c ∷ []) ≡ true → fits t c ≡ true
fits_alone t c h = first_so (fits t c) true h

-- changes that fit behind others that do
pub fit_behind : (t : Table) (cs ds : List Change) → all_fit t cs ≡ true → all_fit (fold apply t cs) ds ≡ true → all_fit t (cs ++ ds) ≡ true
fit_behind t [] ds h k = k
fit_behind t (c ∷ cs) ds h k =
    and_from (fits t c) (all_fit (apply t c) (cs ++ ds)) (first_so (fits t c) (all_fit (apply t c) cs) h)
    (fit_behind (apply t c) cs ds (second_so (fits t c) (all_fit (apply t c) cs) h) k)

-- a history with changes behind it that fit is one, and its table is theirs behind that of the history
pub grown : (before added after : List Change) (t : Table) → after ≡ before ++ added → t ≡ fold apply (table before) added → length before + length added ≤ most_changes
    → all_fit start before ≡ true → all_fit (table before) added ≡ true → (t ≡ table after) × (length after ≤ most_changes) × (all_fit start after ≡ true)
grown before added after t is comes few fits fit = (
  comes ∙ sym (ap table is ∙ fold-append apply start before added),
  omega (arith, few, ap (λ (l : List Change). length l) is, length-append before added),
  ap (all_fit start) is ∙ fit_behind start before added fits fit,
)

-- what every table grants
abbrev pub always : Asks → Bool
always Nothing = true
always (State state) = nat_le state 4
always (GroupRoom vid group) = false
always (AddressRoom vid mac) = false

granted : (t : Table) (a : Asks) → always a ≡ true → grants t a ≡ true
granted t Nothing h = refl
granted t (State state) h = h
granted t (GroupRoom vid group) h = absurd (cc)
granted t (AddressRoom vid mac) h = absurd (cc)

-- changes that fit every table
abbrev pub always_fits : Change → Bool
always_fits c = always (asks c)

fits_any : (t : Table) (c : Change) → always_fits c ≡ true → fits t c ≡ true
fits_any t c h = granted t (asks c) h

pub all_fit_any : (t : Table) (cs : List Change) → list_all always_fits cs ≡ true → all_fit t cs ≡ true
all_fit_any t [] h = refl
all_fit_any t (c ∷ cs) h = and_from _ _ (fits_any t c (first_so _ _ h)) (all_fit_any (apply t c) cs (second_so _ _ h))

pub always-append : (xs ys : List Change) → list_all always_fits xs ≡ true → list_all always_fits ys ≡ true → list_all always_fits (xs ++ ys) ≡ true
always-append [] ys h k = k
always-append (x ∷ xs) ys h k = and_from _ _ (first_so _ _ h) (always-append xs ys (second_so _ _ h) k)

pub always-map : {X : Type 0} (f : X → Change) (xs : List X) → ((x : X) → always_fits (f x) ≡ true) → list_all always_fits (map f xs) ≡ true
always-map f [] h = refl
always-map f (x ∷ xs) h = and_from _ _ (h x) (always-map f xs h)
