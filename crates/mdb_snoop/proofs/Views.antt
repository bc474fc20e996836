-- One part of a database changes, and the others stay; and what is asked of queriers.
use Rattle.std.proofs.Common.{◌≡◌, ℕ, Bool, true, false, Option, Some, None, List, [], ◌∷◌, cond, refl, ap, ◌∙◌}
use Rattle.std.specs.Prelude.{is_some, nat_le}
use Rattle.std.specs.Ordering.{nat_cmp}
use Rattle.br_model.specs.Table.Groups.{Membership}
use Rattle.br_model.specs.Data.Maps.{has, put, without}
use Rattle.br_model.specs.Table.Table.{ip_version}
use Rattle.br_model.specs.Control.Ends.{Ends, due, is_over, keys}
use Rattle.mdb_snoop.specs.Database.{versions}
use Rattle.mdb_snoop.specs.Places.{queriers_of}

abbrev pub Groups : Type 0
Groups = List (Membership × Option ℕ)

abbrev pub Moments : Type 0
Moments = List (ℕ × ℕ)

abbrev made : Groups → Moments → Moments → Ends
made g r q = record { groups = g; routers = r; queriers = q }

pub with_groups : (d e : Ends) (f : Groups → Groups) (g : Groups) → g ≡ f d.groups → d ≡ e → made g d.routers d.queriers ≡ made (f e.groups) e.routers e.queriers
with_groups d e f g is view = ap (λ x. made x d.routers d.queriers) is ∙ ap (λ x. made (f x.groups) x.routers x.queriers) view

pub with_routers : (d e : Ends) (f : Moments → Moments) (r : Moments) → r ≡ f d.routers → d ≡ e → made d.groups r d.queriers ≡ made e.groups (f e.routers) e.queriers
with_routers d e f r is view = ap (λ x. made d.groups x d.queriers) is ∙ ap (λ x. made x.groups (f x.routers) x.queriers) view

pub with_queriers : (d e : Ends) (f : Moments → Moments) (q : Moments) → q ≡ f d.queriers → d ≡ e → made d.groups d.routers q ≡ made e.groups e.routers (f e.queriers)
with_queriers d e f q is view = ap (λ x. made d.groups d.routers x) is ∙ ap (λ x. made x.groups x.routers (f x.queriers)) view

pub known-four : (four six : Option ℕ) → is_some four ≡ has nat_cmp (keys (queriers_of four six)) (ip_version false)
known-four None None = refl
known-four None (Some m) = refl
known-four (Some n) None = refl
known-four (Some n) (Some m) = refl

pub known-six : (four six : Option ℕ) → is_some six ≡ has nat_cmp (keys (queriers_of four six)) (ip_version true)
known-six None None = refl
known-six None (Some m) = refl
known-six (Some n) None = refl
known-six (Some n) (Some m) = refl

pub gone-four : (four six : Option ℕ) → queriers_of None six ≡ without nat_cmp (queriers_of four six) (ip_version false)
gone-four None None = refl
gone-four None (Some m) = refl
gone-four (Some n) None = refl
gone-four (Some n) (Some m) = refl

pub gone-six : (four six : Option ℕ) → queriers_of four None ≡ without nat_cmp (queriers_of four six) (ip_version true)
gone-six None None = refl
gone-six None (Some m) = refl
gone-six (Some n) None = refl
gone-six (Some n) (Some m) = refl

pub seen-four : (four six : Option ℕ) (end : ℕ) → queriers_of (Some end) six ≡ put nat_cmp (queriers_of four six) (ip_version false) end
seen-four None None end = refl
seen-four None (Some m) end = refl
seen-four (Some n) None end = refl
seen-four (Some n) (Some m) end = refl

pub seen-six : (four six : Option ℕ) (end : ℕ) → queriers_of four (Some end) ≡ put nat_cmp (queriers_of four six) (ip_version true) end
seen-six None None end = refl
seen-six None (Some m) end = refl
seen-six (Some n) None end = refl
seen-six (Some n) (Some m) end = refl

pub due-four : (now : ℕ) (four six : Option ℕ) → is_over now four ≡ has nat_cmp (due now (queriers_of four six)) (ip_version false)
due-four now None None = refl
due-four now None (Some m) = elim (nat_le m now) as (λ b. false ≡ has nat_cmp (keys (cond b ((6, m) ∷ []) [])) 4) [ true ↦ refl | false ↦ refl ]
due-four now (Some n) None = elim (nat_le n now) as (λ b. b ≡ has nat_cmp (keys (cond b ((4, n) ∷ []) [])) 4) [ true ↦ refl | false ↦ refl ]
due-four now (Some n) (Some m) =
    elim (nat_le m now) as (λ c. nat_le n now ≡ has nat_cmp (keys (cond (nat_le n now) ((4, n) ∷ cond c ((6, m) ∷ []) []) (cond c ((6, m) ∷ []) []))) 4) [
      | true ↦ elim (nat_le n now) as (λ b. b ≡ has nat_cmp (keys (cond b ((4, n) ∷ (6, m) ∷ []) ((6, m) ∷ []))) 4) [ true ↦ refl | false ↦ refl ]
      | false ↦ elim (nat_le n now) as (λ b. b ≡ has nat_cmp (keys (cond b ((4, n) ∷ []) [])) 4) [ true ↦ refl | false ↦ refl ]
    ]

pub due-six : (now : ℕ) (four six : Option ℕ) → is_over now six ≡ has nat_cmp (due now (queriers_of four six)) (ip_version true)
due-six now None None = refl
due-six now None (Some m) = elim (nat_le m now) as (λ b. b ≡ has nat_cmp (keys (cond b ((6, m) ∷ []) [])) 6) [ true ↦ refl | false ↦ refl ]
due-six now (Some n) None = elim (nat_le n now) as (λ b. false ≡ has nat_cmp (keys (cond b ((4, n) ∷ []) [])) 6) [ true ↦ refl | false ↦ refl ]
due-six now (Some n) (Some m) =
    elim (nat_le n now) as (λ b. nat_le m now ≡ has nat_cmp (keys (cond b ((4, n) ∷ cond (nat_le m now) ((6, m) ∷ []) []) (cond (nat_le m now) ((6, m) ∷ []) []))) 6) [
      | true ↦ elim (nat_le m now) as (λ c. c ≡ has nat_cmp (keys ((4, n) ∷ cond c ((6, m) ∷ []) [])) 6) [ true ↦ refl | false ↦ refl ]
      | false ↦ elim (nat_le m now) as (λ c. c ≡ has nat_cmp (keys (cond c ((6, m) ∷ []) [])) 6) [ true ↦ refl | false ↦ refl ]
    ]

-- the queriers that end, in order
pub due-versions : (now : ℕ) (four six : Option ℕ) → due now (queriers_of four six) ≡ versions (is_over now four) (is_over now six)
due-versions now None None = refl
due-versions now None (Some m) = by (nat_le m now)
  where
    by : (b : Bool) → keys (cond b ((ip_version true, m) ∷ []) []) ≡ versions false b
    by true = refl
    by false = refl
due-versions now (Some n) None = by (nat_le n now)
  where
    by : (b : Bool) → keys (cond b ((ip_version false, n) ∷ []) []) ≡ versions b false
    by true = refl
    by false = refl
due-versions now (Some n) (Some m) = by (nat_le n now) (nat_le m now)
  where
    by : (b d : Bool) → keys (cond b ((ip_version false, n) ∷ cond d ((ip_version true, m) ∷ []) []) (cond d ((ip_version true, m) ∷ []) [])) ≡ versions b d
    by true true = refl
    by true false = refl
    by false true = refl
    by false false = refl
