-- What a message does, act by act: the ends move, or one change is made and the ends move with it.
use Rattle.std.proofs.Common.{◌≡◌, ◌≤◌, ◌-◌, length, length-append, take, drop, arith, zero, suc, ℕ, ◌+◌, Bool, true, false, not, ◌&&◌}
use Rattle.std.proofs.Common.{◌||◌, if◌then◌else◌, cond, List, [], ◌∷◌, ◌++◌, fold, Option, None, Some, refl, sym, ap, subst, ◌∙◌, append_assoc}
use Rattle.std.specs.Prelude.{min, is_some}
use Rattle.std.specs.Option.{option_map_or}
use Rattle.std.specs.Ordering.{nat_cmp, eq_by_cmp}
use Rattle.std.specs.FinMap.Entries.{by_order}
use Rattle.std.specs.Cmp.{IsTotalOrder, tied_itself}
use Rattle.std.specs.declared.cmp.Ordering.{Ordering}
use Rattle.std.specs.declared.cmp.Ordering.TheVariants.{Less, Equal, Greater}
use Rattle.std.proofs.lemmas.Cmp.{nat_cmp_total}
use Rattle.std.proofs.Math.Seq.{drop-append_seam}
use Rattle.std.proofs.lemmas.List.{append-nil, take_all}
use Rattle.std.proofs.lemmas.List.Sums.{fold-append}
use Rattle.br_model.specs.declared.change.Change.{Change}
use Rattle.br_model.specs.declared.change.Change.TheVariants.{GroupJoin, GroupPart, Router, Querier, AddrPut, AddrDel}
use Rattle.br_model.specs.declared.group.Group.{Group}
use Rattle.std.specs.Cmp.{first_so, second_so}
use Rattle.std.specs.List.{list_all}
use Rattle.br_model.specs.Table.Change.{is_of_address}
use Rattle.br_model.specs.Control.Control.{Control, ends_with}
use Rattle.br_model.specs.Control.Course.{Course}
use Rattle.br_model.specs.Control.Ends.{Ends, member_time, querier_time, leave_time, end_of, lasts, parts, routes, queries, keys}
use Rattle.br_model.specs.Theorems.EndsTied.{IsTied}
use Rattle.br_model.specs.Table.GroupPairs.{has_room}
use Rattle.br_model.specs.Table.Groups.{Membership, is_link_local, membership_cmp}
use Rattle.br_model.specs.Table.Limits.{fits, all_fit}
use Rattle.br_model.specs.Data.Maps.{get, put, has}
use Rattle.br_model.specs.Wire.Records.{acts, acts_of, record_length}
use Rattle.br_model.specs.Control.Snooping.{fastleave, end_at, until, joins, leaves, leaves_from, querier_heard, router_heard}
use Rattle.br_model.specs.Table.Table.{Table, apply, ip_version}
use Rattle.br_model.specs.Forward.Targets.{has_flag}
use Rattle.br_model.proofs.Control.EndsTied.{tied-groups, tied-routers, tied-queriers, tied-lasts, tied-parts, tied-routes, tied-queries}
use Rattle.br_model.proofs.Table.GroupOrders.{membership_total}
use Rattle.br_model.proofs.Data.KeySets.{keys-put_there, ascending-put}
use Rattle.mdb_snoop.specs.Database.{end_joined, ending_soon, ended_sooner, is_dynamic, joined_until}
use Rattle.bridge_state.specs.declared.snooping.Speaker.{Speaker}
use Rattle.bridge_state.specs.Standing.{places}
use Rattle.bridge_state.specs.Hearing.{GoesOn, Hears, Leads, list_of}
use Rattle.bridge_state.proofs.Fitting.{fit_behind}

-- finite maps

module _ {K X : Type 0} (R : K → K → Ordering) (o : IsTotalOrder R) where
  -- what is put at a key twice is what was put last
  pub put-twice : (m : List (K × X)) (k : K) (x y : X) → put R (put R m k x) k y ≡ put R m k y
  put-twice [] k x y = ap (λ r. by_order r ((k, y) ∷ (k, x) ∷ []) ((k, y) ∷ []) ((k, x) ∷ (k, y) ∷ [])) (tied_itself o k)
  put-twice (e ∷ m) k x y = by (R k e.0) refl (put-twice m k x y)
    where
      by : (r : Ordering) → R k e.0 ≡ r → put R (put R m k x) k y ≡ put R m k y
          → put R (by_order r ((k, x) ∷ e ∷ m) ((e.0, x) ∷ m) (e ∷ put R m k x)) k y ≡ by_order r ((k, y) ∷ e ∷ m) ((e.0, y) ∷ m) (e ∷ put R m k y)
      by Less is rest = ap (λ r. by_order r ((k, y) ∷ (k, x) ∷ e ∷ m) ((k, y) ∷ e ∷ m) ((k, x) ∷ put R (e ∷ m) k y)) (tied_itself o k)
      by Equal is rest = ap (λ r. by_order r ((k, y) ∷ (e.0, x) ∷ m) ((e.0, y) ∷ m) ((e.0, x) ∷ put R m k y)) is
      by Greater is rest = ap (λ r. by_order r ((k, y) ∷ e ∷ put R m k x) ((e.0, y) ∷ put R m k x) (e ∷ put R (put R m k x) k y)) is ∙ ap (λ l. e ∷ l) rest

module _ {K X : Type 0} (R : K → K → Ordering) where
  -- where the key isn't among the keys, nothing stands at it
  pub get-absent : (m : List (K × X)) (k : K) → has R (keys m) k ≡ false → get R m k ≡ None
  get-absent [] k h = refl
  get-absent (e ∷ m) k h = by (eq_by_cmp R k e.0) h (get-absent m k)
    where
      by : (b : Bool) → (b || has R (keys m) k) ≡ false → (has R (keys m) k ≡ false → get R m k ≡ None) → cond b (Some e.1) (get R m k) ≡ None
      by true h rest = absurd (cc)
      by false h rest = rest h

  pub get-present : (m : List (K × X)) (k : K) → has R (keys m) k ≡ true → is_some (get R m k) ≡ true
  get-present [] k h = absurd (cc)
  get-present (e ∷ m) k h = by (eq_by_cmp R k e.0) h (get-present m k)
    where
      by : (b : Bool) → (b || has R (keys m) k) ≡ true → (has R (keys m) k ≡ true → is_some (get R m k) ≡ true) → is_some (cond b (Some e.1) (get R m k)) ≡ true
      by true h rest = refl
      by false h rest = rest h

-- a test that was turned round
pub turned : (b c : Bool) → not b ≡ not c → b ≡ c
turned true true e = refl
turned true false e = absurd (cc)
turned false true e = absurd (cc)
turned false false e = refl

-- of at most one change
pub at_most_one : (o : Option Change) → length (list_of o) ≤ 1
at_most_one None = omega arith
at_most_one (Some c) = omega arith

-- as many acts as records
acts_of-length : (six : Bool) (count : ℕ) (bytes : List ℕ) → length (acts_of six count bytes) ≡ count
acts_of-length six zero bytes = refl
acts_of-length six (suc n) bytes = ap suc (acts_of-length six n (drop (record_length six bytes) bytes))

pub acts-length : (bytes : List ℕ) (six : Bool) (first count : ℕ) → length (acts bytes six first count) ≡ count
acts-length bytes six first count = acts_of-length six count (drop first bytes)

-- what all of two lists pass, all of both pass
pub all-append : {X : Type 0} (p : X → Bool) (xs ys : List X) → list_all p xs ≡ true → list_all p ys ≡ true → list_all p (xs ++ ys) ≡ true
all-append p [] ys h k = k
all-append p (x ∷ xs) ys h k = λ i. first_so (p x) (list_all p xs) h i && all-append p xs ys (second_so (p x) (list_all p xs) h) k i

-- changes that are none of an address move no moment of one
pub places-prompt : (c : Control) (cs : List Change) → list_all (λ d. not (is_of_address d)) cs ≡ true → fold places c cs ≡ c
places-prompt c [] h = refl
places-prompt c (d ∷ ds) h =
    places-prompt (places c d) ds (second_so (not (is_of_address d)) (list_all (λ e. not (is_of_address e)) ds) h)
    ∙ one d (first_so (not (is_of_address d)) (list_all (λ e. not (is_of_address e)) ds) h)
  where
    one : (d : Change) → not (is_of_address d) ≡ true → places c d ≡ c
    one (AddrPut vid mac port kind) e = absurd (cc)
    one (AddrDel vid mac) e = absurd (cc)
    one d e = refl

-- what stands behind the first ones
pub behind : (xs ys all : List Change) (from count : ℕ) → all ≡ xs ++ ys → from ≡ length xs → count ≡ length all → take (count - from) (drop from all) ≡ ys
behind xs ys all from count is at long =
    (λ i. take (long i - at i) (drop (at i) all))
    ∙ (λ i. take (length (is i) - length xs) (drop (length xs) (is i)))
    ∙ ap (λ l. take (length (xs ++ ys) - length xs) l) (drop-append_seam xs ys)
    ∙ take_all (length (xs ++ ys) - length xs) ys (omega (arith, length-append xs ys))

-- ends of members

-- the end of one that ends
dynamic-end : (o : Option (Option ℕ)) → is_dynamic o ≡ true → (end : ℕ) × (o ≡ Some (Some end))
dynamic-end None h = absurd (cc)
dynamic-end (Some None) h = absurd (cc)
dynamic-end (Some (Some end)) h = (end, refl)

static-end : (o : Option (Option ℕ)) → is_dynamic o ≡ false → end_of o ≡ None
static-end None h = refl
static-end (Some None) h = refl
static-end (Some (Some end)) h = absurd (cc)

module _ (s : Speaker) where
  -- Nothing is done.
  pub stays : (e : Ends) → Leads s e e [] (λ r. r)
  stays e r h = (
    record { table = refl; control = ap (λ x. ends_with r.control x) h.ends; changes = sym (append-nil r.changes); messages = refl; fits = refl; prompt = refl },
    h,
  )

  -- one thing after another
  pub after : (a b c : Ends) (ms ns : List Change) (f g : Course → Course) → Leads s a b ms f → Leads s b c ns g → Leads s a c (ms ++ ns) (λ r. g (f r))
  after a b c ms ns f g first second r h =
      let x = first r h in
      let y = second (f r) x.1 in (
        record {
          table = y.0.table ∙ ap (λ t. fold apply t ns) x.0.table ∙ sym (fold-append apply r.table ms ns);
          control = y.0.control ∙ ap (λ k. ends_with k c) x.0.control;
          changes = y.0.changes ∙ ap (λ l. l ++ ns) x.0.changes ∙ append_assoc r.changes ms ns;
          messages = y.0.messages ∙ x.0.messages;
          fits = fit_behind r.table ms ns x.0.fits (ap (λ t. all_fit t ns) (sym x.0.table) ∙ y.0.fits);
          prompt = all-append (λ (c : Change). not (is_of_address c)) ms ns x.0.prompt y.0.prompt;
        },
        y.1,
      )

  -- the same as another thing does
  pub like : (a b : Ends) (ms : List Change) (f g : Course → Course) → ((r : Course) → Hears s a r → g r ≡ f r) → Leads s a b ms f → Leads s a b ms g
  like a b ms f g same leads r h = subst (λ x. GoesOn r x b ms × Hears s b x) (sym (same r h)) (leads r h)

  abbrev pub moved : Course → Ends → Course
  moved r e = record r { control = ends_with r.control e }

  abbrev pub made : Course → Change → Ends → Course
  made r c e = record { table = apply r.table c; control = ends_with r.control e; changes = r.changes ++ c ∷ []; messages = r.messages }

  -- The ends move, and stay those of the table.
  ends-move : (a b : Ends) → ((t : Table) → IsTied t a → IsTied t b) → Leads s a b [] (λ r. moved r b)
  ends-move a b tied r h = (
    record { table = refl; control = refl; changes = sym (append-nil r.changes); messages = refl; fits = refl; prompt = refl },
    record { tied = tied r.table h.tied; ends = refl; now = h.now; leaves = h.leaves },
  )

  -- One change is made that fits, and the ends move with it.
  one-change : (a b : Ends) (c : Change) → not (is_of_address c) ≡ true → ((t : Table) → IsTied t a → IsTied (apply t c) b × (fits t c ≡ true))
      → ((t : Table) → has_flag (apply t c) s.port fastleave ≡ has_flag t s.port fastleave) → Leads s a b (c ∷ []) (λ r. made r c b)
  one-change a b c prompt tied flag r h = (
    record { table = refl; control = refl; changes = refl; messages = refl; fits = ap (λ x. x && true) (tied r.table h.tied).1; prompt = ap (λ x. x && true) prompt },
    record { tied = (tied r.table h.tied).0; ends = refl; now = h.now; leaves = flag r.table ∙ h.leaves },
  )

  -- reports and leaves of a group

  module _ (e : Ends) (group : Group) where
    abbrev pub m : Membership
    m = (s.vid, group, s.port)

    abbrev pub join : Change
    join = GroupJoin s.port s.vid group

    abbrev pub part : Change
    part = GroupPart s.port s.vid group

    -- the ends where the membership has this one
    abbrev pub at : Option ℕ → Ends
    at end = lasts e m end

    tied-at : (t : Table) (end : Option ℕ) → is_some (get membership_cmp e.groups m) ≡ true → IsTied t e → IsTied t (at end)
    tied-at t end there tied =
        tied-groups t e tied t.groups _
        (keys-put_there membership_cmp membership_total e.groups m end tied.groups_ascend there ∙ tied.groups)
        (ascending-put membership_cmp membership_total e.groups m end tied.groups_ascend)

    abbrev pub renewing : Course → Course
    renewing r = option_map_or (λ end. until (r.control.now + member_time) m r) (end_at r m) r

    abbrev pub joining : Course → Course
    joining r =
        until (r.control.now + member_time) m
        (if has_room r.table.groups s.vid group then record {
          table = apply r.table join;
          control = ends_with r.control (lasts r.control.ends m None);
          changes = r.changes ++ join ∷ [];
          messages = r.messages;
        } else r)

    joins-by : (link room there : Bool) → is_link_local group ≡ link → has_room (keys e.groups) s.vid group ≡ room → has membership_cmp (keys e.groups) m ≡ there
        → (r : Course) → Hears s e r → joins s.port s.vid group r ≡ cond link r (cond (not room) r (cond there (renewing r) (joining r)))
    joins-by link room there is_link is_room is_there r h =
        let rooms = ap (λ ms. has_room ms s.vid group) (sym h.tied.groups) ∙ is_room in
        let theres = ap (λ ms. has membership_cmp ms m) (sym h.tied.groups) ∙ is_there in
        (λ i. cond (is_link i) r (cond (not (rooms i)) r (cond (theres i) (renewing r) (joining r))))

    renewing-is : (r : Course) → Hears s e r → renewing r ≡ option_map_or (λ end. moved r (at (Some (s.moment + member_time)))) (end_of (get membership_cmp e.groups m)) r
    renewing-is r h = (λ i. option_map_or (λ end. moved r (lasts (h.ends i) m (Some (h.now i + member_time)))) (end_of (get membership_cmp (h.ends i).groups m)) r)

    pub joins-link_local : is_link_local group ≡ true → Leads s e e [] (joins s.port s.vid group)
    joins-link_local link = like e e [] (λ r. r) _ (joins-by true _ _ link refl refl) (stays e)

    pub joins-full : is_link_local group ≡ false → has_room (keys e.groups) s.vid group ≡ false → Leads s e e [] (joins s.port s.vid group)
    joins-full link room = like e e [] (λ r. r) _ (joins-by false false _ link room refl) (stays e)

    module _ (link : is_link_local group ≡ false) (room : has_room (keys e.groups) s.vid group ≡ true) where
      -- of a membership that was made by command
      pub joins-static : has membership_cmp (keys e.groups) m ≡ true → is_dynamic (get membership_cmp e.groups m) ≡ false → Leads s e e [] (joins s.port s.vid group)
      joins-static there static =
          like e e [] (λ r. r) _
          (λ r h. joins-by false true true link room there r h ∙ renewing-is r h
          ∙ ap (λ o. option_map_or (λ end. moved r (at (Some (s.moment + member_time)))) o r) (static-end (get membership_cmp e.groups m) static))
          (stays e)

      pub joins-renewed : has membership_cmp (keys e.groups) m ≡ true → is_dynamic (get membership_cmp e.groups m) ≡ true
          → Leads s e (record e { groups = joined_until membership_cmp e.groups m (Some (s.moment + member_time)) }) [] (joins s.port s.vid group)
      joins-renewed there dynamic =
          let old = dynamic-end (get membership_cmp e.groups m) dynamic in
          let goes = at (Some (s.moment + member_time)) in
          subst (λ (o : Option (Option ℕ)). Leads s e (lasts e m (end_joined o (Some (s.moment + member_time)))) [] (joins s.port s.vid group)) (sym old.1)
          (like e goes [] (λ r. moved r goes) _
          (λ r h. joins-by false true true link room there r h ∙ renewing-is r h ∙ ap (λ o. option_map_or (λ end. moved r goes) (end_of o) r) old.1)
          (ends-move e goes (λ t tied. tied-at t _ (get-present membership_cmp e.groups m there) tied)))

      pub joins-new : has membership_cmp (keys e.groups) m ≡ false
          → Leads s e (record e { groups = joined_until membership_cmp e.groups m (Some (s.moment + member_time)) }) (join ∷ []) (joins s.port s.vid group)
      joins-new new =
          let goes = at (Some (s.moment + member_time)) in
          subst (λ (o : Option (Option ℕ)). Leads s e (lasts e m (end_joined o (Some (s.moment + member_time)))) (join ∷ []) (joins s.port s.vid group))
          (sym (get-absent membership_cmp e.groups m new))
          (like e goes (join ∷ []) (λ r. made r join goes) _ joined
          (one-change e goes join refl (λ t tied. (tied-lasts t e tied m _, ap (λ ms. has_room ms s.vid group) (sym tied.groups) ∙ room)) (λ t. refl)))
        where
          joined : (r : Course) → Hears s e r → joins s.port s.vid group r ≡ made r join (at (Some (s.moment + member_time)))
          joined r h =
              let rooms = ap (λ ms. has_room ms s.vid group) (sym h.tied.groups) ∙ room in
              joins-by false true false link room new r h
              ∙ (λ i. until (h.now i + member_time) m
              (if rooms i then record { table = apply r.table join; control = ends_with r.control (lasts (h.ends i) m None); changes = r.changes ++ join ∷ []; messages = r.messages } else r))
              ∙ ap (λ (l : List (Membership × Option ℕ)). made r join (record e { groups = l })) (put-twice membership_cmp membership_total e.groups m None (Some (s.moment + member_time)))

    abbrev pub leaving : Course → Option ℕ → Course
    leaving r o = option_map_or (λ end. leaves_from s.port s.vid group end r) o r

    leaves-by : (o : Option (Option ℕ)) → get membership_cmp e.groups m ≡ o → (r : Course) → Hears s e r → leaves s.port s.vid group r ≡ leaving r (end_of o)
    leaves-by o is r h = ap (λ (x : Ends). leaving r (end_of (get membership_cmp x.groups m))) h.ends ∙ ap (λ x. leaving r (end_of x)) is

    pub leaves-static : is_dynamic (get membership_cmp e.groups m) ≡ false → Leads s e e [] (leaves s.port s.vid group)
    leaves-static static = like e e [] (λ r. r) _ (λ r h. leaves-by _ refl r h ∙ ap (leaving r) (static-end (get membership_cmp e.groups m) static)) (stays e)

    module _ (dynamic : is_dynamic (get membership_cmp e.groups m) ≡ true) where
      pub leaves-fast : s.fastleave ≡ true → Leads s e (parts e m) (part ∷ []) (leaves s.port s.vid group)
      leaves-fast fast =
          let old = dynamic-end (get membership_cmp e.groups m) dynamic in
          like e (parts e m) (part ∷ []) (λ r. made r part (parts e m)) _
          (λ r h.
          leaves-by _ old.1 r h
          ∙ ap (λ b. if b then made r part (parts r.control.ends m) else until (min old.0 (r.control.now + leave_time)) m r) (h.leaves ∙ fast)
          ∙ ap (λ (x : Ends). made r part (parts x m)) h.ends)
          (one-change e (parts e m) part refl (λ t tied. (tied-parts t e tied m, refl)) (λ t. refl))

      pub leaves-soon : s.fastleave ≡ false → Leads s e (record e { groups = ending_soon membership_cmp e.groups m (s.moment + leave_time) }) [] (leaves s.port s.vid group)
      leaves-soon slow =
          let old = dynamic-end (get membership_cmp e.groups m) dynamic in
          let goes = at (Some (min old.0 (s.moment + leave_time))) in
          subst (λ (o : Option (Option ℕ)). Leads s e (record e { groups = ended_sooner membership_cmp e.groups m (s.moment + leave_time) (end_of o) }) [] (leaves s.port s.vid group)) (sym old.1)
          (like e goes [] (λ r. moved r goes) _
          (λ r h.
          leaves-by _ old.1 r h
          ∙ ap (λ b. if b then made r part (parts r.control.ends m) else until (min old.0 (r.control.now + leave_time)) m r) (h.leaves ∙ slow)
          ∙ (λ i. moved r (lasts (h.ends i) m (Some (min old.0 (h.now i + leave_time))))))
          (ends-move e goes (λ t tied. tied-at t _ (ap (λ (o : Option (Option ℕ)). is_some o) old.1) tied)))

  -- queriers and routers

  module _ (e : Ends) where
    pub querier-known : (six : Bool) → has nat_cmp (keys e.queriers) (ip_version six) ≡ true → Leads s e (queries true e s.moment six) [] (querier_heard six)
    querier-known six known =
        let goes = queries true e s.moment six in
        like e goes [] (λ r. moved r goes) _
        (λ r h.
        let knows = ap (λ vs. has nat_cmp vs (ip_version six)) (sym h.tied.queriers) ∙ known in
        (λ i. if knows i then moved r (queries true (h.ends i) (h.now i) six) else made r (Querier six true) (queries true r.control.ends r.control.now six)))
        (ends-move e goes (λ t tied.
        tied-queriers t e tied t.queriers _
        (keys-put_there nat_cmp nat_cmp_total e.queriers (ip_version six) (s.moment + querier_time) tied.queriers_ascend (get-present nat_cmp e.queriers (ip_version six) known) ∙ tied.queriers)
        (ascending-put nat_cmp nat_cmp_total e.queriers (ip_version six) (s.moment + querier_time) tied.queriers_ascend)))

    pub querier-new : (six : Bool) → has nat_cmp (keys e.queriers) (ip_version six) ≡ false → Leads s e (queries true e s.moment six) (Querier six true ∷ []) (querier_heard six)
    querier-new six new =
        let goes = queries true e s.moment six in
        like e goes (Querier six true ∷ []) (λ r. made r (Querier six true) goes) _
        (λ r h.
        let knows = ap (λ vs. has nat_cmp vs (ip_version six)) (sym h.tied.queriers) ∙ new in
        (λ i. if knows i then moved r (queries true r.control.ends r.control.now six) else made r (Querier six true) (queries true (h.ends i) (h.now i) six)))
        (one-change e goes (Querier six true) refl (λ t tied. (tied-queries t e tied true s.moment six, refl)) (λ t. refl))

    pub router-known : has nat_cmp (keys e.routers) s.port ≡ true → Leads s e (routes true e s.moment s.port) [] (router_heard s.port)
    router-known known =
        let goes = routes true e s.moment s.port in
        like e goes [] (λ r. moved r goes) _
        (λ r h.
        let knows = ap (λ ps. has nat_cmp ps s.port) (sym h.tied.routers) ∙ known in
        (λ i. if knows i then moved r (routes true (h.ends i) (h.now i) s.port) else made r (Router s.port true) (routes true r.control.ends r.control.now s.port)))
        (ends-move e goes (λ t tied.
        tied-routers t e tied t.routers _
        (keys-put_there nat_cmp nat_cmp_total e.routers s.port (s.moment + querier_time) tied.routers_ascend (get-present nat_cmp e.routers s.port known) ∙ tied.routers)
        (ascending-put nat_cmp nat_cmp_total e.routers s.port (s.moment + querier_time) tied.routers_ascend)))

    pub router-new : has nat_cmp (keys e.routers) s.port ≡ false → Leads s e (routes true e s.moment s.port) (Router s.port true ∷ []) (router_heard s.port)
    router-new new =
        let goes = routes true e s.moment s.port in
        like e goes (Router s.port true ∷ []) (λ r. made r (Router s.port true) goes) _
        (λ r h.
        let knows = ap (λ ps. has nat_cmp ps s.port) (sym h.tied.routers) ∙ new in
        (λ i. if knows i then moved r (routes true r.control.ends r.control.now s.port) else made r (Router s.port true) (routes true (h.ends i) (h.now i) s.port)))
        (one-change e goes (Router s.port true) refl (λ t tied. (tied-routes t e tied true s.moment s.port, refl)) (λ t. refl))
