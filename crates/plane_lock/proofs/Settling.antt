-- What a step accepted is posted and published.
use Rattle.std.proofs.Common.{◌≡◌, ℕ, ◌==◌, true, false, cond, Bool, List, length, refl, sym, ap, ◌∙◌, subst, inl, inr}
use Rattle.std.specs.Prelude.{◌≢◌, ◌⊎◌, OnOk, OnErr, IfOk, IfErr}
use Rattle.std.specs.declared.result.Result.{Result}
use Rattle.std.specs.declared.result.Result.TheVariants.{Ok, Err}
use Rattle.std.proofs.lemmas.Bool.{eq-eqb, ne_eqb}
use Rattle.table_publish.specs.Object.{Whose}
use mathlib.Core.List.{IsPrefix}
use Rattle.br_model.specs.declared.change.Change.{Change}
use Rattle.br_model.specs.declared.change.Update.{Update}
use Rattle.br_model.specs.declared.steps.Step.{Step}
use Rattle.br_model.specs.declared.steps.Step.TheVariants.{Publish}
use Rattle.br_model.specs.Plane.Steps.{world_step}
use Rattle.br_model.specs.Plane.World.{World}
use Rattle.br_model.specs.Table.Change.{updates}
use Rattle.br_model.specs.Table.Domains.{chip_domains}
use Rattle.br_model.specs.Table.Setup.{Setup}
use Rattle.br_model.proofs.Plane.Growing.{step-grows, updates-prefix}
use Rattle.br_model.proofs.Plane.Still.{publish-history}
use Rattle.deferred_queue.specs.Ends.{Posting}
use Rattle.plane_core.specs.Planes.{PlaneState}
use Rattle.transcript_lines.specs.Rows.{Listed}
use Rattle.plane_lock.specs.declared.locked.ActFault.{ActFault}
use Rattle.plane_lock.specs.declared.locked.ActFault.TheVariants.{Unpublished}
use Rattle.plane_lock.specs.Acts.{Acted}
use Rattle.plane_record.specs.Pasts.{Past, after, changes_of, published_after, said_by, state_of, world_of}
use Rattle.plane_lock.specs.Posted.{HavePosted, updates_of}
use Rattle.plane_lock.proofs.Prefixes.{no-more}
use Rattle.plane_record.proofs.Recording.{world-after, world-setup}

-- a step that accepts nothing leaves nothing to post
pub still : (p : Past) (s : Step) → (world_step (world_of p) s).0.history ≡ (world_of p).history → updates_of (after p s) ≡ updates_of p
still p s e = ap (updates p.setup.domains.edition) (ap (λ (w : World). w.history) (world-after p s) ∙ e)

-- no more changes than before: all that there are is posted
pub posted-already : (p : Past) (h : List Change) (posters : List Posting) (n : ℕ) → HavePosted (updates p.setup.domains.edition h) posters → n ≡ length h → IsPrefix h (world_of p).history
    → changes_of p ≡ n → HavePosted (updates_of p) posters
posted-already p h posters n posted is grown same =
    subst (λ (us : List Update). HavePosted us posters) (sym (ap (updates p.setup.domains.edition) (no-more h (world_of p).history grown (same ∙ is)))) posted

pub published-none : (n : ℕ) (p : Past) → changes_of p ≡ n → p ≡ published_after n p
published-none n p e = sym (ap (λ (b : Bool). cond b p (after p Publish)) (eq-eqb (changes_of p) n e))

pub published-more : (n : ℕ) (p : Past) → (changes_of p ≡ n → ⊥) → after p Publish ≡ published_after n p
published-more n p other = sym (ap (λ (b : Bool). cond b p (after p Publish)) (ne_eqb (changes_of p) n other))

-- what the call under the lock gives the rest: the old changes are posted, and stand before the new ones
pub may-settle : (p : Past) (s : Step) (q : Past) (posters : List Posting) (n : ℕ) → q ≡ after p s → HavePosted (updates_of p) posters → n ≡ changes_of p
    → (h : List Change) × HavePosted (updates q.setup.domains.edition h) posters × (n ≡ length h) × IsPrefix h (world_of q).history
may-settle p s q posters n is posted many = (
  (world_of p).history,
  subst (λ (x : Past). HavePosted (updates x.setup.domains.edition (world_of p).history) posters) (sym is) posted,
  many,
  subst (λ (x : Past). IsPrefix (world_of p).history (world_of x).history) (sym is)
      (subst (λ (w : World). IsPrefix (world_of p).history w.history) (sym (world-after p s)) (step-grows (world_of p) s)),
)

-- what the lock keeps of a run and the ends of its queues
abbrev pub IsLocked : Whose → ℕ → Past → List Posting → Type 0
IsLocked board own p posters =
    (p.board ≡ board) × (p.setup ≡ record { domains = board.domains; own = own }) × HavePosted (updates_of p) posters
    × (length posters ≡ length (chip_domains board.domains))

-- a call that took a step which accepted nothing, or none
pub keeps : {E F : Type 0} (r : Result E F) (old new : Past) (s : Step) (board : Whose) (own : ℕ) (posters : List Posting) → OnOk r (new ≡ after old s) → OnErr r (new ≡ old)
    → (world_step (world_of old) s).0.history ≡ (world_of old).history → IsLocked board own old posters → IsLocked board own new posters
keeps (Ok e) old new s board own posters ok err same k = (
  ap (λ (p : Past). p.board) ok ∙ k.0,
  ap (λ (p : Past). p.setup) ok ∙ k.1,
  subst (λ (us : List Update). HavePosted us posters) (sym (ap updates_of ok ∙ still old s same)) k.2,
  k.3,
)
keeps (Err e) old new s board own posters ok err same k = subst (λ (p : Past). IsLocked board own p posters) (sym err) k

-- a call that took a step and settled what it accepted
pub settles : (old mid new : Past) (s : Step) (n : ℕ) (board : Whose) (own : ℕ) (before after_ : List Posting) → mid ≡ after old s → (new ≡ published_after n mid) ⊎ (new ≡ mid)
    → HavePosted (updates_of new) after_
    → length after_ ≡ length before → IsLocked board own old before → IsLocked board own new after_
settles old mid new s n board own before after_ is got posted ends k = (over got ∙ k.0, set got ∙ k.1, posted, ends ∙ k.3)
  where
    kept : (b : Bool) → ((cond b mid (after mid Publish)).board ≡ mid.board) × ((cond b mid (after mid Publish)).setup ≡ mid.setup)
    kept true = (refl, refl)
    kept false = (refl, refl)

    over : (new ≡ published_after n mid) ⊎ (new ≡ mid) → new.board ≡ old.board
    over (inl e) = ap (λ (p : Past). p.board) e ∙ ((kept (changes_of mid == n)).0 ∙ ap (λ (p : Past). p.board) is)
    over (inr e) = ap (λ (p : Past). p.board) (e ∙ is)

    set : (new ≡ published_after n mid) ⊎ (new ≡ mid) → new.setup ≡ old.setup
    set (inl e) = ap (λ (p : Past). p.setup) e ∙ ((kept (changes_of mid == n)).1 ∙ ap (λ (p : Past). p.setup) is)
    set (inr e) = ap (λ (p : Past). p.setup) (e ∙ is)

-- the number of changes that the plane of a past tells
pub counted : (p : Past) (plane : PlaneState) (h : List Change) (n : ℕ) → n ≡ length h → h ≡ plane.world.history → plane ≡ state_of p → n ≡ changes_of p
counted p plane h n len is same = len ∙ ap length (is ∙ ap (λ (s : PlaneState). s.world.history) same)

-- and where it isn't so many
pub counted-other : (p : Past) (plane : PlaneState) (h : List Change) (n : ℕ) → (length h ≡ n → ⊥) → h ≡ plane.world.history → plane ≡ state_of p → changes_of p ≡ n → ⊥
counted-other p plane h n other is same e = other (ap length (is ∙ ap (λ (s : PlaneState). s.world.history) same) ∙ e)

-- what is answered once what a step accepted is settled
pub acts : (r : Result Listed ActFault) (old mid new : Past) (s : Step) (n : ℕ) (said : Listed) → mid ≡ after old s → said.lines ≡ said_by old s → n ≡ changes_of old
    → OnOk r (new ≡ published_after n mid)
    → IfOk r (λ l. l ≡ said) → IfErr r (λ f. (f ≡ Unpublished said) × (new ≡ mid) × (changes_of mid ≢ n)) → Acted old new s r
acts (Ok l) old mid new s n said is lines many ok same err = (ok ∙ (λ i. published_after (many i) (is i)), ap (λ (x : Listed). x.lines) same ∙ lines)
acts (Err f) old mid new s n said is lines many ok same err =
    subst (λ (x : ActFault). Acted old new s (Err x)) (sym err.0) ((err.1 ∙ is, λ same. err.2 (ap changes_of (sym err.1) ∙ same ∙ sym many)), lines)

-- either way the run is the one that was published, or the one before
pub settled-either : (r : Result Listed ActFault) (mid new : Past) (n : ℕ) (said : Listed) → OnOk r (new ≡ published_after n mid)
    → IfErr r (λ f. (f ≡ Unpublished said) × (new ≡ mid) × (changes_of mid ≢ n)) → (new ≡ published_after n mid) ⊎ (new ≡ mid)
settled-either (Ok l) mid new n said ok err = inl ok
settled-either (Err f) mid new n said ok err = inr err.1

-- the updates of the plane of a past
pub updates-there : (p : Past) (plane : PlaneState) → plane ≡ state_of p → updates plane.world.setup.domains.edition plane.world.history ≡ updates_of p
updates-there p plane is =
    ap (λ (s : PlaneState). updates s.world.setup.domains.edition s.world.history) is ∙ ap (λ (s : Setup). updates s.domains.edition (world_of p).history) (world-setup p)

-- what the ends have posted stands before the updates of the plane
pub may-post-all : (p : Past) (plane : PlaneState) (posters : List Posting) → plane ≡ state_of p → (h : List Change) → HavePosted (updates p.setup.domains.edition h) posters
    → IsPrefix h (world_of p).history
    → (us : List Update) × HavePosted us posters × IsPrefix us (updates plane.world.setup.domains.edition plane.world.history)
may-post-all p plane posters is h posted grown = (
  updates p.setup.domains.edition h,
  posted,
  subst (λ (us : List Update). IsPrefix (updates p.setup.domains.edition h) us) (sym (updates-there p plane is)) (updates-prefix p.setup.domains.edition h (world_of p).history grown),
)

-- what was posted of the plane is what the run has, published or not
pub posted-still : {E F : Type 0} (r : Result E F) (old new : Past) (plane : PlaneState) (posters : List Posting) → plane ≡ state_of old
    → HavePosted (updates plane.world.setup.domains.edition plane.world.history) posters → OnOk r (new ≡ after old Publish) → OnErr r (new ≡ old) → HavePosted (updates_of new) posters
posted-still (Ok e) old new plane posters is posted ok err =
    subst (λ (us : List Update). HavePosted us posters) (updates-there old plane is ∙ sym (ap updates_of ok ∙ still old Publish (publish-history (world_of old)))) posted
posted-still (Err e) old new plane posters is posted ok err =
    subst (λ (us : List Update). HavePosted us posters) (updates-there old plane is ∙ sym (ap updates_of err)) posted
