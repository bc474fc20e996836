-- Steps of a scenario that are taken, one behind another.
use Rattle.std.proofs.Common.{◌≡◌, ℕ, ◌==◌, Bool, true, false, if◌then◌else◌, List, [], ◌∷◌, ◌++◌, refl, sym, ◌∙◌, ap, ap₂, subst, append_assoc, append-nil, length, nat_lt, true≢false}
use Rattle.std.specs.List.{filter}
use Rattle.std.proofs.lemmas.Bool.{eqb-true}
use Rattle.std.proofs.lemmas.List.Elements.{filter-append}
use Rattle.br_model.specs.declared.steps.Step.{Step}
use Rattle.br_model.specs.declared.steps.Step.TheVariants.{Publish, Rx, Serve}
use Rattle.br_model.specs.Plane.Steps.{world_step}
use Rattle.br_model.specs.Plane.World.{World}
use Rattle.br_model.specs.Program.LiveRun.{accepts_changes, frames_at, is_frame_at, is_ordered}
use Rattle.br_model.proofs.Plane.Stays.{step-held}
use Rattle.br_model.proofs.Plane.Still.{rx-history}
use Rattle.br_model.proofs.Plane.Worlds.{worlds, run_worlds}
use Rattle.plane_record.specs.Pasts.{acted, changes_of}
use Rattle.plane_record.specs.Pasts.{Past, after, world_of}
use Rattle.plane_record.proofs.Recording.{world-after}
use Rattle.live_thread.specs.Taking.{Takes, behind}
use Rattle.live_thread.specs.Worlds.{ArePublished}
use Rattle.live_thread.proofs.Runs.{nothing_to_publish, not_less, published_both}

-- the world behind more steps
pub world_behind : (p q : Past) (steps : List Step) → q ≡ behind p steps → world_of q ≡ worlds (world_of p) steps
world_behind p q steps e = ap world_of e ∙ run_worlds p.setup p.steps steps

pub behind_both : (p q r : Past) (xs ys : List Step) → q ≡ behind p xs → r ≡ behind q ys → r ≡ behind p (xs ++ ys)
behind_both p q r xs ys e f = f ∙ (ap (λ (x : Past). behind x ys) e ∙ ap (λ (l : List Step). record p { steps = l }) (append_assoc p.steps xs ys))

pub takes_none : (p : Past) → Takes p p []
takes_none p = record {
  done = [];
  so = ap (λ (l : List Step). record p { steps = l }) (sym (append-nil p.steps));
  frames = λ port. refl;
  ordered = refl;
  published = tt;
  held = refl;
}

pub takes_both : (p q r : Past) (xs ys : List Step) → Takes p q xs → Takes q r ys → Takes p r (xs ++ ys)
takes_both p q r xs ys t u = record {
  done = t.done ++ u.done;
  so = behind_both p q r t.done u.done t.so u.so;
  frames = λ port.
      filter-append (is_frame_at port) t.done u.done
      ∙ (ap₂ (λ (a b : List Step). a ++ b) (t.frames port) (u.frames port) ∙ sym (filter-append (is_frame_at port) xs ys));
  ordered =
      filter-append is_ordered t.done u.done
      ∙ (ap₂ (λ (a b : List Step). a ++ b) t.ordered u.ordered ∙ sym (filter-append is_ordered xs ys));
  published = published_both (world_of p) t.done u.done t.published (subst (λ (w : World). ArePublished w u.done) (world_behind p q t.done t.so) u.published);
  held = u.held ∙ t.held;
}

-- A step that counts as these given ones, and its publication where it accepts changes.
module _ (p : Past) (s : Step) (given : List Step) (frames : (port : ℕ) → frames_at port (s ∷ []) ≡ frames_at port given) (ordered : filter is_ordered (s ∷ []) ≡ filter is_ordered given)
    (held : (world_step (world_of p) s).0.held ≡ (world_of p).held) where
  accepts_none : (changes_of (after p s) == changes_of p) ≡ true → accepts_changes (world_of p) s ≡ false
  accepts_none e =
      ap (λ (w : World). nat_lt (length (world_of p).history) (length w.history)) (sym (world-after p s))
      ∙ not_less (changes_of p) (changes_of (after p s)) (eqb-true (changes_of (after p s)) (changes_of p) e)

  held_after : (world_of (after p s)).held ≡ (world_of p).held
  held_after = ap (λ (w : World). w.held) (world-after p s) ∙ held

  by_changes : (b : Bool) → (changes_of (after p s) == changes_of p) ≡ b → Takes p (if b then after p s else after (after p s) Publish) given
  by_changes true e = record {
    done = s ∷ [];
    so = refl;
    frames = frames;
    ordered = ordered;
    published = ((λ accepts. absurd (true≢false (sym accepts ∙ accepts_none e))), tt);
    held = held_after;
  }
  by_changes false e = record {
    done = s ∷ Publish ∷ [];
    so = ap (λ (l : List Step). record p { steps = l }) (append_assoc p.steps (s ∷ []) (Publish ∷ []));
    frames = frames;
    ordered = ordered;
    published = ((λ accepts. refl), nothing_to_publish (world_step (world_of p) s).0 Publish refl);
    held = ap (λ (w : World). w.held) (world-after (after p s) Publish) ∙ held_after;
  }

  pub acted_takes : Takes p (acted p s) given
  acted_takes = by_changes (changes_of (after p s) == changes_of p) refl

-- A frame enters, and maybe is served.

pub entered : (p : Past) (port : ℕ) (bytes : List ℕ) → Takes p (after p (Rx port bytes)) (Rx port bytes ∷ [])
entered p port bytes = record {
  done = Rx port bytes ∷ [];
  so = refl;
  frames = λ q. refl;
  ordered = refl;
  published = nothing_to_publish (world_of p) (Rx port bytes) (rx-history (world_of p) port bytes);
  held = ap (λ (w : World). w.held) (world-after p (Rx port bytes)) ∙ step-held (world_of p) (Rx port bytes);
}

pub served : (p : Past) → Takes p (acted p Serve) []
served p = acted_takes p Serve [] (λ port. refl) refl (step-held (world_of p) Serve)

pub entered_served : (p : Past) (port : ℕ) (bytes : List ℕ) → Takes p (acted (after p (Rx port bytes)) Serve) (Rx port bytes ∷ [])
entered_served p port bytes = takes_both p (after p (Rx port bytes)) (acted (after p (Rx port bytes)) Serve) (Rx port bytes ∷ []) [] (entered p port bytes) (served (after p (Rx port bytes)))
