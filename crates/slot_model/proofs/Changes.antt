-- What one event that applies does to each slot.
use Rattle.std.proofs.Common.{◌≡◌, ◌≢◌, ◌⊎◌, inl, inr, ⊎_elim, ℕ, zero, suc, ◌-◌, ◌<◌, eqb, cond, Bool, true, false, List, [], ◌∷◌, length, set, Option, Some, None, refl, sym, ap, ◌∙◌, subst, arith}
use Rattle.slot_model.specs.declared.event.Event.{Event}
use Rattle.slot_model.specs.declared.event.Event.TheVariants.{Publish, Retain, Release, Sole, Write, Look, Install, Detach}
use Rattle.slot_model.specs.declared.layout.Layout.{Layout}
use Rattle.slot_model.specs.History.{Slot, Heap, idle, held, closing, side_of, at, next, count_of, side_in, closing_in, cleared, installed, retained, released, written, sided, detached, MayDetach, Applies}
use Rattle.slot_model.specs.Laws.{slot_of, side_slot_of}
use Rattle.slot_model.proofs.Runs.{at-set, at-set_else}

-- a slot of the heap with one set is the old one, or the one that was set
pub at-set_cases : (h : Heap) (y x : ℕ) (c : Slot) → (at (set h y c) x ≡ at h x) ⊎ ((x ≡ y) × (at (set h y c) x ≡ c))
at-set_cases [] y x c = inl refl
at-set_cases (a ∷ rest) zero zero c = inr (refl, refl)
at-set_cases (a ∷ rest) zero (suc x) c = inl refl
at-set_cases (a ∷ rest) (suc y) zero c = inl refl
at-set_cases (a ∷ rest) (suc y) (suc x) c = ⊎_elim (λ (same : at (set rest y c) x ≡ at rest x). inl same) (λ (here : (x ≡ y) × (at (set rest y c) x ≡ c)). inr (ap (λ n. suc n) here.0, here.1)) (at-set_cases rest y x c)

-- what a change of slot y does to what `f` reads of a slot, where y keeps it
pub same-set : {A : Type 0} (f : Slot → A) (h : Heap) (y x : ℕ) (c : Slot) → f c ≡ f (at h y) → f (at (set h y c) x) ≡ f (at h x)
same-set f h y x c kept = ⊎_elim (λ (same : at (set h y c) x ≡ at h x). ap f same) (λ (here : (x ≡ y) × (at (set h y c) x ≡ c)). ap f here.1 ∙ (kept ∙ ap (λ z. f (at h z)) (sym here.0))) (at-set_cases h y x c)

not_idle : (c : Slot) → 0 < count_of c → c ≢ idle
not_idle c some is = let none : count_of c ≡ 0 = ap count_of is in omega arith

-- no event but Publish applies to an idle slot
module _ (fits : List ℕ → List ℕ → Type 0) (k : Layout) where
  pub on_idle : (h : Heap) (e : Event) → Applies fits k h e → at h (slot_of e) ≡ idle → (ws : List ℕ) × (e ≡ Publish (slot_of e) ws)
  on_idle h (Publish x ws) a none = (ws, refl)
  on_idle h (Retain x) a none = absurd (not_idle (at h x) a.1 none)
  on_idle h (Release x last) a none = absurd (not_idle (at h x) a.1 none)
  on_idle h (Sole x answer) a none = absurd (not_idle (at h x) a.1 none)
  on_idle h (Write x j w) a none = absurd (not_idle (at h x) (let one : count_of (at h x) ≡ 1 = a.1 in omega arith) none)
  on_idle h (Look x found) a none = absurd (not_idle (at h x) a.1 none)
  on_idle h (Install x d ws found) a none = absurd (not_idle (at h x) a.2 none)
  on_idle h (Detach x found) a none = absurd (⊎_elim (λ (c : closing_in idle ≡ 1). let e : 0 ≡ 1 = c in omega arith) (λ (c : count_of idle ≡ 1). let e : 0 ≡ 1 = c in omega arith) (subst (λ (c : Slot). MayDetach c) none a.1))

-- a change that leaves no held slot idle
kept_retained : (c : Slot) → retained c ≡ idle → c ≡ idle
kept_retained idle e = refl
kept_retained (held n ws d) e = absurd (cc)
kept_retained (closing d) e = absurd (cc)
kept_retained (side_of x ws) e = absurd (cc)

kept_released : (c : Slot) → released c ≡ idle → c ≡ idle
kept_released idle e = refl
kept_released (held n ws d) e = by_test (eqb n 1) e
  where
    by_test : (b : Bool) → cond b (closing d) (held (n - 1) ws d) ≡ idle → held n ws d ≡ idle
    by_test true e = absurd (cc)
    by_test false e = absurd (cc)
kept_released (closing d) e = absurd (cc)
kept_released (side_of x ws) e = absurd (cc)

kept_written : (k w : ℕ) (c : Slot) → written k w c ≡ idle → c ≡ idle
kept_written k w idle e = refl
kept_written k w (held n ws d) e = absurd (cc)
kept_written k w (closing d) e = absurd (cc)
kept_written k w (side_of x ws) e = absurd (cc)

kept_sided : (f : Option ℕ) (c : Slot) → sided f c ≡ idle → c ≡ idle
kept_sided f idle e = refl
kept_sided f (held n ws d) e = absurd (cc)
kept_sided f (closing d) e = absurd (cc)
kept_sided f (side_of x ws) e = absurd (cc)

-- a slot that isn't idle doesn't become so by a change that keeps from it
still : (h : Heap) (y x : ℕ) (c : Slot) → (c ≡ idle → at h y ≡ idle) → at (set h y c) x ≡ idle → at h x ≡ idle
still h y x c keeps now = ⊎_elim (λ (same : at (set h y c) x ≡ at h x). sym same ∙ now) (λ (here : (x ≡ y) × (at (set h y c) x ≡ c)). ap (at h) here.0 ∙ keeps (sym here.1 ∙ now)) (at-set_cases h y x c)

abbrev ByDetach : Event → ℕ → Type 0
ByDetach e x = (y : ℕ) × (found : Option ℕ) × (e ≡ Detach y found) × ((x ≡ y) ⊎ (found ≡ Some x))

idle_cleared : (g : Heap) (x : ℕ) (found : Option ℕ) → at (cleared found g) x ≡ idle → (at g x ≡ idle) ⊎ (found ≡ Some x)
idle_cleared g x None now = inl now
idle_cleared g x (Some d) now = ⊎_elim (λ (same : at (set g d idle) x ≡ at g x). inl (sym same ∙ now)) (λ (here : (x ≡ d) × (at (set g d idle) x ≡ idle)). inr (ap (λ (z : ℕ). let o : Option ℕ = Some z in o) (sym here.0))) (at-set_cases g d x idle)

idle_installed : (h : Heap) (y d : ℕ) (ws : List ℕ) (found : Option ℕ) (x : ℕ) → at (installed h y d ws found) x ≡ idle → at h x ≡ idle
idle_installed h y d ws None x now = still h y x (sided (Some d) (at h y)) (kept_sided (Some d) (at h y)) (still (set h y (sided (Some d) (at h y))) d x (side_of y ws) (λ e. absurd (cc)) now)
idle_installed h y d ws (Some e) x now = now

-- a slot that is idle after an event was so before, or the event is a Detach of it, or of the slot whose side it was
pub idle_after : (h : Heap) (e : Event) (x : ℕ) → at (next h e) x ≡ idle → (at h x ≡ idle) ⊎ ByDetach e x
idle_after h (Publish y ws) x now = inl (still h y x (held 1 ws None) (λ e. absurd (cc)) now)
idle_after h (Retain y) x now = inl (still h y x (retained (at h y)) (kept_retained (at h y)) now)
idle_after h (Release y last) x now = inl (still h y x (released (at h y)) (kept_released (at h y)) now)
idle_after h (Sole y answer) x now = inl now
idle_after h (Write y j w) x now = inl (still h y x (written j w (at h y)) (kept_written j w (at h y)) now)
idle_after h (Look y found) x now = inl now
idle_after h (Install y d ws found) x now = inl (idle_installed h y d ws found x now)
idle_after h (Detach y found) x now =
    ⊎_elim
    (λ (here : at (set h y (detached (at h y))) x ≡ idle). ⊎_elim (λ (same : at (set h y (detached (at h y))) x ≡ at h x). inl (sym same ∙ here)) (λ (own : (x ≡ y) × (at (set h y (detached (at h y))) x ≡ detached (at h y))). inr (y, found, refl, inl own.0)) (at-set_cases h y x (detached (at h y))))
    (λ (side : found ≡ Some x). inr (y, found, refl, inr side))
    (idle_cleared (set h y (detached (at h y))) x found now)

-- the side of a slot is kept by all but an Install that found none, which gives it, and a Detach, which takes it
side_retained : (c : Slot) → side_in (retained c) ≡ side_in c
side_retained idle = refl
side_retained (held n ws d) = refl
side_retained (closing d) = refl
side_retained (side_of x ws) = refl

side_released : (c : Slot) → side_in (released c) ≡ side_in c
side_released idle = refl
side_released (held n ws d) = by_test (eqb n 1)
  where
    by_test : (b : Bool) → side_in (cond b (closing d) (held (n - 1) ws d)) ≡ d
    by_test true = refl
    by_test false = refl
side_released (closing d) = refl
side_released (side_of x ws) = refl

side_written : (k w : ℕ) (c : Slot) → side_in (written k w c) ≡ side_in c
side_written k w idle = refl
side_written k w (held n ws d) = refl
side_written k w (closing d) = refl
side_written k w (side_of x ws) = refl

side_sided : (f : Option ℕ) (c : Slot) → (side_in (sided f c) ≡ side_in c) ⊎ (side_in (sided f c) ≡ f)
side_sided f idle = inl refl
side_sided f (held n ws d) = inr refl
side_sided f (closing d) = inl refl
side_sided f (side_of x ws) = inl refl

side_detached : (c : Slot) → side_in (detached c) ≡ None
side_detached idle = refl
side_detached (held n ws d) = refl
side_detached (closing d) = refl
side_detached (side_of x ws) = refl

-- a slot with the side d after a change had it before, or is the one that was changed
side_set : (h : Heap) (y x d : ℕ) (c : Slot) → side_in (at (set h y c) x) ≡ Some d → (side_in (at h x) ≡ Some d) ⊎ ((x ≡ y) × (side_in c ≡ Some d))
side_set h y x d c now = ⊎_elim (λ (same : at (set h y c) x ≡ at h x). inl (ap side_in (sym same) ∙ now)) (λ (here : (x ≡ y) × (at (set h y c) x ≡ c)). inr (here.0, ap side_in (sym here.1) ∙ now)) (at-set_cases h y x c)

side_lost : (h : Heap) (y x d : ℕ) (c : Slot) → side_in c ≡ None → side_in (at (set h y c) x) ≡ Some d → side_in (at h x) ≡ Some d
side_lost h y x d c none now = ⊎_elim (λ (was : side_in (at h x) ≡ Some d). was) (λ (here : (x ≡ y) × (side_in c ≡ Some d)). absurd (let a : None ≡ Some d = sym none ∙ here.1 in cc)) (side_set h y x d c now)

side_cleared : (g : Heap) (x d : ℕ) (found : Option ℕ) → side_in (at (cleared found g) x) ≡ Some d → side_in (at g x) ≡ Some d
side_cleared g x d None now = now
side_cleared g x d (Some f) now = side_lost g f x d idle refl now

abbrev ByInstall : Event → ℕ → ℕ → Type 0
ByInstall e x d = (ws : List ℕ) × (e ≡ Install x d ws None)

side_installed : (h : Heap) (y f : ℕ) (ws : List ℕ) (found : Option ℕ) (x d : ℕ) → side_in (at (installed h y f ws found) x) ≡ Some d → (side_in (at h x) ≡ Some d) ⊎ ByInstall (Install y f ws found) x d
side_installed h y f ws None x d now =
    ⊎_elim
    (λ (was : side_in (at h x) ≡ Some d). inl was)
    (λ (here : (x ≡ y) × (side_in (sided (Some f) (at h y)) ≡ Some d)). ⊎_elim
    (λ (kept : side_in (sided (Some f) (at h y)) ≡ side_in (at h y)). inl (ap (λ z. side_in (at h z)) here.0 ∙ (sym kept ∙ here.1)))
    (λ (new : side_in (sided (Some f) (at h y)) ≡ Some f). let same : Some f ≡ Some d = sym new ∙ here.1 in let q : f ≡ d = cc in let yx : y ≡ x = sym here.0 in inr (ws, cc))
    (side_sided (Some f) (at h y)))
    (side_set h y x d (sided (Some f) (at h y)) (side_lost (set h y (sided (Some f) (at h y))) f x d (side_of y ws) refl now))
side_installed h y f ws (Some e) x d now = inl now

pub side_after : (h : Heap) (e : Event) (x d : ℕ) → side_in (at (next h e) x) ≡ Some d → (side_in (at h x) ≡ Some d) ⊎ ByInstall e x d
side_after h (Publish y ws) x d now = inl (side_lost h y x d (held 1 ws None) refl now)
side_after h (Retain y) x d now = inl (sym (same-set side_in h y x (retained (at h y)) (side_retained (at h y))) ∙ now)
side_after h (Release y last) x d now = inl (sym (same-set side_in h y x (released (at h y)) (side_released (at h y))) ∙ now)
side_after h (Sole y answer) x d now = inl now
side_after h (Write y j w) x d now = inl (sym (same-set side_in h y x (written j w (at h y)) (side_written j w (at h y))) ∙ now)
side_after h (Look y found) x d now = inl now
side_after h (Install y f ws found) x d now = side_installed h y f ws found x d now
side_after h (Detach y found) x d now = inl (side_lost h y x d (detached (at h y)) (side_detached (at h y)) (side_cleared (set h y (detached (at h y))) x d found now))

-- other slots stay
cleared_else : (g : Heap) (x : ℕ) (found : Option ℕ) → found ≢ Some x → at (cleared found g) x ≡ at g x
cleared_else g x None other = refl
cleared_else g x (Some d) other = at-set_else g d x idle (λ q. other (ap (λ (z : ℕ). let o : Option ℕ = Some z in o) (sym q)))

installed_else : (h : Heap) (y d : ℕ) (ws : List ℕ) (found : Option ℕ) (x : ℕ) → x ≢ y → side_slot_of (Install y d ws found) ≢ Some x → at (installed h y d ws found) x ≡ at h x
installed_else h y d ws None x apart other = at-set_else (set h y (sided (Some d) (at h y))) d x (side_of y ws) (λ q. other (ap (λ (z : ℕ). let o : Option ℕ = Some z in o) (sym q))) ∙ at-set_else h y x (sided (Some d) (at h y)) apart
installed_else h y d ws (Some e) x apart other = refl

pub others_after : (h : Heap) (e : Event) (x : ℕ) → x ≢ slot_of e → side_slot_of e ≢ Some x → at (next h e) x ≡ at h x
others_after h (Publish y ws) x apart other = at-set_else h y x (held 1 ws None) apart
others_after h (Retain y) x apart other = at-set_else h y x (retained (at h y)) apart
others_after h (Release y last) x apart other = at-set_else h y x (released (at h y)) apart
others_after h (Sole y answer) x apart other = refl
others_after h (Write y j w) x apart other = at-set_else h y x (written j w (at h y)) apart
others_after h (Look y found) x apart other = refl
others_after h (Install y d ws found) x apart other = installed_else h y d ws found x apart other
others_after h (Detach y found) x apart other = cleared_else (set h y (detached (at h y))) x found other ∙ at-set_else h y x (detached (at h y)) apart

-- the other slot that an event changes is the side of its own, before it or after it
sided_held : (f : Option ℕ) (c : Slot) → 0 < count_of c → side_in (sided f c) ≡ f
sided_held f idle some = absurd (omega arith)
sided_held f (held n ws d) some = refl
sided_held f (closing d) some = absurd (omega arith)
sided_held f (side_of x ws) some = absurd (omega arith)

module _ (fits : List ℕ → List ℕ → Type 0) (k : Layout) where
  installed_side : (h : Heap) (x f : ℕ) (ws : List ℕ) (found : Option ℕ) (d : ℕ) → x < length h → 0 < count_of (at h x) → at h f ≡ idle → side_slot_of (Install x f ws found) ≡ Some d → side_in (at (installed h x f ws found) x) ≡ Some d
  installed_side h x f ws None d below some free is =
      let apart : x ≢ f = (λ q. not_idle (at h x) some (ap (at h) q ∙ free)) in
      ap side_in (at-set_else (set h x (sided (Some f) (at h x))) f x (side_of x ws) apart) ∙ (ap side_in (at-set h x (sided (Some f) (at h x)) below) ∙ (sided_held (Some f) (at h x) some ∙ is))
  installed_side h x f ws (Some e) d below some free is = absurd (cc)

  pub other_after : (h : Heap) (e : Event) (d : ℕ) → length h ≡ k.slots → Applies fits k h e → side_slot_of e ≡ Some d → (side_in (at h (slot_of e)) ≡ Some d) ⊎ (side_in (at (next h e) (slot_of e)) ≡ Some d)
  other_after h (Publish x ws) d sized a is = absurd (cc)
  other_after h (Retain x) d sized a is = absurd (cc)
  other_after h (Release x last) d sized a is = absurd (cc)
  other_after h (Sole x answer) d sized a is = absurd (cc)
  other_after h (Write x j w) d sized a is = absurd (cc)
  other_after h (Look x found) d sized a is = absurd (cc)
  other_after h (Install x f ws found) d sized a is = inr (installed_side h x f ws found d (subst (λ (n : ℕ). x < n) (sym sized) a.0) a.2 a.3 is)
  other_after h (Detach x found) d sized a is = inl (sym a.2 ∙ is)
