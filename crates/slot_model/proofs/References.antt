-- References given and taken, and that a held slot has one.
use Rattle.std.proofs.Common.{◌≡◌, ◌≢◌, ⊎_elim, ℕ, ◌+◌, ◌-◌, ◌<◌, ◌==◌, eqb, cond, Bool, true, false, List, [], ◌∷◌, length, set, replicate, Option, Some, None, refl, sym, ap, ◌∙◌, subst, arith}
use Rattle.std.specs.List.{count_by}
use Rattle.std.proofs.lemmas.List.{length-replicate}
use Rattle.std.proofs.lemmas.List.Sums.{sum_by-cons}
use Rattle.std.proofs.lemmas.Bool.Decides.{eqb_tells}
use Rattle.slot_model.specs.declared.event.Event.{Event}
use Rattle.slot_model.specs.declared.event.Event.TheVariants.{Publish, Retain, Release, Sole, Write, Look, Install, Detach}
use Rattle.slot_model.specs.declared.layout.Layout.{Layout}
use Rattle.slot_model.specs.History.{Slot, Heap, idle, held, closing, side_of, at, next, count_of, side_in, cleared, installed, retained, released, written, sided, detached, IsHeld, Applies, LegalFrom, Legal, heap_from, heap_after, Paired}
use Rattle.slot_model.specs.Laws.{gives, takes}
use Rattle.slot_model.proofs.Runs.{at-set, at-set_else, length-next}
use Rattle.slot_model.proofs.Sides.{at-replicate, paired_next, opening_paired}
use Rattle.slot_model.proofs.Changes.{at-set_cases, same-set}

-- 1 for true, 0 for false
abbrev one : Bool → ℕ
one b = cond b 1 0

-- slot y, within the heap, has one reference more after it is set
given_one : (h : Heap) (y x : ℕ) (c : Slot) → y < length h → count_of c ≡ count_of (at h y) + 1 → count_of (at (set h y c) x) ≡ count_of (at h x) + one (x == y)
given_one h y x c below more =
    ⊎_elim
    (λ (same : (eqb x y ≡ true) × (x ≡ y)). let at_y : count_of (at (set h y c) x) ≡ count_of c = ap (λ z. count_of (at (set h y c) z)) same.1 ∙ ap count_of (at-set h y c below) in let was : count_of (at h x) ≡ count_of (at h y) = ap (λ z. count_of (at h z)) same.1 in let b : one (eqb x y) ≡ 1 = ap one same.0 in omega arith)
    (λ (apart : (eqb x y ≡ false) × (x ≢ y)). let else : count_of (at (set h y c) x) ≡ count_of (at h x) = ap count_of (at-set_else h y x c apart.1) in let b : one (eqb x y) ≡ 0 = ap one apart.0 in omega arith)
    (eqb_tells x y)

taken_one : (h : Heap) (y x : ℕ) (c : Slot) → y < length h → count_of c + 1 ≡ count_of (at h y) → count_of (at (set h y c) x) + one (x == y) ≡ count_of (at h x)
taken_one h y x c below less =
    ⊎_elim
    (λ (same : (eqb x y ≡ true) × (x ≡ y)). let at_y : count_of (at (set h y c) x) ≡ count_of c = ap (λ z. count_of (at (set h y c) z)) same.1 ∙ ap count_of (at-set h y c below) in let was : count_of (at h x) ≡ count_of (at h y) = ap (λ z. count_of (at h z)) same.1 in let b : one (eqb x y) ≡ 1 = ap one same.0 in omega arith)
    (λ (apart : (eqb x y ≡ false) × (x ≢ y)). let else : count_of (at (set h y c) x) ≡ count_of (at h x) = ap count_of (at-set_else h y x c apart.1) in let b : one (eqb x y) ≡ 0 = ap one apart.0 in omega arith)
    (eqb_tells x y)

one_more : (c : Slot) → 0 < count_of c → count_of (retained c) ≡ count_of c + 1
one_more idle some = absurd (omega arith)
one_more (held n ws d) some = omega arith
one_more (closing d) some = absurd (omega arith)
one_more (side_of x ws) some = absurd (omega arith)

one_less : (c : Slot) → 0 < count_of c → count_of (released c) + 1 ≡ count_of c
one_less idle some = absurd (omega arith)
one_less (held n ws d) some =
    ⊎_elim
    (λ (last : (eqb n 1 ≡ true) × (n ≡ 1)). let e : count_of (cond (eqb n 1) (closing d) (held (n - 1) ws d)) ≡ 0 = ap (λ b. count_of (cond b (closing d) (held (n - 1) ws d))) last.0 in let l : n ≡ 1 = last.1 in omega arith)
    (λ (more : (eqb n 1 ≡ false) × (n ≢ 1)). let e : count_of (cond (eqb n 1) (closing d) (held (n - 1) ws d)) ≡ n - 1 = ap (λ b. count_of (cond b (closing d) (held (n - 1) ws d))) more.0 in omega arith)
    (eqb_tells n 1)
one_less (closing d) some = absurd (omega arith)
one_less (side_of x ws) some = absurd (omega arith)

count-written : (k w : ℕ) (c : Slot) → count_of (written k w c) ≡ count_of c
count-written k w idle = refl
count-written k w (held n ws d) = refl
count-written k w (closing d) = refl
count-written k w (side_of x ws) = refl

count-sided : (f : Option ℕ) (c : Slot) → count_of (sided f c) ≡ count_of c
count-sided f idle = refl
count-sided f (held n ws d) = refl
count-sided f (closing d) = refl
count-sided f (side_of x ws) = refl

count-detached : (c : Slot) → count_of (detached c) ≡ count_of c
count-detached idle = refl
count-detached (held n ws d) = refl
count-detached (closing d) = refl
count-detached (side_of x ws) = refl

-- a side has no reference, so that giving it back takes none
count-cleared : (h : Heap) (y x : ℕ) (found : Option ℕ) → found ≡ side_in (at h y) → Paired h → count_of (at (cleared found (set h y (detached (at h y)))) x) ≡ count_of (at h x)
count-cleared h y x None is ok = same-set count_of h y x (detached (at h y)) (count-detached (at h y))
count-cleared h y x (Some d) is ok =
    let side = ok.has y d (sym is) in
    let before : count_of (at (set h y (detached (at h y))) d) ≡ count_of (at h d) = same-set count_of h y d (detached (at h y)) (count-detached (at h y)) in
    let none : count_of idle ≡ count_of (at (set h y (detached (at h y))) d) = sym (before ∙ ap count_of side.1) in
    same-set count_of (set h y (detached (at h y))) d x idle none ∙ same-set count_of h y x (detached (at h y)) (count-detached (at h y))

count-installed : (h : Heap) (y d x : ℕ) (ws : List ℕ) (found : Option ℕ) → at h d ≡ idle → count_of (at (installed h y d ws found) x) ≡ count_of (at h x)
count-installed h y d x ws None free =
    let before : count_of (at (set h y (sided (Some d) (at h y))) d) ≡ count_of (at h d) = same-set count_of h y d (sided (Some d) (at h y)) (count-sided (Some d) (at h y)) in
    let none : count_of (side_of y ws) ≡ count_of (at (set h y (sided (Some d) (at h y))) d) = sym (before ∙ ap count_of free) in
    same-set count_of (set h y (sided (Some d) (at h y))) d x (side_of y ws) none ∙ same-set count_of h y x (sided (Some d) (at h y)) (count-sided (Some d) (at h y))
count-installed h y d x ws (Some e) free = refl

module _ (fits : List ℕ → List ℕ → Type 0) (k : Layout) where
  count-next : (h : Heap) (e : Event) (x : ℕ) → length h ≡ k.slots → Paired h → Applies fits k h e → count_of (at (next h e) x) + one (takes x e) ≡ count_of (at h x) + one (gives x e)
  count-next h (Publish y ws) x sized ok a = let none : count_of (at h y) ≡ 0 = ap count_of a.1 in let e = given_one h y x (held 1 ws None) (subst (λ (n : ℕ). y < n) (sym sized) a.0) (omega arith) in omega (arith, e)
  count-next h (Retain y) x sized ok a = let e = given_one h y x (retained (at h y)) (subst (λ (n : ℕ). y < n) (sym sized) a.0) (one_more (at h y) a.1) in omega (arith, e)
  count-next h (Release y last) x sized ok a = let e = taken_one h y x (released (at h y)) (subst (λ (n : ℕ). y < n) (sym sized) a.0) (one_less (at h y) a.1) in omega (arith, e)
  count-next h (Sole y answer) x sized ok a = refl
  count-next h (Write y j w) x sized ok a = let e = same-set count_of h y x (written j w (at h y)) (count-written j w (at h y)) in omega (arith, e)
  count-next h (Look y found) x sized ok a = refl
  count-next h (Install y d ws found) x sized ok a = let e = count-installed h y d x ws found a.3 in omega (arith, e)
  count-next h (Detach y found) x sized ok a = let e = count-cleared h y x found a.2 ok in omega (arith, e)

  count-from : (h : Heap) (es : List Event) (x : ℕ) → length h ≡ k.slots → Paired h → LegalFrom fits k h es → count_of (at (heap_from h es) x) + count_by (takes x) es ≡ count_of (at h x) + count_by (gives x) es
  count-from h [] x sized ok l = refl
  count-from h (e ∷ es) x sized ok l =
      let first = count-next h e x sized ok l.0 in
      let rest = count-from (next h e) es x (length-next h e ∙ sized) (paired_next fits k h e sized l.0 ok) l.1 in
      let t = sum_by-cons (λ (z : Event). one (takes x z)) e es in
      let g = sum_by-cons (λ (z : Event). one (gives x z)) e es in
      omega (arith, first, rest, t, g)

  pub count-given : (es : List Event) (x : ℕ) → Legal fits k es → count_of (at (heap_after k es) x) + count_by (takes x) es ≡ count_by (gives x) es
  count-given es x l =
      let all = count-from (replicate k.slots idle) es x (length-replicate k.slots idle) (opening_paired k) l in
      let none : count_of (at (replicate k.slots idle) x) ≡ 0 = ap count_of (at-replicate k.slots x) in
      omega (arith, all, none)

-- a held slot has a reference
abbrev IsLive : Slot → Type 0
IsLive c = IsHeld c → 0 < count_of c

live_set : (h : Heap) (y x : ℕ) (c : Slot) → IsLive c → IsLive (at h x) → IsLive (at (set h y c) x)
live_set h y x c new old = ⊎_elim (λ (same : at (set h y c) x ≡ at h x). subst IsLive (sym same) old) (λ (here : (x ≡ y) × (at (set h y c) x ≡ c)). subst IsLive (sym here.1) new) (at-set_cases h y x c)

not_held_idle : IsLive idle
not_held_idle w = absurd (let e : idle ≡ held w.0 w.1 w.2 = w.3 in cc)

not_held_side : (x : ℕ) (ws : List ℕ) → IsLive (side_of x ws)
not_held_side x ws w = absurd (let e : side_of x ws ≡ held w.0 w.1 w.2 = w.3 in cc)

not_held_closing : (d : Option ℕ) → IsLive (closing d)
not_held_closing d w = absurd (let e : closing d ≡ held w.0 w.1 w.2 = w.3 in cc)

live_released : (c : Slot) → 0 < count_of c → IsLive (released c)
live_released idle some = absurd (omega arith)
live_released (held n ws d) some =
    ⊎_elim
    (λ (last : (eqb n 1 ≡ true) × (n ≡ 1)). subst (λ (b : Bool). IsLive (cond b (closing d) (held (n - 1) ws d))) (sym last.0) (not_held_closing d))
    (λ (more : (eqb n 1 ≡ false) × (n ≢ 1)). subst (λ (b : Bool). IsLive (cond b (closing d) (held (n - 1) ws d))) (sym more.0) (λ w. let two = more.1 in omega arith))
    (eqb_tells n 1)
live_released (closing d) some = absurd (omega arith)
live_released (side_of x ws) some = absurd (omega arith)

live_detached : (c : Slot) → IsLive c → IsLive (detached c)
live_detached idle live = not_held_idle
live_detached (held n ws d) live = λ w. live (n, ws, d, refl)
live_detached (closing d) live = not_held_idle
live_detached (side_of x ws) live = not_held_side x ws

live_cleared : (h : Heap) (x : ℕ) (found : Option ℕ) → IsLive (at h x) → IsLive (at (cleared found h) x)
live_cleared h x None live = live
live_cleared h x (Some d) live = live_set h d x idle not_held_idle live

live_installed : (h : Heap) (y d x : ℕ) (ws : List ℕ) (found : Option ℕ) → 0 < count_of (at h y) → IsLive (at h x) → IsLive (at (installed h y d ws found) x)
live_installed h y d x ws None some live =
    let more : 0 < count_of (sided (Some d) (at h y)) = (let e = count-sided (Some d) (at h y) in omega (arith, e)) in
    live_set (set h y (sided (Some d) (at h y))) d x (side_of y ws) (not_held_side y ws) (live_set h y x (sided (Some d) (at h y)) (λ w. more) live)
live_installed h y d x ws (Some e) some live = live

module _ (fits : List ℕ → List ℕ → Type 0) (k : Layout) where
  live_next : (h : Heap) (e : Event) (x : ℕ) → Applies fits k h e → ((y : ℕ) → IsLive (at h y)) → IsLive (at (next h e) x)
  live_next h (Publish y ws) x a live = live_set h y x (held 1 ws None) (λ w. omega arith) (live x)
  live_next h (Retain y) x a live = live_set h y x (retained (at h y)) (λ w. let m = one_more (at h y) a.1 in omega (arith, m)) (live x)
  live_next h (Release y last) x a live = live_set h y x (released (at h y)) (live_released (at h y) a.1) (live x)
  live_next h (Sole y answer) x a live = live x
  live_next h (Write y j v) x a live = live_set h y x (written j v (at h y)) (λ w. let m = count-written j v (at h y) in let n : count_of (at h y) ≡ 1 = a.1 in omega (arith, m)) (live x)
  live_next h (Look y found) x a live = live x
  live_next h (Install y d ws found) x a live = live_installed h y d x ws found a.2 (live x)
  live_next h (Detach y found) x a live = live_cleared (set h y (detached (at h y))) x found (live_set h y x (detached (at h y)) (live_detached (at h y) (live y)) (live x))

  live_from : (h : Heap) (es : List Event) → LegalFrom fits k h es → ((y : ℕ) → IsLive (at h y)) → (x : ℕ) → IsLive (at (heap_from h es) x)
  live_from h [] l live x = live x
  live_from h (e ∷ es) l live x = live_from (next h e) es l.1 (λ y. live_next h e y l.0 live) x

  pub live_after : (es : List Event) (x : ℕ) → Legal fits k es → IsHeld (at (heap_after k es) x) → 0 < count_of (at (heap_after k es) x)
  live_after es x l = live_from (replicate k.slots idle) es l (λ y. subst IsLive (sym (at-replicate k.slots y)) not_held_idle) x

pub counted_held : (c : Slot) → 0 < count_of c → IsHeld c
counted_held idle some = absurd (omega arith)
counted_held (held n ws d) some = (n, ws, d, refl)
counted_held (closing d) some = absurd (omega arith)
counted_held (side_of x ws) some = absurd (omega arith)
