-- In the heap after a legal history the side of a held slot fits the slot's words.
use Rattle.std.proofs.Common.{◌≡◌, ◌≢◌, ◌⊎◌, ⊎_elim, inl, inr, ℕ, zero, suc, ◌-◌, ◌<◌, eqb, cond, Bool, true, false, List, [], ◌∷◌, length, set, replicate, Option, Some, None, refl, sym, ap, ◌∙◌, subst, arith, length-set}
use Rattle.std.proofs.lemmas.List.{length-replicate}
use Rattle.slot_model.specs.declared.event.Event.{Event}
use Rattle.slot_model.specs.declared.event.Event.TheVariants.{Publish, Retain, Release, Sole, Write, Look, Install, Detach}
use Rattle.slot_model.specs.declared.layout.Layout.{Layout}
use Rattle.slot_model.specs.History.{Slot, Heap, idle, held, closing, side_of, at, next, count_of, words_of, side_in, closing_in, cleared, installed, retained, released, written, sided, detached, MayDetach, Applies, LegalFrom, Legal, heap_from, heap_after, Paired}
use Rattle.slot_model.proofs.Runs.{at-set, at-set_else, length-next}
use Rattle.slot_model.proofs.Sides.{at-replicate, opening_paired, paired_next}

-- a slot of the heap with one set is the old one, or the one that was set
at-set_cases : (h : Heap) (y x : ℕ) (c : Slot) → (at (set h y c) x ≡ at h x) ⊎ ((x ≡ y) × (at (set h y c) x ≡ c))
at-set_cases [] y x c = inl refl
at-set_cases (a ∷ rest) zero zero c = inr (refl, refl)
at-set_cases (a ∷ rest) zero (suc x) c = inl refl
at-set_cases (a ∷ rest) (suc y) zero c = inl refl
at-set_cases (a ∷ rest) (suc y) (suc x) c = ⊎_elim (λ (same : at (set rest y c) x ≡ at rest x). inl same) (λ (here : (x ≡ y) × (at (set rest y c) x ≡ c)). inr (ap (λ n. suc n) here.0, here.1)) (at-set_cases rest y x c)

-- what a change of slot y does to what `f` reads of a slot, where y keeps it
same-set : {A : Type 0} (f : Slot → A) (h : Heap) (y x : ℕ) (c : Slot) → f c ≡ f (at h y) → f (at (set h y c) x) ≡ f (at h x)
same-set f h y x c kept = ⊎_elim (λ (same : at (set h y c) x ≡ at h x). ap f same) (λ (here : (x ≡ y) × (at (set h y c) x ≡ c)). ap f here.1 ∙ (kept ∙ ap (λ z. f (at h z)) (sym here.0))) (at-set_cases h y x c)

-- the slot has no side that fits its words, since it is not held or has no side
abbrev IsOpen : Slot → Type 0
IsOpen c = (e : ℕ) → 0 < count_of c → side_in c ≡ Some e → ⊥

no_side : (c : Slot) → side_in c ≡ None → IsOpen c
no_side c none e some there = let a : None ≡ Some e = sym none ∙ there in cc

retained-kept : (c : Slot) → 0 < count_of c → (words_of (retained c) ≡ words_of c) × (side_in (retained c) ≡ side_in c)
retained-kept idle h = (refl, refl)
retained-kept (held n ws d) h = (refl, refl)
retained-kept (closing d) h = (refl, refl)
retained-kept (side_of x ws) h = (refl, refl)

-- either the release was the last, or all but the count is kept
released-kept : (c : Slot) → 0 < count_of c → (count_of (released c) ≡ 0) ⊎ ((words_of (released c) ≡ words_of c) × (side_in (released c) ≡ side_in c))
released-kept idle h = absurd (omega arith)
released-kept (held n ws d) h = by_test (eqb n 1)
  where
    by_test : (b : Bool) → (count_of (cond b (closing d) (held (n - 1) ws d)) ≡ 0) ⊎ ((words_of (cond b (closing d) (held (n - 1) ws d)) ≡ ws) × (side_in (cond b (closing d) (held (n - 1) ws d)) ≡ d))
    by_test true = inl refl
    by_test false = inr (refl, refl)
released-kept (closing d) h = absurd (omega arith)
released-kept (side_of x ws) h = absurd (omega arith)

written-side : (j w : ℕ) (c : Slot) → side_in (written j w c) ≡ side_in c
written-side j w idle = refl
written-side j w (held n ws d) = refl
written-side j w (closing d) = refl
written-side j w (side_of x ws) = refl

detached-side : (c : Slot) → side_in (detached c) ≡ None
detached-side idle = refl
detached-side (held n ws d) = refl
detached-side (closing d) = refl
detached-side (side_of x ws) = refl

sided-kept : (d : ℕ) (c : Slot) → 0 < count_of c → (words_of (sided (Some d) c) ≡ words_of c) × (side_in (sided (Some d) c) ≡ Some d)
sided-kept d idle h = absurd (omega arith)
sided-kept d (held n ws e) h = (refl, refl)
sided-kept d (closing e) h = absurd (omega arith)
sided-kept d (side_of x ws) h = absurd (omega arith)

no_count : (c : Slot) (x : ℕ) (ws : List ℕ) → c ≡ side_of x ws → 0 < count_of c → ⊥
no_count c x ws e some = let z : count_of c ≡ 0 = ap count_of e in omega arith

may_not_be_side : (c : Slot) (x : ℕ) (ws : List ℕ) → MayDetach c → c ≡ side_of x ws → ⊥
may_not_be_side c x ws may e = ⊎_elim (λ (a : closing_in c ≡ 1). let z : closing_in c ≡ 0 = ap closing_in e in omega arith) (λ (a : count_of c ≡ 1). let z : count_of c ≡ 0 = ap count_of e in omega arith) may

-- the heap with the slot x given the side d, and with the slot d made that side too
abbrev given : Heap → ℕ → ℕ → Heap
given h x d = set h x (sided (Some d) (at h x))

abbrev attached : Heap → ℕ → ℕ → List ℕ → Heap
attached h x d ws = set (given h x d) d (side_of x ws)

-- past its end every slot of a heap is idle
listed : (h : Heap) (x d : ℕ) → side_in (at h x) ≡ Some d → x < length h
listed [] x d side = let none : None ≡ Some d = side in cc
listed (c ∷ h) zero d side = omega arith
listed (c ∷ h) (suc x) d side = let t = listed h x d side in omega (arith, t)

module _ (fits : List ℕ → List ℕ → Type 0) where
  abbrev pub Fitted : Heap → Type 0
  Fitted h = (x d : ℕ) → 0 < count_of (at h x) → side_in (at h x) ≡ Some d → fits (words_of (at h x)) (words_of (at h d))

  -- a slot that keeps its words and its side
  kept : (h : Heap) (x : ℕ) (c : Slot) → 0 < count_of (at h x) → words_of c ≡ words_of (at h x) → side_in c ≡ side_in (at h x) → Fitted h → Fitted (set h x c)
  kept h x c some words side ok y d count there =
      let words_y = same-set words_of h x y c words in let words_d = same-set words_of h x d c words in let side_y = same-set side_in h x y c side in
      let some_y : 0 < count_of (at h y) = ⊎_elim (λ (same : at (set h x c) y ≡ at h y). subst (λ (z : Slot). 0 < count_of z) same count) (λ (here : (y ≡ x) × (at (set h x c) y ≡ c)). subst (λ (z : ℕ). 0 < count_of (at h z)) (sym here.0) some) (at-set_cases h x y c) in
      subst (λ (l : List ℕ). fits l (words_of (at (set h x c) d))) (sym words_y) (subst (λ (l : List ℕ). fits (words_of (at h y)) l) (sym words_d) (ok y d some_y (sym side_y ∙ there)))

  -- a slot that is no slot's side becomes one with no side that counts
  opened : (h : Heap) (x : ℕ) (c : Slot) → ((y : ℕ) → side_in (at h y) ≢ Some x) → IsOpen c → Fitted h → Fitted (set h x c)
  opened h x c none_has open_c ok y d count there = ⊎_elim
      (λ (same : at (set h x c) y ≡ at h y).
      let was : side_in (at h y) ≡ Some d = sym (ap side_in same) ∙ there in
      let other : at (set h x c) d ≡ at h d = at-set_else h x d c (λ q. none_has y (was ∙ ap (λ (z : ℕ). let o : Option ℕ = Some z in o) q)) in
      subst (λ (z : Slot). fits (words_of z) (words_of (at (set h x c) d))) (sym same) (subst (λ (z : Slot). fits (words_of (at h y)) (words_of z)) (sym other) (ok y d (subst (λ (z : Slot). 0 < count_of z) same count) was)))
      (λ (here : (y ≡ x) × (at (set h x c) y ≡ c)). absurd (open_c d (subst (λ (z : Slot). 0 < count_of z) here.1 count) (sym (ap side_in here.1) ∙ there)))
      (at-set_cases h x y c)

  module _ (k : Layout) where
    -- a slot that isn't a side is no slot's
    nobody_has : (h : Heap) (x : ℕ) → Paired h → ((y : ℕ) (ws : List ℕ) → at h x ≡ side_of y ws → ⊥) → (y : ℕ) → side_in (at h y) ≢ Some x
    nobody_has h x ok not_side y there = let was = ok.has y x there in not_side y was.0 was.1

    installs : (h : Heap) (x d : ℕ) (ws : List ℕ) (found : Option ℕ) → length h ≡ k.slots → Applies fits k h (Install x d ws found) → Paired h → Fitted h → Fitted (installed h x d ws found)
    installs h x d ws (Some e) sized a ok fit = fit
    installs h x d ws None sized a ok fit = λ y e count there. ⊎_elim
        (λ (same_d : at (attached h x d ws) y ≡ at (given h x d) y). ⊎_elim
        (λ (same : at (given h x d) y ≡ at h y).
        let was : side_in (at h y) ≡ Some e = sym (ap side_in (same_d ∙ same)) ∙ there in let mine = ok.has y e was in
        let e_kept : at (attached h x d ws) e ≡ at h e = at-set_else (given h x d) d e (side_of x ws) (λ q. let z : idle ≡ side_of y mine.0 = sym a.3 ∙ (ap (at h) (sym q) ∙ mine.1) in cc) ∙ at-set_else h x e (sided (Some d) (at h x)) (λ q. no_count (at h x) y mine.0 (ap (at h) (sym q) ∙ mine.1) a.2) in
        subst (λ (z : Slot). fits (words_of z) (words_of (at (attached h x d ws) e))) (sym (same_d ∙ same)) (subst (λ (z : Slot). fits (words_of (at h y)) (words_of z)) (sym e_kept) (fit y e (subst (λ (z : Slot). 0 < count_of z) (same_d ∙ same) count) was)))
        (λ (here : (y ≡ x) × (at (given h x d) y ≡ sided (Some d) (at h x))).
        let keeps = sided-kept d (at h x) a.2 in let now : at (attached h x d ws) y ≡ sided (Some d) (at h x) = same_d ∙ here.1 in
        let d_is : d ≡ e = (let o : Some d ≡ Some e = sym keeps.1 ∙ (sym (ap side_in now) ∙ there) in cc) in
        let side_words : words_of (at (attached h x d ws) e) ≡ ws = ap (λ z. words_of (at (attached h x d ws) z)) (sym d_is) ∙ ap words_of at_d in
        subst (λ (l : List ℕ). fits l (words_of (at (attached h x d ws) e))) (sym (ap words_of now ∙ keeps.0)) (subst (λ (l : List ℕ). fits (words_of (at h x)) l) (sym side_words) a.4))
        (at-set_cases h x y (sided (Some d) (at h x))))
        (λ (here : (y ≡ d) × (at (attached h x d ws) y ≡ side_of x ws)). absurd (no_count (at (attached h x d ws) y) x ws here.1 count))
        (at-set_cases (given h x d) d y (side_of x ws))
      where
        at_d : at (attached h x d ws) d ≡ side_of x ws
        at_d = at-set (given h x d) d (side_of x ws) (subst (λ (n : ℕ). d < n) (sym (length-set h x (sided (Some d) (at h x)) ∙ sized)) a.1)

    released_fits : (h : Heap) (x : ℕ) → 0 < count_of (at h x) → Paired h → Fitted h → Fitted (set h x (released (at h x)))
    released_fits h x some ok fit = ⊎_elim
        (λ (gone : count_of (released (at h x)) ≡ 0). opened h x (released (at h x)) (nobody_has h x ok (λ y ws e. no_count (at h x) y ws e some)) (λ e count there. omega (arith, gone, count)) fit)
        (λ (same : (words_of (released (at h x)) ≡ words_of (at h x)) × (side_in (released (at h x)) ≡ side_in (at h x))). kept h x (released (at h x)) some same.0 same.1 fit)
        (released-kept (at h x) some)

    detached_fits : (h : Heap) (x : ℕ) → MayDetach (at h x) → Paired h → Fitted h → Fitted (set h x (detached (at h x)))
    detached_fits h x may ok fit = opened h x (detached (at h x)) (nobody_has h x ok (λ y ws e. may_not_be_side (at h x) y ws may e)) (no_side (detached (at h x)) (detached-side (at h x))) fit

    -- the side that is let go is nobody's then
    let_go : (h : Heap) (x d : ℕ) → side_in (at h x) ≡ Some d → Paired h → (y : ℕ) → side_in (at (set h x (detached (at h x))) y) ≢ Some d
    let_go h x d side ok y there = ⊎_elim
        (λ (same : at (set h x (detached (at h x))) y ≡ at h y).
        let was : side_in (at h y) ≡ Some d = sym (ap side_in same) ∙ there in let mine = ok.has x d side in let theirs = ok.has y d was in
        let y_is : y ≡ x = (let z : side_of y theirs.0 ≡ side_of x mine.0 = sym theirs.1 ∙ mine.1 in cc) in
        let none : None ≡ Some d = sym (ap (λ z. side_in (at (set h x (detached (at h x))) z)) y_is ∙ bare_x) ∙ there in cc)
        (λ (here : (y ≡ x) × (at (set h x (detached (at h x))) y ≡ detached (at h x))). let none : None ≡ Some d = sym (ap side_in here.1 ∙ detached-side (at h x)) ∙ there in cc)
        (at-set_cases h x y (detached (at h x)))
      where
        bare_x : side_in (at (set h x (detached (at h x))) x) ≡ None
        bare_x = ⊎_elim
            (λ (same : at (set h x (detached (at h x))) x ≡ at h x). ap side_in (at-set h x (detached (at h x)) (listed h x d side)) ∙ detached-side (at h x))
            (λ (here : (x ≡ x) × (at (set h x (detached (at h x))) x ≡ detached (at h x))). ap side_in here.1 ∙ detached-side (at h x))
            (at-set_cases h x x (detached (at h x)))

    cleared_fits : (h : Heap) (x : ℕ) (found : Option ℕ) → MayDetach (at h x) → found ≡ side_in (at h x) → Paired h → Fitted h → Fitted (cleared found (set h x (detached (at h x))))
    cleared_fits h x None may is ok fit = detached_fits h x may ok fit
    cleared_fits h x (Some d) may is ok fit = opened (set h x (detached (at h x))) d idle (let_go h x d (sym is) ok) (no_side idle refl) (detached_fits h x may ok fit)

    fitted_next : (h : Heap) (e : Event) → length h ≡ k.slots → Applies fits k h e → Paired h → Fitted h → Fitted (next h e)
    fitted_next h (Publish x ws) sized a ok fit = opened h x (held 1 ws None) (nobody_has h x ok (λ y vs e. let z : idle ≡ side_of y vs = sym a.1 ∙ e in cc)) (no_side (held 1 ws None) refl) fit
    fitted_next h (Retain x) sized a ok fit = let t = retained-kept (at h x) a.1 in kept h x (retained (at h x)) a.1 t.0 t.1 fit
    fitted_next h (Release x last) sized a ok fit = released_fits h x a.1 ok fit
    fitted_next h (Sole x answer) sized a ok fit = fit
    fitted_next h (Write x j w) sized a ok fit = opened h x (written j w (at h x)) (nobody_has h x ok (λ y vs e. no_count (at h x) y vs e (let z = a.1 in omega arith))) (no_side (written j w (at h x)) (written-side j w (at h x) ∙ a.2)) fit
    fitted_next h (Look x found) sized a ok fit = fit
    fitted_next h (Install x d ws found) sized a ok fit = installs h x d ws found sized a ok fit
    fitted_next h (Detach x found) sized a ok fit = cleared_fits h x found a.1 a.2 ok fit

    fitted_from : (h : Heap) (es : List Event) → length h ≡ k.slots → LegalFrom fits k h es → Paired h → Fitted h → Fitted (heap_from h es)
    fitted_from h [] sized l ok fit = fit
    fitted_from h (e ∷ es) sized l ok fit = fitted_from (next h e) es (length-next h e ∙ sized) l.1 (paired_next fits k h e sized l.0 ok) (fitted_next h e sized l.0 ok fit)

    pub fitted_after : (es : List Event) → Legal fits k es → Fitted (heap_after k es)
    fitted_after es l = fitted_from (replicate k.slots idle) es (length-replicate k.slots idle) l (opening_paired k) (λ x d count there. absurd (let z : count_of (at (replicate k.slots idle) x) ≡ 0 = ap count_of (at-replicate k.slots x) in omega arith))
