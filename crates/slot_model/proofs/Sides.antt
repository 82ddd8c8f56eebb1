-- In the heap after a legal history, sides and the slots that have them belong together.
use Rattle.std.proofs.Common.{◌≡◌, ◌≢◌, ⊎_elim, ℕ, zero, suc, ◌-◌, ◌<◌, ◌≤◌, eqb, cond, Bool, true, false, List, [], ◌∷◌, length, set, replicate, Option, Some, None, refl, sym, ap, ◌∙◌, subst, arith, length-set, lt_of_not-le}
use Rattle.std.proofs.lemmas.List.{length-replicate}
use mathlib.Core.Logic.{dite}
use native.Mathlib.Decide.{ℕ_discrete, dec_le}
use Rattle.slot_model.specs.declared.event.Event.{Event}
use Rattle.slot_model.specs.declared.event.Event.TheVariants.{Publish, Retain, Release, Sole, Write, Look, Install, Detach}
use Rattle.slot_model.specs.declared.layout.Layout.{Layout}
use Rattle.slot_model.specs.History.{Slot, Heap, idle, held, closing, side_of, at, next, count_of, side_in, cleared, installed, retained, released, written, sided, detached, MayDetach, Applies, LegalFrom, Legal, heap_from, heap_after, Paired}
use Rattle.slot_model.proofs.Runs.{at-set, at-set_else, length-next}

-- no slot is a side
abbrev IsNoSide : Slot → Type 0
IsNoSide c = (x : ℕ) (ws : List ℕ) → c ≡ side_of x ws → ⊥

counted : (c : Slot) → 0 < count_of c → IsNoSide c
counted c h x ws e = let z : count_of c ≡ 0 = ap count_of e in omega arith

is_idle : (c : Slot) → c ≡ idle → IsNoSide c
is_idle c e x ws q = let a : idle ≡ side_of x ws = sym e ∙ q in cc

-- a slot that is no side changes to one that is no side, and keeps its side
same_side : (h : Heap) (x : ℕ) (c : Slot) → x < length h → IsNoSide (at h x) → IsNoSide c → side_in c ≡ side_in (at h x) → Paired h → Paired (set h x c)
same_side h x c below none_was none_is same ok = record {
  has = λ y d e. let was = ok.has y d (sym (side_at y) ∙ e) in (was.0, at-set_else h x d c (λ q. none_was y was.0 (ap (at h) (sym q) ∙ was.1)) ∙ was.1);
  belongs = λ y d ws e. let d_else : d ≢ x = (λ q. none_is y ws (sym (at-set h x c below) ∙ (ap (at (set h x c)) (sym q) ∙ e))) in side_at y ∙ ok.belongs y d ws (sym (at-set_else h x d c d_else) ∙ e);
}
  where
    side_at : (y : ℕ) → side_in (at (set h x c) y) ≡ side_in (at h y)
    side_at y = dite (ℕ_discrete y x)
        (λ (q : y ≡ x). ap (λ z. side_in (at (set h x c) z)) q ∙ (ap side_in (at-set h x c below) ∙ (same ∙ ap (λ z. side_in (at h z)) (sym q))))
        (λ (n : ¬ (y ≡ x)). ap side_in (at-set_else h x y c n))

retained-side : (c : Slot) → 0 < count_of c → (side_in (retained c) ≡ side_in c) × IsNoSide (retained c)
retained-side idle h = absurd (omega arith)
retained-side (held n ws d) h = (refl, λ x vs e. cc)
retained-side (closing d) h = absurd (omega arith)
retained-side (side_of x ws) h = absurd (omega arith)

released-side : (c : Slot) → 0 < count_of c → (side_in (released c) ≡ side_in c) × IsNoSide (released c)
released-side idle h = absurd (omega arith)
released-side (held n ws d) h = by_test (eqb n 1)
  where
    by_test : (b : Bool) → (side_in (cond b (closing d) (held (n - 1) ws d)) ≡ d) × IsNoSide (cond b (closing d) (held (n - 1) ws d))
    by_test true = (refl, λ x vs e. cc)
    by_test false = (refl, λ x vs e. cc)
released-side (closing d) h = absurd (omega arith)
released-side (side_of x ws) h = absurd (omega arith)

written-side : (k w : ℕ) (c : Slot) → 0 < count_of c → (side_in (written k w c) ≡ side_in c) × IsNoSide (written k w c)
written-side k w idle h = absurd (omega arith)
written-side k w (held n ws d) h = (refl, λ x vs e. cc)
written-side k w (closing d) h = absurd (omega arith)
written-side k w (side_of x ws) h = absurd (omega arith)

sided-is : (d : Option ℕ) (c : Slot) → 0 < count_of c → (side_in (sided d c) ≡ d) × IsNoSide (sided d c)
sided-is d idle h = absurd (omega arith)
sided-is d (held n ws e) h = (refl, λ x vs q. cc)
sided-is d (closing e) h = absurd (omega arith)
sided-is d (side_of x ws) h = absurd (omega arith)

detached-is : (c : Slot) → MayDetach c → (side_in (detached c) ≡ None) × IsNoSide (detached c) × IsNoSide c
detached-is idle h = (refl, (λ x vs e. cc), λ x vs e. cc)
detached-is (held n ws e) h = (refl, (λ x vs q. cc), λ x vs q. cc)
detached-is (closing e) h = (refl, (λ x vs q. cc), λ x vs q. cc)
detached-is (side_of x ws) h = ⊎_elim (λ (e : 0 ≡ 1). absurd (omega arith)) (λ (e : 0 ≡ 1). absurd (omega arith)) h

-- the opening heap is idle everywhere
pub at-replicate : (n x : ℕ) → at (replicate n idle) x ≡ idle
at-replicate zero x = refl
at-replicate (suc n) zero = refl
at-replicate (suc n) (suc x) = at-replicate n x

pub opening_paired : (k : Layout) → Paired (replicate k.slots idle)
opening_paired k = record {
  has = λ x d e. absurd (let a : None ≡ Some d = sym (ap side_in (at-replicate k.slots x)) ∙ e in cc);
  belongs = λ x d ws e. absurd (let a : idle ≡ side_of x ws = sym (at-replicate k.slots d) ∙ e in cc);
}

module _ (fits : List ℕ → List ℕ → Type 0) (k : Layout) where
  abbrev freed : Heap → ℕ → ℕ → Heap
  freed h x d = set (set h x (detached (at h x))) d idle

  abbrev attached : Heap → ℕ → ℕ → List ℕ → Heap
  attached h x d ws = set (set h x (sided (Some d) (at h x))) d (side_of x ws)

  attach : (h : Heap) (x d : ℕ) (ws : List ℕ) → x < length h → d < length h → 0 < count_of (at h x) → at h d ≡ idle → side_in (at h x) ≡ None → Paired h → Paired (attached h x d ws)
  attach h x d ws xb db some free none ok = record {
    has = λ y e side. dite (ℕ_discrete y x)
        (λ (q : y ≡ x). let e_is : e ≡ d = (let a : side_in (at (attached h x d ws) y) ≡ Some d = ap (λ z. side_in (at (attached h x d ws) z)) q ∙ (ap side_in at_x ∙ is.0) in let b : Some d ≡ Some e = sym a ∙ side in cc) in (ws, ap (at (attached h x d ws)) e_is ∙ (at_d ∙ ap (λ z. side_of z ws) (sym q))))
        (λ (n : ¬ (y ≡ x)). dite (ℕ_discrete y d)
        (λ (q : y ≡ d). absurd (let a : None ≡ Some e = sym (ap (λ z. side_in (at (attached h x d ws) z)) q ∙ ap side_in at_d) ∙ side in cc))
        (λ (m : ¬ (y ≡ d)). let was = ok.has y e (sym (ap side_in (elsewhere y n m)) ∙ side) in
        (was.0, elsewhere e (λ q. counted (at h x) some y was.0 (ap (at h) (sym q) ∙ was.1)) (λ q. is_idle (at h d) free y was.0 (ap (at h) (sym q) ∙ was.1)) ∙ was.1)));
    belongs = λ y e vs there. dite (ℕ_discrete e d)
        (λ (q : e ≡ d). let same : side_of x ws ≡ side_of y vs = sym at_d ∙ (ap (at (attached h x d ws)) (sym q) ∙ there) in let yx : x ≡ y = (cc) in ap (λ z. side_in (at (attached h x d ws) z)) (sym yx) ∙ (ap side_in at_x ∙ (is.0 ∙ ap (λ (z : ℕ). let o : Option ℕ = Some z in o) (sym q))))
        (λ (n : ¬ (e ≡ d)). dite (ℕ_discrete e x)
        (λ (q : e ≡ x). absurd (is.1 y vs (sym at_x ∙ (ap (at (attached h x d ws)) (sym q) ∙ there))))
        (λ (m : ¬ (e ≡ x)). let was = ok.belongs y e vs (sym (elsewhere e m n) ∙ there) in
        ap side_in (elsewhere y (λ q. absurd (let a : None ≡ Some e = sym none ∙ (ap (λ z. side_in (at h z)) (sym q) ∙ was) in cc)) (λ q. absurd (let a : None ≡ Some e = sym (ap side_in free) ∙ (ap (λ z. side_in (at h z)) (sym q) ∙ was) in cc))) ∙ was));
  }
    where
      apart : d ≢ x
      apart q = let a : count_of (at h x) ≡ 0 = ap (λ z. count_of (at h z)) (sym q) ∙ ap count_of free in omega arith

      is : (side_in (sided (Some d) (at h x)) ≡ Some d) × IsNoSide (sided (Some d) (at h x))
      is = sided-is (Some d) (at h x) some

      at_d : at (attached h x d ws) d ≡ side_of x ws
      at_d = at-set (set h x (sided (Some d) (at h x))) d (side_of x ws) (subst (λ (n : ℕ). d < n) (sym (length-set h x (sided (Some d) (at h x)))) db)

      at_x : at (attached h x d ws) x ≡ sided (Some d) (at h x)
      at_x = at-set_else (set h x (sided (Some d) (at h x))) d x (side_of x ws) (λ q. apart (sym q)) ∙ at-set h x (sided (Some d) (at h x)) xb

      elsewhere : (y : ℕ) → y ≢ x → y ≢ d → at (attached h x d ws) y ≡ at h y
      elsewhere y n m = at-set_else (set h x (sided (Some d) (at h x))) d y (side_of x ws) m ∙ at-set_else h x y (sided (Some d) (at h x)) n

  detach_none : (h : Heap) (x : ℕ) → x < length h → MayDetach (at h x) → side_in (at h x) ≡ None → Paired h → Paired (set h x (detached (at h x)))
  detach_none h x below may none ok = let t = detached-is (at h x) may in same_side h x (detached (at h x)) below t.2 t.1 (t.0 ∙ sym none) ok

  detach_some : (h : Heap) (x d : ℕ) → x < length h → d < length h → MayDetach (at h x) → side_in (at h x) ≡ Some d → Paired h → Paired (set (set h x (detached (at h x))) d idle)
  detach_some h x d xb db may side ok = record {
    has = λ y e there. dite (ℕ_discrete y d)
        (λ (q : y ≡ d). absurd (let a : None ≡ Some e = sym (ap (λ z. side_in (at (freed h x d) z)) q ∙ ap side_in at_d) ∙ there in cc))
        (λ (n : ¬ (y ≡ d)). dite (ℕ_discrete y x)
        (λ (q : y ≡ x). absurd (let a : None ≡ Some e = sym (ap (λ z. side_in (at (freed h x d) z)) q ∙ (ap side_in at_x ∙ is.0)) ∙ there in cc))
        (λ (m : ¬ (y ≡ x)). let was = ok.has y e (sym (ap side_in (elsewhere y m n)) ∙ there) in
        (was.0, elsewhere e (λ q. is.2 y was.0 (ap (at h) (sym q) ∙ was.1)) (λ q. m (let a : side_of y was.0 ≡ side_of x mine.0 = sym was.1 ∙ (ap (at h) q ∙ mine.1) in cc)) ∙ was.1)));
    belongs = λ y e vs there. dite (ℕ_discrete e d)
        (λ (q : e ≡ d). absurd (let a : idle ≡ side_of y vs = sym at_d ∙ (ap (at (freed h x d)) (sym q) ∙ there) in cc))
        (λ (n : ¬ (e ≡ d)). dite (ℕ_discrete e x)
        (λ (q : e ≡ x). absurd (is.1 y vs (sym at_x ∙ (ap (at (freed h x d)) (sym q) ∙ there))))
        (λ (m : ¬ (e ≡ x)). let was = ok.belongs y e vs (sym (elsewhere e m n) ∙ there) in
        ap side_in (elsewhere y (λ q. n (let a : Some e ≡ Some d = sym was ∙ (ap (λ z. side_in (at h z)) q ∙ side) in cc)) (λ q. let a : None ≡ Some e = sym (ap side_in mine.1) ∙ (ap (λ z. side_in (at h z)) (sym q) ∙ was) in cc)) ∙ was));
  }
    where
      mine : (ws : List ℕ) × (at h d ≡ side_of x ws)
      mine = ok.has x d side

      is : (side_in (detached (at h x)) ≡ None) × IsNoSide (detached (at h x)) × IsNoSide (at h x)
      is = detached-is (at h x) may

      apart : d ≢ x
      apart q = is.2 x mine.0 (ap (at h) (sym q) ∙ mine.1)

      at_d : at (freed h x d) d ≡ idle
      at_d = at-set (set h x (detached (at h x))) d idle (subst (λ (n : ℕ). d < n) (sym (length-set h x (detached (at h x)))) db)

      at_x : at (freed h x d) x ≡ detached (at h x)
      at_x = at-set_else (set h x (detached (at h x))) d x idle (λ q. apart (sym q)) ∙ at-set h x (detached (at h x)) xb

      elsewhere : (y : ℕ) → y ≢ x → y ≢ d → at (freed h x d) y ≡ at h y
      elsewhere y m n = at-set_else (set h x (detached (at h x))) d y idle n ∙ at-set_else h x y (detached (at h x)) m

  cleared_by : (h : Heap) (x : ℕ) (found : Option ℕ) → length h ≡ k.slots → x < k.slots → MayDetach (at h x) → found ≡ side_in (at h x) → Paired h → ((d : ℕ) → side_in (at h x) ≡ Some d → d < k.slots) → Paired (cleared found (set h x (detached (at h x))))
  cleared_by h x None sized below may is ok within = detach_none h x (subst (λ (n : ℕ). x < n) (sym sized) below) may (sym is) ok
  cleared_by h x (Some d) sized below may is ok within = detach_some h x d (subst (λ (n : ℕ). x < n) (sym sized) below) (subst (λ (n : ℕ). d < n) (sym sized) (within d (sym is))) may (sym is) ok

  -- a side lies within the heap, since past its end every slot reads as idle
  past : (h : Heap) (d : ℕ) → length h ≤ d → at h d ≡ idle
  past [] d l = refl
  past (c ∷ cs) zero l = absurd (omega arith)
  past (c ∷ cs) (suc d) l = past cs d (omega arith)

  installs : (h : Heap) (x d : ℕ) (ws : List ℕ) (found : Option ℕ) → length h ≡ k.slots → x < k.slots → d < k.slots → 0 < count_of (at h x) → at h d ≡ idle → found ≡ side_in (at h x) → Paired h → Paired (installed h x d ws found)
  installs h x d ws None sized xb db some free is ok = attach h x d ws (subst (λ (n : ℕ). x < n) (sym sized) xb) (subst (λ (n : ℕ). d < n) (sym sized) db) some free (sym is) ok
  installs h x d ws (Some e) sized xb db some free is ok = ok

  one_counts : (n : ℕ) → n ≡ 1 → 0 < n
  one_counts n e = omega arith

  pub side_below : (h : Heap) (x d : ℕ) → length h ≡ k.slots → side_in (at h x) ≡ Some d → Paired h → d < k.slots
  side_below h x d sized side ok = dite (dec_le k.slots d) (λ (above : k.slots ≤ d). absurd (let a : idle ≡ side_of x (ok.has x d side).0 = sym (past h d (subst (λ (n : ℕ). n ≤ d) (sym sized) above)) ∙ (ok.has x d side).1 in cc)) (λ (l : ¬ (k.slots ≤ d)). lt_of_not-le l)

  pub paired_next : (h : Heap) (e : Event) → length h ≡ k.slots → Applies fits k h e → Paired h → Paired (next h e)
  paired_next h (Publish x ws) sized a ok = publish h x ws (subst (λ (n : ℕ). x < n) (sym sized) a.0) a.1 ok
    where
      publish : (h : Heap) (x : ℕ) (ws : List ℕ) → x < length h → at h x ≡ idle → Paired h → Paired (set h x (held 1 ws None))
      publish h x ws below free ok = same_side h x (held 1 ws None) below (is_idle (at h x) free) (λ y vs e. cc) (sym (ap side_in free)) ok
  paired_next h (Retain x) sized a ok = let t = retained-side (at h x) a.1 in same_side h x (retained (at h x)) (subst (λ (n : ℕ). x < n) (sym sized) a.0) (counted (at h x) a.1) t.1 t.0 ok
  paired_next h (Release x last) sized a ok = let t = released-side (at h x) a.1 in same_side h x (released (at h x)) (subst (λ (n : ℕ). x < n) (sym sized) a.0) (counted (at h x) a.1) t.1 t.0 ok
  paired_next h (Sole x answer) sized a ok = ok
  paired_next h (Write x j w) sized a ok = let pos = one_counts (count_of (at h x)) a.1 in let t = written-side j w (at h x) pos in same_side h x (written j w (at h x)) (subst (λ (n : ℕ). x < n) (sym sized) a.0) (counted (at h x) pos) t.1 t.0 ok
  paired_next h (Look x found) sized a ok = ok
  paired_next h (Install x d ws found) sized a ok = installs h x d ws found sized a.0 a.1 a.2 a.3 a.5 ok
  paired_next h (Detach x found) sized a ok = cleared_by h x found sized a.0 a.1 a.2 ok below
    where
      below : (d : ℕ) → side_in (at h x) ≡ Some d → d < k.slots
      below d side = dite (dec_le k.slots d) (λ (above : k.slots ≤ d). absurd (let a : idle ≡ side_of x (ok.has x d side).0 = sym (past h d (subst (λ (n : ℕ). n ≤ d) (sym sized) above)) ∙ (ok.has x d side).1 in cc)) (λ (l : ¬ (k.slots ≤ d)). lt_of_not-le l)

  paired_from : (h : Heap) (es : List Event) → length h ≡ k.slots → LegalFrom fits k h es → Paired h → Paired (heap_from h es)
  paired_from h [] sized l ok = ok
  paired_from h (e ∷ es) sized l ok = paired_from (next h e) es (length-next h e ∙ sized) l.1 (paired_next h e sized l.0 ok)

  pub paired_after : (es : List Event) → Legal fits k es → Paired (heap_after k es)
  paired_after es l = paired_from (replicate k.slots idle) es (length-replicate k.slots idle) l (opening_paired k)
