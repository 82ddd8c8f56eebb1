-- A list that is legal has no first wrong event, and one that isn't has one alone.
use Rattle.std.proofs.Common.{◌≡◌, ℕ, zero, suc, ◌<◌, ◌≤◌, List, [], ◌∷◌, ◌++◌, take, replicate, Some, refl, sym, ap, ◌∙◌, subst, ⊎_elim, arith}
use Rattle.std.specs.Prelude.{slice_get}
use Rattle.std.proofs.lemmas.Bool.{cases_lt}
use Rattle.slot_model.specs.declared.event.Event.{Event}
use Rattle.slot_model.specs.declared.layout.Layout.{Layout}
use Rattle.slot_model.proofs.Runs.{heap_after-snoc, legal-snoc}
use Rattle.slot_model.specs.History.{Heap, idle, next, Applies, LegalFrom, Legal, heap_from, heap_after, IsFirstWrong}

take-none : (m : ℕ) → take m (let es : List Event = [] in es) ≡ []
take-none zero = refl
take-none (suc m) = refl

take-take : (es : List Event) (n m : ℕ) → n < m → take n (take m es) ≡ take n es
take-take [] n m below = ap (take n) (take-none m)
take-take (e ∷ es) zero m below = refl
take-take (e ∷ es) (suc n) zero below = absurd (omega arith)
take-take (e ∷ es) (suc n) (suc m) below = ap (λ fs. e ∷ fs) (take-take es n m (omega arith))

slice_get-take : (es : List Event) (n m : ℕ) (e : Event) → n < m → slice_get es n ≡ Some e → slice_get (take m es) n ≡ Some e
slice_get-take [] n m e below there = absurd (cc)
slice_get-take (x ∷ es) zero zero e below there = absurd (omega arith)
slice_get-take (x ∷ es) zero (suc m) e below there = there
slice_get-take (x ∷ es) (suc n) zero e below there = absurd (omega arith)
slice_get-take (x ∷ es) (suc n) (suc m) e below there = slice_get-take es n m e (omega arith) there

take-next : (es : List Event) (n : ℕ) (e : Event) → slice_get es n ≡ Some e → take (suc n) es ≡ take n es ++ e ∷ []
take-next [] n e there = absurd (cc)
take-next (x ∷ es) zero e there = let same : x ≡ e = cc in ap (λ (y : Event). let fs : List Event = y ∷ [] in fs) same
take-next (x ∷ es) (suc n) e there = ap (λ fs. x ∷ fs) (take-next es n e there)

-- the heap after one event more
pub heap_after-next : (k : Layout) (es : List Event) (n : ℕ) (e : Event) → slice_get es n ≡ Some e → heap_after k (take (suc n) es) ≡ next (heap_after k (take n es)) e
heap_after-next k es n e there = ap (heap_after k) (take-next es n e there) ∙ heap_after-snoc k (take n es) e

module _ (fits : List ℕ → List ℕ → Type 0) (k : Layout) where
  take-from : (n : ℕ) (h : Heap) (es : List Event) → LegalFrom fits k h es → LegalFrom fits k h (take n es)
  take-from zero h es l = tt
  take-from (suc n) h [] l = tt
  take-from (suc n) h (e ∷ es) l = (l.0, take-from n (next h e) es l.1)

  -- a front of a legal list is legal
  pub legal-take : (n : ℕ) (es : List Event) → Legal fits k es → Legal fits k (take n es)
  legal-take n es l = take-from n (replicate k.slots idle) es l

  applies-from : (n : ℕ) (h : Heap) (es : List Event) (e : Event) → LegalFrom fits k h es → slice_get es n ≡ Some e → Applies fits k (heap_from h (take n es)) e
  applies-from n h [] e l there = absurd (cc)
  applies-from zero h (x ∷ es) e l there = let same : x ≡ e = cc in subst (λ (y : Event). Applies fits k h y) same l.0
  applies-from (suc n) h (x ∷ es) e l there = applies-from n (next h x) es e l.1 there

  -- each event of a legal list applies to the heap after those before it
  pub applies-at : (es : List Event) (n : ℕ) (e : Event) → Legal fits k es → slice_get es n ≡ Some e → Applies fits k (heap_after k (take n es)) e
  applies-at es n e l there = applies-from n (replicate k.slots idle) es e l there

  -- a list with a wrong event isn't legal
  pub wrong-not_legal : (es : List Event) (n : ℕ) → IsFirstWrong fits k es n → ¬ Legal fits k es
  wrong-not_legal es n w l = w.refused (applies-at es n w.event l w.there)

  not_before : (es : List Event) (n m : ℕ) → IsFirstWrong fits k es n → IsFirstWrong fits k es m → ¬ (n < m)
  not_before es n m v w below = v.refused (subst (λ (fs : List Event). Applies fits k (heap_after k fs) v.event) (take-take es n m below) (applies-at (take m es) n v.event w.before (slice_get-take es n m v.event below v.there)))

  -- the first wrong event is one alone
  pub wrong-one : (es : List Event) (n m : ℕ) → IsFirstWrong fits k es n → IsFirstWrong fits k es m → n ≡ m
  wrong-one es n m v w = ⊎_elim (λ (l : n < m). absurd (not_before es n m v w l)) (λ (l : m ≤ n). ⊎_elim (λ (g : m < n). absurd (not_before es m n w v g)) (λ (g : n ≤ m). omega arith) (cases_lt m n)) (cases_lt n m)

  -- a legal front goes on by an event that applies
  pub legal-next : (es : List Event) (n : ℕ) (e : Event) → slice_get es n ≡ Some e → Legal fits k (take n es) → Applies fits k (heap_after k (take n es)) e → Legal fits k (take (suc n) es)
  legal-next es n e there l a = subst (λ (fs : List Event). Legal fits k fs) (sym (take-next es n e there)) (legal-snoc fits k (take n es) e l a)

  legal_from-append : (h : Heap) (es fs : List Event) → LegalFrom fits k h (es ++ fs) → LegalFrom fits k h es × LegalFrom fits k (heap_from h es) fs
  legal_from-append h [] fs l = (tt, l)
  legal_from-append h (x ∷ es) fs l = let rest = legal_from-append (next h x) es fs l.1 in ((l.0, rest.0), rest.1)

  -- a front of a legal list is legal, and the rest goes on from the heap after it
  pub legal-append : (es fs : List Event) → Legal fits k (es ++ fs) → Legal fits k es × LegalFrom fits k (heap_after k es) fs
  legal-append es fs l = legal_from-append (replicate k.slots idle) es fs l

  -- the last event of a legal list applies to the heap after the others
  pub legal-last : (es : List Event) (e : Event) → Legal fits k (es ++ e ∷ []) → Legal fits k es × Applies fits k (heap_after k es) e
  legal-last es e l = let both = legal-append es (e ∷ []) l in (both.0, both.1.0)

  all_apply-from : (h : Heap) (es : List Event) → ((n : ℕ) (e : Event) → slice_get es n ≡ Some e → Applies fits k (heap_from h (take n es)) e) → LegalFrom fits k h es
  all_apply-from h [] all = tt
  all_apply-from h (x ∷ es) all = (all 0 x refl, all_apply-from (next h x) es (λ n e there. all (suc n) e there))

  -- a list each of whose events applies is legal
  pub all_apply : (es : List Event) → ((n : ℕ) (e : Event) → slice_get es n ≡ Some e → Applies fits k (heap_after k (take n es)) e) → Legal fits k es
  all_apply es all = all_apply-from (replicate k.slots idle) es all
