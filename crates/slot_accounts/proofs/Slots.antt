-- Slots taken and given back along a legal history: two at most for each Publish.
use Rattle.std.proofs.Common.{◌≡◌, ℕ, zero, suc, ◌+◌, ◌-◌, ◌*◌, ◌<◌, ◌≤◌, eqb, cond, Bool, true, false, List, [], ◌∷◌, ◌++◌, set, replicate, Option, Some, None, refl, sym, ap, subst, arith}
use Rattle.slot_model.specs.declared.event.Event.{Event}
use Rattle.slot_model.specs.declared.event.Event.TheVariants.{Publish, Retain, Release, Sole, Write, Look, Install, Detach}
use Rattle.slot_model.specs.declared.layout.Layout.{Layout}
use Rattle.slot_model.specs.History.{Slot, Heap, idle, held, closing, side_of, at, count_of, side_in, retained, released, written, sided, detached, cleared, installed, next, Applies, LegalFrom, Legal, heap_from}
use Rattle.slot_table.specs.Numbers.{total}
use Rattle.slot_accounts.specs.Account.{sum_of, takes, gives, none_found, one_found}
use Rattle.slot_accounts.specs.Counts.{publishes}

-- how many slots a slot may still take for its side, or give back beyond its side
abbrev spare_side : Option ℕ → ℕ
spare_side None = 1
spare_side (Some d) = 0

abbrev spare : Slot → ℕ
spare idle = 0
spare (held n ws d) = spare_side d
spare (closing d) = suc (spare_side d)
spare (side_of x ws) = 0

total-set : (h : Heap) (x : ℕ) (c : Slot) → total spare (set h x c) + spare (at h x) ≤ total spare h + spare c
total-set [] x c = omega arith
total-set (s ∷ h) zero c = omega arith
total-set (s ∷ h) (suc x) c = let t = total-set h x c in omega (arith, t)

total-idle : (n : ℕ) → total spare (replicate n idle) ≡ 0
total-idle zero = refl
total-idle (suc n) = let t = total-idle n in omega (arith, t)

spare-retained : (s : Slot) → spare (retained s) ≡ spare s
spare-retained idle = refl
spare-retained (held n ws d) = refl
spare-retained (closing d) = refl
spare-retained (side_of x ws) = refl

spare-written : (k w : ℕ) (s : Slot) → spare (written k w s) ≡ spare s
spare-written k w idle = refl
spare-written k w (held n ws d) = refl
spare-written k w (closing d) = refl
spare-written k w (side_of x ws) = refl

spare-released : (s : Slot) (last : Bool) → last ≡ eqb (count_of s) 1 → spare (released s) ≤ spare s + cond last 1 0
spare-released idle last e = omega arith
spare-released (held n ws d) last e = by (eqb n 1) last e
  where
    by : (b c : Bool) → c ≡ b → spare (cond b (closing d) (held (n - 1) ws d)) ≤ spare_side d + cond c 1 0
    by true c e = let z : gives (Release 0 c) ≡ 1 = ap (λ b. gives (Release 0 b)) e in omega (arith, z)
    by false c e = omega arith
spare-released (closing d) last e = omega arith
spare-released (side_of x ws) last e = omega arith

-- whether there is a side
abbrev has : Option ℕ → ℕ
has None = 0
has (Some d) = 1

spare-sided : (s : Slot) (d : ℕ) → 0 < count_of s → None ≡ side_in s → spare (sided (Some d) s) + 1 ≡ spare s
spare-sided idle d c e = absurd (omega (arith, c))
spare-sided (held n ws None) d c e = refl
spare-sided (held n ws (Some f)) d c e = absurd (let z : 0 ≡ 1 = ap has e in let y : ⊥ = omega (arith, z) in y)
spare-sided (closing f) d c e = absurd (omega (arith, c))
spare-sided (side_of x ws) d c e = absurd (omega (arith, c))

spare-detached_none : (s : Slot) → None ≡ side_in s → spare (detached s) ≤ spare s
spare-detached_none idle e = omega arith
spare-detached_none (held n ws None) e = omega arith
spare-detached_none (held n ws (Some d)) e = absurd (let z : 0 ≡ 1 = ap has e in let y : ⊥ = omega (arith, z) in y)
spare-detached_none (closing d) e = omega arith
spare-detached_none (side_of x ws) e = omega arith

spare-detached : (s : Slot) → spare (detached s) ≤ spare s + 1
spare-detached idle = omega arith
spare-detached (held n ws None) = omega arith
spare-detached (held n ws (Some d)) = omega arith
spare-detached (closing d) = omega arith
spare-detached (side_of x ws) = omega arith

-- one event
one_more : (fits : List ℕ → List ℕ → Type 0) (k : Layout) (h : Heap) (e : Event) → Applies fits k h e → total spare (next h e) + takes e ≤ total spare h + gives e + 2 * publishes e
one_more fits k h (Publish x ws) a = let t = total-set h x (held 1 ws None) in omega (arith, t)
one_more fits k h (Retain x) a = let t = total-set h x (retained (at h x)) in let s = spare-retained (at h x) in omega (arith, t, s)
one_more fits k h (Release x last) a = let t = total-set h x (released (at h x)) in let s = spare-released (at h x) last a.2 in omega (arith, t, s)
one_more fits k h (Sole x answer) a = omega arith
one_more fits k h (Write x j w) a = let t = total-set h x (written j w (at h x)) in let s = spare-written j w (at h x) in omega (arith, t, s)
one_more fits k h (Look x found) a = omega arith
one_more fits k h (Install x d ws found) a = by found a.5
  where
    by : (f : Option ℕ) → f ≡ side_in (at h x) → total spare (installed h x d ws f) + none_found f ≤ total spare h + 0 + 2 * 0
    by None e =
        let g = set h x (sided (Some d) (at h x)) in
        let t = total-set h x (sided (Some d) (at h x)) in let u = total-set g d (side_of x ws) in let s = spare-sided (at h x) d a.2 e in omega (arith, t, u, s)
    by (Some y) e = omega arith
one_more fits k h (Detach x found) a = by found a.2
  where
    by : (f : Option ℕ) → f ≡ side_in (at h x) → total spare (cleared f (set h x (detached (at h x)))) + 0 ≤ total spare h + one_found f + 2 * 0
    by None e = let t = total-set h x (detached (at h x)) in let s = spare-detached_none (at h x) e in omega (arith, t, s)
    by (Some d) e = let g = set h x (detached (at h x)) in let t = total-set h x (detached (at h x)) in let u = total-set g d idle in let s = spare-detached (at h x) in omega (arith, t, u, s)

all_more : (fits : List ℕ → List ℕ → Type 0) (k : Layout) (h : Heap) (es : List Event) → LegalFrom fits k h es → total spare (heap_from h es) + sum_of takes es ≤ total spare h + sum_of gives es + 2 * sum_of publishes es
all_more fits k h [] l = omega arith
all_more fits k h (e ∷ es) l = let a = one_more fits k h e l.0 in let t = all_more fits k (next h e) es l.1 in omega (arith, a, t)

pub two_a_publish : (fits : List ℕ → List ℕ → Type 0) (k : Layout) (es : List Event) → Legal fits k es → sum_of takes es ≤ sum_of gives es + 2 * sum_of publishes es
two_a_publish fits k es l = let a = all_more fits k (replicate k.slots idle) es l in let z = total-idle k.slots in omega (arith, a, z)

legal_from-front : (fits : List ℕ → List ℕ → Type 0) (k : Layout) (h : Heap) (es ds : List Event) → LegalFrom fits k h (es ++ ds) → LegalFrom fits k h es
legal_from-front fits k h [] ds l = tt
legal_from-front fits k h (e ∷ es) ds l = (l.0, legal_from-front fits k (next h e) es ds l.1)

-- what begins a legal history is legal
pub legal_front : (fits : List ℕ → List ℕ → Type 0) (k : Layout) (es all : List Event) → mathlib.Core.List.IsPrefix es all → Legal fits k all → Legal fits k es
legal_front fits k es all p l = legal_from-front fits k (replicate k.slots idle) es p.0 (subst (Legal fits k) (sym p.1) l)
