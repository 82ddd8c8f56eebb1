-- How many references a slot can have: at most as many as there were events.
use Rattle.std.proofs.Common.{◌≡◌, ℕ, zero, suc, ◌+◌, ◌-◌, ◌≤◌, eqb, cond, Bool, true, false, List, [], ◌∷◌, length, set, replicate, Option, Some, None, ap, arith}
use Rattle.slot_model.specs.declared.event.Event.{Event}
use Rattle.slot_model.specs.declared.event.Event.TheVariants.{Publish, Retain, Release, Sole, Write, Look, Install, Detach}
use Rattle.slot_model.specs.declared.layout.Layout.{Layout}
use Rattle.slot_model.specs.History.{Slot, Heap, idle, held, closing, side_of, at, next, count_of, cleared, installed, retained, released, written, sided, detached, heap_from, heap_after}
use Rattle.slot_model.proofs.Sides.{at-replicate}

-- a slot that changes by b at most leaves each count within b
count-set : (h : Heap) (y x b : ℕ) (c : Slot) → count_of c ≤ count_of (at h y) + b → count_of (at (set h y c) x) ≤ count_of (at h x) + b
count-set [] y x b c more = omega arith
count-set (a ∷ rest) zero zero b c more = more
count-set (a ∷ rest) zero (suc x) b c more = omega arith
count-set (a ∷ rest) (suc y) zero b c more = omega arith
count-set (a ∷ rest) (suc y) (suc x) b c more = count-set rest y x b c more

count-retained : (c : Slot) → count_of (retained c) ≤ count_of c + 1
count-retained idle = omega arith
count-retained (held n ws d) = omega arith
count-retained (closing d) = omega arith
count-retained (side_of x ws) = omega arith

count-released : (c : Slot) → count_of (released c) ≤ count_of c + 0
count-released idle = omega arith
count-released (held n ws d) = by_test (eqb n 1)
  where
    by_test : (b : Bool) → count_of (cond b (closing d) (held (n - 1) ws d)) ≤ n + 0
    by_test true = omega arith
    by_test false = omega arith
count-released (closing d) = omega arith
count-released (side_of x ws) = omega arith

count-written : (k w : ℕ) (c : Slot) → count_of (written k w c) ≤ count_of c + 0
count-written k w idle = omega arith
count-written k w (held n ws d) = omega arith
count-written k w (closing d) = omega arith
count-written k w (side_of x ws) = omega arith

count-sided : (e : Option ℕ) (c : Slot) → count_of (sided e c) ≤ count_of c + 0
count-sided e idle = omega arith
count-sided e (held n ws d) = omega arith
count-sided e (closing d) = omega arith
count-sided e (side_of x ws) = omega arith

count-detached : (c : Slot) → count_of (detached c) ≤ count_of c + 0
count-detached idle = omega arith
count-detached (held n ws d) = omega arith
count-detached (closing d) = omega arith
count-detached (side_of x ws) = omega arith

count-cleared : (d : Option ℕ) (h : Heap) (x : ℕ) → count_of (at (cleared d h) x) ≤ count_of (at h x)
count-cleared None h x = omega arith
count-cleared (Some d) h x = let l = count-set h d x 0 idle (omega arith) in omega (arith, l)

count-installed : (h : Heap) (y d : ℕ) (ws : List ℕ) (found : Option ℕ) (x : ℕ) → count_of (at (installed h y d ws found) x) ≤ count_of (at h x)
count-installed h y d ws None x =
    let one = count-set h y x 0 (sided (Some d) (at h y)) (count-sided (Some d) (at h y)) in
    let two = count-set (set h y (sided (Some d) (at h y))) d x 0 (side_of y ws) (omega arith) in
    omega (arith, one, two)
count-installed h y d ws (Some e) x = omega arith

count-next : (h : Heap) (e : Event) (x : ℕ) → count_of (at (next h e) x) ≤ count_of (at h x) + 1
count-next h (Publish y ws) x = count-set h y x 1 (held 1 ws None) (omega arith)
count-next h (Retain y) x = count-set h y x 1 (retained (at h y)) (count-retained (at h y))
count-next h (Release y last) x = let l = count-set h y x 0 (released (at h y)) (count-released (at h y)) in omega (arith, l)
count-next h (Sole y answer) x = omega arith
count-next h (Write y k w) x = let l = count-set h y x 0 (written k w (at h y)) (count-written k w (at h y)) in omega (arith, l)
count-next h (Look y found) x = omega arith
count-next h (Install y d ws found) x = let l = count-installed h y d ws found x in omega (arith, l)
count-next h (Detach y found) x =
    let one = count-set h y x 0 (detached (at h y)) (count-detached (at h y)) in
    let two = count-cleared found (set h y (detached (at h y))) x in
    omega (arith, one, two)

count-heap_from : (h : Heap) (es : List Event) (x : ℕ) → count_of (at (heap_from h es) x) ≤ count_of (at h x) + length es
count-heap_from h [] x = omega arith
count-heap_from h (e ∷ es) x = let rest = count-heap_from (next h e) es x in let first = count-next h e x in omega (arith, rest, first)

pub count-heap_after : (k : Layout) (es : List Event) (x : ℕ) → count_of (at (heap_after k es) x) ≤ length es
count-heap_after k es x = let l = count-heap_from (replicate k.slots idle) es x in let none : count_of (at (replicate k.slots idle) x) ≡ 0 = ap count_of (at-replicate k.slots x) in omega (arith, l, none)
