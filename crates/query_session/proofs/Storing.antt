-- Values that are stored and taken out, beside a pass.
use Rattle.std.proofs.Common.{◌≡◌, ℕ, ◌+◌, ◌-◌, ◌≤◌, Bool, true, false, cond, ◌||◌, nat_lt, is_some, List, Option, Some, None, refl, sym, ap, ◌∙◌, subst, arith, true≢false}
use Rattle.std.specs.Option.{IfSome}
use Rattle.std.specs.Ordering.{nat_cmp, eq_by_cmp}
use Rattle.std.specs.Cmp.Lexicographic.{slice_cmp, nat_list_cmp_total}
use Rattle.std.specs.FinMap as finite
use Rattle.std.proofs.lemmas.Bool.{ltb-true}
use Rattle.slot_table.specs.Owners.{PassSeen}
use Rattle.str_value.specs.Meaning.{Meaning, OfHeap}
use Rattle.str_value.proofs.Crumbing.{of_heap-moves}
use Rattle.query_session.specs.State.{has_room}
use Rattle.query_session.specs.Values.{Values, AllOfHeap, IsSound, HasEnough, texts_of, credits_in, credit_in, weight}
use Rattle.query_session.proofs.Sums.{has-texts, len-texts, credits_in-insert}
use Rattle.slot_accounts.specs.Account.{Keeps}

pub all-moves : (p q : PassSeen) (m : Values) → q.heap ≡ p.heap → AllOfHeap p m → AllOfHeap q m
all-moves p q m same all name = by (finite.get m name) (all name)
  where
    by : (o : Option Meaning) → IfSome o (λ (v : Meaning). OfHeap p v.place) → IfSome o (λ (v : Meaning). OfHeap q v.place)
    by None h = tt
    by (Some v) h = of_heap-moves p q v.place same h

pub all-insert : (p : PassSeen) (m : Values) (k : List ℕ) (v : Meaning) → AllOfHeap p m → OfHeap p v.place → AllOfHeap p (finite.insert m k v)
all-insert p m k v all of name = subst (λ (o : Option Meaning). IfSome o (λ (w : Meaning). OfHeap p w.place)) (sym (finite.get-insert nat_list_cmp_total m k v name)) (by (eq_by_cmp (slice_cmp nat_cmp) name k))
  where
    by : (b : Bool) → IfSome (cond b (Some v) (finite.get m name)) (λ (w : Meaning). OfHeap p w.place)
    by true = of
    by false = all name

pub all-remove : (p : PassSeen) (m : Values) (k : List ℕ) → AllOfHeap p m → AllOfHeap p (finite.remove m k)
all-remove p m k all name = subst (λ (o : Option Meaning). IfSome o (λ (w : Meaning). OfHeap p w.place)) (sym (finite.get-remove nat_list_cmp_total m k name)) (by (eq_by_cmp (slice_cmp nat_cmp) name k))
  where
    by : (b : Bool) → IfSome (cond b None (finite.get m name)) (λ (w : Meaning). OfHeap p w.place)
    by true = tt
    by false = all name

pub of-found : (p : PassSeen) (m : Values) (name : List ℕ) (v : Meaning) → AllOfHeap p m → finite.get m name ≡ Some v → OfHeap p v.place
of-found p m name v all found = subst (λ (o : Option Meaning). IfSome o (λ (w : Meaning). OfHeap p w.place)) found (all name)

second : (a b : Bool) → (a || b) ≡ true → a ≡ false → b ≡ true
second true b e f = absurd (true≢false f)
second false b e f = e

-- the names stay within their limit
pub few-insert : (m : Values) (k : List ℕ) (v : Meaning) → finite.len m ≤ 256 → has_room (texts_of m) k ≡ true → finite.len (finite.insert m k v) ≤ 256
few-insert m k v few room = by (finite.contains_key m k) refl
  where
    is : finite.len (finite.insert m k v) ≡ cond (finite.contains_key m k) (finite.len m) (finite.len m + 1)
    is = finite.len-insert nat_list_cmp_total m k v

    by : (b : Bool) → finite.contains_key m k ≡ b → finite.len (finite.insert m k v) ≤ 256
    by true e = let a : finite.len (finite.insert m k v) ≡ finite.len m = is ∙ ap (λ b. cond b (finite.len m) (finite.len m + 1)) e in omega (arith, a, few)
    by false e =
        let a : finite.len (finite.insert m k v) ≡ finite.len m + 1 = is ∙ ap (λ b. cond b (finite.len m) (finite.len m + 1)) e in
        let l = ltb-true (finite.len (texts_of m)) 256 (second (finite.contains_key (texts_of m) k) (nat_lt (finite.len (texts_of m)) 256) room (has-texts m k ∙ e)) in
        let t = len-texts m in omega (arith, a, l, t)

few-stored : (m : Values) (k : List ℕ) (v w : Meaning) → finite.len m ≤ 256 → finite.get m k ≡ Some v → finite.len (finite.insert m k w) ≤ 256
few-stored m k v w few found =
    let a : finite.len (finite.insert m k w) ≡ finite.len m = finite.len-insert nat_list_cmp_total m k w ∙ ap (λ o. cond (is_some o) (finite.len m) (finite.len m + 1)) found in
    omega (arith, a, few)

few-remove : (m : Values) (k : List ℕ) → finite.len m ≤ 256 → finite.len (finite.remove m k) ≤ 256
few-remove m k few = by (finite.contains_key m k) refl
  where
    is : finite.len (finite.remove m k) ≡ cond (finite.contains_key m k) (finite.len m - 1) (finite.len m)
    is = finite.len-remove nat_list_cmp_total m k

    by : (b : Bool) → finite.contains_key m k ≡ b → finite.len (finite.remove m k) ≤ 256
    by true e = let a : finite.len (finite.remove m k) ≡ finite.len m - 1 = is ∙ ap (λ b. cond b (finite.len m - 1) (finite.len m)) e in omega (arith, a, few)
    by false e = let a : finite.len (finite.remove m k) ≡ finite.len m = is ∙ ap (λ b. cond b (finite.len m - 1) (finite.len m)) e in omega (arith, a, few)

-- one value was changed into another, in credits and in soundness
pub changed-credits : (m n : Values) (k : List ℕ) (v w : Meaning) → finite.get m k ≡ Some v → n ≡ finite.insert m k w
    → credits_in n + credit_in v ≡ credits_in m + credit_in w
changed-credits m n k v w found now =
    let a = credits_in-insert m k w in
    let b : weight (finite.get m k) ≡ credit_in v = ap weight found in
    let c : credits_in n ≡ credits_in (finite.insert m k w) = ap credits_in now in omega (arith, a, b, c)

pub changed-sound : (m n : Values) (k : List ℕ) (v w : Meaning) (p q : PassSeen) → IsSound m p → q.heap ≡ p.heap → OfHeap q w.place
    → finite.get m k ≡ Some v → n ≡ finite.insert m k w → IsSound n q
changed-sound m n k v w p q s same of found now = subst (λ (x : Values). IsSound x q) (sym now) record {
  heap = all-insert q m k w (all-moves p q m same s.heap) of;
  few = few-stored m k v w s.few found;
}

-- a value was stored, and the one that was there given up
pub stored-credits : (m n : Values) (k : List ℕ) (v : Meaning) (p q : PassSeen) → n ≡ finite.insert m k v → Keeps p (weight (finite.get m k)) q 0
    → Keeps p (credits_in m + credit_in v) q (credits_in n)
stored-credits m n k v p q now gone =
    let a = credits_in-insert m k v in
    let b : credits_in n ≡ credits_in (finite.insert m k v) = ap credits_in now in omega (arith, a, b, gone)

pub stored-sound : (m n : Values) (k : List ℕ) (v : Meaning) (p q : PassSeen) → IsSound m p → q.heap ≡ p.heap → OfHeap p v.place
    → has_room (texts_of m) k ≡ true → n ≡ finite.insert m k v → IsSound n q
stored-sound m n k v p q s same of room now = subst (λ (x : Values). IsSound x q) (sym now) record {
  heap = all-insert q m k v (all-moves p q m same s.heap) (of_heap-moves p q v.place same of);
  few = few-insert m k v s.few room;
}

-- a value was taken out
pub removed-sound : (m n : Values) (k : List ℕ) (p q : PassSeen) → IsSound m p → q.heap ≡ p.heap → n ≡ finite.remove m k → IsSound n q
removed-sound m n k p q s same now = subst (λ (x : Values). IsSound x q) (sym now) record {
  heap = all-remove q m k (all-moves p q m same s.heap);
  few = few-remove m k s.few;
}

pub moved-sound : (m : Values) (p q : PassSeen) → IsSound m p → q.heap ≡ p.heap → IsSound m q
moved-sound m p q s same = record { heap = all-moves p q m same s.heap; few = s.few }

-- credits that go from a value to the pass or back are still together
pub kept-enough : (m n : Values) (p q : PassSeen) → HasEnough m p → Keeps p (credits_in m) q (credits_in n) → HasEnough n q
kept-enough m n p q enough keeps = omega (arith, enough, keeps)

-- no name is in use
pub empty-sound : (m : Values) (p : PassSeen) → m ≡ finite.empty → IsSound m p
empty-sound m p is = subst (λ (x : Values). IsSound x p) (sym is) record {
  heap = λ name. subst (λ (o : Option Meaning). IfSome o (λ (v : Meaning). OfHeap p v.place)) (sym (finite.get-empty (slice_cmp nat_cmp) name)) tt;
  few = let none : finite.len (finite.empty) ≡ 0 = finite.len-empty (slice_cmp nat_cmp) Meaning in omega (arith, none);
}
