-- Values that are kept under names, whatever they are.
use Rattle.std.proofs.Common.{◌≡◌, refl, sym, ap, ◌∙◌, Bool, true, false, cond, not, ◌||◌, ◌+◌, ◌≤◌, List, [], ◌∷◌, ℕ, length, All, subst, Option, Some, None, is_some, arith, true≢false}
use Rattle.std.specs.Ordering.{nat_cmp, eq_by_cmp}
use Rattle.std.specs.Cmp.Lexicographic.{slice_cmp, nat_list_cmp_total}
use Rattle.std.specs.FinMap as finite
use Rattle.std.proofs.lemmas.List.Elements.{All-head, All-tail}
use Rattle.query_session.specs.Keeping.{Named, under, kept, names_of, names_one, is_new}

abbrev Pairs : Type 0 → Type 0
Pairs V = List (Option (List ℕ) × V)

abbrev one_more : Bool → ℕ → ℕ
one_more b n = cond b n (n + 1)

grows : (b : Bool) (n : ℕ) → n ≤ one_more b n
grows true n = omega arith
grows false n = omega arith

len-under : {V : Type 0} (m : Named V) (o : Option (List ℕ)) (v : V) → finite.len m ≤ finite.len (under m o v)
len-under m None v = omega arith
len-under m (Some name) v =
    let a : finite.len (finite.insert m name v) ≡ one_more (finite.contains_key m name) (finite.len m) = finite.len-insert nat_list_cmp_total m name v in
    let b = grows (finite.contains_key m name) (finite.len m) in omega (arith, a, b)

-- no name goes
pub len-kept : {V : Type 0} (m : Named V) (pairs : Pairs V) → finite.len m ≤ finite.len (kept m pairs)
len-kept m [] = omega arith
len-kept m (p ∷ ps) =
    let a = len-under m p.0 p.1 in
    let b = len-kept (under m p.0 p.1) ps in omega (arith, a, b)

is_some-chosen : {V : Type 0} (b : Bool) (v : V) (o : Option V) → is_some (cond b (Some v) o) ≡ (b || is_some o)
is_some-chosen true v o = refl
is_some-chosen false v o = refl

-- which names are in use after one value more
pub contains-under : {V : Type 0} (m : Named V) (o : Option (List ℕ)) (v : V) (q : List ℕ) → finite.contains_key (under m o v) q ≡ (names_one q o || finite.contains_key m q)
contains-under m None v q = refl
contains-under m (Some name) v q =
    ap is_some (finite.get-insert nat_list_cmp_total m name v q) ∙ is_some-chosen (eq_by_cmp (slice_cmp nat_cmp) q name) v (finite.get m q)

-- maps in which the same names are in use
pub record SameNames {V W : Type 0} (m : Named V) (n : Named W) : Type 0 where
  pub len : finite.len m ≡ finite.len n
  pub names : (q : List ℕ) → finite.contains_key m q ≡ finite.contains_key n q

same-under : {V W : Type 0} (m : Named V) (n : Named W) (o : Option (List ℕ)) (v : V) (w : W) → SameNames m n → SameNames (under m o v) (under n o w)
same-under m n None v w s = s
same-under m n (Some name) v w s = record {
  len = finite.len-insert nat_list_cmp_total m name v ∙ ((λ i. one_more (s.names name i) (s.len i)) ∙ sym (finite.len-insert nat_list_cmp_total n name w));
  names = λ q. contains-under m (Some name) v q ∙ (ap (λ b. names_one q (Some name) || b) (s.names q) ∙ sym (contains-under n (Some name) w q));
}

abbrev first_of : List (Option (List ℕ)) → Option (List ℕ)
first_of [] = None
first_of (o ∷ os) = o

abbrev rest_of : List (Option (List ℕ)) → List (Option (List ℕ))
rest_of [] = []
rest_of (o ∷ os) = os

-- which names are in use, and how many, doesn't depend on what they stand for
pub same-names : {V W : Type 0} (m : Named V) (n : Named W) (ps : Pairs V) (qs : Pairs W) → names_of ps ≡ names_of qs → SameNames m n → SameNames (kept m ps) (kept n qs)
same-names m n [] [] e s = s
same-names m n [] (q ∷ qs) e s = absurd (let l : 0 ≡ length (names_of (q ∷ qs)) = ap length e in omega (arith, l))
same-names m n (p ∷ ps) [] e s = absurd (let l : length (names_of (p ∷ ps)) ≡ 0 = ap length e in omega (arith, l))
same-names m n (p ∷ ps) (q ∷ qs) e s =
    same-names (under m p.0 p.1) (under n q.0 q.1) ps qs (ap rest_of e)
    (subst (λ o. SameNames (under m p.0 p.1) (under n o q.1)) (ap first_of e) (same-under m n p.0 p.1 q.1 s))

pub itself : {V : Type 0} (m : Named V) → SameNames m m
itself m = record { len = refl; names = λ q. refl }

-- one name more where it is new
pub len-under-new : {V : Type 0} (m : Named V) (o : Option (List ℕ)) (v : V) → is_new m o ≡ true → finite.len (under m o v) ≡ finite.len m + 1
len-under-new m None v new = absurd (true≢false (sym new))
len-under-new m (Some name) v new = finite.len-insert nat_list_cmp_total m name v ∙ by (finite.contains_key m name) new
  where
    by : (b : Bool) → not b ≡ true → one_more b (finite.len m) ≡ finite.len m + 1
    by true e = absurd (true≢false (sym e))
    by false e = refl

pub len-under-old : {V : Type 0} (m : Named V) (o : Option (List ℕ)) (v : V) → is_new m o ≡ false → finite.len (under m o v) ≡ finite.len m
len-under-old m None v old = refl
len-under-old m (Some name) v old = finite.len-insert nat_list_cmp_total m name v ∙ by (finite.contains_key m name) old
  where
    by : (b : Bool) → not b ≡ false → one_more b (finite.len m) ≡ finite.len m
    by true e = refl
    by false e = absurd (true≢false e)

-- no value is under the name
abbrev pub IsNotAmong : {V : Type 0} → List ℕ → Pairs V → Type 0
IsNotAmong q ps = All (λ p. names_one q p.0 ≡ false) ps

get-under : {V : Type 0} (m : Named V) (o : Option (List ℕ)) (v : V) (q : List ℕ) → names_one q o ≡ false → finite.get (under m o v) q ≡ finite.get m q
get-under m None v q other = refl
get-under m (Some name) v q other = finite.get-insert nat_list_cmp_total m name v q ∙ ap (λ b. cond b (Some v) (finite.get m q)) other

-- what a name stands for is as before where no value is under it
pub get-kept : {V : Type 0} (m : Named V) (ps : Pairs V) (q : List ℕ) → IsNotAmong q ps → finite.get (kept m ps) q ≡ finite.get m q
get-kept m [] q none = refl
get-kept m (p ∷ ps) q none =
    get-kept (under m p.0 p.1) ps q (All-tail (λ x. names_one q x.0 ≡ false) p ps none) ∙ get-under m p.0 p.1 q (All-head (λ x. names_one q x.0 ≡ false) p ps none)
