-- Sums over the values of a finite map, and the texts that it shows.
use Rattle.std.proofs.Common.{◌≡◌, ℕ, ◌+◌, ◌≤◌, Bool, true, false, cond, T, ◌&&◌, is_some, List, [], ◌∷◌, map, length, Option, Some, None, refl, sym, ap, ◌∙◌, subst, arith, true≢false}
use Rattle.std.proofs.lemmas.Cmp.{eq_by_cmp_equiv}
use Rattle.std.proofs.lemmas.List.{length-map}
use Rattle.std.specs.Option.{option_map}
use Rattle.std.specs.declared.cmp.Ordering.{Ordering}
use Rattle.std.specs.declared.cmp.Ordering.TheVariants.{Less, Equal, Greater}
use Rattle.std.specs.Ordering.{nat_cmp, eq_by_cmp, is_eq, is_lt}
use Rattle.std.specs.Cmp.{IsTotalOrder}
use Rattle.std.specs.Cmp.Lexicographic.{slice_cmp, nat_list_cmp_total}
use Rattle.std.specs.FinMap as finite
use Rattle.std.specs.FinMap.Entries.{by_order, below_all}
use Rattle.slot_accounts.specs.Account.{sum_of}
use Rattle.str_value.specs.Meaning.{Meaning, Place, own, shared, fixed, credit_of}
use Rattle.query_session.specs.Values.{Values, texts_of, text_entry, credits_in, credit_in, weight}

abbrev R : List ℕ → List ℕ → Ordering
R = slice_cmp nat_cmp

abbrev Entries : Type 0
Entries = List (List ℕ × Meaning)

-- the credits of entries, and those of the value under a name
abbrev held_by : Entries → ℕ
held_by es = sum_of credit_in (map (λ e. e.1) es)

abbrev finds : List ℕ → Entries → Option Meaning
finds q es = finite.find R q es

-- below all keys nothing is found
find-below : (q : List ℕ) (es : Entries) → T (below_all R q es) → finds q es ≡ None
find-below q [] h = refl
find-below q (e ∷ es) h = by (R q e.0) h (λ t. find-below q es t)
  where
    by : (r : Ordering) → T (is_lt r && below_all R q es) → (T (below_all R q es) → finds q es ≡ None) → cond (is_eq r) (Some e.1) (finds q es) ≡ None
    by Less t f = f t
    by Equal t f = absurd t
    by Greater t f = absurd t

first : (a b : Bool) → T (a && b) → T a
first true b p = tt
first false b p = p

second : (a b : Bool) → T (a && b) → T b
second true b p = p
second false b p = absurd p

-- below the first key, which is below all others
below_rest : (q x : List ℕ) (es : Entries) → R q x ≡ Less → T (below_all R x es) → T (below_all R q es)
below_rest q x [] l h = tt
below_rest q x (e ∷ es) l h = by (R q e.0) refl (below_rest q x es l (second (is_lt (R x e.0)) (below_all R x es) h))
  where
    o : IsTotalOrder R
    o = nat_list_cmp_total

    lt : (r : Ordering) → T (is_lt r) → r ≡ Less
    lt Less t = refl
    lt Equal t = absurd t
    lt Greater t = absurd t

    less : R q e.0 ≡ Less
    less = o.trans q x e.0 l (lt (R x e.0) (first (is_lt (R x e.0)) (below_all R x es) h))

    by : (r : Ordering) → R q e.0 ≡ r → T (below_all R q es) → T (is_lt r && below_all R q es)
    by Less is f = f
    by Equal is f = absurd (subst (λ r. T (is_lt r)) (sym less ∙ is) tt)
    by Greater is f = absurd (subst (λ r. T (is_lt r)) (sym less ∙ is) tt)

held_by-put : (k : List ℕ) (v : Meaning) (es : Entries) → T (finite.is_sorted R es) → held_by (finite.put R k v es) + weight (finds k es) ≡ held_by es + credit_in v
held_by-put k v [] s = omega arith
held_by-put k v (e ∷ es) s = by (R k e.0) refl (held_by-put k v es (second (below_all R e.0 es) (finite.is_sorted R es) s))
  where
    by : (r : Ordering) → R k e.0 ≡ r → held_by (finite.put R k v es) + weight (finds k es) ≡ held_by es + credit_in v → held_by (by_order r ((k, v) ∷ e ∷ es) ((e.0, v) ∷ es) (e ∷ finite.put R k v es)) + weight (cond (is_eq r) (Some e.1) (finds k es)) ≡ held_by (e ∷ es) + credit_in v
    by Less is t = let none : weight (finds k es) ≡ 0 = ap weight (find-below k es (below_rest k e.0 es is (first (below_all R e.0 es) (finite.is_sorted R es) s))) in omega (arith, none)
    by Equal is t = omega arith
    by Greater is t = omega (arith, t)

-- after one value is stored
pub credits_in-insert : (m : Values) (k : List ℕ) (v : Meaning) → credits_in (finite.insert m k v) + weight (finite.get m k) ≡ credits_in m + credit_in v
credits_in-insert m k v =
    let a = held_by-put k v (finite.entries m) (finite.entries_sorted m) in
    let b : credits_in (finite.insert m k v) ≡ held_by (finite.put R k v (finite.entries m)) = ap held_by (finite.entries-insert nat_list_cmp_total m k v) in
    let g : weight (finite.get m k) ≡ weight (finds k (finite.entries m)) = ap weight (finite.get-entries m k) in
    omega (arith, a, b, g)

tied : (k : List ℕ) → eq_by_cmp R k k ≡ true
tied k = (eq_by_cmp_equiv nat_list_cmp_total).refl k

-- what is taken out and put back
insert-remove : (m : Values) (k : List ℕ) (v : Meaning) → finite.get m k ≡ Some v → finite.insert (finite.remove m k) k v ≡ m
insert-remove m k v found =
    finite.same_map nat_list_cmp_total (finite.slice_cmp-IsAntisymmetric finite.nat_cmp-IsAntisymmetric) _ _ (λ q.
    finite.get-insert nat_list_cmp_total (finite.remove m k) k v q ∙ (ap (cond (eq_by_cmp R q k) (Some v)) (finite.get-remove nat_list_cmp_total m k q) ∙ by q (eq_by_cmp R q k) refl))
  where
    same : (q : List ℕ) → eq_by_cmp R q k ≡ true → q ≡ k
    same q e = finite.slice_cmp-IsAntisymmetric finite.nat_cmp-IsAntisymmetric q k (equal (R q k) e)
      where
        equal : (r : Ordering) → is_eq r ≡ true → r ≡ Equal
        equal Less e = absurd (true≢false (sym e))
        equal Equal e = refl
        equal Greater e = absurd (true≢false (sym e))

    by : (q : List ℕ) (b : Bool) → eq_by_cmp R q k ≡ b → cond b (Some v) (cond b None (finite.get m q)) ≡ finite.get m q
    by q true e = sym (ap (finite.get m) (same q e) ∙ found)
    by q false e = refl

-- after one value is taken out
pub credits_in-remove : (m : Values) (k : List ℕ) (v : Meaning) → finite.get m k ≡ Some v → credits_in (finite.remove m k) + credit_in v ≡ credits_in m
credits_in-remove m k v found =
    let a = credits_in-insert (finite.remove m k) k v in
    let none : weight (finite.get (finite.remove m k) k) ≡ 0 = ap weight (finite.get-remove nat_list_cmp_total m k k ∙ ap (λ b. cond b None (finite.get m k)) (tied k)) in
    let all : credits_in (finite.insert (finite.remove m k) k v) ≡ credits_in m = ap credits_in (insert-remove m k v found) in
    omega (arith, a, none, all)

pub credits_in-empty : (m : Values) → m ≡ finite.empty → credits_in m ≡ 0
credits_in-empty m is = none (finite.entries m) (sym (finite.len-entries m) ∙ (ap finite.len is ∙ finite.len-empty R Meaning))
  where
    none : (es : Entries) → length es ≡ 0 → held_by es ≡ 0
    none [] e = refl
    none (x ∷ es) e = absurd (omega (arith, e))

pub at_most_one : (v : Meaning) → credit_in v ≤ 1
at_most_one v = by v.place
  where
    by : (o : Place) → credit_of o ≤ 1
    by own = omega arith
    by (shared r) = omega arith
    by (fixed l) = omega arith

-- each value holds one credit at most
pub credits_in_few : (m : Values) → credits_in m ≤ finite.len m
credits_in_few m = let l : finite.len m ≡ length (finite.entries m) = finite.len-entries m in let f = few (finite.entries m) in omega (arith, l, f)
  where
    few : (es : Entries) → held_by es ≤ length es
    few [] = omega arith
    few (e ∷ es) = let t = few es in let a = at_most_one e.1 in omega (arith, t, a)

-- the texts: their names are in the same order
below_texts : (x : List ℕ) (es : Entries) → below_all R x (map text_entry es) ≡ below_all R x es
below_texts x [] = refl
below_texts x (e ∷ es) = ap (λ b. is_lt (R x e.0) && b) (below_texts x es)

sorted_texts : (es : Entries) → finite.is_sorted R (map text_entry es) ≡ finite.is_sorted R es
sorted_texts [] = refl
sorted_texts (e ∷ es) = λ i. below_texts e.0 es i && sorted_texts es i

sorted : (m : Values) → T (finite.is_sorted R (map text_entry (finite.entries m)))
sorted m = subst T (sym (sorted_texts (finite.entries m))) (finite.entries_sorted m)

option_map-cond : {A B : Type 0} (f : A → B) (b : Bool) (x : A) (rest : Option A) → option_map f (cond b (Some x) rest) ≡ cond b (Some (f x)) (option_map f rest)
option_map-cond f true x rest = refl
option_map-cond f false x rest = refl

find-texts : (q : List ℕ) (es : Entries) → finite.find R q (map text_entry es) ≡ option_map (λ (v : Meaning). v.text) (finds q es)
find-texts q [] = refl
find-texts q (e ∷ es) = ap (cond (eq_by_cmp R q e.0) (Some e.1.text)) (find-texts q es) ∙ sym (option_map-cond (λ (v : Meaning). v.text) (eq_by_cmp R q e.0) e.1 (finds q es))

pub get-texts : (m : Values) (q : List ℕ) → finite.get (texts_of m) q ≡ option_map (λ (v : Meaning). v.text) (finite.get m q)
get-texts m q = finite.get-from_sorted R (map text_entry (finite.entries m)) q (sorted m) ∙ (find-texts q (finite.entries m) ∙ ap (option_map (λ (v : Meaning). v.text)) (sym (finite.get-entries m q)))

is_some-map : (o : Option Meaning) → is_some (option_map (λ (v : Meaning). v.text) o) ≡ is_some o
is_some-map None = refl
is_some-map (Some v) = refl

pub has-texts : (m : Values) (q : List ℕ) → finite.contains_key (texts_of m) q ≡ finite.contains_key m q
has-texts m q = ap is_some (get-texts m q) ∙ is_some-map (finite.get m q)

pub len-texts : (m : Values) → finite.len (texts_of m) ≡ finite.len m
len-texts m = finite.len-entries (texts_of m) ∙ (ap length (finite.entries-from_sorted R (map text_entry (finite.entries m)) (sorted m)) ∙ (length-map (finite.entries m) text_entry ∙ sym (finite.len-entries m)))

pub texts-insert : (m : Values) (k : List ℕ) (v : Meaning) → texts_of (finite.insert m k v) ≡ finite.insert (texts_of m) k v.text
texts-insert m k v =
    finite.same_map nat_list_cmp_total (finite.slice_cmp-IsAntisymmetric finite.nat_cmp-IsAntisymmetric) _ _ (λ q.
    get-texts (finite.insert m k v) q ∙ (ap (option_map (λ (w : Meaning). w.text)) (finite.get-insert nat_list_cmp_total m k v q) ∙ (option_map-cond (λ (w : Meaning). w.text) (eq_by_cmp R q k) v (finite.get m q)
    ∙ sym (finite.get-insert nat_list_cmp_total (texts_of m) k v.text q ∙ ap (cond (eq_by_cmp R q k) (Some v.text)) (get-texts m q)))))

option_map-none : {A B : Type 0} (f : A → B) (b : Bool) (rest : Option A) → option_map f (cond b None rest) ≡ cond b None (option_map f rest)
option_map-none f true rest = refl
option_map-none f false rest = refl

pub texts-remove : (m : Values) (k : List ℕ) → texts_of (finite.remove m k) ≡ finite.remove (texts_of m) k
texts-remove m k =
    finite.same_map nat_list_cmp_total (finite.slice_cmp-IsAntisymmetric finite.nat_cmp-IsAntisymmetric) _ _ (λ q.
    get-texts (finite.remove m k) q ∙ (ap (option_map (λ (w : Meaning). w.text)) (finite.get-remove nat_list_cmp_total m k q) ∙ (option_map-none (λ (w : Meaning). w.text) (eq_by_cmp R q k) (finite.get m q)
    ∙ sym (finite.get-remove nat_list_cmp_total (texts_of m) k q ∙ ap (cond (eq_by_cmp R q k) None) (get-texts m q)))))
