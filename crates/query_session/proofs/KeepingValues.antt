-- Values that are kept under names beside a pass, and put back where memory is wanting.
use Rattle.std.proofs.Common.{◌≡◌, refl, sym, ap, ◌∙◌, subst, Bool, true, false, cond, ◌||◌, nat_lt, ◌+◌, ◌-◌, ◌≤◌, List, [], ◌∷◌, ◌++◌, ℕ, map, take, reverse, All, Option, Some, None, string_bytes, String, arith, Result, Ok, Err, OnOk}
use Rattle.std.specs.Option.{option_map}
use Rattle.std.specs.declared.alloc.Global.{Global}
use Rattle.std.specs.Cmp.Lexicographic.{nat_list_cmp_total}
use Rattle.std.specs.FinMap as finite
use Rattle.std.proofs.lemmas.Bool.{lt-ltb}
use Rattle.std.proofs.lemmas.List.{reverse-append}
use Rattle.std.proofs.lemmas.List.Elements.{All-head, All-tail, All-weaker}
use Rattle.slot_model.specs.declared.event.Event.{Event}
use Rattle.slot_table.specs.Owners.{PassSeen}
use Rattle.slot_accounts.specs.Account.{Did, Keeps, sum_of}
use Rattle.slot_accounts.specs.Counts.{publishes, retains}
use Rattle.slot_accounts.proofs.Doing.{Did-nothing, Did-then, sum_of-append}
use Rattle.str_value.specs.Meaning.{Meaning, OfHeap}
use Rattle.str_value.proofs.Crumbing.{of_heap-moves}
use Rattle.query_session.specs.declared.kept.Kept.{Kept}
use Rattle.query_session.specs.Keeping.{kept, under, given_back, names_of}
use Rattle.query_session.specs.Kept.{AreKept, EachOfHeap, pairs_of}
use Rattle.query_session.specs.State.{State, has_room}
use Rattle.query_session.specs.Values.{Values, AllOfHeap, IsSound, texts_of, credits_in, credit_in, weight}
use Rattle.query_session.proofs.States.{alike, one-name}
use Rattle.query_session.proofs.Maps.{same-values, insert-back}
use Rattle.query_session.proofs.Sums.{has-texts, len-texts, texts-insert, credits_in-insert}
use Rattle.query_session.proofs.Storing.{all-insert, moved-sound}
use Rattle.query_session.proofs.Keeping.{len-kept}

-- the texts of what is kept
abbrev pub texts_kept : List (Option (List ℕ) × Meaning) → List (Option (List ℕ) × List ℕ)
texts_kept pairs = map (λ (p : Option (List ℕ) × Meaning). (p.0, p.1.text)) pairs

texts-under : (m : Values) (o : Option (List ℕ)) (v : Meaning) → texts_of (under m o v) ≡ under (texts_of m) o v.text
texts-under m None v = refl
texts-under m (Some name) v = texts-insert m name v

pub texts-kept : (m : Values) (pairs : List (Option (List ℕ) × Meaning)) → texts_of (kept m pairs) ≡ kept (texts_of m) (texts_kept pairs)
texts-kept m [] = refl
texts-kept m (p ∷ ps) = texts-kept (under m p.0 p.1) ps ∙ ap (λ (s : State). kept s (texts_kept ps)) (texts-under m p.0 p.1)

pub names-texts : (pairs : List (Option (List ℕ) × Meaning)) → names_of (texts_kept pairs) ≡ names_of pairs
names-texts [] = refl
names-texts (p ∷ ps) = ap (λ (os : List (Option (List ℕ))). p.0 ∷ os) (names-texts ps)

-- the values belong to the heap after others of the heap are kept
all-under : (p : PassSeen) (m : Values) (o : Option (List ℕ)) (v : Meaning) → AllOfHeap p m → OfHeap p v.place → AllOfHeap p (under m o v)
all-under p m None v all of = all
all-under p m (Some name) v all of = all-insert p m name v all of

pub all-kept : (p : PassSeen) (m : Values) (pairs : List (Option (List ℕ) × Meaning)) → AllOfHeap p m → All (λ (x : Option (List ℕ) × Meaning). OfHeap p x.1.place) pairs
    → AllOfHeap p (kept m pairs)
all-kept p m [] all each = all
all-kept p m (x ∷ xs) all each =
    all-kept p (under m x.0 x.1) xs (all-under p m x.0 x.1 all (All-head (λ (x : Option (List ℕ) × Meaning). OfHeap p x.1.place) x xs each))
    (All-tail (λ (x : Option (List ℕ) × Meaning). OfHeap p x.1.place) x xs each)

-- the last of a list is the first of its reverse
pub popped : {A : Type 0} (xs ys : List A) (x : A) → xs ≡ ys ++ x ∷ [] → reverse xs ≡ x ∷ reverse ys
popped xs ys x is = ap reverse is ∙ reverse-append ys (x ∷ [])

pub none-popped : {A : Type 0} (xs ys : List A) (n : ℕ) → n ≡ 0 → xs ≡ ys ++ [] → ys ≡ take (n - 1) xs → reverse xs ≡ []
none-popped xs ys n none items rest = ap reverse (items ∙ ap (λ l. l ++ []) (rest ∙ ap (λ k. take (k - 1) xs) none))

pub on_ok : {X E : Type 0} {A B : Type 0} (r : Result X E) → (A → B) → OnOk r A → OnOk r B
on_ok (Ok x) f a = f a
on_ok (Err e) f a = tt

-- the first of the values has no name, or has one
pub kept-none : (m : Values) (k : Kept) (ks : List Kept) → k.name ≡ None → kept m (pairs_of (k ∷ ks)) ≡ kept m (pairs_of ks)
kept-none m k ks none = ap (λ (o : Option (String Global)). kept (under m (option_map string_bytes o) k.value) (pairs_of ks)) none

pub kept-some : (m : Values) (k : Kept) (ks : List Kept) (name : String Global) → k.name ≡ Some name
    → kept m (pairs_of (k ∷ ks)) ≡ kept (finite.insert m (string_bytes name) k.value) (pairs_of ks)
kept-some m k ks name some = ap (λ (o : Option (String Global)). kept (under m (option_map string_bytes o) k.value) (pairs_of ks)) some

pub each-moves : (p q : PassSeen) (ks : List Kept) → q.heap ≡ p.heap → EachOfHeap p ks → EachOfHeap q ks
each-moves p q ks same each =
    All-weaker (λ (k : Kept). OfHeap p k.value.place) (λ (k : Kept). OfHeap q k.value.place) (λ k of. of_heap-moves p q k.value.place same of) ks each

pub each-rest : (p : PassSeen) (k : Kept) (ks : List Kept) → EachOfHeap p (k ∷ ks) → EachOfHeap p ks
each-rest p k ks each = All-tail (λ (k : Kept). OfHeap p k.value.place) k ks each

pub each-first : (p : PassSeen) (k : Kept) (ks : List Kept) → EachOfHeap p (k ∷ ks) → OfHeap p k.value.place
each-first p k ks each = All-head (λ (k : Kept). OfHeap p k.value.place) k ks each

-- where there is room for what follows as well, there is for the first name
room_of : (b : Bool) (n l : ℕ) → l ≡ cond b n (n + 1) → l ≤ 256 → (b || nat_lt n 256) ≡ true
room_of true n l is few = refl
room_of false n l is few = lt-ltb n 256 (omega (arith, is, few))

pub room-first : (m : Values) (name : List ℕ) (v : Meaning) (pairs : List (Option (List ℕ) × Meaning)) → finite.len (kept (finite.insert m name v) pairs) ≤ 256
    → has_room (texts_of m) name ≡ true
room-first m name v pairs few =
    (λ i. has-texts m name i || nat_lt (len-texts m i) 256)
    ∙ room_of (finite.contains_key m name) (finite.len m) (finite.len (finite.insert m name v)) (finite.len-insert nat_list_cmp_total m name v)
    (let l = len-kept (finite.insert m name v) pairs in omega (arith, l, few))

-- the first value was entered
pub entered-sound : (m n : Values) (name : List ℕ) (v : Meaning) (pairs : List (Option (List ℕ) × Meaning)) (p : PassSeen) → IsSound m p → OfHeap p v.place
    → finite.len (kept (finite.insert m name v) pairs) ≤ 256 → n ≡ finite.insert m name v → IsSound n p
entered-sound m n name v pairs p s of few now = subst (λ (x : Values). IsSound x p) (sym now) record {
  heap = all-insert p m name v s.heap of;
  few = let l = len-kept (finite.insert m name v) pairs in omega (arith, l, few);
}

-- what was entered is taken back
get-same : (m : Values) (name : List ℕ) (o : Option Meaning) → finite.get m name ≡ o → (v : Meaning) → given_back (finite.insert m name v) name o ≡ m
get-same m name None none v =
    same-values _ _ (λ q. finite.get-remove nat_list_cmp_total (finite.insert m name v) name q
    ∙ (ap (cond (alike q name) None) (finite.get-insert nat_list_cmp_total m name v q) ∙ by q (alike q name) refl))
  where
    by : (q : List ℕ) (b : Bool) → alike q name ≡ b → cond b None (cond b (Some v) (finite.get m q)) ≡ finite.get m q
    by q true e = sym (ap (finite.get m) (one-name q name e) ∙ none)
    by q false e = refl
get-same m name (Some w) some v = insert-back m name v w some

pub taken-back : (m between n : Values) (name : List ℕ) (v : Meaning) (old : Option Meaning) → between ≡ finite.insert m name v → old ≡ finite.get m name
    → n ≡ given_back between name old → n ≡ m
taken-back m between n name v old entered before now =
    now ∙ (ap (λ (x : Values). given_back x name old) entered ∙ get-same m name old (sym before) v)

-- nothing was kept
pub none-kept : (m : Values) (p : PassSeen) (ks : List Kept) → ks ≡ [] → IsSound m p → AreKept ks m p m p
none-kept m p ks none sound = subst (λ (x : List Kept). AreKept x m p m p) (sym none) record {
  now = refl;
  events = [];
  published = refl;
  retained = refl;
  did = Did-nothing p;
  credits = omega arith;
  sound = sound;
}

-- a value with no name was given up, and the others were kept
pub rest-kept : (k : Kept) (ks all : List Kept) (m n : Values) (p r q : PassSeen) → all ≡ k ∷ ks → k.name ≡ None
    → ((es : List Event) × (sum_of publishes es ≡ 0) × (sum_of retains es ≡ 0) × Did es p r)
    → Keeps p (credit_in k.value) r 0 → AreKept ks m r n q → AreKept all m p n q
rest-kept k ks all m n p r q is none gone keeps rest = subst (λ (x : List Kept). AreKept x m p n q) (sym is) record {
  now = rest.now ∙ sym (kept-none m k ks none);
  events = gone.0 ++ rest.events;
  published = let a = gone.1 in let b = rest.published in omega (arith, sum_of-append publishes gone.0 rest.events, a, b);
  retained = let a = gone.2 in let b = rest.retained in omega (arith, sum_of-append retains gone.0 rest.events, a, b);
  did = Did-then gone.3 rest.did;
  credits = let a = rest.credits in omega (arith, a, keeps);
  sound = rest.sound;
}

-- a value was entered, the others were kept, and the one that it replaced was given up
pub named-kept : (k : Kept) (ks all : List Kept) (name : String Global) (old : Option Meaning) (m between n : Values) (p r q : PassSeen) → all ≡ k ∷ ks
    → k.name ≡ Some name → between ≡ finite.insert m (string_bytes name) k.value → old ≡ finite.get m (string_bytes name) → AreKept ks between p n r
    → ((es : List Event) × (sum_of publishes es ≡ 0) × (sum_of retains es ≡ 0) × Did es r q) → Keeps r (weight old) q 0 → AreKept all m p n q
named-kept k ks all name old m between n p r q is some entered before rest gone keeps = subst (λ (x : List Kept). AreKept x m p n q) (sym is) record {
  now = rest.now ∙ (ap (λ (x : Values). kept x (pairs_of ks)) entered ∙ sym (kept-some m k ks name some));
  events = rest.events ++ gone.0;
  published = let a = gone.1 in let b = rest.published in omega (arith, sum_of-append publishes rest.events gone.0, a, b);
  retained = let a = gone.2 in let b = rest.retained in omega (arith, sum_of-append retains rest.events gone.0, a, b);
  did = Did-then rest.did gone.3;
  credits =
      let a = credits_in-insert m (string_bytes name) k.value in
      let b : credits_in between ≡ credits_in (finite.insert m (string_bytes name) k.value) = ap credits_in entered in
      let c : weight old ≡ weight (finite.get m (string_bytes name)) = ap weight before in
      let d = rest.credits in omega (arith, a, b, c, d, keeps);
  sound = moved-sound n r q rest.sound gone.3.one_heap;
}
