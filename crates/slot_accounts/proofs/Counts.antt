-- What own events say of the whole history: their order, and how many there are.
use Rattle.std.proofs.Common.{◌≡◌, ◌≢◌, ℕ, zero, suc, ◌+◌, ◌-◌, ◌*◌, ◌<◌, ◌≤◌, ◌⊎◌, inl, inr, ⊎_elim, ltb, eqb, cond, true, false, List, [], ◌∷◌, ◌++◌, length, get_or, take, drop, refl, sym, ap, ◌∙◌, subst, arith, length-append, lt-ltb, eq-eqb, ne_eqb}
use Rattle.std.proofs.lemmas.List.{take-append-drop, drop-drop}
use native.Mathlib.Decide.{ℕ_discrete}
use mathlib.Core.Logic.{dite}
use mathlib.Core.List.{IsPrefix}
use Rattle.slot_model.specs.declared.event.Event.{Event}
use Rattle.slot_table.specs.Numbers.{times, one, total, AllOnce}
use Rattle.slot_table.specs.Owners.{PassSeen}
use Rattle.slot_accounts.specs.Account.{IsAt, Stand, Scattered, Did, Made, sum_of, takes, gives}
use Rattle.slot_accounts.specs.Counts.{Follows, published, data_in}
use Rattle.slot_accounts.proofs.Doing.{is_at-below, is_at-grows, prefix_trans, sum_of-append}
use Rattle.slot_accounts.proofs.Whole.{drop-here}
use Rattle.std.proofs.Common.{append_assoc}

module _ {E : Type 0} where
  pub follows_none : (xs : List E) → Follows [] xs
  follows_none [] = tt
  follows_none (x ∷ xs) = tt

  pub follows_skip : (es ys xs : List E) → Follows es xs → Follows es (ys ++ xs)
  follows_skip es [] xs f = f
  follows_skip [] (y ∷ ys) xs f = tt
  follows_skip (e ∷ es) (y ∷ ys) xs f = inr (follows_skip (e ∷ es) ys xs f)

  pub follows_both : (ys es xs : List E) → Follows es xs → Follows (ys ++ es) (ys ++ xs)
  follows_both [] es xs f = f
  follows_both (y ∷ ys) es xs f = inl (refl, follows_both ys es xs f)

-- events in order are a subsequence of the front
pub stand_follows : (h : List Event) (n : ℕ) (ms : List ℕ) (es : List Event) → Stand h n ms es → Follows es (drop n h)
stand_follows h n [] [] s = follows_none (drop n h)
stand_follows h n [] (e ∷ es) s = absurd s
stand_follows h n (m ∷ ms) [] s = absurd s
stand_follows h n (m ∷ ms) (e ∷ es) s =
    let low = s.0 in let d : ℕ = m - n in let sum : n + d ≡ m = omega (arith, low) in
    let parts : take d (drop n h) ++ (e ∷ drop (suc m) h) ≡ drop n h = ap (λ l. take d (drop n h) ++ l) (sym (drop-drop d n h ∙ (ap (λ (k : ℕ). drop k h) sum ∙ drop-here h m e s.1))) ∙ take-append-drop d (drop n h) in
    subst (Follows (e ∷ es)) parts (follows_skip (e ∷ es) (take d (drop n h)) (e ∷ drop (suc m) h) (inl (refl, stand_follows h (suc m) ms es s.2)))

-- so are the words that they publish
pub published_follows : (es xs : List Event) → Follows es xs → Follows (published es) (published xs)
published_follows [] xs f = follows_none (published xs)
published_follows (e ∷ es) [] f = absurd f
published_follows (e ∷ es) (x ∷ xs) f = ⊎_elim
    (λ (t : (e ≡ x) × Follows es xs). subst (λ (z : Event). Follows (published (e ∷ es)) (data_in z ++ published xs)) t.0 (follows_both (data_in e) (published es) (published xs) (published_follows es xs t.1)))
    (λ (t : Follows (e ∷ es) xs). follows_skip (published (e ∷ es)) (data_in x) (published xs) (published_follows (e ∷ es) xs t))
    f

pub published_in_order : {es : List Event} {p q : PassSeen} → Did es p q → Follows (published es) (published (drop (length p.front) q.front))
published_in_order {es} {p} {q} did =
    published_follows es (drop (length p.front) q.front) (stand_follows q.front (length p.front) did.new_places es did.stand)

pub scattered : (h : List Event) (n k : ℕ) (ms : List ℕ) (es : List Event) → n ≤ k → Stand h k ms es → Scattered h n ms es
scattered h n k [] [] l s = tt
scattered h n k [] (e ∷ es) l s = absurd s
scattered h n k (m ∷ ms) [] l s = absurd s
scattered h n k (m ∷ ms) (e ∷ es) l s = let a = s.0 in (omega (arith, a, l), s.1, scattered h n (suc m) ms es (omega (arith, a, l)) s.2)

pub scattered-grows : (f g : List Event) (n k : ℕ) (ms : List ℕ) (es : List Event) → n ≤ k → IsPrefix f g → Scattered f k ms es → Scattered g n ms es
scattered-grows f g n k [] [] l p s = tt
scattered-grows f g n k [] (e ∷ es) l p s = absurd s
scattered-grows f g n k (m ∷ ms) [] l p s = absurd s
scattered-grows f g n k (m ∷ ms) (e ∷ es) l p s = (let a = s.0 in omega (arith, a, l), is_at-grows f g m e s.1 p, scattered-grows f g n k ms es l p s.2)

pub scattered-append : (h : List Event) (n : ℕ) (ms ks : List ℕ) (es ds : List Event) → Scattered h n ms es → Scattered h n ks ds → Scattered h n (ms ++ ks) (es ++ ds)
scattered-append h n [] ks [] ds s t = t
scattered-append h n [] ks (e ∷ es) ds s t = absurd s
scattered-append h n (m ∷ ms) ks [] ds s t = absurd s
scattered-append h n (m ∷ ms) ks (e ∷ es) ds s t = (s.0, s.1, scattered-append h n ms ks es ds s.2 t)

-- sums over the numbers below L
abbrev below : (ℕ → ℕ) → ℕ → ℕ
below f zero = 0
below f (suc l) = f l + below f l

below-same : (f g : ℕ → ℕ) (l : ℕ) → ((x : ℕ) → x < l → f x ≡ g x) → below f l ≡ below g l
below-same f g zero h = refl
below-same f g (suc l) h = let a = h l (omega arith) in let b = below-same f g l (λ x p. h x (omega (arith, p))) in omega (arith, a, b)

below-plus : (f g : ℕ → ℕ) (l : ℕ) → below (λ x. f x + g x) l ≡ below f l + below g l
below-plus f g zero = omega arith
below-plus f g (suc l) = let b = below-plus f g l in omega (arith, b)

-- f at m alone
abbrev pick : (ℕ → ℕ) → ℕ → ℕ → ℕ
pick f m x = cond (eqb x m) (f x) 0

pick-here : (f : ℕ → ℕ) (m : ℕ) → pick f m m ≡ f m
pick-here f m = ap (λ b. cond b (f m) 0) (eq-eqb m m refl)

pick-else : (f : ℕ → ℕ) (m x : ℕ) → x ≢ m → pick f m x ≡ 0
pick-else f m x ne = ap (λ b. cond b (f x) 0) (ne_eqb x m ne)

below-pick_none : (f : ℕ → ℕ) (m l : ℕ) → l ≤ m → below (pick f m) l ≡ 0
below-pick_none f m zero h = refl
below-pick_none f m (suc l) h = let a = pick-else f m l (λ e. let z : l ≡ m = e in omega arith) in let b = below-pick_none f m l (omega arith) in omega (arith, a, b)

below-pick : (f : ℕ → ℕ) (m l : ℕ) → m < l → below (pick f m) l ≡ f m
below-pick f m zero h = absurd (omega arith)
below-pick f m (suc l) h = dite (ℕ_discrete l m)
    (λ (e : l ≡ m). let a : pick f m l ≡ f m = ap (pick f m) e ∙ pick-here f m in let b = below-pick_none f m l (omega (arith, e)) in omega (arith, a, b))
    (λ (ne : ¬ (l ≡ m)). let a = pick-else f m l ne in let b = below-pick f m l (let z : l ≢ m = ne in omega (arith, z, h)) in omega (arith, a, b))

abbrev all_below : ℕ → List ℕ → Type 0
all_below l [] = Unit {0}
all_below l (m ∷ ms) = (m < l) × all_below l ms

exchanged : (f : ℕ → ℕ) (ms : List ℕ) (l : ℕ) → all_below l ms → below (λ x. total (λ m. pick f m x) ms) l ≡ sum_of f ms
exchanged f [] l h = none l
  where
    none : (n : ℕ) → below (λ x. 0) n ≡ 0
    none zero = refl
    none (suc n) = let t = none n in omega (arith, t)
exchanged f (m ∷ ms) l h = let a = below-plus (pick f m) (λ x. total (λ y. pick f y x) ms) l in let b = below-pick f m l h.0 in let c = exchanged f ms l h.1 in omega (arith, a, b, c)

picked_none : (f : ℕ → ℕ) (x : ℕ) (ms : List ℕ) → times x ms ≡ 0 → total (λ m. pick f m x) ms ≡ 0
picked_none f x [] h = refl
picked_none f x (m ∷ ms) h = dite (ℕ_discrete x m)
    (λ (e : x ≡ m). absurd (let a : one x m ≡ 1 = ap (λ b. cond b 1 0) (eq-eqb x m e) in omega (arith, a, h)))
    (λ (ne : ¬ (x ≡ m)). let a = pick-else f m x ne in let b = picked_none f x ms (omega (arith, h)) in omega (arith, a, b))

picked_once : (f : ℕ → ℕ) (x : ℕ) (ms : List ℕ) → times x ms ≡ 1 → total (λ m. pick f m x) ms ≡ f x
picked_once f x [] h = absurd (omega (arith, h))
picked_once f x (m ∷ ms) h = dite (ℕ_discrete x m)
    (λ (e : x ≡ m). let a : one x m ≡ 1 = ap (λ b. cond b 1 0) (eq-eqb x m e) in let b = picked_none f x ms (omega (arith, a, h)) in let c : pick f m x ≡ f x = ap (λ b. cond b (f x) 0) (eq-eqb x m e) in omega (arith, b, c))
    (λ (ne : ¬ (x ≡ m)). let a = pick-else f m x ne in let z : one x m ≡ 0 = ap (λ b. cond b 1 0) (ne_eqb x m ne) in let b = picked_once f x ms (omega (arith, z, h)) in omega (arith, a, b))

-- the weight of event x
abbrev weighed : (Event → ℕ) → List Event → ℕ → ℕ
weighed w [] x = 0
weighed w (e ∷ es) zero = w e
weighed w (e ∷ es) (suc x) = weighed w es x

weighed-at : (w : Event → ℕ) (a : List Event) (e : Event) (b : List Event) → weighed w (a ++ e ∷ b) (length a) ≡ w e
weighed-at w [] e b = refl
weighed-at w (x ∷ a) e b = weighed-at w a e b

weighed-is_at : (w : Event → ℕ) (h : List Event) (m : ℕ) (e : Event) → IsAt h m e → weighed w h m ≡ w e
weighed-is_at w h m e a = ap (weighed w h) (sym a.1) ∙ (ap (λ l. weighed w l (length a.0)) (sym a.2.1 ∙ append_assoc a.0 (e ∷ []) a.2.0) ∙ weighed-at w a.0 e a.2.0)

-- below, from the front of a list
below-front : (f : ℕ → ℕ) (l : ℕ) → below f (suc l) ≡ f 0 + below (λ x. f (suc x)) l
below-front f zero = omega arith
below-front f (suc l) = let t = below-front f l in omega (arith, t)

weighed-all : (w : Event → ℕ) (h : List Event) → below (weighed w h) (length h) ≡ sum_of w h
weighed-all w [] = refl
weighed-all w (e ∷ es) = let a = below-front (weighed w (e ∷ es)) (length es) in let t = weighed-all w es in omega (arith, a, t)

scattered_below : (h : List Event) (n : ℕ) (ms : List ℕ) (es : List Event) → Scattered h n ms es → all_below (length h) ms
scattered_below h n [] [] s = tt
scattered_below h n [] (e ∷ es) s = absurd s
scattered_below h n (m ∷ ms) [] s = absurd s
scattered_below h n (m ∷ ms) (e ∷ es) s = (is_at-below h m e s.1, scattered_below h n ms es s.2)

scattered_sum : (w : Event → ℕ) (h : List Event) (n : ℕ) (ms : List ℕ) (es : List Event) → Scattered h n ms es → sum_of (weighed w h) ms ≡ sum_of w es
scattered_sum w h n [] [] s = refl
scattered_sum w h n [] (e ∷ es) s = absurd s
scattered_sum w h n (m ∷ ms) [] s = absurd s
scattered_sum w h n (m ∷ ms) (e ∷ es) s = let a = weighed-is_at w h m e s.1 in let t = scattered_sum w h n ms es s.2 in omega (arith, a, t)

-- where each number stands once among the places, any count over the own events is that over the history
pub counted : (w : Event → ℕ) (h : List Event) (n : ℕ) (ms : List ℕ) (es : List Event) → Scattered h n ms es → AllOnce (length h) ms → sum_of w es ≡ sum_of w h
counted w h n ms es s once =
    let f : ℕ → ℕ = weighed w h in
    let each = below-same (λ x. total (λ m. pick f m x) ms) f (length h) (λ x p. picked_once f x ms (once x ∙ ap (λ b. cond b 1 0) (lt-ltb x (length h) p))) in
    sym (scattered_sum w h n ms es s) ∙ (sym (exchanged f ms (length h) (scattered_below h n ms es s)) ∙ (each ∙ weighed-all w h))

pub Made-of : {es : List Event} {p q : PassSeen} → Did es p q → Made es p q
Made-of {es} {p} {q} d = record { one_heap = d.one_heap; grown = d.grown; new_places = d.new_places; places_are = d.places_are; stand = scattered q.front (length p.front) (length p.front) d.new_places es (omega arith) d.stand; slots_are = d.slots_are }

pub Made-then : {es ds : List Event} {p q r : PassSeen} → Made es p q → Made ds q r → Made (es ++ ds) p r
Made-then {es} {ds} {p} {q} {r} a b =
    let longer : length p.front ≤ length q.front = Rattle.slot_accounts.proofs.Doing.prefix_length p.front q.front a.grown in record {
      one_heap = b.one_heap ∙ a.one_heap;
      grown = prefix_trans p.front q.front r.front a.grown b.grown;
      new_places = a.new_places ++ b.new_places;
      places_are = b.places_are ∙ (ap (λ l. l ++ b.new_places) a.places_are ∙ append_assoc p.places a.new_places b.new_places);
      stand = scattered-append r.front (length p.front) a.new_places b.new_places es ds (scattered-grows q.front r.front (length p.front) (length p.front) a.new_places es (omega arith) b.grown a.stand)
          (scattered-grows r.front r.front (length p.front) (length q.front) b.new_places ds longer (Rattle.slot_accounts.proofs.Doing.prefix_all r.front) b.stand);
      slots_are = let x = a.slots_are in let y = b.slots_are in let t = sum_of-append takes es ds in let g = sum_of-append gives es ds in omega (arith, x, y, t, g);
    }

-- The new places are those at the exit that were not there at the entry, where no place of the entry is past its front
none_early : (h : List Event) (k : ℕ) (ms : List ℕ) (es : List Event) → Stand h k ms es → (n : ℕ) → 1 ≤ times n ms → k ≤ n
none_early h k ms es s n has = dite (native.Mathlib.Decide.dec_le k n) (λ (t : k ≤ n). t) (λ (f : ¬ (k ≤ n)). absurd (let z = Rattle.slot_accounts.proofs.Whole.none_before h k ms es s n (Rattle.std.proofs.Common.lt_of_not-le f) in let y : ⊥ = omega (arith, z, has) in y))

pub new_are : (es : List Event) (p q : PassSeen) (did : Did es p q) → ((n : ℕ) → length p.front ≤ n → times n p.places ≡ 0) → (n : ℕ) → 1 ≤ times n did.new_places → (1 ≤ times n q.places) × (times n p.places ≡ 0)
new_are es p q did old n has =
    let split : times n q.places ≡ times n p.places + times n did.new_places = ap (times n) did.places_are ∙ Rattle.slot_table.proofs.Sums.times_append n p.places did.new_places in
    (omega (arith, split, has), old n (none_early q.front (length p.front) did.new_places es did.stand n has))

pub new_only : (es : List Event) (p q : PassSeen) (did : Did es p q) (n : ℕ) → 1 ≤ times n q.places → times n p.places ≡ 0 → 1 ≤ times n did.new_places
new_only es p q did n has none_was =
    let split : times n q.places ≡ times n p.places + times n did.new_places = ap (times n) did.places_are ∙ Rattle.slot_table.proofs.Sums.times_append n p.places did.new_places in omega (arith, split, has, none_was)

-- the first own event is before all others
pub first_is : (e : Event) (es : List Event) (p q : PassSeen) (did : Did (e ∷ es) p q) → (m : ℕ) × (length p.front ≤ m) × IsAt q.front m e × ((n : ℕ) → 1 ≤ times n did.new_places → m ≤ n)
first_is e es p q did = by_list did.new_places did.stand
  where
    by_list : (ms : List ℕ) → Stand q.front (length p.front) ms (e ∷ es) → (m : ℕ) × (length p.front ≤ m) × IsAt q.front m e × ((n : ℕ) → 1 ≤ times n ms → m ≤ n)
    by_list [] s = absurd s
    by_list (m ∷ ms) s = (
      m,
      s.0,
      s.1,
      λ n has. dite (native.Mathlib.Decide.dec_le m n) (λ (t : m ≤ n). t) (λ (f : ¬ (m ≤ n)). absurd (
          let early : n < m = Rattle.std.proofs.Common.lt_of_not-le f in let z = Rattle.slot_accounts.proofs.Whole.none_before q.front (suc m) ms es s.2 n (omega (arith, early)) in
          let y : one n m ≡ 0 = ap (λ b. cond b 1 0) (ne_eqb n m (λ q. let w : n ≡ m = q in omega (arith, w, early))) in let bad : ⊥ = omega (arith, z, y, has) in bad)),
    )

-- loads so far stand in order in the front of the session's pass: any step keeps them, and a step that begins with a Publish adds it
pub loads_kept : (ls es : List Event) (ks : List ℕ) (p q : PassSeen) → Stand p.front 0 ks ls → Made es p q → Stand q.front 0 ks ls
loads_kept ls es ks p q s m = Rattle.slot_accounts.proofs.Doing.stand-grows p.front q.front 0 ks ls s m.grown

pub loads_more : (ls es : List Event) (e : Event) (ks : List ℕ) (p q : PassSeen) → Stand p.front 0 ks ls → (did : Did (e ∷ es) p q) → (m : ℕ) × Stand q.front 0 (ks ++ m ∷ []) (ls ++ e ∷ [])
loads_more ls es e ks p q s did = let f = first_is e es p q did in
    (f.0, Rattle.slot_accounts.proofs.Doing.stand-then p.front q.front 0 ks (f.0 ∷ []) ls (e ∷ []) s did.grown (f.1, f.2, is_at-below q.front f.0 e f.2))
