-- Lists that are spread among workers, and put together again.
use Rattle.std.proofs.Common.{◌≡◌, ◌≢◌, ℕ, zero, suc, ◌+◌, ◌%◌, ◌==◌, ◌<◌, ⊎_elim, eqb, Bool, true, false, Option, None, Some, MatchOption, IfSome, IfNone, Result, Ok, IfOk, option_to_list, vec_len, List, [], ◌∷◌, ◌++◌, length, set, get_or, All, refl, sym, ap, ◌∙◌, subst, arith, length-set, length-append, append-nil, append_assoc}
use Rattle.std.specs.Global.{Vec}
use Rattle.std.specs.List.{AllByRecursion}
use Rattle.std.proofs.lemmas.List.Elements.{All-from_recursion}
use Rattle.std.proofs.lemmas.Bool.{eq-eqb}
use Rattle.std.proofs.lemmas.Bool.Decides.{eqb_tells}
use Rattle.std.proofs.lemmas.Nat.{mod_below}
use Rattle.text_spec.specs.declared.out_of_memory.OutOfMemory.{OutOfMemory}
use Rattle.batch_workers.specs.declared.jobs.Task.{Task}
use Rattle.batch_workers.specs.declared.jobs.Finished.{Finished}
use Rattle.batch_workers.specs.Sharing.{IsWorkedOn, EachWorkedOn, bundle, taken, column, IsSpread, Pushed, WorkedBundles}

module _ {X : Type 0} where
  abbrev tail_of : List X → List X
  tail_of [] = []
  tail_of (z ∷ zs) = zs

  pub snoc-same : (xs ys : List X) (x y : X) → xs ++ x ∷ [] ≡ ys ++ y ∷ [] → (xs ≡ ys) × (x ≡ y)
  snoc-same [] [] x y e = (refl, ap (λ l. get_or l 0 x) e)
  snoc-same [] (b ∷ ys) x y e = let l : 1 ≡ suc (length (ys ++ y ∷ [])) = ap length e in absurd (omega (arith, l, length-append ys (y ∷ [])))
  snoc-same (a ∷ xs) [] x y e = let l : suc (length (xs ++ x ∷ [])) ≡ 1 = ap length e in absurd (omega (arith, l, length-append xs (x ∷ [])))
  snoc-same (a ∷ xs) (b ∷ ys) x y e =
      let rest = snoc-same xs ys x y (ap tail_of e) in
      let first : a ≡ b = ap (λ l. get_or l 0 a) e in
      ((λ i. first i ∷ rest.0 i), rest.1)

  -- a list that isn't empty, from its end
  pub from_end : (xs : List X) (n : ℕ) → length xs ≡ suc n → (ys : List X) × (y : X) × (length ys ≡ n) × (xs ≡ ys ++ y ∷ [])
  from_end [] n e = absurd (omega (arith, e))
  from_end (x ∷ []) n e = ([], x, omega (arith, e), refl)
  from_end (x ∷ z ∷ zs) zero e = absurd (omega (arith, e))
  from_end (x ∷ z ∷ zs) (suc n) e = let t = from_end (z ∷ zs) n (omega (arith, e)) in (x ∷ t.0, t.1, omega (arith, t.2), ap (λ l. x ∷ l) t.3)

  taken-append : (b : Bool) (y : X) (xs ys : List X) → taken b y (xs ++ ys) ≡ taken b y xs ++ ys
  taken-append true y xs ys = refl
  taken-append false y xs ys = refl

  column-snoc : (w k n : ℕ) (xs : List X) (x : X) → column w k n (xs ++ x ∷ []) ≡ column w k n xs ++ taken ((n + length xs) % w == k) x []
  column-snoc w k n [] x = let e : n ≡ n + 0 = omega arith in ap (λ m. taken (m % w == k) x []) e
  column-snoc w k n (y ∷ ys) x =
      let e : suc n + length ys ≡ n + suc (length ys) = omega arith in
      ap (taken (n % w == k) y) (column-snoc w k (suc n) ys x ∙ ap (λ m. column w k (suc n) ys ++ taken (m % w == k) x []) e)
      ∙ taken-append (n % w == k) y (column w k (suc n) ys) (taken ((n + suc (length ys)) % w == k) x [])

  column-first : (w k : ℕ) (xs : List X) (x : X) → column w k 0 (xs ++ x ∷ []) ≡ column w k 0 xs ++ taken (length xs % w == k) x []
  column-first w k xs x = let e : 0 + length xs ≡ length xs = omega arith in column-snoc w k 0 xs x ∙ ap (λ m. column w k 0 xs ++ taken (m % w == k) x []) e

  -- one more element goes to one worker
  pub column-here : (w k : ℕ) (xs : List X) (x : X) → length xs % w ≡ k → column w k 0 (xs ++ x ∷ []) ≡ column w k 0 xs ++ x ∷ []
  column-here w k xs x here = column-first w k xs x ∙ ap (λ b. column w k 0 xs ++ taken b x []) (eq-eqb (length xs % w) k here)

  pub column-elsewhere : (w k : ℕ) (xs : List X) (x : X) → k ≢ length xs % w → column w k 0 (xs ++ x ∷ []) ≡ column w k 0 xs
  column-elsewhere w k xs x other =
      column-first w k xs x
      ∙ ⊎_elim (λ (t : (eqb (length xs % w) k ≡ true) × (length xs % w ≡ k)). absurd (other (sym t.1)))
      (λ (t : (eqb (length xs % w) k ≡ false) × (length xs % w ≢ k)). ap (λ b. column w k 0 xs ++ taken b x []) t.0 ∙ append-nil (column w k 0 xs))
      (eqb_tells (length xs % w) k)

  -- what holds of each element holds of those of a worker
  taken-all : (P : X → Type 0) (b : Bool) (x : X) (xs : List X) → P x → AllByRecursion P xs → AllByRecursion P (taken b x xs)
  taken-all P true x xs p ps = (p, ps)
  taken-all P false x xs p ps = ps

  pub column-all : (P : X → Type 0) (w k n : ℕ) (xs : List X) → AllByRecursion P xs → AllByRecursion P (column w k n xs)
  column-all P w k n [] all = tt
  column-all P w k n (x ∷ xs) all = taken-all P (n % w == k) x (column w k (suc n) xs) all.0 (column-all P w k (suc n) xs all.1)

  bundles-all : (P : X → Type 0) (bs : List (Vec X)) → ((k : ℕ) → k < length bs → AllByRecursion P (bundle bs k)) → AllByRecursion (λ (b : Vec X). All P b.items) bs
  bundles-all P [] h = tt
  bundles-all P (b ∷ bs) h = (All-from_recursion P b.items (h 0 (omega arith)), bundles-all P bs (λ k less. h (suc k) (omega (arith, less))))

  pub spread-all : (P : X → Type 0) (xs : List X) (bs : List (Vec X)) → AllByRecursion P xs → IsSpread xs bs → All (λ (b : Vec X). All P b.items) bs
  spread-all P xs bs all spread =
      All-from_recursion (λ (b : Vec X). All P b.items) bs (bundles-all P bs (λ k less. subst (AllByRecursion P) (sym (spread k less)) (column-all P (length bs) k 0 xs all)))

  -- one vector is replaced by another
  pub bundle-set_here : (bs : List (Vec X)) (i : ℕ) (v : Vec X) → i < length bs → bundle (set bs i v) i ≡ v.items
  bundle-set_here [] i v h = absurd (omega (arith, h))
  bundle-set_here (b ∷ bs) zero v h = refl
  bundle-set_here (b ∷ bs) (suc i) v h = bundle-set_here bs i v (omega (arith, h))

  pub bundle-set_else : (bs : List (Vec X)) (i k : ℕ) (v : Vec X) → k ≢ i → bundle (set bs i v) k ≡ bundle bs k
  bundle-set_else [] i k v h = refl
  bundle-set_else (b ∷ bs) zero zero v h = absurd (h refl)
  bundle-set_else (b ∷ bs) zero (suc k) v h = refl
  bundle-set_else (b ∷ bs) (suc i) zero v h = refl
  bundle-set_else (b ∷ bs) (suc i) (suc k) v h = bundle-set_else bs i k v (λ e. h (ap suc e))

  pub bundle-get : (bs : List (Vec X)) (i : ℕ) (d : Vec X) → i < length bs → bundle bs i ≡ (get_or bs i d).items
  bundle-get [] i d h = absurd (omega (arith, h))
  bundle-get (b ∷ bs) zero d h = refl
  bundle-get (b ∷ bs) (suc i) d h = bundle-get bs i d (omega (arith, h))

module _ {X : Type 0} where
  nil : (xs : List X) → length xs ≡ 0 → xs ≡ []
  nil [] e = refl
  nil (x ∷ xs) e = absurd (omega (arith, e))

  -- an element is pushed to a vector, or popped from it
  pub pushed : (bs : List (Vec X)) (i : ℕ) (v w : Vec X) (x : X) → i < length bs → v ≡ get_or bs i v → w.items ≡ v.items ++ x ∷ [] → Pushed bs i x (set bs i w)
  pushed bs i v w x less is more = record {
    len = length-set bs i w;
    here = bundle-set_here bs i w less ∙ (more ∙ ap (λ l. l ++ x ∷ []) (ap (λ (y : Vec X). y.items) is ∙ sym (bundle-get bs i v less)));
    elsewhere = λ k ne. bundle-set_else bs i k w ne;
  }

  pub popped : (bs : List (Vec X)) (i : ℕ) (v w : Vec X) (r : Option X) → i < length bs → v ≡ get_or bs i v → v.items ≡ w.items ++ option_to_list r → IfSome r (λ x. Pushed (set bs i w) i x bs)
  popped bs i v w None less is fewer = tt
  popped bs i v w (Some x) less is fewer = record {
    len = sym (length-set bs i w);
    here = bundle-get bs i v less ∙ (ap (λ (y : Vec X). y.items) (sym is) ∙ (fewer ∙ ap (λ l. l ++ x ∷ []) (sym (bundle-set_here bs i w less))));
    elsewhere = λ k ne. sym (bundle-set_else bs i k w ne);
  }

  pub popped-none : (bs : List (Vec X)) (i : ℕ) (v w : Vec X) (r : Option X) → i < length bs → v ≡ get_or bs i v
      → MatchOption r ((vec_len v ≡ 0) × (vec_len w ≡ 0)) (λ _. vec_len w + 1 ≡ vec_len v) → IfNone r (bundle bs i ≡ [])
  popped-none bs i v w None less is fewer = bundle-get bs i v less ∙ (ap (λ (y : Vec X). y.items) (sym is) ∙ nil v.items (sym v.ok.0 ∙ fewer.0))
  popped-none bs i v w (Some x) less is fewer = tt

  -- no bundle has an element yet
  pub spread-nothing : (bs : List (Vec X)) → AllByRecursion (λ (b : Vec X). b.items ≡ []) bs → IsSpread [] bs
  spread-nothing bs all k less = empty bs k all
    where
      empty : (bs : List (Vec X)) (k : ℕ) → AllByRecursion (λ (b : Vec X). b.items ≡ []) bs → bundle bs k ≡ []
      empty [] k all = refl
      empty (b ∷ bs) zero all = all.0
      empty (b ∷ bs) (suc k) all = empty bs k all.1

  -- one more element is spread
  spread-more : (xs : List X) (bs cs : List (Vec X)) (x : X) → IsSpread xs bs → Pushed bs (length xs % length bs) x cs → IsSpread (xs ++ x ∷ []) cs
  spread-more xs bs cs x spread push k less =
      subst (λ w. bundle cs k ≡ column w k 0 (xs ++ x ∷ [])) (sym push.len)
      (⊎_elim (λ (here : (eqb k (length xs % length bs) ≡ true) × (k ≡ length xs % length bs)).
      subst (λ j. bundle cs j ≡ column (length bs) j 0 (xs ++ x ∷ [])) (sym here.1)
      (push.here ∙ (ap (λ l. l ++ x ∷ []) (spread (length xs % length bs) (omega (arith, less, push.len, here.1))) ∙ sym (column-here (length bs) (length xs % length bs) xs x refl))))
      (λ (else : (eqb k (length xs % length bs) ≡ false) × (k ≢ length xs % length bs)).
      push.elsewhere k else.1 ∙ (spread k (omega (arith, less, push.len)) ∙ sym (column-elsewhere (length bs) k xs x else.1)))
      (eqb_tells k (length xs % length bs)))

  -- while a list is spread: `left` are the elements that no worker has yet
  pub record Spreading (all left : List X) (n w : ℕ) (bs : List (Vec X)) : Type 0 where
    pub so_far : List X
    pub parts : so_far ++ left ≡ all
    pub count : length so_far ≡ n
    pub len : length bs ≡ w
    pub spread : IsSpread so_far bs

  pub spreading_none : (all left : List X) (w : ℕ) (bs : List (Vec X)) → left ≡ all → length bs ≡ w → IsSpread [] bs → Spreading all left 0 w bs
  spreading_none all left w bs same len spread = record { so_far = []; parts = same; count = refl; len = len; spread = spread }

  pub spreading_more : (all was left : List X) (n w : ℕ) (bs cs : List (Vec X)) (x : X) → Spreading all was n w bs → was ≡ x ∷ left → Pushed bs (n % w) x cs → Spreading all left (n + 1) w cs
  spreading_more all was left n w bs cs x s first push = record {
    so_far = s.so_far ++ x ∷ [];
    parts = append_assoc s.so_far (x ∷ []) left ∙ (ap (λ l. s.so_far ++ l) (sym first) ∙ s.parts);
    count = omega (arith, s.count, length-append s.so_far (x ∷ []));
    len = push.len ∙ s.len;
    spread = spread-more s.so_far bs cs x s.spread (subst (λ i. Pushed bs i x cs) (λ i. sym s.count i % sym s.len i) push);
  }

  pub spreading_end : (all left : List X) (n w : ℕ) (bs : List (Vec X)) → Spreading all left n w bs → length left ≡ 0 → (length bs ≡ w) × IsSpread all bs
  spreading_end all [] n w bs s none = (s.len, subst (λ l. IsSpread l bs) (sym (append-nil s.so_far) ∙ s.parts) s.spread)
  spreading_end all (x ∷ left) n w bs s none = absurd (omega (arith, none))

-- ---- while a worker does its jobs

pub record WorkingOn (spent : ℕ) (all left : List Task) (fs : List Finished) : Type 0 where
  pub done : List Task
  pub parts : done ++ left ≡ all
  pub worked : EachWorkedOn spent done fs

worked-snoc : (spent : ℕ) (ts : List Task) (fs : List Finished) (t : Task) (f : Finished) → EachWorkedOn spent ts fs → IsWorkedOn spent t f → EachWorkedOn spent (ts ++ t ∷ []) (fs ++ f ∷ [])
worked-snoc spent [] [] t f all is = (is, tt)
worked-snoc spent [] (g ∷ fs) t f all is = absurd all
worked-snoc spent (u ∷ ts) [] t f all is = absurd all
worked-snoc spent (u ∷ ts) (g ∷ fs) t f all is = (all.0, worked-snoc spent ts fs t f all.1 is)

pub working_none : (spent : ℕ) (all left : List Task) (fs : List Finished) → left ≡ all → fs ≡ [] → WorkingOn spent all left fs
working_none spent all left fs same none = record { done = []; parts = same; worked = subst (EachWorkedOn spent []) (sym none) tt }

pub working_more : (spent : ℕ) (all was left : List Task) (fs gs : List Finished) (t : Task) (f : Finished) → WorkingOn spent all was fs → was ≡ t ∷ left → IsWorkedOn spent t f → gs ≡ fs ++ f ∷ [] → WorkingOn spent all left gs
working_more spent all was left fs gs t f w first is more = record {
  done = w.done ++ t ∷ [];
  parts = append_assoc w.done (t ∷ []) left ∙ (ap (λ l. w.done ++ l) (sym first) ∙ w.parts);
  worked = subst (EachWorkedOn spent (w.done ++ t ∷ [])) (sym more) (worked-snoc spent w.done fs t f w.worked is);
}

pub working_end : (spent : ℕ) (all left : List Task) (fs : List Finished) → WorkingOn spent all left fs → length left ≡ 0 → EachWorkedOn spent all fs
working_end spent all [] fs w none = subst (λ l. EachWorkedOn spent l fs) (sym (append-nil w.done) ∙ w.parts) w.worked
working_end spent all (t ∷ left) fs w none = absurd (omega (arith, none))

-- ---- while the workers' lists are taken out of their results

abbrev pub EachResult : ℕ → List (Vec Task) → List (Result (Vec Finished) OutOfMemory) → Type 0
EachResult spent [] [] = Unit {0}
EachResult spent [] (r ∷ rs) = ⊥
EachResult spent (b ∷ bs) [] = ⊥
EachResult spent (b ∷ bs) (r ∷ rs) = IfOk r (λ (v : Vec Finished). EachWorkedOn spent b.items v.items) × EachResult spent bs rs

each_result : (spent : ℕ) (bs : List (Vec Task)) (rs : List (Result (Vec Finished) OutOfMemory)) → length rs ≡ length bs
    → ((i : ℕ) (d : Result (Vec Finished) OutOfMemory) (e : Vec Task) → i < length bs → IfOk (get_or rs i d) (λ (v : Vec Finished). EachWorkedOn spent (get_or bs i e).items v.items)) → EachResult spent bs rs
each_result spent [] [] l h = tt
each_result spent [] (r ∷ rs) l h = absurd (omega (arith, l))
each_result spent (b ∷ bs) [] l h = absurd (omega (arith, l))
each_result spent (b ∷ bs) (r ∷ rs) l h = (h 0 r b (omega arith), each_result spent bs rs (omega (arith, l)) (λ i d e less. h (suc i) d e (omega (arith, less))))

pub record Taking (spent : ℕ) (all : List (Vec Task)) (fs : List (Vec Finished)) (left : List (Result (Vec Finished) OutOfMemory)) : Type 0 where
  pub before : List (Vec Task)
  pub after : List (Vec Task)
  pub parts : before ++ after ≡ all
  pub worked : WorkedBundles spent before fs
  pub to_come : EachResult spent after left

bundles-snoc : (spent : ℕ) (bs : List (Vec Task)) (fs : List (Vec Finished)) (b : Vec Task) (f : Vec Finished) → WorkedBundles spent bs fs → EachWorkedOn spent b.items f.items → WorkedBundles spent (bs ++ b ∷ []) (fs ++ f ∷ [])
bundles-snoc spent [] [] b f all is = (is, tt)
bundles-snoc spent [] (g ∷ fs) b f all is = absurd all
bundles-snoc spent (c ∷ bs) [] b f all is = absurd all
bundles-snoc spent (c ∷ bs) (g ∷ fs) b f all is = (all.0, bundles-snoc spent bs fs b f all.1 is)

pub taking_none : (spent : ℕ) (all : List (Vec Task)) (fs : List (Vec Finished)) (rs left : List (Result (Vec Finished) OutOfMemory)) → left ≡ rs → fs ≡ [] → length rs ≡ length all
    → ((i : ℕ) (d : Result (Vec Finished) OutOfMemory) (e : Vec Task) → i < length all → IfOk (get_or rs i d) (λ (v : Vec Finished). EachWorkedOn spent (get_or all i e).items v.items)) → Taking spent all fs left
taking_none spent all fs rs left same none l h = record {
  before = [];
  after = all;
  parts = refl;
  worked = subst (WorkedBundles spent []) (sym none) tt;
  to_come = subst (EachResult spent all) (sym same) (each_result spent all rs l h);
}

pub taking_more : (spent : ℕ) (all : List (Vec Task)) (fs gs : List (Vec Finished)) (was left : List (Result (Vec Finished) OutOfMemory)) (r : Result (Vec Finished) OutOfMemory) (f : Vec Finished)
    → Taking spent all fs was → was ≡ r ∷ left → r ≡ Ok f → gs ≡ fs ++ f ∷ [] → Taking spent all gs left
taking_more spent all fs gs was left r f t first ok more = go t.after t.parts (subst (EachResult spent t.after) first t.to_come)
  where
    go : (after : List (Vec Task)) → t.before ++ after ≡ all → EachResult spent after (r ∷ left) → Taking spent all gs left
    go [] parts come = absurd come
    go (b ∷ bs) parts come = record {
      before = t.before ++ b ∷ [];
      after = bs;
      parts = append_assoc t.before (b ∷ []) bs ∙ parts;
      worked = subst (WorkedBundles spent (t.before ++ b ∷ [])) (sym more)
          (bundles-snoc spent t.before fs b f t.worked (subst (λ x. IfOk x (λ (v : Vec Finished). EachWorkedOn spent b.items v.items)) ok come.0));
      to_come = come.1;
    }

pub taking_end : (spent : ℕ) (all : List (Vec Task)) (fs : List (Vec Finished)) (left : List (Result (Vec Finished) OutOfMemory)) → Taking spent all fs left → length left ≡ 0 → WorkedBundles spent all fs
taking_end spent all fs (r ∷ left) t none = absurd (omega (arith, none))
taking_end spent all fs [] t none = go t.after t.parts t.to_come
  where
    go : (after : List (Vec Task)) → t.before ++ after ≡ all → EachResult spent after [] → WorkedBundles spent all fs
    go [] parts come = subst (λ l. WorkedBundles spent l fs) (sym (append-nil t.before) ∙ parts) t.worked
    go (b ∷ bs) parts come = absurd come

-- ---- the jobs of all workers were done: what they left, in the order of the jobs

by_bundle : (spent : ℕ) (ts : List (Vec Task)) (fs : List (Vec Finished)) → WorkedBundles spent ts fs → (k : ℕ) → EachWorkedOn spent (bundle ts k) (bundle fs k)
by_bundle spent [] [] w k = tt
by_bundle spent [] (f ∷ fs) w k = absurd w
by_bundle spent (t ∷ ts) [] w k = absurd w
by_bundle spent (t ∷ ts) (f ∷ fs) w zero = w.0
by_bundle spent (t ∷ ts) (f ∷ fs) w (suc k) = by_bundle spent ts fs w.1 k

pub as_many : (spent : ℕ) (ts : List (Vec Task)) (fs : List (Vec Finished)) → WorkedBundles spent ts fs → length fs ≡ length ts
as_many spent [] [] w = refl
as_many spent [] (f ∷ fs) w = absurd w
as_many spent (t ∷ ts) [] w = absurd w
as_many spent (t ∷ ts) (f ∷ fs) w = ap suc (as_many spent ts fs w.1)

pub worked-length : (spent : ℕ) (ts : List Task) (fs : List Finished) → EachWorkedOn spent ts fs → length fs ≡ length ts
worked-length spent [] [] w = refl
worked-length spent [] (f ∷ fs) w = absurd w
worked-length spent (t ∷ ts) [] w = absurd w
worked-length spent (t ∷ ts) (f ∷ fs) w = ap suc (worked-length spent ts fs w.1)

-- a list without its first element where one was taken
abbrev left_of : Bool → List Finished → List Finished
left_of true [] = []
left_of true (f ∷ fs) = fs
left_of false fs = fs

left-worked : (spent : ℕ) (b : Bool) (t : Task) (ts : List Task) (fs : List Finished) → EachWorkedOn spent (taken b t ts) fs → EachWorkedOn spent ts (left_of b fs)
left-worked spent true t ts [] w = absurd w
left-worked spent true t ts (f ∷ fs) w = w.1
left-worked spent false t ts fs w = w

first-worked : (spent : ℕ) (t : Task) (ts : List Task) (fs : List Finished) → EachWorkedOn spent (t ∷ ts) fs → (f : Finished) × IsWorkedOn spent t f × (fs ≡ f ∷ left_of true fs)
first-worked spent t ts [] w = absurd w
first-worked spent t ts (f ∷ fs) w = (f, w.0, refl)

none-worked : (spent : ℕ) (fs : List Finished) → EachWorkedOn spent [] fs → fs ≡ []
none-worked spent [] w = refl
none-worked spent (f ∷ fs) w = absurd w

woven : (spent w n : ℕ) (ts : List Task) (c : ℕ → List Finished) → 0 < w → ((k : ℕ) → k < w → EachWorkedOn spent (column w k n ts) (c k))
    → (fs : List Finished) × EachWorkedOn spent ts fs × ((k : ℕ) → k < w → c k ≡ column w k n fs)
woven spent w n [] c some h = ([], tt, λ k less. none-worked spent (c k) (h k less))
woven spent w n (t ∷ ts) c some h =
    let m : ℕ = n % w in
    let first = first-worked spent t (column w m (suc n) ts) (c m)
    (subst (λ b. EachWorkedOn spent (taken b t (column w m (suc n) ts)) (c m)) (eq-eqb (n % w) m refl) (h m (mod_below n w some))) in
    let rest = woven spent w (suc n) ts (λ k. left_of (n % w == k) (c k)) some (λ k less. left-worked spent (n % w == k) t (column w k (suc n) ts) (c k) (h k less)) in (
      first.0 ∷ rest.0,
      (first.1, rest.1),
      λ k less.
          ⊎_elim (λ (e : (eqb (n % w) k ≡ true) × (n % w ≡ k)).
          subst (λ (j : ℕ). c j ≡ first.0 ∷ left_of true (c j)) e.1 first.2
          ∙ (ap (λ b. first.0 ∷ left_of b (c k)) (sym e.0) ∙ (ap (λ l. first.0 ∷ l) (rest.2 k less) ∙ ap (λ b. taken b first.0 (column w k (suc n) rest.0)) (sym e.0))))
          (λ (e : (eqb (n % w) k ≡ false) × (n % w ≢ k)).
          ap (λ b. left_of b (c k)) (sym e.0) ∙ (rest.2 k less ∙ ap (λ b. taken b first.0 (column w k (suc n) rest.0)) (sym e.0)))
          (eqb_tells (n % w) k),
    )

pub in_job_order : (spent : ℕ) (ts : List Task) (bs : List (Vec Task)) (cs : List (Vec Finished)) → 0 < length bs → IsSpread ts bs → WorkedBundles spent bs cs
    → (fs : List Finished) × EachWorkedOn spent ts fs × IsSpread fs cs
in_job_order spent ts bs cs some spread worked =
    let many = as_many spent bs cs worked in
    let all = woven spent (length bs) 0 ts (bundle cs) some (λ k less. subst (λ l. EachWorkedOn spent l (bundle cs k)) (spread k less) (by_bundle spent bs cs worked k)) in
    (all.0, all.1, λ k less. subst (λ w. bundle cs k ≡ column w k 0 all.0) (sym many) (all.2 k (omega (arith, less, many))))
