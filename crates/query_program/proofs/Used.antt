-- What the history of a run says of its lines, once the heap is closed.
use Rattle.std.proofs.Common.{◌≡◌, refl, sym, ap, ◌∙◌, subst, arith, false, true≢false, IfSome, IsSome, IsErrOf, Result, ℕ, zero, suc, ◌+◌, ◌<◌, ◌≤◌, List, [], ◌∷◌, ◌++◌, length, take, length-append, Option, Some, None, ◌⊎◌, inl, inr, ⊎_elim}
use Rattle.std.proofs.lemmas.List.{length-take}
use Rattle.std.specs.Ordering.{nat_cmp}
use Rattle.std.specs.Cmp.Lexicographic.{slice_cmp}
use Rattle.std.specs.FinMap as finite
use Rattle.std.specs.Io.KnownBytes.{Appends}
use mathlib.Core.List.{IsPrefix}
use Rattle.outside.specs.Bytes.{AppendsPrefix}
use Rattle.slot_model.specs.declared.event.Event.{Event}
use Rattle.slot_model.specs.declared.layout.Layout.{Layout}
use Rattle.slot_model.specs.History.{Legal}
use Rattle.slot_table.specs.Numbers.{AllOnce, down_from}
use Rattle.slot_table.specs.Owners.{PassSeen, HeapId, Ended, Ends, opened_pass}
use Rattle.slot_accounts.specs.Account.{Did, Made, sum_of}
use Rattle.slot_accounts.specs.Counts.{IsComplete, Follows, published, retains, installs}
use Rattle.slot_accounts.proofs.Beside.{Made-nothing}
use Rattle.slot_accounts.proofs.Complete.{complete_before, counted_whole}
use Rattle.slot_accounts.proofs.Counts.{Made-of, Made-then, stand_follows, published_follows}
use Rattle.slot_accounts.proofs.Doing.{stand-grows, sum_of-append}
use Rattle.slot_accounts.proofs.Slots.{legal_front}
use Rattle.str_value.specs.Meaning.{Meaning}
use Rattle.query_session.specs.State.{State}
use Rattle.query_session.specs.Values.{Values, texts_of}
use Rattle.query_session.proofs.Sums.{credits_in-empty}
use Rattle.query_program.specs.Answers.{empty, answer, answers_from, state_after}
use Rattle.query_program.specs.Lines.{lines}
use Rattle.query_program.specs.Default.{default_layout}
use Rattle.query_program.specs.Runs.{LinesDone, SomeDone, RunDone}
use Rattle.query_program.specs.Use.{HasUse, FitsHeap, WereAnswered, UsesStorage, IsSharing, IsAsking, AllAccepted, loaded, new_texts, asked}
use Rattle.query_program.specs.Use as use_
use Rattle.query_program.specs.declared.limits.TheConstants.{CAPACITY_WORDS, SLOTS, CREDITS}
use Rattle.query_program.specs.declared.stop.Stop.{Stop}
use Rattle.query_program.specs.declared.stop.Stop.TheVariants.{OutOfMemory}
use Rattle.query_program.proofs.Doing.{lines-split, lines-made}
use Rattle.query_program.proofs.Folds.{answers_from-append}
use Rattle.query_program.proofs.Kept.{texts-empty, whole-unless}
use Rattle.query_program.proofs.Stepping.{DoneUnless}
use Rattle.query_program.proofs.Slots.{Before, showing}
use Rattle.query_program.proofs.Loading.{loads-lines}
use Rattle.query_program.proofs.Sharing.{InSlot, AllInSlots, shares-lines}
use Rattle.query_program.proofs.Asking.{asks-lines}

-- the opening pass of a run's heap
pub record IsOpening (p : PassSeen) : Type 0 where
  pub front : p.front ≡ []
  pub places : p.places ≡ []
  pub free : length p.free ≡ SLOTS
  pub credits : 257 < p.credits
  pub words : p.heap.layout.capacity_words ≡ CAPACITY_WORDS

before-all : (p : PassSeen) (m : Values) → m ≡ finite.empty → Before p m p 0
before-all p m none = record {
  events = [];
  made = Made-nothing p;
  few = omega arith;
  keeps = let z = credits_in-empty m none in omega (arith, z);
  names = let l : finite.len m ≡ 0 = ap finite.len none ∙ finite.len-empty (slice_cmp nat_cmp) Meaning in omega (arith, l);
}

-- lines from no values on, after which other events came, and the pass is whole then
pub has-use : (fits : List ℕ → List ℕ → Type 0) (layout : Layout) (ls : List (List ℕ)) (p q r : PassSeen) (m n : Values) (ds : List Event) → IsOpening p → m ≡ finite.empty
    → LinesDone ls m p n q → Made ds q r → IsComplete r → Legal fits layout r.front → FitsHeap ls → HasUse ls r.front
has-use fits layout ls p q r m n ds fresh none done end complete legal within =
    let s : texts_of m ≡ empty = texts-empty m none in
    let all = lines-made ls m n p q done in
    let before : IsComplete q = complete_before fresh.places all.1 end complete in
    let lawful : Legal fits layout q.front = legal_front fits layout q.front r.front end.grown legal in
    let e : new_texts (texts_of m) ls ≡ new_texts empty ls = ap (λ (x : State). new_texts x ls) s in
    let free = fresh.free in
    let shows = showing fits layout ls p m n p q 0 fresh.places (before-all p m none) done before lawful (omega (arith, e, free, within)) fresh.credits in
    let l = loads-lines p.heap ls m n p q [] fresh.words shows ([], [], omega arith, refl) in
    let count : (w : Event → ℕ) (es : List Event) → Made es p q → sum_of w es + sum_of w ds ≡ sum_of w r.front =
    λ w es made. sym (sum_of-append w es ds) ∙ counted_whole w fresh.places (Made-then made end) complete in
    record {
      loads_are_published = subst (λ (x : List (List ℕ)). Follows x (published r.front)) (l.3 ∙ ap (λ (x : State). loaded x ls) s)
          (published_follows l.1 r.front (stand_follows r.front 0 l.0 l.1 (stand-grows q.front r.front 0 l.0 l.1 l.2 end.grown)));
      copies_share = λ is.
          let t = shares-lines p.heap ls m n p q fresh.words shows (subst (λ (x : State). AllAccepted IsSharing x ls) (sym s) is) (no-values m none) in
          let c = count retains t.0 t.1 in
          let few = t.2 in
          let f : use_.shared (texts_of m) ls ≡ use_.shared empty ls = ap (λ (x : State). use_.shared x ls) s in omega (arith, c, few, f);
      questions_install = λ is.
          let t = asks-lines p.heap ls (λ x. false) m n p q fresh.words shows (subst (λ (x : State). AllAccepted IsAsking x ls) (sym s) is) (λ name h. absurd (true≢false (sym h))) in
          let c = count installs t.0 t.1 in
          let few = t.2 in
          let f : asked (texts_of m) ls ≡ asked empty ls = ap (λ (x : State). asked x ls) s in omega (arith, c, few, f);
    }
  where
    no-values : (m : Values) → m ≡ finite.empty → AllInSlots m
    no-values m none name = subst (λ (o : Option Meaning). IfSome o (λ (w : Meaning). InSlot w.place)) (sym (ap (λ (x : Values). finite.get x name) none ∙ finite.get-empty (slice_cmp nat_cmp) name)) tt

-- ---- which lines were answered

module _ {X : Type 0} where
  abbrev first_or : X → List X → X
  first_or d [] = d
  first_or d (x ∷ xs) = x

  abbrev rest_of : List X → List X
  rest_of [] = []
  rest_of (x ∷ xs) = xs

  either : (ls bs rs qs : List X) → ls ++ rs ≡ bs ++ qs → IsPrefix ls bs ⊎ ((x : X) × (xs : List X) × (ls ≡ bs ++ x ∷ xs))
  either [] bs rs qs is = inl (bs, refl)
  either (a ∷ ls) [] rs qs is = inr (a, ls, refl)
  either (a ∷ ls) (b ∷ bs) rs qs is =
      let same : a ≡ b = ap (first_or a) is in
      ⊎_elim (λ (t : IsPrefix ls bs). inl (t.0, λ i. same i ∷ t.1 i))
      (λ (t : (x : X) × (xs : List X) × (ls ≡ bs ++ x ∷ xs)). inr (t.0, t.1, λ i. same i ∷ t.2 i))
      (either ls bs rs qs (ap rest_of is))

answer-some : (s : State) (line : List ℕ) → 1 ≤ length (answer s line)
unfolding answer
answer-some s line = let t = length-append (Rattle.query_lines.specs.Replies.reply_text (Rattle.query_program.specs.Answers.answer_line s line).0) (10 ∷ []) in omega (arith, t)

-- so many bytes were written at most
written-few : (old new : Option (List ℕ)) (xs ys : List ℕ) → IsSome old → AppendsPrefix old new xs → Appends old new ys → length ys ≤ length xs
written-few None new xs ys told a b = absurd (true≢false (sym told))
written-few (Some o) None xs ys told a b = absurd b
written-few (Some o) (Some n) xs ys told a b =
    let e : length (o ++ take a.0 xs) ≡ length (o ++ ys) = ap length (sym a.1 ∙ b) in
    let f : length (o ++ take a.0 xs) ≡ length o + length (take a.0 xs) = length-append o (take a.0 xs) in
    let g : length (o ++ ys) ≡ length o + length ys = length-append o ys in
    let h = length-take a.0 xs in omega (arith, e, f, g, h)

-- lines whose answers were all written are among those that were done
among-done : (some answered all : List (List ℕ)) (old new : Option (List ℕ)) (rest : List ℕ) → IsPrefix some all → IsPrefix answered all → IsSome old
    → AppendsPrefix old new (answers_from empty some) → Appends old new (answers_from empty answered ++ rest) → IsPrefix answered some
among-done some answered all old new rest p q told begun written = ⊎_elim
    (λ (t : IsPrefix answered some). t)
    (λ (t : (x : List ℕ) × (xs : List (List ℕ)) × (answered ≡ some ++ x ∷ xs)).
    let few = written-few old new (answers_from empty some) (answers_from empty answered ++ rest) told begun written in
    let e : length (answers_from empty answered ++ rest) ≡ length (answers_from empty answered) + length rest = length-append (answers_from empty answered) rest in
    let s = state_after empty some in
    let f : answers_from empty answered ≡ answers_from empty some ++ answers_from s (t.0 ∷ t.1) = ap (answers_from empty) t.2 ∙ answers_from-append empty some (t.0 ∷ t.1) in
    let g : length (answers_from empty answered) ≡ length (answers_from empty some) + length (answers_from s (t.0 ∷ t.1)) =
    ap length f ∙ length-append (answers_from empty some) (answers_from s (t.0 ∷ t.1)) in
    let more = answer-some s t.0 in
    let h : length (answers_from s (t.0 ∷ t.1)) ≡ length (answer s t.0) + length (answers_from (Rattle.query_program.specs.Answers.state_after_line s t.0) t.1) =
    length-append (answer s t.0) (answers_from (Rattle.query_program.specs.Answers.state_after_line s t.0) t.1) in
    absurd (let z : ⊥ = omega (arith, few, e, g, more, h) in z))
    (either answered some q.0 p.0 (q.1 ∙ sym p.1))

-- ---- a whole run

pub uses-storage : (fits : List ℕ → List ℕ → Type 0) (layout : Layout) (input : List ℕ) (p q : PassSeen) (old new : Option (List ℕ)) → IsOpening p → RunDone input p q old new
    → IsComplete q → Legal fits layout q.front → UsesStorage input old new q.front
uses-storage fits layout input p q old new fresh run complete legal answered w within =
    let ran = run.ran in
    let begun = subst (λ (s : State). AppendsPrefix old new (answers_from s ran.some)) (texts-empty finite.empty refl) ran.begun in
    let part = among-done ran.some answered (lines input) old new w.rest ran.first w.first w.told begun w.written in
    let halves = lines-split answered part.0 finite.empty run.values p run.between
    (subst (λ (ls : List (List ℕ)). LinesDone ls finite.empty p run.values run.between) (sym part.1) ran.done) in
    let later = lines-made part.0 halves.0 run.values halves.1 run.between halves.3 in
    has-use fits layout answered p halves.1 q finite.empty halves.0 (later.0 ++ run.events) fresh refl halves.2 (Made-then later.1 (Made-of run.end)) complete legal within

-- ---- at the end of the top call

-- the pass of a heap that was just opened
pub opening-pass : (p w : PassSeen) (z : HeapId) → p ≡ w → w ≡ opened_pass z (down_from z.layout.slots) → z.layout ≡ default_layout → IsOpening p
opening-pass p w z is new layout =
    let same : p ≡ opened_pass z (down_from z.layout.slots) = is ∙ new in
    record {
      front = ap (λ (x : PassSeen). x.front) same;
      places = ap (λ (x : PassSeen). x.places) same;
      free = ap (λ (x : PassSeen). length x.free) same ∙ (length-down_from z.layout.slots ∙ ap (λ (k : Layout). k.slots) layout);
      credits =
          let a : p.credits ≡ z.layout.credits = ap (λ (x : PassSeen). x.credits) same in
          let b : z.layout.credits ≡ CREDITS = ap (λ (k : Layout). k.credits) layout in omega (arith, a, b);
      words = ap (λ (x : PassSeen). x.heap.layout.capacity_words) same ∙ ap (λ (k : Layout). k.capacity_words) layout;
    }
  where
    length-down_from : (n : ℕ) → length (down_from n) ≡ n
    length-down_from zero = refl
    length-down_from (suc n) = let t = length-down_from n in omega (arith, t)

-- a session that has just begun did the lines, and was ended
pub run-done : (left : Option (List ℕ)) (result : Result (Unit {0}) Stop) (m n : Values) (start p q r w : PassSeen) (old new : Option (List ℕ)) → m ≡ finite.empty → p ≡ start
    → (IsErrOf result OutOfMemory → ⊥) → IfSome left (λ input. DoneUnless result (SomeDone (lines input) m p n q old new)) → ((es : List Event) × Did es q r) → w ≡ r
    → IfSome left (λ input. RunDone input start w old new)
run-done None result m n start p q r w old new none is found done end last = tt
run-done (Some input) result m n start p q r w old new none is found done end last = record {
  values = n;
  between = q;
  ran = subst (λ (x : Values). SomeDone (lines input) x start n q old new) none (subst (λ (x : PassSeen). SomeDone (lines input) m x n q old new) is (whole-unless found done));
  events = end.0;
  end = subst (Did end.0 q) (sym last) end.1;
}

-- and its heap was closed
pub used-closed : (fits : List ℕ → List ℕ → Type 0) (left : Option (List ℕ)) (p w : PassSeen) (whole : Option PassSeen) (e : Ended) (old new : Option (List ℕ)) → IsOpening p → whole ≡ Some w
    → IfSome left (λ input. IfSome whole (λ x. RunDone input p x old new)) → e.history ≡ w.front → e.places ≡ w.places → Ends fits e
    → IfSome left (λ input. UsesStorage input old new e.history)
used-closed fits None p w whole e old new fresh there done history places ends = tt
used-closed fits (Some input) p w whole e old new fresh there done history places ends =
    let run : RunDone input p w old new = subst (λ (o : Option PassSeen). IfSome o (λ x. RunDone input p x old new)) there done in
    let complete : IsComplete w = subst (λ (ls : List ℕ). AllOnce (length w.front) ls) places (subst (λ (es : List Event). AllOnce (length es) e.places) history ends.each_once) in
    let lawful : Legal fits e.layout w.front = subst (Legal fits e.layout) history ends.legal in
    subst (UsesStorage input old new) (sym history) (uses-storage fits e.layout input p w old new fresh run complete lawful)
