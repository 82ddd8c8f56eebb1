-- Each turn adds one event to a legal front, or ends at the first wrong one.
use Rattle.std.proofs.Common.{ℕ, ◌≡◌, ◌^◌, ◌+◌, ◌<◌, ◌≤◌, List, ◌++◌, length, take, drop, Err, inl, refl, sym, ap, ◌∙◌, subst, arith, rules}
use Rattle.slot_model.specs.declared.event.Event.{Event}
use Rattle.slot_model.specs.declared.check.CheckError.TheVariants.{Wrong}
use Rattle.std.proofs.lemmas.List.{length-take, take_all}
use Rattle.std.proofs.lemmas.Option.{slice_get_read}
use Rattle.slot_model.specs.History.{Heap, Legal, IsFirstWrong, heap_after, at, count_of, next, Applies}
use Rattle.slot_model.specs.Checking.{heap_in}
use Rattle.slot_model.proofs.Counts.{count-heap_after}
use Rattle.slot_model.proofs.Kept.{length-slots, take-front, turn}
use Rattle.slot_model.proofs.Firsts.{wrong-not_legal, wrong-one}
use Rattle.slot_model.proofs.check.check_history.Given as given
use Rattle.slot_model.proofs.check.check_history.Goals as goal

pub applies-requires : goal.applies-requires
applies-requires g c =
    ap length c.deref.ensures.value ∙ length-slots c.args.layout.now (take c.loop-at.at c.args.events.now) c.loop-at.slots.items c.loop-at.invariant.0

pub advance-requires-clause-sized : goal.advance-requires-clause-sized
advance-requires-clause-sized g c =
    ap length c.deref_mut.ensures.value ∙ length-slots c.args.layout.now (take c.loop-at.at c.args.events.now) c.loop-at.slots.items c.loop-at.invariant.0

-- no slot has more references than there were events
pub advance-requires-clause-counts : goal.advance-requires-clause-counts
advance-requires-clause-counts g c = λ x.
    let es = take c.loop-at.at c.args.events.now in
    let is : count_of (at (heap_in c.deref_mut.result.now) x) ≡ count_of (at (heap_after c.args.layout.now es) x) = ap (λ s. count_of (at (heap_in s) x)) c.deref_mut.ensures.value ∙ ap (λ h. count_of (at h x)) c.loop-at.invariant.0 in
    let few = count-heap_after c.args.layout.now es x in
    let front : length es ≤ c.loop-at.at = (let m = length-take c.loop-at.at c.args.events.now in omega (arith, m)) in
    let fits : c.loop-at.at + 1 < 2 ^ 64 = omega arith in
    omega (arith, is, few, front, fits)

pub loop-at-preserved : goal.loop-at-preserved
loop-at-preserved g c =
    let items = c.loop-at.slots.items in
    let e = c.index-events-at.result in
    turn g.A.Attach.fits c.args.layout.now c.args.events.now c.loop-at.at e items (take c.loop-at.slots.len (c.advance.new.slots ++ drop (length c.advance.new.slots) items))
    (slice_get_read c.args.events.now (length c.args.events.now) c.loop-at.at e refl (omega arith) c.index-events-at.is)
    c.loop-at.invariant.0
    c.loop-at.invariant.1
    (search rules)
    (ap heap_in (take-front c.loop-at.slots.len c.advance.new.slots (drop (length c.advance.new.slots) items) (omega arith)) ∙ (c.in_ok-advance.ensures ∙ ap (λ s. next (heap_in s) e) c.deref_mut.ensures.value))

-- the event at which the loop ends is the first wrong one
first_wrong : (g : given.Over) (c : goal.After-drop-slots g) → IsFirstWrong g.A.Attach.fits c.args.layout.now c.args.events.now c.loop-at.at
first_wrong g c =
    let k = c.args.layout.now in
    let es = take c.loop-at.at c.args.events.now in
    let e = c.index-events-at.result in
    let is : heap_in c.deref.result.now ≡ heap_after k es = ap heap_in c.deref.ensures.value ∙ c.loop-at.invariant.0 in
    record {
      event = e;
      there = slice_get_read c.args.events.now (length c.args.events.now) c.loop-at.at e refl (omega arith) c.index-events-at.is;
      before = c.loop-at.invariant.1;
      refused = λ a. absurd (let no = c.if-not-applies.ensures.1 (subst (λ (h : Heap). Applies g.A.Attach.fits k h e) (sym is) a) in cc);
    }

pub returns-then-not-applies-clause-accepted : goal.returns-then-not-applies-clause-accepted
returns-then-not-applies-clause-accepted g c = λ legal. absurd (wrong-not_legal g.A.Attach.fits c.args.layout.now c.args.events.now c.loop-at.at (first_wrong g c) legal)

pub returns-then-not-applies-clause-wrong : goal.returns-then-not-applies-clause-wrong
returns-then-not-applies-clause-wrong g c = λ n told.
    let same : c.loop-at.at ≡ n = cc in
    subst (λ (m : ℕ). IsFirstWrong g.A.Attach.fits c.args.layout.now c.args.events.now m) same (first_wrong g c)

pub returns-then-not-applies-clause-told : goal.returns-then-not-applies-clause-told
returns-then-not-applies-clause-told g c = λ n wrong.
    inl (ap (λ (m : ℕ). Err (Wrong m)) (wrong-one g.A.Attach.fits c.args.layout.now c.args.events.now c.loop-at.at n (first_wrong g c) wrong))

-- where all events were taken the list is legal, and so has no wrong event
pub returns-clause-told : goal.returns-clause-told
returns-clause-told g c = λ n wrong. absurd (wrong-not_legal g.A.Attach.fits c.args.layout.now c.args.events.now n wrong (subst (λ (fs : List Event). Legal g.A.Attach.fits c.args.layout.now fs) (take_all c.loop-at.at c.args.events.now (omega arith)) c.loop-at.invariant.1))
