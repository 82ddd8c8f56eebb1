-- A session stays whole where a step finds memory.
use Rattle.std.proofs.Common.{◌≡◌, ap, ◌∙◌, false, is_err, Result, Ok, Err, OnOk, ◌⊎◌, inl, inr, arith}
use Rattle.std.specs.FinMap as finite
use Rattle.slot_accounts.specs.Account.{Keeps}
use Rattle.slot_table.specs.Owners.{PassSeen, HeapId}
use Rattle.query_session.proofs.Sums.{credits_in-empty, len-texts}
use Rattle.query_session.specs.Session.{Shown}
use Rattle.query_session.specs.Steps.{Accounted}
use Rattle.query_session.specs.Values.{Values, texts_of, credits_in}
use Rattle.std.specs.Ordering.{nat_cmp}
use Rattle.std.specs.Cmp.Lexicographic.{slice_cmp}
use Rattle.str_value.specs.Meaning.{Meaning}
use Rattle.query_program.specs.Answers.{empty}
use Rattle.query_program.specs.Whole.{IsWhole}

step-whole : (s t : Shown) → IsWhole s → t.failed ≡ false → Accounted s.values s.pass t.values t.pass → IsWhole t
step-whole s t w f a = record {
  failed = f;
  credits =
      let heap : t.pass.heap.layout.credits ≡ s.pass.heap.layout.credits = ap (λ (z : HeapId). z.layout.credits) a.made.one_heap in
      let before = w.credits in
      let keeps = a.credits in omega (arith, heap, before, keeps);
}

pub whole-after : {X E : Type 0} (r : Result X E) (s t : Shown) → IsWhole s → t.failed ≡ is_err r → OnOk r (Accounted s.values s.pass t.values t.pass)
    → OnOk r (IsWhole t)
whole-after (Ok x) s t w f a = step-whole s t w f a
whole-after (Err e) s t w f a = tt

-- a session that has just begun is whole, and its pass has every credit at its end
pub begun-whole : (s : Shown) (p : PassSeen) → p.credits ≡ p.heap.layout.credits → s.values ≡ finite.empty → s.failed ≡ false → s.pass ≡ p → IsWhole s
begun-whole s p all none fine is = record {
  failed = fine;
  credits =
      let zero = credits_in-empty s.values none in
      let credits : s.pass.credits ≡ p.credits = ap (λ (x : PassSeen). x.credits) is in
      let heap : s.pass.heap.layout.credits ≡ p.heap.layout.credits = ap (λ (x : PassSeen). x.heap.layout.credits) is in omega (arith, zero, credits, heap, all);
}

pub ended-whole : (s : Shown) (p : PassSeen) → IsWhole s → p.heap ≡ s.pass.heap → Keeps s.pass (credits_in s.values) p 0 → p.credits ≡ p.heap.layout.credits
ended-whole s p w same keeps =
    let heap : p.heap.layout.credits ≡ s.pass.heap.layout.credits = ap (λ (z : HeapId). z.layout.credits) same in
    let before = w.credits in omega (arith, heap, before, keeps)

-- whole, where memory was not wanting
pub whole-unless : {A P : Type 0} (out : A → ⊥) → A ⊎ P → P
whole-unless out (inl a) = absurd (out a)
whole-unless out (inr p) = p

-- no value shows no text
pub texts-empty : (m : Values) → m ≡ finite.empty → texts_of m ≡ empty
texts-empty m is = finite.empty_of_len (texts_of m) (len-texts m ∙ (ap finite.len is ∙ finite.len-empty (slice_cmp nat_cmp) Meaning))
