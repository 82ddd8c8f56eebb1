use Rattle.std.proofs.Common.{sym, ap, ◌∙◌}
use Rattle.std.specs.FinMap as finite
use Rattle.batch_workers.proofs.Working.{at-finds}
use Rattle.query_session.specs.State.{store, is_in_use}
use Rattle.query_session.specs.Values.{Values, texts_of}
use Rattle.query_session.specs.Held.{held}
use Rattle.query_session.proofs.Sums.{texts-insert}
use Rattle.query_session.proofs.Held.{get-held, held-written, len-same, text_in_use, no_text, in_use}
use Rattle.query_session.proofs.Storing.{of-found}
use Rattle.query_session.proofs.Accounts.{ran-done}
use Rattle.query_session.proofs.Ran.{whatever, ran, ran-some, ran-none}
use Rattle.query_session.proofs.names.Names.run.Goals as goal

pub run_ops-requires-clause-heap : goal.run_ops-requires-clause-heap
run_ops-requires-clause-heap g c =
    let found = ap (λ (x : Values). finite.get x c.args.name.now) (sym c.self.view_is) ∙ (get-held c.self.inside.values c.args.name.now ∙ sym c.in-Some.ensures.value) in
    of-found c.args.pass.now c.args.self.now c.args.name.now c.in-Some.value.now c.requires.sound.heap found

pub returns-in_default-clause-done : goal.returns-in_default-clause-done
returns-in_default-clause-done g c =
    let none = ap (λ (x : Values). finite.get x c.args.name.now) (sym c.self.view_is) ∙ (get-held c.self.inside.values c.args.name.now ∙ sym c.in_default.ensures.value) in
    ran-none (texts_of c.args.self.now) _ c.args.name.now c.args.ops.now (no_text c.args.self.now c.args.name.now none)
    (ap (λ m. texts_of (held m.entries)) c.get_mut.follows.holds-at-none ∙ ap texts_of c.self.view_is)

pub invariant_of-self-in_err-replies : goal.invariant_of-self-in_err-replies
invariant_of-self-in_err-replies g c =
    let m = c.self.inside.values in
    let name = c.args.name.now in
    let v = c.run_ops.new.s in
    let n = c.get_mut.follows.lender v in
    let some = sym c.in-Some.ensures.value in
    let stored = held-written m n name c.in-Some.value.now v some (c.get_mut.follows.holds v).3 in
    c.self.invariant ∙ sym (len-same (held m.entries) (held n.entries) name v c.in-Some.value.now stored (get-held m name ∙ some))

pub returns-in_err-replies-clause-in_use : goal.returns-in_err-replies-clause-in_use
returns-in_err-replies-clause-in_use g c =
    whatever c.from_residual.result _
    (ap (λ (m : Values). is_in_use (texts_of m) c.args.name.now) (sym c.self.view_is) ∙ in_use c.self.inside.values c.args.name.now c.in-Some.value.now (sym c.in-Some.ensures.value))

pub returns-in_err-replies-clause-left : goal.returns-in_err-replies-clause-left
returns-in_err-replies-clause-left g c =
    let m = c.self.inside.values in
    let old = c.args.self.now in
    let name = c.args.name.now in
    let v = c.run_ops.new.s in
    let n = c.get_mut.follows.lender v in
    let some = sym c.in-Some.ensures.value in
    let found = ap (λ (x : Values). finite.get x name) (sym c.self.view_is) ∙ (get-held m name ∙ some) in
    let stored = held-written m n name c.in-Some.value.now v some (c.get_mut.follows.holds v).3 ∙ ap (λ (x : Values). finite.insert x name v) c.self.view_is in
    let done = c.in_err-replies.ensures.some_first in
    whatever c.from_residual.result _ (
      done.0,
      ran-some (texts_of old) _ name c.in-Some.value.now.text c.args.ops.now (done.0) (text_in_use old name c.in-Some.value.now found)
          (ap texts_of stored ∙ (texts-insert old name v ∙ ap (store (texts_of old) name) done.1)),
    )

pub invariant_of-self-2 : goal.invariant_of-self-2
invariant_of-self-2 g c =
    let m = c.self.inside.values in
    let name = c.args.name.now in
    let v = c.run_ops.new.s in
    let n = c.get_mut.follows.lender v in
    let some = sym c.in-Some.ensures.value in
    let stored = held-written m n name c.in-Some.value.now v some (c.get_mut.follows.holds v).3 in
    c.self.invariant ∙ sym (len-same (held m.entries) (held n.entries) name v c.in-Some.value.now stored (get-held m name ∙ some))

pub returns-clause-done : goal.returns-clause-done
returns-clause-done g c =
    let m = c.self.inside.values in
    let old = c.args.self.now in
    let name = c.args.name.now in
    let v = c.run_ops.new.s in
    let n = c.get_mut.follows.lender v in
    let some = sym c.in-Some.ensures.value in
    let found = ap (λ (x : Values). finite.get x name) (sym c.self.view_is) ∙ (get-held m name ∙ some) in
    let stored = held-written m n name c.in-Some.value.now v some (c.get_mut.follows.holds v).3 ∙ ap (λ (x : Values). finite.insert x name v) c.self.view_is in
    ran (texts_of old) _ name c.in-Some.value.now.text c.args.ops.now _ (text_in_use old name c.in-Some.value.now found) c.in_ok-replies.ensures.answers
    (ap texts_of stored ∙ (texts-insert old name v ∙ ap (store (texts_of old) name) c.in_ok-replies.ensures.text))

pub returns-clause-ran : goal.returns-clause-ran
returns-clause-ran g c =
    let m = c.self.inside.values in
    let old = c.args.self.now in
    let name = c.args.name.now in
    let v = c.run_ops.new.s in
    let n = c.get_mut.follows.lender v in
    let some = sym c.in-Some.ensures.value in
    let found = ap (λ (x : Values). finite.get x name) (sym c.self.view_is) ∙ (get-held m name ∙ some) in
    let stored = held-written m n name c.in-Some.value.now v some (c.get_mut.follows.holds v).3 ∙ ap (λ (x : Values). finite.insert x name v) c.self.view_is in
    let e = c.in_ok-replies.ensures in
    ran-done name c.args.ops.now old (held n.entries) c.args.pass.now c.run_ops.new.pass c.in-Some.value.now v c.in_ok-replies.replies c.requires.sound found stored
    e.text e.answers e.unedited (e.worked.worked.events, e.worked.worked.did, e.worked.worked.published, e.worked.worked.retained, e.worked.installed) e.credits e.one_heap e.heap (λ some asked. e.learned some (at-finds _ asked))
