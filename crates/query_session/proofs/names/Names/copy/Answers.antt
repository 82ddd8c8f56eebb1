use Rattle.std.proofs.Common.{Some, sym, ap, ◌∙◌, true≢false, arith}
use Rattle.std.specs.FinMap as finite
use Rattle.std.proofs.lemmas.Result.{IfOk-weaker}
use Rattle.query_session.specs.State.{is_in_use}
use Rattle.query_session.specs.Values.{Values, texts_of}
use Rattle.query_session.specs.Held.{held}
use Rattle.query_session.proofs.Held.{get-held, held-written, len-same, not_in_use}
use Rattle.query_session.proofs.Maps.{insert-same}
use Rattle.query_session.proofs.Storing.{of-found, changed-credits, changed-sound}
use Rattle.query_session.proofs.Accounts.{if_ok_three, on_err}
use Rattle.query_session.proofs.names.Names.copy.Goals as goal

pub unreachable-requires : goal.unreachable-requires
unreachable-requires c =
    true≢false (sym c.requires.name ∙ ap (λ (m : Values). is_in_use (texts_of m) c.args.name.now) (sym c.self.view_is)
    ∙ not_in_use c.self.inside.values c.args.name.now (sym c.in-None.ensures.value))

pub copy-requires : goal.copy-requires
copy-requires c =
    let found = ap (λ (x : Values). finite.get x c.args.name.now) (sym c.self.view_is) ∙ (get-held c.self.inside.values c.args.name.now ∙ sym c.in-Some.ensures.value) in
    of-found c.args.pass.now c.args.self.now c.args.name.now c.in-Some.value.now c.requires.sound.heap found

pub invariant_of-self : goal.invariant_of-self
invariant_of-self c =
    let m = c.self.inside.values in
    let name = c.args.name.now in
    let w = c.copy.new.self in
    let n = c.get_mut.follows.lender w in
    let some = sym c.in-Some.ensures.value in
    let stored = held-written m n name c.in-Some.value.now w some (c.get_mut.follows.holds w).3 in
    c.self.invariant ∙ sym (len-same (held m.entries) (held n.entries) name w c.in-Some.value.now stored (get-held m name ∙ some))

pub returns-clause-copied : goal.returns-clause-copied
returns-clause-copied c =
    let m = c.self.inside.values in
    let name = c.args.name.now in
    let w = c.copy.new.self in
    let n = c.get_mut.follows.lender w in
    let some = sym c.in-Some.ensures.value in
    let found = ap (λ (x : Values). finite.get x name) (sym c.self.view_is) ∙ (get-held m name ∙ some) in
    let stored = held-written m n name c.in-Some.value.now w some (c.get_mut.follows.holds w).3 ∙ ap (λ (x : Values). finite.insert x name w) c.self.view_is in
    if_ok_three c.copy.result (λ s copied did text. record {
      before = c.in-Some.value.now;
      after = w;
      found = found;
      now = stored;
      copied = copied;
      did = did;
      text = text;
      same = c.copy.ensures.same.0;
    }) c.copy.ensures.copied c.copy.ensures.did c.copy.ensures.text

pub returns-clause-credits : goal.returns-clause-credits
returns-clause-credits c =
    let m = c.self.inside.values in
    let name = c.args.name.now in
    let w = c.copy.new.self in
    let n = c.get_mut.follows.lender w in
    let some = sym c.in-Some.ensures.value in
    let found = ap (λ (x : Values). finite.get x name) (sym c.self.view_is) ∙ (get-held m name ∙ some) in
    let stored = held-written m n name c.in-Some.value.now w some (c.get_mut.follows.holds w).3 ∙ ap (λ (x : Values). finite.insert x name w) c.self.view_is in
    let changed = changed-credits c.args.self.now (held n.entries) name c.in-Some.value.now w found stored in
    IfOk-weaker c.copy.result _ _ (λ s keeps. omega (arith, changed, keeps)) c.copy.ensures.credits

pub returns-clause-sound : goal.returns-clause-sound
returns-clause-sound c =
    let m = c.self.inside.values in
    let name = c.args.name.now in
    let w = c.copy.new.self in
    let n = c.get_mut.follows.lender w in
    let some = sym c.in-Some.ensures.value in
    let found = ap (λ (x : Values). finite.get x name) (sym c.self.view_is) ∙ (get-held m name ∙ some) in
    let stored = held-written m n name c.in-Some.value.now w some (c.get_mut.follows.holds w).3 ∙ ap (λ (x : Values). finite.insert x name w) c.self.view_is in
    IfOk-weaker c.copy.result _ _ (λ s _.
    changed-sound c.args.self.now (held n.entries) name c.in-Some.value.now w c.args.pass.now c.copy.new.pass c.requires.sound c.copy.ensures.one_heap c.copy.ensures.still found stored) c.copy.ensures.text

pub returns-clause-refused : goal.returns-clause-refused
returns-clause-refused c =
    let m = c.self.inside.values in
    let name = c.args.name.now in
    let w = c.copy.new.self in
    let n = c.get_mut.follows.lender w in
    let some = sym c.in-Some.ensures.value in
    let stored = held-written m n name c.in-Some.value.now w some (c.get_mut.follows.holds w).3 in
    on_err c.copy.result (λ r. (stored ∙ (insert-same (held m.entries) name w (get-held m name ∙ (some ∙ ap Some (sym r.0))) ∙ c.self.view_is), r.1)) c.copy.ensures.refused
