use Rattle.std.proofs.Common.{◌≤◌, ℕ, List, reverse, Option, is_some, sym, ap, ◌∙◌, subst, arith, string_bytes, vec_len}
use Rattle.std.specs.FinMap as finite
use Rattle.std.specs.Option.{IfSome}
use Rattle.str_value.specs.Meaning.{Meaning, OfHeap}
use Rattle.str_value.specs.Making.{letting_go}
use Rattle.query_session.specs.declared.kept.Kept.{Kept}
use Rattle.query_session.specs.Keeping.{kept, given_back}
use Rattle.query_session.specs.Kept.{EachOfHeap, pairs_of}
use Rattle.query_session.specs.State.{has_room, is_in_use}
use Rattle.query_session.specs.Values.{Values, texts_of}
use Rattle.query_session.proofs.Maps.{get-stored}
use Rattle.query_session.proofs.Sums.{has-texts}
use Rattle.query_session.proofs.Storing.{all-moves, moved-sound}
use Rattle.query_session.proofs.Accounts.{nothing-published, nothing-retained}
use Rattle.query_session.proofs.KeepingValues.{popped, kept-none, kept-some, each-rest, each-first, each-moves, room-first, entered-sound, on_ok, none-popped, none-kept, rest-kept, named-kept, taken-back}
use Rattle.query_session.proofs.kept.+keep_rest.Goals as goal

pub keep_rest-requires : goal.keep_rest-requires
keep_rest-requires t c =
    let m = c.args.names.now in
    let p = c.args.pass.now in
    let k = c.in-Some.next in
    let ks = reverse c.pop.new.self.items in
    let is = popped c.args.left.now.items c.pop.new.self.items k c.in-Some.ensures.items in
    let each = subst (λ (x : List Kept). EachOfHeap p x) is c.requires.heap in (
      omega (arith, c.decreases, c.in-Some.ensures.cases),
      (
        moved-sound m p c.release.new.pass c.requires.sound c.release.ensures.one_heap,
        (
          each-moves p c.release.new.pass ks c.release.ensures.one_heap (each-rest p k ks each),
          subst (λ (x : Values). finite.len x ≤ 256) (ap (λ (x : List Kept). kept m (pairs_of x)) is ∙ kept-none m k ks c.in_default-name.is) c.requires.room,
        ),
      ),
    )

pub release-requires : goal.release-requires
release-requires t c =
    let p = c.args.pass.now in
    let k = c.in-Some.next in
    let ks = reverse c.pop.new.self.items in
    let is = popped c.args.left.now.items c.pop.new.self.items k c.in-Some.ensures.items in
    each-first p k ks (subst (λ (x : List Kept). EachOfHeap p x) is c.requires.heap)

pub returns-in_default-clause-kept : goal.returns-in_default-clause-kept
returns-in_default-clause-kept t c =
    let e = c.in_default.ensures in
    none-kept c.args.names.now c.args.pass.now (reverse c.args.left.now.items)
    (none-popped c.args.left.now.items c.pop.new.self.items (vec_len c.args.left.now) e.cases.0 e.items e.rest) c.requires.sound

pub returns-in_default-name-clause-kept : goal.returns-in_default-name-clause-kept
returns-in_default-name-clause-kept t c =
    let k = c.in-Some.next in
    let ks = reverse c.pop.new.self.items in
    let is = popped c.args.left.now.items c.pop.new.self.items k c.in-Some.ensures.items in
    let d = c.release.ensures.did in
    let place = k.value.place in
    on_ok c.keep_rest.result (rest-kept k ks (reverse c.args.left.now.items) c.args.names.now c.keep_rest.new.names c.args.pass.now c.release.new.pass c.keep_rest.new.pass is
    c.in_default-name.is (letting_go place d.0 d.1, nothing-published place d.0 d.1, nothing-retained place d.0 d.1, d.3) c.release.ensures.credits)
    c.keep_rest.ensures.kept

pub release_old-requires : goal.release_old-requires
release_old-requires t c =
    let m = c.args.names.now in
    let p = c.args.pass.now in
    let r = c.keep_rest-2.new.pass in
    let before = c.in_ok-old.ensures.before ∙ ap (λ (q : List ℕ). finite.get m q) c.as_str.ensures.value in
    subst (λ (o : Option Meaning). IfSome o (λ (s : Meaning). OfHeap r s.place)) (sym before)
    (all-moves p r m c.keep_rest-2.ensures.one_heap c.requires.sound.heap (string_bytes c.in-Some-name.name))

pub enter-requires : goal.enter-requires
enter-requires t c =
    let m = c.args.names.now in
    let k = c.in-Some.next in
    let ks = reverse c.pop.new.self.items in
    let name = c.in-Some-name.name in
    let is = popped c.args.left.now.items c.pop.new.self.items k c.in-Some.ensures.items in
    let few = subst (λ (x : Values). finite.len x ≤ 256) (ap (λ (x : List Kept). kept m (pairs_of x)) is ∙ kept-some m k ks name c.in-Some-name.is) c.requires.room in
    ap (has_room (texts_of m)) c.as_str.ensures.value ∙ room-first m (string_bytes name) k.value (pairs_of ks) few

pub keep_rest-requires-2 : goal.keep_rest-requires-2
keep_rest-requires-2 t c =
    let m = c.args.names.now in
    let p = c.args.pass.now in
    let k = c.in-Some.next in
    let ks = reverse c.pop.new.self.items in
    let name = c.in-Some-name.name in
    let is = popped c.args.left.now.items c.pop.new.self.items k c.in-Some.ensures.items in
    let each = subst (λ (x : List Kept). EachOfHeap p x) is c.requires.heap in
    let few = subst (λ (x : Values). finite.len x ≤ 256) (ap (λ (x : List Kept). kept m (pairs_of x)) is ∙ kept-some m k ks name c.in-Some-name.is) c.requires.room in
    let entered = c.in_ok-old.ensures.entered ∙ ap (λ (q : List ℕ). finite.insert m q k.value) c.as_str.ensures.value in (
      omega (arith, c.decreases, c.in-Some.ensures.cases),
      (
        entered-sound m c.enter.new.names (string_bytes name) k.value (pairs_of ks) p c.requires.sound (each-first p k ks each) few entered,
        (
          each-rest p k ks each,
          subst (λ (x : Values). finite.len (kept x (pairs_of ks)) ≤ 256) (sym entered) few,
        ),
      ),
    )

pub returns-in-Ok-clause-kept : goal.returns-in-Ok-clause-kept
returns-in-Ok-clause-kept t c =
    let m = c.args.names.now in
    let k = c.in-Some.next in
    let ks = reverse c.pop.new.self.items in
    let name = c.in-Some-name.name in
    let is = popped c.args.left.now.items c.pop.new.self.items k c.in-Some.ensures.items in
    let entered = c.in_ok-old.ensures.entered ∙ ap (λ (q : List ℕ). finite.insert m q k.value) c.as_str.ensures.value in
    let before = c.in_ok-old.ensures.before ∙ ap (λ (q : List ℕ). finite.get m q) c.as_str.ensures.value in
    named-kept k ks (reverse c.args.left.now.items) name c.in_ok-old.old m c.enter.new.names c.keep_rest-2.new.names c.args.pass.now c.keep_rest-2.new.pass c.release_old.new.pass
    is c.in-Some-name.is entered before c.in-Ok.ensures.kept c.release_old.ensures.did c.release_old.ensures.credits

pub give_back-requires : goal.give_back-requires
give_back-requires t c =
    let m = c.args.names.now in
    let k = c.in-Some.next in
    let name = string_bytes c.in-Some-name.name in
    let entered = c.in_ok-old.ensures.entered ∙ ap (λ (q : List ℕ). finite.insert m q k.value) c.as_str.ensures.value in
    (λ i. is_in_use (texts_of ((c.in-Err.ensures.left ∙ entered) i)) (c.as_str-in-Err.ensures.value i))
    ∙ (has-texts (finite.insert m name k.value) name ∙ ap is_some (get-stored m name k.value))

pub returns-clause-left : goal.returns-clause-left
returns-clause-left t c =
    let m = c.args.names.now in
    let k = c.in-Some.next in
    let old = c.in_ok-old.old in
    let entered = c.in_ok-old.ensures.entered ∙ ap (λ (q : List ℕ). finite.insert m q k.value) c.as_str.ensures.value in
    let before = c.in_ok-old.ensures.before ∙ ap (λ (q : List ℕ). finite.get m q) c.as_str.ensures.value in
    taken-back m c.enter.new.names c.give_back.new.names (string_bytes c.in-Some-name.name) k.value old entered before
    (c.give_back.ensures ∙ (λ i. given_back (c.in-Err.ensures.left i) (c.as_str-in-Err.ensures.value i) old))
