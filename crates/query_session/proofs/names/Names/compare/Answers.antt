use Rattle.std.proofs.Common.{◌≡◌, sym, ap, ◌∙◌, is_some}
use Rattle.std.specs.declared.cmp.Ordering.TheVariants.{Equal}
use Rattle.std.specs.Cmp.Lexicographic.{nat_list_cmp_total}
use Rattle.std.specs.FinMap as finite
use Rattle.std.proofs.lemmas.Cmp.{tied_itself}
use Rattle.std.proofs.lemmas.Result.{IfOk-weaker}
use Rattle.canon_order.specs.Equivalence.{order_of}
use Rattle.query_session.specs.State.{State, text_of, is_in_use}
use Rattle.query_session.specs.Values.{Values, texts_of}
use Rattle.query_session.proofs.Sums.{texts-insert, has-texts}
use Rattle.query_session.proofs.Held.{one-text, text_in_use}
use Rattle.query_session.proofs.States as states
use Rattle.query_session.proofs.Maps.{insert-back, get-stored}
use Rattle.query_session.proofs.names.Names.compare.Goals as goal

pub returns-then-eq-clause-order : goal.returns-then-eq-clause-order
returns-then-eq-clause-order c =
    let same = states.same-bytes c.args.a.now c.args.b.now (sym c.eq.ensures ∙ c.if-eq.true) in
    λ left right first second.
    let one = one-text left right (sym first ∙ ap (text_of (texts_of c.args.self.now)) same ∙ second) in
    let tie : order_of left left ≡ Equal = search (tied_itself nat_list_cmp_total) in
    sym (ap (order_of left) (sym one) ∙ tie)

pub compare_to-order-requires : goal.compare_to-order-requires
compare_to-order-requires c =
    let m = c.args.self.now in
    let texts = ap texts_of c.exchange.ensures.stored ∙ texts-insert m c.args.a.now c.empty-left.result in
    ap (λ (s : State). is_in_use s c.args.b.now) texts ∙ states.still-in-use (texts_of m) c.args.a.now _ c.args.b.now c.requires.second

pub exchange-requires-2 : goal.exchange-requires-2
exchange-requires-2 c =
    ap (λ (m : Values). is_in_use (texts_of m) c.args.a.now) (c.compare_to-order.ensures.kept ∙ c.exchange.ensures.stored)
    ∙ (has-texts _ c.args.a.now ∙ ap is_some (get-stored c.args.self.now c.args.a.now c.empty-left.result))

pub returns-clause-order : goal.returns-clause-order
returns-clause-order c =
    let m = c.args.self.now in
    let s = texts_of m in
    let other = states.apart c.args.a.now c.args.b.now (sym c.eq.ensures ∙ c.if-eq.false) in
    let texts = ap texts_of c.exchange.ensures.stored ∙ texts-insert m c.args.a.now c.empty-left.result in
    let taken = text_in_use m c.args.a.now c.exchange.new.value c.exchange.ensures.taken in
    IfOk-weaker c.compare_to-order.result _ _ (λ order is. λ left right first second.
    is right (ap (λ (x : State). text_of x c.args.b.now) texts ∙ (states.get-other s c.args.a.now _ c.args.b.now other ∙ second))
    ∙ ap (λ t. order_of t right) (one-text c.exchange.new.value.text left (sym taken ∙ first))) c.compare_to-order.ensures.order

pub returns-clause-kept : goal.returns-clause-kept
returns-clause-kept c =
    let m = c.args.self.now in
    let a = c.args.a.now in
    c.exchange-2.ensures.stored
    ∙ ((λ i. finite.insert ((c.compare_to-order.ensures.kept ∙ c.exchange.ensures.stored) i) a (c.compare_to-order.ensures.left i))
    ∙ insert-back m a c.empty-left.result c.exchange.new.value c.exchange.ensures.taken)
