use Rattle.std.proofs.Common.{◌≡◌, sym, ap, subst, ◌∙◌, ℕ, ◌+◌, ◌*◌, ◌/◌, ◌≤◌, ◌++◌, [], length, true, false, List, Bool, Some, rules, arith}
use Rattle.index_words.specs.Crumbs.{crumbs, size16}
use Rattle.slot_table.specs.Owners.{HeapId, PassSeen, DraftSeen}
use Rattle.slot_accounts.specs.Account.{IsDrawn}
use Rattle.slot_accounts.proofs.Drawn.{Drawn-written}
use Rattle.str_value.specs.Meaning.{Meaning, shared, storage_of}
use Rattle.str_value.specs.Learning.{Looks, Offers, looked}
use Rattle.str_value.proofs.Crumbing.{ready-heap, looks-text, looks-sole, looks-heap, learned-found, known-found, value-none, learned-failed, learned-installed, known-installed, sole-installed, text-installed, heap-installed, of_heap-moves, looks-none}
use Rattle.str_value.proofs.value.Str.learn_shared.Given as given
use Rattle.str_value.proofs.value.Str.learn_shared.Goals as goal

pub look_for_crumbs-requires : goal.look_for_crumbs-requires
look_for_crumbs-requires g c = ready-heap c.args.self.now c.args.pass.now c.requires

-- ---- the Look found the side
looks : (g : given.Over) (c : goal.Then-look_for_crumbs g) → Looks c.requires.reference c.args.pass.now c.args.self.now c.look_for_crumbs.new.pass c.look_for_crumbs.new.self true
looks g c =
    let x = c.look_for_crumbs.ensures c.requires.reference c.requires.place c.requires.may.utf8 in
    subst (λ b. Looks c.requires.reference c.args.pass.now c.args.self.now c.look_for_crumbs.new.pass c.look_for_crumbs.new.self b) c.if-look_for_crumbs.true x

pub returns-then-look_for_crumbs-clause-learned : goal.returns-then-look_for_crumbs-clause-learned
returns-then-look_for_crumbs-clause-learned g c = learned-found c.args.self.now c.args.pass.now c.requires c.look_for_crumbs.new.pass c.look_for_crumbs.new.self (looks g c)

pub returns-then-look_for_crumbs-clause-known : goal.returns-then-look_for_crumbs-clause-known
returns-then-look_for_crumbs-clause-known g c known = known-found c.args.self.now c.args.pass.now c.requires c.look_for_crumbs.new.pass c.look_for_crumbs.new.self (looks g c)

pub returns-then-look_for_crumbs-clause-sole : goal.returns-then-look_for_crumbs-clause-sole
returns-then-look_for_crumbs-clause-sole g c = looks-sole c.args.self.now c.args.pass.now c.requires c.look_for_crumbs.new.pass c.look_for_crumbs.new.self true (looks g c)

pub returns-then-look_for_crumbs-clause-text : goal.returns-then-look_for_crumbs-clause-text
returns-then-look_for_crumbs-clause-text g c = looks-text c.args.self.now c.args.pass.now c.requires c.look_for_crumbs.new.pass c.look_for_crumbs.new.self true (looks g c)

pub returns-then-look_for_crumbs-clause-heap : goal.returns-then-look_for_crumbs-clause-heap
returns-then-look_for_crumbs-clause-heap g c = looks-heap c.args.self.now c.args.pass.now c.requires c.look_for_crumbs.new.pass c.look_for_crumbs.new.self true (looks g c)

-- ---- it found none, and the pass had no draft
pub returns-in_default-clause-learned : goal.returns-in_default-clause-learned
returns-in_default-clause-learned g c =
    let x = looks-none _ _ _ _ _ _ (c.look_for_crumbs.ensures c.requires.reference c.requires.place c.requires.may.utf8) c.if-look_for_crumbs.false in
    learned-failed c.args.self.now c.args.pass.now c.requires c.look_for_crumbs.new.pass c.look_for_crumbs.new.self x c.draw.new.pass (search rules) (search rules)

pub returns-in_default-clause-sole : goal.returns-in_default-clause-sole
returns-in_default-clause-sole g c =
    looks-sole c.args.self.now c.args.pass.now c.requires c.look_for_crumbs.new.pass c.look_for_crumbs.new.self _ (c.look_for_crumbs.ensures c.requires.reference c.requires.place c.requires.may.utf8)

pub returns-in_default-clause-text : goal.returns-in_default-clause-text
returns-in_default-clause-text g c =
    looks-text c.args.self.now c.args.pass.now c.requires c.look_for_crumbs.new.pass c.look_for_crumbs.new.self _ (c.look_for_crumbs.ensures c.requires.reference c.requires.place c.requires.may.utf8)

pub returns-in_default-clause-heap : goal.returns-in_default-clause-heap
returns-in_default-clause-heap g c =
    of_heap-moves c.look_for_crumbs.new.pass c.draw.new.pass c.look_for_crumbs.new.self.place (search rules)
    (looks-heap c.args.self.now c.args.pass.now c.requires c.look_for_crumbs.new.pass c.look_for_crumbs.new.self _ (c.look_for_crumbs.ensures c.requires.reference c.requires.place c.requires.may.utf8))

-- ---- the list is built
pub build-requires-clause-storage : goal.build-requires-clause-storage
build-requires-clause-storage g c =
    let x = looks-none _ _ _ _ _ _ (c.look_for_crumbs.ensures c.requires.reference c.requires.place c.requires.may.utf8) c.if-look_for_crumbs.false in
    ap (λ (m : Meaning). storage_of m.row) (value-none c.args.self.now c.args.pass.now c.requires c.look_for_crumbs.new.pass c.look_for_crumbs.new.self x) ∙ c.requires.may.utf8

pub build-requires-clause-room : goal.build-requires-clause-room
build-requires-clause-room g c =
    let x = c.look_for_crumbs.ensures c.requires.reference c.requires.place c.requires.may.utf8 in
    let t = looks-text c.args.self.now c.args.pass.now c.requires c.look_for_crumbs.new.pass c.look_for_crumbs.new.self _ x in
    let none : length c.in-Some.draft.written ≡ 0 = ap length c.in-Some.ensures.empty in
    let cap : c.in-Some.draft.heap.layout.capacity_words ≡ c.args.pass.now.heap.layout.capacity_words =
    ap (λ (z : HeapId). z.layout.capacity_words) (c.in-Some.ensures.same_heap ∙ c.in-Some.ensures.heap) ∙ ap (λ (q : PassSeen). q.heap.layout.capacity_words) x.rest in
    let text : size16 c.look_for_crumbs.new.self.text / 64 ≡ size16 c.args.self.now.text / 64 = ap (λ (u : List ℕ). size16 u / 64) t.0 in
    let room = c.requires.room in
    omega (arith, none, cap, text, room)

pub offer_crumbs-requires-clause-heap : goal.offer_crumbs-requires-clause-heap
offer_crumbs-requires-clause-heap g c =
    let x = c.look_for_crumbs.ensures c.requires.reference c.requires.place c.requires.may.utf8 in
    subst (λ (m : Meaning). Rattle.str_value.specs.Meaning.OfHeap c.draw.new.pass m.place) (sym c.build.ensures.kept)
    (of_heap-moves c.look_for_crumbs.new.pass c.draw.new.pass c.look_for_crumbs.new.self.place c.in-Some.ensures.heap
    (looks-heap c.args.self.now c.args.pass.now c.requires c.look_for_crumbs.new.pass c.look_for_crumbs.new.self _ x))

-- ---- and offered
look : (g : given.Over) (c : goal.After-offer_crumbs g) → Looks c.requires.reference c.args.pass.now c.args.self.now c.look_for_crumbs.new.pass c.look_for_crumbs.new.self false
look g c = looks-none _ _ _ _ _ _ (c.look_for_crumbs.ensures c.requires.reference c.requires.place c.requires.may.utf8) c.if-look_for_crumbs.false

seen : (g : given.Over) (c : goal.After-offer_crumbs g) → c.build.new.t ≡ record c.args.self.now { place = shared (looked c.requires.reference c.look_for_crumbs.new.pass.front Rattle.std.proofs.Common.None c.args.self.now.text) }
seen g c = c.build.ensures.kept ∙ value-none c.args.self.now c.args.pass.now c.requires c.look_for_crumbs.new.pass c.look_for_crumbs.new.self (look g c)

offers : (g : given.Over) (c : goal.After-offer_crumbs g)
    → Offers (looked c.requires.reference c.look_for_crumbs.new.pass.front Rattle.std.proofs.Common.None c.args.self.now.text) c.build.new.draft c.draw.new.pass c.build.new.t c.offer_crumbs.new.pass c.offer_crumbs.new.self
offers g c = c.offer_crumbs.ensures _ (ap (λ (m : Meaning). m.place) (seen g c)) (ap (λ (m : Meaning). storage_of m.row) (seen g c) ∙ c.requires.may.utf8)

list : (g : given.Over) (c : goal.After-offer_crumbs g) → c.build.new.draft ≡ record c.in-Some.draft { written = crumbs c.args.self.now.text 64 }
list g c =
    c.build.ensures.written ∙ ap (λ (ws : List ℕ). record c.in-Some.draft { written = ws ++ crumbs c.look_for_crumbs.new.self.text 64 }) c.in-Some.ensures.empty
    ∙ ap (λ (x : List ℕ). record c.in-Some.draft { written = crumbs x 64 }) (looks-text c.args.self.now c.args.pass.now c.requires c.look_for_crumbs.new.pass c.look_for_crumbs.new.self false (look g c)).0

drawn : (g : given.Over) (c : goal.After-offer_crumbs g) → IsDrawn c.look_for_crumbs.new.pass c.draw.new.pass c.build.new.draft
drawn g c = Drawn-written _ _ c.in-Some.draft c.in-Some.ensures.drawn c.build.new.draft _ (list g c)

pub returns-clause-learned : goal.returns-clause-learned
returns-clause-learned g c =
    learned-installed c.args.self.now c.args.pass.now c.requires c.look_for_crumbs.new.pass c.look_for_crumbs.new.self (look g c) c.draw.new.pass c.build.new.draft c.in-Some.ensures.shows
    (drawn g c) (ap (λ (d : DraftSeen). d.written) (list g c)) c.offer_crumbs.new.pass c.build.new.t c.offer_crumbs.new.self c.build.ensures.kept (offers g c)

pub returns-clause-known : goal.returns-clause-known
returns-clause-known g c known =
    known-installed c.args.self.now c.args.pass.now c.requires c.look_for_crumbs.new.pass c.look_for_crumbs.new.self (look g c) c.draw.new.pass c.build.new.draft c.in-Some.ensures.shows
    (drawn g c) (ap (λ (d : DraftSeen). d.written) (list g c)) c.offer_crumbs.new.pass c.build.new.t c.offer_crumbs.new.self c.build.ensures.kept (offers g c)

pub returns-clause-sole : goal.returns-clause-sole
returns-clause-sole g c =
    sole-installed c.args.self.now c.args.pass.now c.requires c.look_for_crumbs.new.pass c.look_for_crumbs.new.self (look g c) c.draw.new.pass c.build.new.draft c.in-Some.ensures.shows
    (drawn g c) (ap (λ (d : DraftSeen). d.written) (list g c)) c.offer_crumbs.new.pass c.build.new.t c.offer_crumbs.new.self c.build.ensures.kept (offers g c)

pub returns-clause-text : goal.returns-clause-text
returns-clause-text g c =
    text-installed c.args.self.now c.args.pass.now c.requires c.look_for_crumbs.new.pass c.look_for_crumbs.new.self (look g c) c.draw.new.pass c.build.new.draft c.in-Some.ensures.shows
    (drawn g c) (ap (λ (d : DraftSeen). d.written) (list g c)) c.offer_crumbs.new.pass c.build.new.t c.offer_crumbs.new.self c.build.ensures.kept (offers g c)

pub returns-clause-heap : goal.returns-clause-heap
returns-clause-heap g c =
    heap-installed c.args.self.now c.args.pass.now c.requires c.look_for_crumbs.new.pass c.look_for_crumbs.new.self (look g c) c.draw.new.pass c.build.new.draft c.in-Some.ensures.shows
    (drawn g c) (ap (λ (d : DraftSeen). d.written) (list g c)) c.offer_crumbs.new.pass c.build.new.t c.offer_crumbs.new.self c.build.ensures.kept (offers g c)

pub returns-clause-cost : goal.returns-clause-cost
returns-clause-cost g c =
    let t = looks-text c.args.self.now c.args.pass.now c.requires c.look_for_crumbs.new.pass c.look_for_crumbs.new.self _ (c.look_for_crumbs.ensures c.requires.reference c.requires.place c.requires.may.utf8) in
    let few = c.build.ensures.few in
    let long : length c.look_for_crumbs.new.self.text ≡ length c.args.self.now.text = ap length t.0 in
    omega (arith, few, long)

-- ---- all on one heap
pub returns-then-look_for_crumbs-clause-one_heap : goal.returns-then-look_for_crumbs-clause-one_heap
returns-then-look_for_crumbs-clause-one_heap g c = ap (λ (q : PassSeen). q.heap) (looks g c).rest

pub returns-in_default-clause-one_heap : goal.returns-in_default-clause-one_heap
returns-in_default-clause-one_heap g c =
    let x = c.look_for_crumbs.ensures c.requires.reference c.requires.place c.requires.may.utf8 in
    let same : c.draw.new.pass.heap ≡ c.look_for_crumbs.new.pass.heap = search rules in
    same ∙ ap (λ (q : PassSeen). q.heap) x.rest

pub returns-clause-one_heap : goal.returns-clause-one_heap
returns-clause-one_heap g c =
    let o = offers g c in
    o.one_heap ∙ c.in-Some.ensures.heap ∙ ap (λ (q : PassSeen). q.heap) (look g c).rest
