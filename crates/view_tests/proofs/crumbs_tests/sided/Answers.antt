use Rattle.std.proofs.Common.{◌≡◌, sym, ap, ◌∙◌, ◌/◌, [], ◌++◌, length, get_or, arith}
use Rattle.std.specs.Option.{unwrap_or}
use Rattle.index_words.specs.Crumbs.{size16, crumbs}
use Rattle.slot_table.specs.Owners.{DraftSeen, PassSeen, RefSeen}
use Rattle.crumbs.specs.Fitting.{stored_text}
use Rattle.crumbs.proofs.Crumbing.{length-crumbs}
use Rattle.crumbs.proofs.Sampling.{few_crumbs}
use Rattle.view_tests.proofs.crumbs_tests.sided.Goals as goal

pub build_uncounted-requires-clause-room : goal.build_uncounted-requires-clause-room
build_uncounted-requires-clause-room g c =
    let b = unwrap_or (stored_text (c.args.t.now.0)) [] in
    let d = c.in-Some-draft.ensures.draft.draft_is in
    let empty : length c.in-Some-draft.list.written ≡ 0 = ap (λ (x : DraftSeen). length x.written) d in
    let room : c.in-Some-draft.list.heap.layout.capacity_words ≡ c.draft.new.self.heap.layout.capacity_words = ap (λ (x : DraftSeen). x.heap.layout.capacity_words) d in
    let same : c.draft.new.self.heap.layout.capacity_words ≡ c.args.pass.now.heap.layout.capacity_words = ap (λ (x : PassSeen). x.heap.layout.capacity_words) c.in-Some.ensures.draft.pass_is in
    omega (arith, empty, room, same, few_crumbs b g.row.DISTANCE c.count-count.result c.requires.distance.0 c.count-count.ensures.value, c.capacity_words-room.ensures, c.if-count-room.false)

pub overflow_add-len : goal.overflow_add-len
overflow_add-len g c =
    let b = unwrap_or (stored_text (c.args.t.now.0)) [] in
    let n = g.row.DISTANCE in
    let f = c.install.ensures.fits in
    let known : c.install.new.self.known ≡ c.args.t.now.0 =
    ap (λ (r : RefSeen). r.known) c.install.ensures.offered.reference_is ∙ ap (λ (r : RefSeen). r.known) c.publish-reference.ensures.reference ∙ ap (λ (d : DraftSeen). d.written) c.fill.ensures
    ∙ ap (λ (d : DraftSeen). d.written ++ c.args.words.now) c.in-Some.ensures.draft.draft_is ∙ c.requires.words in
    let side : c.install.new.self.side_words ≡ crumbs b n =
    f.list ∙ ap (λ t. crumbs t n) (ap (λ o. unwrap_or o []) (sym f.stored) ∙ ap (λ ws. unwrap_or (stored_text ws) []) known) in
    let head : c.side.result ≡ size16 b = c.side.ensures.word ∙ ap (λ ws. get_or ws 0 0) side in
    let count : c.side.result / n ≡ size16 b / n = ap (λ u. u / n) head in
    omega (arith, count, few_crumbs b n c.count-count.result c.requires.distance.0 c.count-count.ensures.value, c.if-count-room.false, c.capacity_words-room.type_inv)

pub overflow_cast-len : goal.overflow_cast-len
overflow_cast-len g c =
    let b = unwrap_or (stored_text (c.args.t.now.0)) [] in
    let n = g.row.DISTANCE in
    let f = c.install.ensures.fits in
    let known : c.install.new.self.known ≡ c.args.t.now.0 =
    ap (λ (r : RefSeen). r.known) c.install.ensures.offered.reference_is ∙ ap (λ (r : RefSeen). r.known) c.publish-reference.ensures.reference ∙ ap (λ (d : DraftSeen). d.written) c.fill.ensures
    ∙ ap (λ (d : DraftSeen). d.written ++ c.args.words.now) c.in-Some.ensures.draft.draft_is ∙ c.requires.words in
    let side : c.install.new.self.side_words ≡ crumbs b n =
    f.list ∙ ap (λ t. crumbs t n) (ap (λ o. unwrap_or o []) (sym f.stored) ∙ ap (λ ws. unwrap_or (stored_text ws) []) known) in
    let head : c.side.result ≡ size16 b = c.side.ensures.word ∙ ap (λ ws. get_or ws 0 0) side in
    let count : c.side.result / n ≡ size16 b / n = ap (λ u. u / n) head in
    omega (arith, count, few_crumbs b n c.count-count.result c.requires.distance.0 c.count-count.ensures.value, c.if-count-room.false, c.capacity_words-room.type_inv)

pub side_of-requires-clause-all : goal.side_of-requires-clause-all
side_of-requires-clause-all g c =
    let b = unwrap_or (stored_text (c.args.t.now.0)) [] in
    let n = g.row.DISTANCE in
    let f = c.install.ensures.fits in
    let known : c.install.new.self.known ≡ c.args.t.now.0 =
    ap (λ (r : RefSeen). r.known) c.install.ensures.offered.reference_is ∙ ap (λ (r : RefSeen). r.known) c.publish-reference.ensures.reference ∙ ap (λ (d : DraftSeen). d.written) c.fill.ensures
    ∙ ap (λ (d : DraftSeen). d.written ++ c.args.words.now) c.in-Some.ensures.draft.draft_is ∙ c.requires.words in
    let side : c.install.new.self.side_words ≡ crumbs b n =
    f.list ∙ ap (λ t. crumbs t n) (ap (λ o. unwrap_or o []) (sym f.stored) ∙ ap (λ ws. unwrap_or (stored_text ws) []) known) in
    let head : c.side.result ≡ size16 b = c.side.ensures.word ∙ ap (λ ws. get_or ws 0 0) side in
    let count : c.side.result / n ≡ size16 b / n = ap (λ u. u / n) head in
    omega (arith, count, ap (λ (r : RefSeen). length r.side_words) c.side.ensures.kept, ap length side, length-crumbs b n)
