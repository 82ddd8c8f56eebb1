use Rattle.std.proofs.Common.{◌≡◌, refl, sym, ap, subst, ◌∙◌, ℕ, List, ◌+◌, ◌-◌, ◌*◌, ◌/◌, ◌<◌, ◌≤◌, min, [], ◌∷◌, ◌++◌, get_or, arith}
use Rattle.index_words.specs.Crumbs.{size16, index16}
use Rattle.word_units.specs.Counting.{units_within}
use Rattle.crumbs.specs.Counting.{Seen, crumbs_below}
use Rattle.crumbs.proofs.Crumbing.{size16-le}
use Rattle.crumbs.proofs.Seeing.{place_of_word, seen_word, seen_none, seen_end, end_units, long8, words_most}
use Rattle.crumbs.proofs.Growing.{below_all, few_from_last, room_left, grown}
use Rattle.crumbs.proofs.listing.build.Goals.{then-number-stride, else-number-stride}
use Rattle.crumbs.proofs.listing.build.Goals as goal

pub words-init : goal.words-init
words-init g c =
    let b = (g.T.Text.part c.args.t.now).whole in
    let d = c.args.draft.now in
    let first : 0 ≡ place_of_word c.count-count.result 0 = omega arith in
    record {
      same = c.count_units.ensures.kept;
      seen = subst (λ p. Seen b p 0) first (seen_none b);
      written = c.write.ensures ∙ ap (λ (w : ℕ). record d { written = d.written ++ (w ∷ []) }) c.count_units.ensures.units;
      small = omega (arith, size16-le (g.T.Text.part c.args.t.now).storage b, c.count-count.ensures.value, c.count-count.ensures.small);
      due = omega arith;
      few = omega arith;
      last = λ h. absurd (omega arith);
      cost = omega arith;
    }

pub write_word-number-requires-clause-seen : goal.write_word-number-requires-clause-seen
write_word-number-requires-clause-seen g c =
    let l = c.words in
    let same = c.word-word.ensures.kept ∙ l.invariant.same in
    let first : place_of_word c.count-count.result l.k ≡ 8 * l.k = omega arith in
    subst (λ v. Seen (g.T.Text.part v).whole (8 * l.k) l.reached) (sym same) (subst (λ p. Seen (g.T.Text.part c.args.t.now).whole p l.reached) first l.invariant.seen)

pub write_word-number-requires-clause-room : goal.write_word-number-requires-clause-room
write_word-number-requires-clause-room g c =
    let same = c.word-word.ensures.kept ∙ c.words.invariant.same in
    let n = g.T.Text.STRIDE in
    let in_text : size16 (g.T.Text.part c.word-word.new.self).whole / n ≡ size16 (g.T.Text.part c.args.t.now).whole / n = ap (λ v. size16 (g.T.Text.part v).whole / n) same in
    omega (arith, in_text, room_left (g.T.Text.part c.args.t.now).whole n c.words.number c.args.draft.now c.words.draft c.words.invariant.written c.requires.room)

pub words-preserved : goal.words-preserved
words-preserved g c =
    let ws = g.T.Text.words c.args.t.now in
    let b = (g.T.Text.part c.args.t.now).whole in
    let n = g.T.Text.STRIDE in
    let l = c.words in
    let d = c.args.draft.now in
    let same = c.word-word.ensures.kept ∙ l.invariant.same in
    let word : c.word-word.result ≡ get_or ws l.k 0 = c.word-word.ensures.value ∙ ap (λ v. get_or (g.T.Text.words v) l.k 0) l.invariant.same in
    let sized = seen_word (g.T.Text.part c.args.t.now).storage ws c.count-count.result b l.k l.reached c.word-word.result (min 8 (c.count-count.result - 8 * l.k))
    c.requires.storage c.count-count.ensures.value c.count-count.ensures.denotes l.invariant.seen (omega arith) word refl in
    let units : l.reached + units_within (min 8 (c.count-count.result - 8 * l.k)) c.word-word.result ≡ l.reached + c.units_before.result = omega (arith, c.units_before.ensures.value) in
    let seen : Seen b (place_of_word c.count-count.result (l.k + 1)) (l.reached + c.units_before.result) = subst (Seen b (place_of_word c.count-count.result (l.k + 1))) units sized in
    elim c.if-number-stride.branch [
      | then-number-stride w ↦
          let e = w.write_word-number.ensures in
          let r = w.write_word-number.result in
          let more : (front : List ℕ) → l.draft.written ≡ front ++ crumbs_below b n l.number → w.write_word-number.new.draft ≡ record l.draft { written = front ++ crumbs_below b n r } =
          subst (λ v. (front : List ℕ) → l.draft.written ≡ front ++ crumbs_below (g.T.Text.part v).whole n l.number → w.write_word-number.new.draft ≡ record l.draft { written = front ++ crumbs_below (g.T.Text.part v).whole n r })
          same e.written in
          let size : units_within w.bytes_in-size.result c.word-word.result ≡ units_within (min 8 (c.count-count.result - 8 * l.k)) c.word-word.result = ap (λ j. units_within j c.word-word.result) w.bytes_in-size.ensures in
          let due : l.reached + c.units_before.result ≤ r * n = omega (arith, units, size, e.due) in
          let last : 0 < r → (r - 1) * n < l.reached + c.units_before.result = λ h. omega (arith, units, size, e.last h) in
          record {
            same = same;
            seen = seen;
            written = w.draft-is ∙ grown b n l.number d l.draft l.invariant.written r w.write_word-number.new.draft more ∙ ap (λ m. record d { written = d.written ++ crumbs_below b n m }) (sym w.number-is);
            small = l.invariant.small;
            due = subst (λ m. l.reached + c.units_before.result ≤ m * n) (sym w.number-is) due;
            few = omega (arith, w.number-is, few_from_last r n (l.reached + c.units_before.result) c.requires.some.0 last);
            last = subst (λ m. 0 < m → (m - 1) * n < l.reached + c.units_before.result) (sym w.number-is) last;
            cost = omega arith;
          }
      | else-number-stride w ↦
          let due : l.reached + c.units_before.result ≤ l.number * n = rw c.stride-stride.ensures at w.if-number-stride.false in
          record {
            same = same;
            seen = seen;
            written = w.draft-is ∙ l.invariant.written ∙ ap (λ m. record d { written = d.written ++ crumbs_below b n m }) (sym w.number-is);
            small = l.invariant.small;
            due = subst (λ m. l.reached + c.units_before.result ≤ m * n) (sym w.number-is) due;
            few = omega (arith, w.number-is, l.invariant.few);
            last = subst (λ m. 0 < m → (m - 1) * n < l.reached + c.units_before.result) (sym w.number-is) (λ h. omega (arith, l.invariant.last h));
            cost = omega arith;
          }
    ]

pub write_due-requires-clause-units : goal.write_due-requires-clause-units
write_due-requires-clause-units g c =
    let l = c.words in
    λ o low high. ap (λ v. index16 (g.T.Text.part v).whole o) l.invariant.same
    ∙ end_units (g.T.Text.part c.args.t.now).storage c.count-count.result (g.T.Text.part c.args.t.now).whole (place_of_word c.count-count.result l.k) l.reached
    c.requires.storage c.count-count.ensures.value l.invariant.seen (omega arith) o low high

pub write_due-requires-clause-room : goal.write_due-requires-clause-room
write_due-requires-clause-room g c =
    let n = g.T.Text.STRIDE in
    let in_text : size16 (g.T.Text.part c.words.t).whole / n ≡ size16 (g.T.Text.part c.args.t.now).whole / n = ap (λ v. size16 (g.T.Text.part v).whole / n) c.words.invariant.same in
    omega (arith, in_text, room_left (g.T.Text.part c.args.t.now).whole n c.words.number c.args.draft.now c.words.draft c.words.invariant.written c.requires.room)

pub returns-clause-written : goal.returns-clause-written
returns-clause-written g c =
    let b = (g.T.Text.part c.args.t.now).whole in
    let n = g.T.Text.STRIDE in
    let l = c.words in
    let d = c.args.draft.now in
    let e = c.write_due.ensures in
    let r = c.write_due.result in
    let all = seen_end (g.T.Text.part c.args.t.now).storage c.count-count.result b (place_of_word c.count-count.result l.k) l.reached c.requires.storage c.count-count.ensures.value l.invariant.seen (omega arith) in
    let more : (front : List ℕ) → l.draft.written ≡ front ++ crumbs_below b n l.number → c.write_due.new.draft ≡ record l.draft { written = front ++ crumbs_below b n r } =
    subst (λ v. (front : List ℕ) → l.draft.written ≡ front ++ crumbs_below (g.T.Text.part v).whole n l.number → c.write_due.new.draft ≡ record l.draft { written = front ++ crumbs_below (g.T.Text.part v).whole n r })
    l.invariant.same e.written in
    grown b n l.number d l.draft l.invariant.written r c.write_due.new.draft more
    ∙ ap (λ (ws : List ℕ). record d { written = d.written ++ ws }) (below_all b n r c.requires.some.0 (omega (arith, all, e.due)) (λ h. omega (arith, all, e.last h)))

pub returns-clause-few : goal.returns-clause-few
returns-clause-few g c =
    let b = (g.T.Text.part c.args.t.now).whole in
    let long = long8 (g.T.Text.part c.args.t.now).storage c.count-count.result b c.requires.storage c.count-count.ensures.value in
    omega (arith, words_most b, long, c.words.invariant.cost)
