use Rattle.std.proofs.Common.{◌≡◌, sym, ap, subst, ◌∙◌, ◌+◌, ◌<◌, ◌≤◌, ⊎_elim, true, false, arith}
use Rattle.std.proofs.lemmas.Bool.{cases_lt}
use Rattle.unicode_segmentation.specs.Cursor.{IsCursorOn}
use Rattle.unicode_segmentation.proofs.CursorLemmas.{breaks_at-end}
use Rattle.char_view.specs.Places.{IsPlace, own_bytes}
use Rattle.char_view.specs.Walks.{IsPieceOf, breaks, HasNone}
use Rattle.char_view.proofs.walk.next_break.Goals as goal

pub pieces-init : goal.pieces-init
pieces-init g c =
    record {
      same = c.ready.ensures.kept;
      on = c.requires.on;
      offset = c.requires.offset;
      extended = c.requires.extended;
      place = c.requires.place;
      ahead = omega arith;
      inside = c.requires.inside;
      fresh = λ _. c.requires.done;
      none = λ k low high cut. absurd (omega (arith, low, high));
      piece = c.ready.ensures.piece;
    }

pub pieces-preserved : goal.pieces-preserved
pieces-preserved g c =
    let i = c.pieces.invariant in
    let next = c.further-next in
    let own = own_bytes (g.T.Text.part c.args.t.now) in
    let same = c.piece_from.ensures.kept ∙ next.ensures.kept ∙ i.same in
    let place = subst (λ t. IsPlace (g.T.Text.part t) next.result.offset next.result.position) i.same next.ensures.place in
    let passed = subst (λ t. HasNone (own_bytes (g.T.Text.part t)) (c.pieces.place.offset + 1) next.result.offset) i.same next.ensures.passed in
    let here : breaks own next.result.offset ≡ false =
    sym (subst (λ t. c.stops.result ≡ breaks (own_bytes (g.T.Text.part t)) next.result.offset) same c.stops.ensures.value) ∙ c.if-stops.false in
    record {
      same = c.stops.ensures.kept ∙ same;
      on = subst (λ t. IsCursorOn c.stops.new.cursor (own_bytes (g.T.Text.part t))) same c.stops.ensures.on;
      offset = c.stops.ensures.offset;
      extended = c.stops.ensures.extended;
      place = place;
      ahead = omega (arith, i.ahead, next.ensures.ahead);
      inside = ⊎_elim (λ (h : next.result.offset < c.args.len). h)
          (λ (h : c.args.len ≤ next.result.offset).
          let last : true ≡ false = breaks_at-end true own next.result.offset (omega (arith, h, place.within, c.requires.len)) ∙ here in
          cc) (cases_lt next.result.offset c.args.len);
      fresh = λ e. absurd (omega (arith, i.ahead, next.ensures.ahead, e));
      none = λ k low high cut.
          ⊎_elim (λ (h : k < c.pieces.place.offset + 1). i.none k low h cut)
          (λ (h : c.pieces.place.offset + 1 ≤ k).
          ⊎_elim (λ (l : k < next.result.offset). passed k h l cut)
          (λ (l : next.result.offset ≤ k). let is : k ≡ next.result.offset = omega (arith, l, high) in ap (breaks own) is ∙ here) (cases_lt k next.result.offset))
          (cases_lt k (c.pieces.place.offset + 1));
      piece = subst (λ t. IsPieceOf (own_bytes (g.T.Text.part t)) c.piece_from.result) (next.ensures.kept ∙ i.same) c.piece_from.ensures.piece;
    }
