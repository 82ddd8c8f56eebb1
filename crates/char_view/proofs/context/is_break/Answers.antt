use Rattle.std.proofs.Common.{◌≡◌, refl, sym, ap, subst, ◌∙◌, ℕ, suc, ◌+◌, ◌<◌, Bool, true, false, cond, IsTrue, Err, Some, length, arith, ⊎_elim}
use Rattle.std.specs.Option.{unwrap_or}
use Rattle.unicode_segmentation.specs.Cursor.{IsChunkOf, KeepsPlace, cursor_awaits, cursor_has_decided}
use Rattle.unicode_segmentation.specs.declared.grapheme.cursor.GraphemeCursor.{GraphemeCursor}
use Rattle.char_view.specs.Places.{IsPlace, own_bytes}
use Rattle.char_view.specs.Walks.{IsPieceOf}
use Rattle.char_view.proofs.context.is_break.Given.{Over}
use Rattle.char_view.proofs.context.is_break.Goals as goal

undecided : (b : Bool) → (IsTrue b → false ≡ true) → b ≡ false
undecided true never = sym (never refl)
undecided false never = refl

apart : (b : Bool) → b ≡ false → IsTrue b → ⊥
apart true e h = cc
apart false e h = cc

smaller : (d old : Bool) (x y : ℕ) → old ≡ false → (d ≡ false → x < y) → cond d 0 (suc x) < cond old 0 (suc y)
smaller true true x y e h = cc
smaller false true x y e h = cc
smaller true false x y e h = omega arith
smaller false false x y e h = omega (arith, h refl)

together : (a b c : GraphemeCursor) → KeepsPlace a b → KeepsPlace b c → KeepsPlace a c
together a b c p q =
    record {
      kind = record { len = q.kind.len ∙ p.kind.len; is_extended = q.kind.is_extended ∙ p.kind.is_extended };
      offset = q.offset ∙ p.offset;
      is_resuming = q.is_resuming ∙ p.is_resuming;
    }

piece_before_of : (g : Over) (old text : g.row.T.Denot) (piece : _) → text ≡ old
    → IsPieceOf (own_bytes (g.T.Text.part text)) piece
    → IsPieceOf (own_bytes (g.T.Text.part old)) piece
piece_before_of g old text piece same p = subst (λ t. IsPieceOf (own_bytes (g.T.Text.part t)) piece) same p

pub provide_context-requires : goal.provide_context-requires
provide_context-requires g c =
    let i = c.context.invariant in
    let told = c.in-Err-PreContext.ensures in
    let asks = told.pre_context c.in-Err-PreContext.field-0-0 (ap Err c.in-Err-PreContext.field-0-is) in
    let open_ = undecided (cursor_has_decided c.context.cursor) told.decided in
    let end : c.in-Err-PreContext.field-0-0 ≡ c.context.back.offset =
    asks.in_place told.place.offset ∙ ap (unwrap_or (cursor_awaits c.context.cursor)) c.requires.begins ∙ i.awaits open_ in
    let long : length c.piece_text-in-Err-PreContext.result.now ≡ c.piece_before.result.0.size =
    ap length c.piece_text-in-Err-PreContext.ensures ∙ c.piece_before.ensures.piece.long in
    let sum : c.in-Err-PreContext.field-0-0 ≡ c.piece_before.result.0.offset + length c.piece_text-in-Err-PreContext.result.now = omega (arith, end, long, c.piece_before.ensures.end) in
    asks.awaits ∙ ap Some sum

pub context-smaller : goal.context-smaller
context-smaller g c =
    let i = c.context.invariant in
    let own = own_bytes (g.T.Text.part c.args.t.now) in
    let told = c.in-Err-PreContext.ensures in
    let is_at = ap Err c.in-Err-PreContext.field-0-is in
    let asks = told.pre_context c.in-Err-PreContext.field-0-0 is_at in
    let open_ = undecided (cursor_has_decided c.context.cursor) told.decided in
    let chunk = subst (λ p. IsChunkOf own p c.args.piece.now.offset) (sym c.piece_text.ensures) c.requires.piece.chunk in
    let some = told.pre_context_inside own i.on chunk c.in-Err-PreContext.field-0-0 is_at in
    let end : c.in-Err-PreContext.field-0-0 ≡ c.context.back.offset =
    asks.in_place told.place.offset ∙ ap (unwrap_or (cursor_awaits c.context.cursor)) c.requires.begins ∙ i.awaits open_ in
    let before = piece_before_of g c.args.t.now c.context.t c.piece_before.result.0 i.same c.piece_before.ensures.piece in
    let context = subst (λ p. IsChunkOf own p c.piece_before.result.0.offset) (sym c.piece_text-in-Err-PreContext.ensures) before.chunk in
    let given = c.provide_context.ensures.on own (told.on own i.on chunk) context in
    let size = c.piece_before.ensures.some (omega (arith, some, end)) in
    smaller (cursor_has_decided c.provide_context.new.self) (cursor_has_decided c.context.cursor) _ _ open_
    (λ no.
    ⊎_elim (λ (yes : IsTrue (cursor_has_decided c.provide_context.new.self)). absurd (apart (cursor_has_decided c.provide_context.new.self) no yes))
    (λ more.
    let there = ap (λ o. unwrap_or o c.args.at.offset) more.1 in
    omega (arith, there, i.awaits open_, c.piece_before.ensures.end, size)) given.1)

pub context-preserved : goal.context-preserved
context-preserved g c =
    let i = c.context.invariant in
    let own = own_bytes (g.T.Text.part c.args.t.now) in
    let told = c.in-Err-PreContext.ensures in
    let chunk = subst (λ p. IsChunkOf own p c.args.piece.now.offset) (sym c.piece_text.ensures) c.requires.piece.chunk in
    let before = piece_before_of g c.args.t.now c.context.t c.piece_before.result.0 i.same c.piece_before.ensures.piece in
    let context = subst (λ p. IsChunkOf own p c.piece_before.result.0.offset) (sym c.piece_text-in-Err-PreContext.ensures) before.chunk in
    let given = c.provide_context.ensures.on own (told.on own i.on chunk) context in
    record {
      same = c.piece_before.ensures.kept ∙ i.same;
      on = given.0;
      kept = together c.args.cursor.now c.is_boundary.new.self c.provide_context.new.self (together c.args.cursor.now c.context.cursor c.is_boundary.new.self i.kept told.place) c.provide_context.ensures.place;
      place = subst (λ t. IsPlace (g.T.Text.part t) c.piece_before.result.1.offset c.piece_before.result.1.position) i.same c.piece_before.ensures.place;
      awaits = λ no.
          ⊎_elim (λ (yes : IsTrue (cursor_has_decided c.provide_context.new.self)). absurd (apart (cursor_has_decided c.provide_context.new.self) no yes))
          (λ more. ap (λ o. unwrap_or o c.args.at.offset) more.1 ∙ sym c.piece_before.ensures.offset) given.1;
    }
