use Rattle.std.proofs.Common.{◌≡◌, sym, ap, subst, ◌∙◌, ℕ, suc, ◌-◌, ◌<◌, ◌≤◌, ◌==◌, ◌⊎◌, ⊎_elim, true, Some, arith}
use Rattle.text_spec.specs.Offsets.{start, down}
use Rattle.text_spec.specs.Views.{width_in, other_width}
use Rattle.text_spec.specs.declared.encoding.Encoding.{Encoding}
use Rattle.index_words.specs.Fields.{plain, word_of}
use Rattle.rounding.specs.Resolving.{Bounds, Reaches}
use Rattle.rounding.proofs.Places.{IsPlaceOf, IsIndexAt, place_within, place_end, index_from_told, boundary_told, resolved_index}
use Rattle.rounding.proofs.resolution.resolve_other.Given.{Over}
use Rattle.rounding.proofs.resolution.resolve_other.Goals as goal

-- the place where the walk ended before the text did, of the text as it was
within : (g : Over) (old text : g.row.T.Denot) (low high before at units q : ℕ) → text ≡ old
    → Bounds (g.T.Text.part old) low high
    → Reaches (g.T.Text.part old) low before → before ≤ q
    → Reaches (g.T.Text.part text) at units → (at ≤ high) × (units ≤ q)
    → (at ≡ high) ⊎ ((at < high) × (q < start (other_width (g.T.Text.part text).storage) (g.T.Text.part text).whole (suc (down (width_in (g.T.Text.part text).storage) (g.T.Text.part text).whole at))))
    → (at ≡ high → ⊥) → IsPlaceOf (g.T.Text.part old).storage (g.T.Text.part old).whole (g.T.Text.part old).first (g.T.Text.part old).end q at (q - units)
within g old text low high before at units q same bounds lowest above reaches not_after last ends =
    let inside = ⊎_elim (λ (e : at ≡ high). absurd (ends e)) (λ h. h) last in
    place_within _ _ _ _ low high q at units before bounds lowest above
    (subst (λ t. Reaches (g.T.Text.part t) at units) same reaches) not_after.1 inside.0
    (subst (λ t. q < start (other_width (g.T.Text.part t).storage) (g.T.Text.part t).whole (suc (down (width_in (g.T.Text.part t).storage) (g.T.Text.part t).whole at))) same inside.1)

pub overflow_cast-offset : goal.overflow_cast-offset
overflow_cast-offset g c =
    let place = within g c.args.t.now c.units_before-low.new.t _ _ _ c.boundary_of-at.result.0 c.boundary_of-at.result.1 c.args.offset c.units_before-low.ensures.kept
    c.bounds-from.ensures c.units_before-low.ensures.units c.if-offset-low.false c.boundary_of-at.ensures.reached c.boundary_of-at.ensures.not_after c.boundary_of-at.ensures.last c.if-at-to.false in
    omega (arith, place.few)

pub index_from-requires-2-clause-past_in : goal.index_from-requires-2-clause-past_in
index_from-requires-2-clause-past_in g c =
    let place = within g c.args.t.now c.units_before-low.new.t _ _ _ c.boundary_of-at.result.0 c.boundary_of-at.result.1 c.args.offset c.units_before-low.ensures.kept
    c.bounds-from.ensures c.units_before-low.ensures.units c.if-offset-low.false c.boundary_of-at.ensures.reached c.boundary_of-at.ensures.not_after c.boundary_of-at.ensures.last c.if-at-to.false in
    place.few

-- the index that is made of a boundary and an offset behind it
made : (g : Over) (old text : g.row.T.Denot) (kind : Encoding) (at units past index : ℕ) → text ≡ old → kind ≡ (g.T.Text.part old).storage
    → Reaches (g.T.Text.part text) at units → past < 4
    → index ≡ word_of (record (plain at past kind) { scalar_aligned = past == 0 })
    → IsIndexAt (g.T.Text.part old).storage (g.T.Text.part old).whole true at past index
made g old text kind at units past index same kept reaches few is =
    let boundary = (subst (λ t. Reaches (g.T.Text.part t) at units) same reaches).boundary in
    index_from_told kind _ _ true (past == 0) at past index few kept (boundary_told _ _ at past boundary) is

pub returns-clause-found : goal.returns-clause-found
returns-clause-found g c =
    let place = within g c.args.t.now c.units_before-low.new.t _ _ _ c.boundary_of-at.result.0 c.boundary_of-at.result.1 c.args.offset c.units_before-low.ensures.kept
    c.bounds-from.ensures c.units_before-low.ensures.units c.if-offset-low.false c.boundary_of-at.ensures.reached c.boundary_of-at.ensures.not_after c.boundary_of-at.ensures.last c.if-at-to.false in
    place.place ∙ ap Some (sym (made g c.args.t.now c.units_before-low.new.t _ _ _ _ _ c.units_before-low.ensures.kept c.encoding-encoding.ensures c.boundary_of-at.ensures.reached place.few c.index_from-2.ensures).place)

pub returns-clause-word : goal.returns-clause-word
returns-clause-word g c =
    let place = within g c.args.t.now c.units_before-low.new.t _ _ _ c.boundary_of-at.result.0 c.boundary_of-at.result.1 c.args.offset c.units_before-low.ensures.kept
    c.bounds-from.ensures c.units_before-low.ensures.units c.if-offset-low.false c.boundary_of-at.ensures.reached c.boundary_of-at.ensures.not_after c.boundary_of-at.ensures.last c.if-at-to.false in
    (made g c.args.t.now c.units_before-low.new.t _ _ _ _ _ c.units_before-low.ensures.kept c.encoding-encoding.ensures c.boundary_of-at.ensures.reached place.few c.index_from-2.ensures).word

pub returns-then-at-to-clause-found : goal.returns-then-at-to-clause-found
returns-then-at-to-clause-found g c =
    let reaches = subst (λ t. Reaches (g.T.Text.part t) c.boundary_of-at.result.0 c.boundary_of-at.result.1) c.units_before-low.ensures.kept c.boundary_of-at.ensures.reached in
    let place = place_end _ _ _ _ _ _ c.args.offset _ _ _ c.bounds-from.ensures c.units_before-low.ensures.units c.if-offset-low.false reaches c.boundary_of-at.ensures.not_after.1 c.if-at-to.true c.if-reached-offset.false in
    place.place ∙ ap Some (sym (made g c.args.t.now c.units_before-low.new.t _ _ _ _ _ c.units_before-low.ensures.kept c.encoding-encoding.ensures c.boundary_of-at.ensures.reached place.few c.index_from.ensures).place)

pub returns-clause-resolved : goal.returns-clause-resolved
returns-clause-resolved g c =
    let place = within g c.args.t.now c.units_before-low.new.t _ _ _ c.boundary_of-at.result.0 c.boundary_of-at.result.1 c.args.offset c.units_before-low.ensures.kept
    c.bounds-from.ensures c.units_before-low.ensures.units c.if-offset-low.false c.boundary_of-at.ensures.reached c.boundary_of-at.ensures.not_after c.boundary_of-at.ensures.last c.if-at-to.false in
    resolved_index _ _ _ _ _ _ _ _ _ _ _ c.bounds-from.ensures c.boundary_of-at.ensures.ahead c.boundary_of-at.ensures.not_after.0 place.few c.encoding-encoding.ensures c.index_from-2.ensures

pub returns-then-at-to-clause-resolved : goal.returns-then-at-to-clause-resolved
returns-then-at-to-clause-resolved g c =
    resolved_index _ _ _ _ _ _ _ _ 0 _ true c.bounds-from.ensures c.boundary_of-at.ensures.ahead c.boundary_of-at.ensures.not_after.0 (omega arith) c.encoding-encoding.ensures c.index_from.ensures
