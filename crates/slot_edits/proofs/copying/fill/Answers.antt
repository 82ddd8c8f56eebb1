use Rattle.std.proofs.Common.{◌≡◌, ℕ, ◌+◌, ◌/◌, sym, ap, ◌∙◌, Bool, List, [], ◌∷◌, ◌++◌, length, arith}
use Rattle.slot_table.specs.Owners.{RefSeen, DraftSeen}
use Rattle.object_words.specs.Rows.{is_ascii, native, Describes}
use Rattle.slot_edits.specs.Parts.{spliced}
use Rattle.slot_edits.specs.Texts.{native_count, begun}
use Rattle.slot_edits.proofs.Endings.{length-spliced, object-of}
use Rattle.slot_edits.proofs.copying.fill.Goals as goal

-- the count word
word-is : (new : List ℕ) (ascii : Bool) (count word : ℕ) (object : ℕ × ℕ) (slot : ℕ) → word ≡ object.0 → Describes (native ascii ascii count slot) object → ascii ≡ is_ascii new → count ≡ length new
    → word ≡ native_count (is_ascii new) (length new)
word-is new ascii count word object slot is d a n =
    is ∙ sym (ap (λ (w : ℕ × ℕ). w.0) d.says) ∙ ap (native_count ascii) n ∙ ap (λ b. native_count b (length new)) a

pub fill_mixed-requires-clause-begun : goal.fill_mixed-requires-clause-begun
fill_mixed-requires-clause-begun g c =
    let new : List ℕ = spliced c.args.reference.now.known c.args.part c.args.with.now in
    let p = c.requires.part in
    let count : c.new_length-count.result ≡ length new =
    c.new_length-count.ensures ∙ sym (length-spliced c.args.reference.now.known c.args.part c.args.with.now p.order p.inside) in
    let word = word-is new c.ascii_after-ascii.result c.new_length-count.result c.w0.result c.native-object.result c.slot.result c.w0.ensures c.native-object.ensures c.ascii_after-ascii.ensures.ascii count in
    ap (λ (z : DraftSeen). z.written) c.write.ensures ∙ ap (λ (l : List ℕ). l ++ c.w0.result ∷ []) c.requires.none ∙ ap (λ (w : ℕ). w ∷ []) word
    ∙ sym (ap (λ (z : RefSeen). begun (spliced z.known c.args.part c.args.with.now) 0) c.ascii_after-ascii.ensures.kept)

pub returns-then-middle-words-clause-words : goal.returns-then-middle-words-clause-words
returns-then-middle-words-clause-words g c =
    let new : List ℕ = spliced c.args.reference.now.known c.args.part c.args.with.now in
    let p = c.requires.part in
    let n = (c.new_length-count.result + 7) / 8 in
    let end : n ≡ (length new + 7) / 8 =
    omega (arith, c.new_length-count.ensures, length-spliced c.args.reference.now.known c.args.part c.args.with.now p.order p.inside) in
    let all : List ℕ = begun (spliced c.fill_mixed.new.reference.known c.args.part c.args.with.now) n in
    c.fill_moved.ensures.words ∙ ap (λ (z : DraftSeen). record z { written = all }) (c.fill_mixed.ensures.words)
    ∙ ap (λ (z : DraftSeen). record z { written = all }) c.write.ensures
    ∙ ap (λ (z : RefSeen). record c.args.draft.now { written = begun (spliced z.known c.args.part c.args.with.now) n }) (c.fill_mixed.ensures.kept ∙ c.ascii_after-ascii.ensures.kept)
    ∙ ap (λ (k : ℕ). record c.args.draft.now { written = begun new k }) end

pub returns-else-middle-words-clause-words : goal.returns-else-middle-words-clause-words
returns-else-middle-words-clause-words g c =
    let new : List ℕ = spliced c.args.reference.now.known c.args.part c.args.with.now in
    let p = c.requires.part in
    let n = c.first_moved-middle.result in
    let end : n ≡ (length new + 7) / 8 =
    omega (arith, c.new_length-count.ensures, length-spliced c.args.reference.now.known c.args.part c.args.with.now p.order p.inside, c.first_moved-middle.ensures.within, c.if-middle-words.false) in
    let all : List ℕ = begun (spliced c.ascii_after-ascii.new.reference.known c.args.part c.args.with.now) n in
    c.fill_mixed.ensures.words ∙ ap (λ (z : DraftSeen). record z { written = all }) c.write.ensures
    ∙ ap (λ (z : RefSeen). record c.args.draft.now { written = begun (spliced z.known c.args.part c.args.with.now) n }) c.ascii_after-ascii.ensures.kept
    ∙ ap (λ (k : ℕ). record c.args.draft.now { written = begun new k }) end

pub returns-then-middle-words-clause-object : goal.returns-then-middle-words-clause-object
returns-then-middle-words-clause-object g c =
    let p = c.requires.part in
    let count : c.new_length-count.result ≡ length (spliced c.args.reference.now.known c.args.part c.args.with.now) =
    c.new_length-count.ensures ∙ sym (length-spliced c.args.reference.now.known c.args.part c.args.with.now p.order p.inside) in
    object-of _ c.ascii_after-ascii.result c.new_length-count.result _ _ c.native-object.result c.native-object.ensures c.ascii_after-ascii.ensures.ascii count c.slot.ensures

pub returns-else-middle-words-clause-object : goal.returns-else-middle-words-clause-object
returns-else-middle-words-clause-object g c =
    let p = c.requires.part in
    let count : c.new_length-count.result ≡ length (spliced c.args.reference.now.known c.args.part c.args.with.now) =
    c.new_length-count.ensures ∙ sym (length-spliced c.args.reference.now.known c.args.part c.args.with.now p.order p.inside) in
    object-of _ c.ascii_after-ascii.result c.new_length-count.result _ _ c.native-object.result c.native-object.ensures c.ascii_after-ascii.ensures.ascii count c.slot.ensures
