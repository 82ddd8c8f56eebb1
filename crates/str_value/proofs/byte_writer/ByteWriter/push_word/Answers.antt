use Rattle.std.proofs.Common.{ℕ, List, [], ◌∷◌, ◌+◌, ◌-◌, ◌*◌, ◌/◌, ◌%◌, ◌^◌, sym, ap, subst}
use Rattle.text_spec.specs.Packed.{bytes_of}
use Rattle.slot_table.specs.Owners.{DraftSeen}
use Rattle.str_value.specs.Drafting.{IsWriting}
use Rattle.str_value.proofs.Written.{shifted, stays, stays-bytes, fills, fills-bytes, writing-kept, writing-more, room-left}
use Rattle.str_value.proofs.byte_writer.ByteWriter.push_word.Goals as goal

pub invariant_of-self : goal.invariant_of-self
invariant_of-self c =
    let i = c.self.inside in
    stays i.draft.written i.word i.waiting c.args.word c.args.count _ c.self.invariant c.requires.few c.requires.small
    (shifted i.word c.args.word i.waiting c.ranges.word.fits c.self.invariant.few) c.if-filled-lt-WORD_BYTES.true

pub write-requires : goal.write-requires
write-requires c =
    let i = c.self.inside in
    room-left c.args.self.now i.draft i.word i.waiting c.args.count c.self.view_is c.self.invariant.some c.self.invariant.few c.requires.room c.if-filled-lt-WORD_BYTES.false

pub invariant_of-self-else-filled-lt-WORD_BYTES : goal.invariant_of-self-else-filled-lt-WORD_BYTES
invariant_of-self-else-filled-lt-WORD_BYTES c =
    let i = c.self.inside in
    let both = i.word + c.args.word * 2 ^ (8 * i.waiting) % 2 ^ 128 in
    subst (λ (l : List ℕ). IsWriting l (both / 2 ^ 64) (i.waiting + c.args.count - 8)) (sym (ap (λ (d : DraftSeen). d.written) c.write.ensures))
    (fills i.draft.written i.word i.waiting c.args.word c.args.count both c.self.invariant c.requires.few c.requires.small
    (shifted i.word c.args.word i.waiting c.ranges.word.fits c.self.invariant.few) c.if-filled-lt-WORD_BYTES.false)

pub returns-then-filled-lt-WORD_BYTES : goal.returns-then-filled-lt-WORD_BYTES
returns-then-filled-lt-WORD_BYTES c =
    let i = c.self.inside in
    let both = i.word + c.args.word * 2 ^ (8 * i.waiting) % 2 ^ 128 in
    writing-kept c.args.self.now i.draft i.word i.waiting (both % 2 ^ 64) (i.waiting + c.args.count) (bytes_of (c.args.word ∷ []) c.args.count) c.self.view_is
    (stays-bytes i.draft.written i.word i.waiting c.args.word c.args.count both c.self.invariant c.requires.few c.requires.small
    (shifted i.word c.args.word i.waiting c.ranges.word.fits c.self.invariant.few) c.if-filled-lt-WORD_BYTES.true)

pub returns-else-filled-lt-WORD_BYTES : goal.returns-else-filled-lt-WORD_BYTES
returns-else-filled-lt-WORD_BYTES c =
    let i = c.self.inside in
    let both = i.word + c.args.word * 2 ^ (8 * i.waiting) % 2 ^ 128 in
    writing-more c.args.self.now i.draft c.write.new.self i.word i.waiting (both / 2 ^ 64) (i.waiting + c.args.count - 8) (both % 2 ^ 64) (bytes_of (c.args.word ∷ []) c.args.count)
    c.self.view_is c.write.ensures c.self.invariant.some
    (fills-bytes i.draft.written i.word i.waiting c.args.word c.args.count both c.self.invariant c.requires.few c.requires.small
    (shifted i.word c.args.word i.waiting c.ranges.word.fits c.self.invariant.few) c.if-filled-lt-WORD_BYTES.false)
