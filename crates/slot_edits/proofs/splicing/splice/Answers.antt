use Rattle.std.proofs.Common.{◌≡◌, refl, ℕ, ◌+◌, ◌-◌, ◌*◌, ◌/◌, ◌≤◌, sym, ap, subst, ◌∙◌, List, slice_index, length, arith}
use Rattle.slot_model.specs.History.{put}
use Rattle.slot_table.specs.Owners.{RefSeen}
use Rattle.object_words.specs.Rows.{is_ascii}
use Rattle.slot_edits.specs.Texts.{native_count}
use Rattle.slot_edits.specs.Writes.{Wrote}
use Rattle.slot_edits.specs.Parts.{spliced}
use Rattle.slot_edits.specs.Words.{content_bytes}
use Rattle.slot_edits.proofs.Writes.{wrote-more}
use Rattle.slot_edits.proofs.Words.{put-here, length-put}
use Rattle.slot_edits.proofs.Endings.{length-spliced, bytes-count, object-of}
use Rattle.slot_edits.proofs.splicing.splice.Goals as goal

pub returns-clause-edited : goal.returns-clause-edited
returns-clause-edited g c =
    let p = c.requires.part in
    let known = c.args.reference.now.known in
    let part = c.args.part in
    let with = c.args.with.now in
    let new : List ℕ = spliced known part with in
    let same = c.ascii_after-ascii.ensures.kept in
    let between : List ℕ = c.splice_words.new.reference.known in
    let word = c.w0.result in
    let long : length new ≡ part.count - (part.high - part.low) + length with = length-spliced known part with p.order p.inside in
    let is : c.write.new.self.known ≡ put between 0 word = ap (λ (z : RefSeen). z.known) c.write.ensures.kept in
    let told : content_bytes between (length new) ≡ new =
    subst (λ (z : RefSeen). content_bytes between (length (spliced z.known part with)) ≡ spliced z.known part with) same c.splice_words.ensures.bytes in
    let room : length new + 8 ≤ 8 * length between =
    subst (λ (z : RefSeen). length (spliced z.known part with) + 8 ≤ 8 * length between) same c.splice_words.ensures.room in
    let bytes : content_bytes c.write.new.self.known (length new) ≡ new =
    ap (λ (l : List ℕ). content_bytes l (length new)) is ∙ bytes-count between word (length new) ∙ told in
    let count : c.new_length-count.result ≡ length new = c.new_length-count.ensures ∙ sym long in
    record {
      bytes = bytes;
      text = record {
        says = ap (λ (l : List ℕ). slice_index l 0) is ∙ put-here between 0 word (omega arith) ∙ c.w0.ensures ∙ sym (ap (λ (w : ℕ × ℕ). w.0) c.native-object.ensures.says)
            ∙ ap (native_count c.ascii_after-ascii.result) count ∙ ap (λ b. native_count b (length new)) c.ascii_after-ascii.ensures.ascii;
        exact = ap is_ascii (sym bytes);
        room = omega (arith, room, ap length is, length-put between 0 word (omega arith));
      };
    }

pub returns-clause-wrote : goal.returns-clause-wrote
returns-clause-wrote g c =
    let part = c.args.part in
    let with = c.args.with.now in
    let same = c.ascii_after-ascii.ensures.kept in
    let told = subst (λ (z : RefSeen). (n : ℕ) × (n ≤ (length (spliced z.known part with) + 7) / 8 - part.low / 8) × Wrote n z c.splice_words.new.reference) same c.splice_words.ensures.wrote in (
      told.0,
      omega (arith, told.1),
      wrote-more g.A.Attach.fits c.args.reference.now c.splice_words.new.reference c.write.new.self told.0 _ 0 c.w0.result _ told.2 refl c.write.ensures.event c.write.ensures.kept,
    )

pub returns-clause-object : goal.returns-clause-object
returns-clause-object g c =
    let p = c.requires.part in
    let count : c.new_length-count.result ≡ length (spliced c.args.reference.now.known c.args.part c.args.with.now) =
    c.new_length-count.ensures ∙ sym (length-spliced c.args.reference.now.known c.args.part c.args.with.now p.order p.inside) in
    object-of _ c.ascii_after-ascii.result c.new_length-count.result _ _ c.native-object.result c.native-object.ensures c.ascii_after-ascii.ensures.ascii count
    (c.slot.ensures ∙ ap (λ (z : RefSeen). z.slot) c.splice_words.ensures.wrote.2.rest ∙ ap (λ (z : RefSeen). z.slot) c.ascii_after-ascii.ensures.kept)
