use Rattle.std.proofs.Common.{◌≡◌, sym, ap, subst, ◌∙◌, inl, inr, ⊎_elim, length, chars, IsUtf8, Err, rules, arith}
use Rattle.std.specs.Char.{len_utf8}
use Rattle.std.specs.List.{splice}
use Rattle.text_spec.specs.Boundaries.{IsScalarBoundary}
use Rattle.text_spec.specs.Offsets.{start, down}
use Rattle.text_spec.specs.Text.{utf8}
use Rattle.text_spec.specs.Views.{width_in}
use Rattle.text_spec.specs.declared.encoding.Encoding.TheVariants.{Utf8}
use Rattle.object_words.specs.Rows.{form_of}
use Rattle.slot_table.specs.Owners.{PassSeen}
use Rattle.str_value.specs.declared.error.MakeError.TheVariants.{OutOfMemory}
use Rattle.str_value.specs.declared.wrote.Wrote.TheVariants as wrote
use Rattle.str_value.specs.Editing.{IsMadeAnew, IsUnwritten, IsWritten, new_bytes}
use Rattle.str_value.specs.Making.{HasRoom}
use Rattle.str_value.specs.Meaning.{Meaning, storage_of, byte_place, spliced}
use Rattle.str_value.proofs.Overwritten.{unwritten-text, unwritten-row, unwritten-room, written-anew}
use Rattle.str_value.proofs.Spliced.{spliced-as, too-long, not-too-long}
use Rattle.str_value.proofs.value.Str.splice.Goals as goal

pub overwrite-requires-clause-utf8 : goal.overwrite-requires-clause-utf8
overwrite-requires-clause-utf8 g c =
    let p = c.part_utf8-part in
    let b = c.as_bytes-bytes in
    let now = c.args.self.now in
    let s =
    spliced-as now c.args.low c.args.high p.result.low p.result.high p.result.count c.args.with.now b.result.now p.ensures.scalars b.ensures.utf8
    b.ensures.value p.ensures.low p.ensures.high p.ensures.count p.ensures.order in
    subst (λ (m : Meaning). IsUtf8 (new_bytes m p.result b.result.now)) (sym p.ensures.kept) s.is.valid

pub overwrite-requires-clause-limit : goal.overwrite-requires-clause-limit
overwrite-requires-clause-limit g c =
    let p = c.part_utf8-part in
    let b = c.as_bytes-bytes in
    let now = c.args.self.now in
    let s =
    spliced-as now c.args.low c.args.high p.result.low p.result.high p.result.count c.args.with.now b.result.now p.ensures.scalars b.ensures.utf8
    b.ensures.value p.ensures.low p.ensures.high p.ensures.count p.ensures.order in
    omega (arith, ap (λ (m : Meaning). length (new_bytes m p.result b.result.now)) p.ensures.kept, s.long, c.if-length.false)

pub overwrite-requires-clause-count : goal.overwrite-requires-clause-count
overwrite-requires-clause-count g c =
    let p = c.part_utf8-part in
    p.ensures.count ∙ ap (λ (m : Meaning). length (utf8 m.text)) (sym p.ensures.kept)

pub remake-requires-clause-utf8 : goal.remake-requires-clause-utf8
remake-requires-clause-utf8 g c =
    let p = c.part_utf8-part in
    let b = c.as_bytes-bytes in
    let now = c.args.self.now in
    let s =
    spliced-as now c.args.low c.args.high p.result.low p.result.high p.result.count c.args.with.now b.result.now p.ensures.scalars b.ensures.utf8
    b.ensures.value p.ensures.low p.ensures.high p.ensures.count p.ensures.order in
    let u = c.overwrite.ensures.unwritten c.if-overwrite.false in
    let t : c.overwrite.new.self.text ≡ now.text = unwritten-text _ _ _ _ _ u ∙ ap (λ (m : Meaning). m.text) p.ensures.kept in
    subst (λ x. IsUtf8 (splice (utf8 x) p.result.low p.result.high b.result.now)) (sym t) s.is.valid

pub remake-requires-clause-limit : goal.remake-requires-clause-limit
remake-requires-clause-limit g c =
    let p = c.part_utf8-part in
    let b = c.as_bytes-bytes in
    let now = c.args.self.now in
    let s =
    spliced-as now c.args.low c.args.high p.result.low p.result.high p.result.count c.args.with.now b.result.now p.ensures.scalars b.ensures.utf8
    b.ensures.value p.ensures.low p.ensures.high p.ensures.count p.ensures.order in
    let u = c.overwrite.ensures.unwritten c.if-overwrite.false in
    let t : c.overwrite.new.self.text ≡ now.text = unwritten-text _ _ _ _ _ u ∙ ap (λ (m : Meaning). m.text) p.ensures.kept in
    omega (arith, ap (λ x. length (splice (utf8 x) p.result.low p.result.high b.result.now)) t, s.long, c.if-length.false)

pub remake-requires-clause-count : goal.remake-requires-clause-count
remake-requires-clause-count g c =
    let p = c.part_utf8-part in
    let b = c.as_bytes-bytes in
    let now = c.args.self.now in
    let s =
    spliced-as now c.args.low c.args.high p.result.low p.result.high p.result.count c.args.with.now b.result.now p.ensures.scalars b.ensures.utf8
    b.ensures.value p.ensures.low p.ensures.high p.ensures.count p.ensures.order in
    let u = c.overwrite.ensures.unwritten c.if-overwrite.false in
    let t : c.overwrite.new.self.text ≡ now.text = unwritten-text _ _ _ _ _ u ∙ ap (λ (m : Meaning). m.text) p.ensures.kept in
    p.ensures.count ∙ ap (λ x. length (utf8 x)) (sym t)

pub remake-requires-clause-high : goal.remake-requires-clause-high
remake-requires-clause-high g c =
    let p = c.part_utf8-part in
    let b = c.as_bytes-bytes in
    let now = c.args.self.now in
    let s =
    spliced-as now c.args.low c.args.high p.result.low p.result.high p.result.count c.args.with.now b.result.now p.ensures.scalars b.ensures.utf8
    b.ensures.value p.ensures.low p.ensures.high p.ensures.count p.ensures.order in
    let u = c.overwrite.ensures.unwritten c.if-overwrite.false in
    let t : c.overwrite.new.self.text ≡ now.text = unwritten-text _ _ _ _ _ u ∙ ap (λ (m : Meaning). m.text) p.ensures.kept in
    let row : c.overwrite.new.self.row ≡ now.row = unwritten-row _ _ _ _ _ u ∙ ap (λ (m : Meaning). m.row) p.ensures.kept in
    subst (λ x. IsScalarBoundary (width_in (storage_of c.overwrite.new.self.row)) x c.args.high) (sym t)
    (subst (λ r. IsScalarBoundary (width_in (storage_of r)) now.text c.args.high) (sym row) c.requires.high)

pub remake-requires-clause-high8 : goal.remake-requires-clause-high8
remake-requires-clause-high8 g c =
    let p = c.part_utf8-part in
    let b = c.as_bytes-bytes in
    let now = c.args.self.now in
    let s =
    spliced-as now c.args.low c.args.high p.result.low p.result.high p.result.count c.args.with.now b.result.now p.ensures.scalars b.ensures.utf8
    b.ensures.value p.ensures.low p.ensures.high p.ensures.count p.ensures.order in
    let u = c.overwrite.ensures.unwritten c.if-overwrite.false in
    let t : c.overwrite.new.self.text ≡ now.text = unwritten-text _ _ _ _ _ u ∙ ap (λ (m : Meaning). m.text) p.ensures.kept in
    let row : c.overwrite.new.self.row ≡ now.row = unwritten-row _ _ _ _ _ u ∙ ap (λ (m : Meaning). m.row) p.ensures.kept in
    p.ensures.high ∙ ap (λ x. start len_utf8 x (down (width_in (storage_of now.row)) x c.args.high)) (sym t)
    ∙ ap (λ r. start len_utf8 c.overwrite.new.self.text (down (width_in (storage_of r)) c.overwrite.new.self.text c.args.high)) (sym row)

pub returns-then-length-clause-too_long : goal.returns-then-length-clause-too_long
returns-then-length-clause-too_long g c =
    let p = c.part_utf8-part in
    let b = c.as_bytes-bytes in
    let now = c.args.self.now in
    let s =
    spliced-as now c.args.low c.args.high p.result.low p.result.high p.result.count c.args.with.now b.result.now p.ensures.scalars b.ensures.utf8
    b.ensures.value p.ensures.low p.ensures.high p.ensures.count p.ensures.order in
    too-long _ _ s.size_is c.if-length.true

pub returns-then-overwrite-clause-text : goal.returns-then-overwrite-clause-text
returns-then-overwrite-clause-text g c =
    let p = c.part_utf8-part in
    let b = c.as_bytes-bytes in
    let now = c.args.self.now in
    let s =
    spliced-as now c.args.low c.args.high p.result.low p.result.high p.result.count c.args.with.now b.result.now p.ensures.scalars b.ensures.utf8
    b.ensures.value p.ensures.low p.ensures.high p.ensures.count p.ensures.order in
    c.overwrite.ensures.text c.if-overwrite.true ∙ ap (λ (m : Meaning). chars (new_bytes m p.result b.result.now)) p.ensures.kept ∙ s.is.text_is

pub returns-then-overwrite-clause-written : goal.returns-then-overwrite-clause-written
returns-then-overwrite-clause-written g c =
    let p = c.part_utf8-part in
    let b = c.as_bytes-bytes in
    let now = c.args.self.now in
    let s =
    spliced-as now c.args.low c.args.high p.result.low p.result.high p.result.count c.args.with.now b.result.now p.ensures.scalars b.ensures.utf8
    b.ensures.value p.ensures.low p.ensures.high p.ensures.count p.ensures.order in
    subst (λ bs. IsWritten wrote.InPlace c.args.pass.now now (byte_place now c.args.low) bs c.overwrite.new.pass c.overwrite.new.self) s.is.bytes_are
    (subst (λ k. IsWritten wrote.InPlace c.args.pass.now now k (new_bytes now p.result b.result.now) c.overwrite.new.pass c.overwrite.new.self) p.ensures.low
    (subst (λ (m : Meaning). IsWritten wrote.InPlace c.args.pass.now m p.result.low (new_bytes m p.result b.result.now) c.overwrite.new.pass c.overwrite.new.self) p.ensures.kept
    (c.overwrite.ensures.written c.if-overwrite.true)))

pub returns-then-overwrite-clause-too_long : goal.returns-then-overwrite-clause-too_long
returns-then-overwrite-clause-too_long g c =
    let p = c.part_utf8-part in
    let b = c.as_bytes-bytes in
    let now = c.args.self.now in
    let s =
    spliced-as now c.args.low c.args.high p.result.low p.result.high p.result.count c.args.with.now b.result.now p.ensures.scalars b.ensures.utf8
    b.ensures.value p.ensures.low p.ensures.high p.ensures.count p.ensures.order in
    not-too-long _ _ (λ n e. cc) (omega (arith, s.size_is, c.if-length.false))

pub returns-in_err-remake-clause-too_long : goal.returns-in_err-remake-clause-too_long
returns-in_err-remake-clause-too_long g c =
    let p = c.part_utf8-part in
    let b = c.as_bytes-bytes in
    let now = c.args.self.now in
    let s =
    spliced-as now c.args.low c.args.high p.result.low p.result.high p.result.count c.args.with.now b.result.now p.ensures.scalars b.ensures.utf8
    b.ensures.value p.ensures.low p.ensures.high p.ensures.count p.ensures.order in
    let gone : c.from_residual.result ≡ Err OutOfMemory = search rules in
    not-too-long _ _ (λ n e. cc (gone, e)) (omega (arith, s.size_is, c.if-length.false))

pub returns-in_err-remake-clause-copied_is_free : goal.returns-in_err-remake-clause-copied_is_free
returns-in_err-remake-clause-copied_is_free g c =
    let p = c.part_utf8-part in
    let b = c.as_bytes-bytes in
    let now = c.args.self.now in
    let s =
    spliced-as now c.args.low c.args.high p.result.low p.result.high p.result.count c.args.with.now b.result.now p.ensures.scalars b.ensures.utf8
    b.ensures.value p.ensures.low p.ensures.high p.ensures.count p.ensures.order in
    let u = c.overwrite.ensures.unwritten c.if-overwrite.false in
    let t : c.overwrite.new.self.text ≡ now.text = unwritten-text _ _ _ _ _ u ∙ ap (λ (m : Meaning). m.text) p.ensures.kept in
    let same : IsUnwritten c.args.pass.now now (length (utf8 (spliced now c.args.low c.args.high (chars c.args.with.now)))) c.overwrite.new.pass c.overwrite.new.self =
    subst (λ n. IsUnwritten c.args.pass.now now n c.overwrite.new.pass c.overwrite.new.self) (ap length s.is.bytes_are)
    (subst (λ (m : Meaning). IsUnwritten c.args.pass.now m (length (new_bytes m p.result b.result.now)) c.overwrite.new.pass c.overwrite.new.self) p.ensures.kept u) in
    let long : length (splice (utf8 c.overwrite.new.self.text) p.result.low p.result.high b.result.now) ≡ length (utf8 (spliced now c.args.low c.args.high (chars c.args.with.now))) =
    ap (λ x. length (splice (utf8 x) p.result.low p.result.high b.result.now)) t ∙ ap length s.is.bytes_are in
    λ e. (
      omega (arith, c.in_err-remake.ensures.long, long),
      λ room. c.in_err-remake.ensures.no_slot (subst (HasRoom c.overwrite.new.pass Utf8) (sym long) (unwritten-room _ _ _ _ _ same _ room)),
    )

pub returns-in_err-remake-clause-no_longer_is_free : goal.returns-in_err-remake-clause-no_longer_is_free
returns-in_err-remake-clause-no_longer_is_free g c =
    let p = c.part_utf8-part in
    let b = c.as_bytes-bytes in
    let now = c.args.self.now in
    let s =
    spliced-as now c.args.low c.args.high p.result.low p.result.high p.result.count c.args.with.now b.result.now p.ensures.scalars b.ensures.utf8
    b.ensures.value p.ensures.low p.ensures.high p.ensures.count p.ensures.order in
    let u = c.overwrite.ensures.unwritten c.if-overwrite.false in
    let t : c.overwrite.new.self.text ≡ now.text = unwritten-text _ _ _ _ _ u ∙ ap (λ (m : Meaning). m.text) p.ensures.kept in
    let row : c.overwrite.new.self.row ≡ now.row = unwritten-row _ _ _ _ _ u ∙ ap (λ (m : Meaning). m.row) p.ensures.kept in
    let long : length (splice (utf8 c.overwrite.new.self.text) p.result.low p.result.high b.result.now) ≡ length (utf8 (spliced now c.args.low c.args.high (chars c.args.with.now))) =
    ap (λ x. length (splice (utf8 x) p.result.low p.result.high b.result.now)) t ∙ ap length s.is.bytes_are in
    λ e. ⊎_elim (λ l. inl (ap storage_of (sym row) ∙ l))
    (λ more. ⊎_elim (λ l. inr (inl (λ is. l (ap form_of row ∙ is)))) (λ l. inr (inr (omega (arith, l, long, ap (λ x. length (utf8 x)) t)))) more)
    c.in_err-remake.ensures.longer

pub returns-in_err-remake-clause-unwritten : goal.returns-in_err-remake-clause-unwritten
returns-in_err-remake-clause-unwritten g c =
    let p = c.part_utf8-part in
    let b = c.as_bytes-bytes in
    let now = c.args.self.now in
    let s =
    spliced-as now c.args.low c.args.high p.result.low p.result.high p.result.count c.args.with.now b.result.now p.ensures.scalars b.ensures.utf8
    b.ensures.value p.ensures.low p.ensures.high p.ensures.count p.ensures.order in
    let u = c.overwrite.ensures.unwritten c.if-overwrite.false in
    let t : c.overwrite.new.self.text ≡ now.text = unwritten-text _ _ _ _ _ u ∙ ap (λ (m : Meaning). m.text) p.ensures.kept in
    let same : IsUnwritten c.args.pass.now now (length (utf8 (spliced now c.args.low c.args.high (chars c.args.with.now)))) c.overwrite.new.pass c.overwrite.new.self =
    subst (λ n. IsUnwritten c.args.pass.now now n c.overwrite.new.pass c.overwrite.new.self) (ap length s.is.bytes_are)
    (subst (λ (m : Meaning). IsUnwritten c.args.pass.now m (length (new_bytes m p.result b.result.now)) c.overwrite.new.pass c.overwrite.new.self) p.ensures.kept u) in
    λ e. subst (λ (m : Meaning). IsUnwritten c.args.pass.now now (length (utf8 (spliced now c.args.low c.args.high (chars c.args.with.now)))) c.remake.new.pass m) (sym c.in_err-remake.ensures.refused.0)
    (subst (λ (q : PassSeen). IsUnwritten c.args.pass.now now (length (utf8 (spliced now c.args.low c.args.high (chars c.args.with.now)))) q c.overwrite.new.self) (sym c.in_err-remake.ensures.refused.1) same)

pub returns-clause-text : goal.returns-clause-text
returns-clause-text g c =
    let p = c.part_utf8-part in
    let b = c.as_bytes-bytes in
    let now = c.args.self.now in
    let s =
    spliced-as now c.args.low c.args.high p.result.low p.result.high p.result.count c.args.with.now b.result.now p.ensures.scalars b.ensures.utf8
    b.ensures.value p.ensures.low p.ensures.high p.ensures.count p.ensures.order in
    let u = c.overwrite.ensures.unwritten c.if-overwrite.false in
    let t : c.overwrite.new.self.text ≡ now.text = unwritten-text _ _ _ _ _ u ∙ ap (λ (m : Meaning). m.text) p.ensures.kept in
    c.in_ok-remake.ensures.text ∙ ap (λ x. chars (splice (utf8 x) p.result.low p.result.high b.result.now)) t ∙ s.is.text_is

pub returns-clause-written : goal.returns-clause-written
returns-clause-written g c =
    let p = c.part_utf8-part in
    let b = c.as_bytes-bytes in
    let now = c.args.self.now in
    let s =
    spliced-as now c.args.low c.args.high p.result.low p.result.high p.result.count c.args.with.now b.result.now p.ensures.scalars b.ensures.utf8
    b.ensures.value p.ensures.low p.ensures.high p.ensures.count p.ensures.order in
    let u = c.overwrite.ensures.unwritten c.if-overwrite.false in
    let t : c.overwrite.new.self.text ≡ now.text = unwritten-text _ _ _ _ _ u ∙ ap (λ (m : Meaning). m.text) p.ensures.kept in
    let same : IsUnwritten c.args.pass.now now (length (utf8 (spliced now c.args.low c.args.high (chars c.args.with.now)))) c.overwrite.new.pass c.overwrite.new.self =
    subst (λ n. IsUnwritten c.args.pass.now now n c.overwrite.new.pass c.overwrite.new.self) (ap length s.is.bytes_are)
    (subst (λ (m : Meaning). IsUnwritten c.args.pass.now m (length (new_bytes m p.result b.result.now)) c.overwrite.new.pass c.overwrite.new.self) p.ensures.kept u) in
    written-anew _ c.args.pass.now now (byte_place now c.args.low) (utf8 (spliced now c.args.low c.args.high (chars c.args.with.now))) c.remake.new.pass c.remake.new.self
    (record {
      asked = c.overwrite.new.pass;
      kept = c.overwrite.new.self;
      unwritten = same;
      anew = subst (λ bs. IsMadeAnew c.in_ok-remake.field-0 c.overwrite.new.pass c.overwrite.new.self bs c.remake.new.pass c.remake.new.self)
          (ap (λ x. splice (utf8 x) p.result.low p.result.high b.result.now) t ∙ s.is.bytes_are) c.in_ok-remake.ensures.anew;
    })

pub returns-clause-too_long : goal.returns-clause-too_long
returns-clause-too_long g c =
    let p = c.part_utf8-part in
    let b = c.as_bytes-bytes in
    let now = c.args.self.now in
    let s =
    spliced-as now c.args.low c.args.high p.result.low p.result.high p.result.count c.args.with.now b.result.now p.ensures.scalars b.ensures.utf8
    b.ensures.value p.ensures.low p.ensures.high p.ensures.count p.ensures.order in
    not-too-long _ _ (λ n e. cc) (omega (arith, s.size_is, c.if-length.false))
