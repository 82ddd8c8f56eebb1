-- A Native value's slot and its text: what an edit over it needs, and what it leaves.
use Rattle.std.proofs.Common.{◌≡◌, refl, sym, ap, subst, ◌∙◌, inl, inr, ℕ, ◌+◌, ◌-◌, ◌/◌, ◌^◌, ◌<◌, ◌≤◌, List, [], ◌∷◌, ◌++◌, Bool, None, IfSome, IfNone, Option, Some, false, length, length-drop, IsUtf8, arith}
use Rattle.std.specs.List.{splice}
use Rattle.std.specs.Option.{unwrap_or}
use Rattle.std.proofs.lemmas.Str.{encodes-chars}
use Rattle.std.proofs.lemmas.List.FromFn.{length-map-range_with_len}
use Rattle.text_spec.specs.Packed.{byte_of, bytes_of}
use Rattle.text_spec.specs.Text.{utf8}
use Rattle.object_words.specs.CountWord.{unit_count, marks_utf16}
use Rattle.object_words.specs.Rows.{Row, native, Describes, is_ascii, ascii_of, form_of}
use Rattle.object_words.specs.declared.form.Form.TheVariants as form
use Rattle.object_words.proofs.Reading.{said}
use Rattle.slot_table.specs.Owners.{PassSeen, RefSeen}
use Rattle.slot_model.specs.declared.event.Event.TheVariants.{Publish}
use Rattle.text_spec.specs.declared.encoding.Encoding.TheVariants.{Utf8}
use Rattle.slot_accounts.specs.Account.{Did, giving_up, new_reference}
use Rattle.slot_edits.specs.Edits.{WritesInPlace, WritesCopy, IsShared}
use Rattle.slot_edits.specs.Parts.{Fits, IsPart, spliced}
use Rattle.slot_edits.specs.Texts.{IsText, IsObjectOf, native_count, native_words}
use Rattle.slot_edits.specs.Words.{content_bytes}
use Rattle.slot_edits.specs.declared.part.Part.{Part}
use Rattle.str_value.specs.Editing.{IsRemade, MayBeWritten, IsOverwritten, IsUnwritten, IsMoved, IsWritten, new_bytes}
use Rattle.str_value.specs.declared.wrote.Wrote.{Wrote}
use Rattle.str_value.specs.declared.wrote.Wrote.TheVariants as wrote
use Rattle.str_value.specs.Meaning.{Meaning, Place, shared, OfHeap, sole_of, credit_of}
use Rattle.str_value.specs.Making.{HasRoom, MadeOfUtf8, making, letting_go}
use Rattle.str_value.specs.declared.storage.Storage.{Storage}
use Rattle.str_value.specs.declared.storage.Storage.TheVariants.{Words, Native, Foreign, Literal, Bytes, Units}
use Rattle.str_value.specs.Stored.{content, counted, meaning_of, row_of, IsStored}
use Rattle.str_value.proofs.Spliced.{length-splice}

-- ---- the words of a slot that hold the text of these bytes, and the two words of their value
module _ (object : ℕ × ℕ) (bytes : List ℕ) (slot : ℕ) (d : IsObjectOf bytes slot object) (small : object.1 < 2 ^ 64) where
  head_count : unit_count (native_count (is_ascii bytes) (length bytes)) ≡ length bytes
  head_count =
      ap (λ w. unit_count (w.0)) d.says
      ∙ (said (native (is_ascii bytes) (is_ascii bytes) (length bytes) slot) (object.0) (object.1) small d).count_read

  head_marked : marks_utf16 (native_count (is_ascii bytes) (length bytes)) ≡ false
  head_marked =
      ap (λ w. marks_utf16 (w.0)) d.says
      ∙ (said (native (is_ascii bytes) (is_ascii bytes) (length bytes) slot) (object.0) (object.1) small d).utf16_bit

  module _ (r : RefSeen) (text : IsText r.known (length bytes) (is_ascii bytes)) (held : content_bytes r.known (length bytes) ≡ bytes) where
    pub count-after : counted r.known ≡ length bytes
    count-after = ap unit_count text.says ∙ head_count

    pub held-after : bytes_of (content r.known) (counted r.known) ≡ bytes
    held-after = ap (bytes_of (content r.known)) count-after ∙ held

    pub native-after : r.slot ≡ slot → IsUtf8 bytes → length bytes ≤ 16777216 → length r.known ≤ r.heap.layout.capacity_words → r.places ≡ [] → r.side ≡ None
        → IsStored object (Native r 0)
    native-after at ok limit within clean none =
        let valid : IsUtf8 (bytes_of (content r.known) (counted r.known)) = subst IsUtf8 (sym held-after) ok in
        record {
          describes = subst (λ bs. Describes (native (is_ascii bs) (is_ascii bs) (length bs) r.slot) object) (sym held-after)
              (subst (λ x. Describes (native (is_ascii bytes) (is_ascii bytes) (length bytes) x) object) (sym at) d);
          kept = record {
            says = text.says ∙ ap (λ bs. native_count (is_ascii bs) (length bytes)) (sym held-after)
                ∙ ap (native_count (is_ascii (bytes_of (content r.known) (counted r.known)))) (sym count-after);
            marked = ap marks_utf16 text.says ∙ head_marked;
            room = omega (arith, count-after, text.room, length-drop 1 r.known);
            some = omega (arith, text.room);
            utf8 = valid;
            within = within;
            clean = clean;
            side = rw none refl;
            alone = λ bare. none;
          };
          limit = omega (arith, ap length (encodes-chars _ valid), ap length held-after, limit);
        }

-- ---- a Native value
module _ (object : ℕ × ℕ) (storage : Storage) (now : Meaning) (r : RefSeen) (n : ℕ) (is : IsStored object storage) (e : meaning_of object storage ≡ now)
    (same : storage ≡ Native r n) where
  here : IsStored object (Native r n)
  here = subst (IsStored object) same is

  shown : meaning_of object (Native r n) ≡ now
  shown = ap (meaning_of object) (sym same) ∙ e

  pub place-is : now.place ≡ shared r
  place-is = ap (λ m. m.place) (sym shown)

  pub heap-is : (p : PassSeen) → OfHeap p now.place → r.heap ≡ p.heap
  heap-is p of = subst (OfHeap p) place-is of

  pub clean-is : r.places ≡ []
  clean-is = here.kept.clean

  pub most-is : (p : PassSeen) → OfHeap p now.place → length r.known ≤ p.heap.layout.capacity_words
  most-is p of = omega (arith, here.kept.within, ap (λ z. z.layout.capacity_words) (heap-is p of))

  held_text : content_bytes r.known (counted r.known) ≡ utf8 now.text
  held_text = sym (encodes-chars (content_bytes r.known (counted r.known)) here.kept.utf8) ∙ ap (λ m. utf8 m.text) shown

  count_is : counted r.known ≡ length (utf8 now.text)
  count_is = sym (length-map-range_with_len (byte_of (content r.known)) 0 (counted r.known)) ∙ ap length held_text

  pub text-is : (count : ℕ) (marked : Bool) → count ≡ length (utf8 now.text) → ((row : Row) → Describes row object → marked ≡ ascii_of row)
      → IsText r.known count marked
  text-is count marked all told =
      let c : counted r.known ≡ count = count_is ∙ sym all in
      let a : marked ≡ is_ascii (content_bytes r.known (counted r.known)) = told (row_of object (Native r n)) here.describes in
      record {
        says = here.kept.says ∙ ap (λ b. native_count b (counted r.known)) (sym a) ∙ ap (native_count marked) c;
        exact = a ∙ ap (λ k. is_ascii (content_bytes r.known k)) c;
        room = omega (arith, here.kept.room, here.kept.some, length-drop 1 r.known, c);
      }

  pub part-is : (part : Part) (with : List ℕ) → part.low ≤ part.high → part.high ≤ part.count → part.count ≡ length (utf8 now.text)
      → length (new_bytes now part with) ≤ 16777216 → r.heap.layout.capacity_words < 2 ^ 32 → IsPart r.known part with
  part-is part with order inside all limit small = record {
    order = order;
    inside = inside;
    room = omega (arith, here.kept.room, here.kept.some, length-drop 1 r.known, count_is, all);
    few = omega (arith, here.kept.within, small);
    short = omega (arith, limit, length-splice (utf8 now.text) with part.low part.high order (omega (arith, inside, all)));
  }

  pub spliced-is : (part : Part) (with : List ℕ) → part.count ≡ length (utf8 now.text) → spliced r.known part with ≡ new_bytes now part with
  spliced-is part with all =
      ap (λ b. splice b part.low part.high with) (ap (content_bytes r.known) (all ∙ sym count_is) ∙ held_text)

  pub may-be-written : (p : PassSeen) (bytes : ℕ) → Fits bytes p.heap.layout.capacity_words → MayBeWritten r p now bytes
  may-be-written p bytes fits = record { form = ap (λ m. form_of m.row) (sym shown); place = place-is; fits = fits }

  -- the bytes were written over it
  pub overwritten : (p q : PassSeen) (part : Part) (with bytes : List ℕ) (s : RefSeen) (t : Meaning) → spliced r.known part with ≡ bytes
      → WritesInPlace p r part with q s → q.credits ≡ p.credits → t.place ≡ shared s → t.row ≡ native (is_ascii bytes) (is_ascii bytes) (length bytes) r.slot
      → IsOverwritten r p part.low bytes q t
  overwritten p q part with bytes s t are w credits place row = record {
    found = w.found;
    writes = w.writes;
    are_writes = w.are_writes;
    some = w.some;
    few = subst (λ bs. length w.writes ≤ (length bs + 7) / 8 - part.low / 8 + 1) are w.few;
    did = w.did;
    credits = credits;
    reference = s;
    place = place;
    alone = w.reference;
    row = row;
  }

  -- another reference is there
  pub asked-in-vain : (p q : PassSeen) (bytes : ℕ) (s : RefSeen) (t : Meaning) → Fits bytes p.heap.layout.capacity_words → IsShared p r q s
      → q.credits ≡ p.credits → t ≡ meaning_of object (Native s n) → IsUnwritten p now bytes q t
  asked-in-vain p q bytes s t fits in_vain credits is_t =
      inr (
        r,
        record {
          may = may-be-written p bytes fits;
          unknown = in_vain.unknown;
          did = in_vain.did;
          credits = credits;
          front = s.front;
          value = is_t ∙ ap (λ x. meaning_of object (Native x n)) in_vain.kept ∙ ap (λ (m : Meaning). record m { place = shared (record r { front = s.front }) }) shown;
        },
      )

  -- the new text was published in a new slot, and the old one given up
  pub moved : (p q : PassSeen) (part : Part) (with bytes : List ℕ) (s : RefSeen) (t : Meaning) → OfHeap p now.place → spliced r.known part with ≡ bytes
      → 15 < length bytes → HasRoom p Utf8 (length bytes) → WritesCopy [] p r part with q s → q.credits ≡ p.credits → t.place ≡ shared s
      → t.row ≡ native (is_ascii bytes) (is_ascii bytes) (length bytes) s.slot → IsRemade p now bytes q t
  moved p q part with bytes s t of are long room w credits place row =
      let between : PassSeen = record q { front = s.front } in
      let known : s.known ≡ native_words bytes = ap (λ (x : RefSeen). x.known) w.reference ∙ ap native_words are in
      let told : Did (Publish s.slot s.known ∷ giving_up r.slot w.last w.found) p q =
      subst (λ ws. Did (Publish s.slot ws ∷ giving_up r.slot w.last w.found) p q) (ap native_words are ∙ sym known) w.did in
      record {
        between = between;
        made = subst (λ (o : Place). MadeOfUtf8 p between bytes o t.row) (sym place) (
          long,
          (
            room,
            row,
            w.reference ∙ ap (λ ws. new_reference r.heap s.front s.slot (native_words ws)) are
                ∙ ap (λ z. new_reference z s.front s.slot (native_words bytes)) (heap-is p of),
          ),
        );
        last = w.last;
        found = w.found;
        known = λ sole. w.known_last (ap sole_of (sym place-is) ∙ sole);
        did = subst (λ (o : Place). Did (making o ++ letting_go now.place w.last w.found) p q) (sym place)
            (subst (λ (o : Place). Did (Publish s.slot s.known ∷ letting_go o w.last w.found) p q) (sym place-is) told);
        credits = subst (λ (o : Place). q.credits + credit_of o ≡ p.credits + credit_of now.place) (sym place)
            (subst (λ (o : Place). q.credits + 1 ≡ p.credits + credit_of o) (sym place-is) (ap (λ n. n + 1) credits));
      }

-- ---- any other value, and bytes that fit no slot
pub too-many : (p : PassSeen) (s : Meaning) (bytes : ℕ) → ¬ (Fits bytes p.heap.layout.capacity_words) → IsUnwritten p s bytes p s
too-many p s bytes none = inl (record { none = λ r may. none may.fits; pass = refl; value = refl })

not_native : (object : ℕ × ℕ) (storage : Storage) → ((r : RefSeen) (n : ℕ) → ¬ (storage ≡ Native r n)) → ¬ (form_of (row_of object storage) ≡ form.Native)
not_native object Words none f = cc
not_native object (Native r n) none f = none r n refl
not_native object (Foreign r) none f = cc
not_native object (Literal l) none f = cc
not_native object (Bytes v) none f = cc
not_native object (Units v) none f = cc

pub other-form : (object : ℕ × ℕ) (storage : Storage) (p : PassSeen) (now : Meaning) (bytes : ℕ) → meaning_of object storage ≡ now
    → ((r : RefSeen) (n : ℕ) → ¬ (storage ≡ Native r n)) → IsUnwritten p now bytes p now
other-form object storage p now bytes e none =
    inl (record {
      none = λ r may. not_native object storage none (ap (λ m. form_of m.row) e ∙ may.form);
      pass = refl;
      value = refl;
    })

-- what is told of a member that is there, or isn't
pub some-of : (P : ℕ × ℕ → Type 0) (o : Option (ℕ × ℕ)) (x : ℕ × ℕ) → o ≡ Some x → IfSome o P → P x
some-of P None x is h = cc
some-of P (Some y) x is h = subst P (ap (λ o. unwrap_or o y) is) h

pub none-of : (P : Type 0) (o : Option (ℕ × ℕ)) → o ≡ None → IfNone o P → P
none-of P None is h = h
none-of P (Some y) is h = cc

-- ---- a value that was asked in vain, or not at all
module _ (p : PassSeen) (s : Meaning) (bytes : ℕ) (q : PassSeen) (t : Meaning) where
  pub unwritten-text : IsUnwritten p s bytes q t → t.text ≡ s.text
  unwritten-text (inl u) = ap (λ m. m.text) u.value
  unwritten-text (inr (r, a)) = ap (λ m. m.text) a.value

  pub unwritten-row : IsUnwritten p s bytes q t → t.row ≡ s.row
  unwritten-row (inl u) = ap (λ m. m.row) u.value
  unwritten-row (inr (r, a)) = ap (λ m. m.row) a.value

  -- a free slot and a credit are shown where they were
  pub unwritten-room : IsUnwritten p s bytes q t → (n : ℕ) → HasRoom p Utf8 n → HasRoom q Utf8 n
  unwritten-room (inl u) n room = subst (λ (x : PassSeen). HasRoom x Utf8 n) (sym u.pass) room
  unwritten-room (inr (r, a)) n room = record {
    fits = omega (arith, room.fits, ap (λ z. z.layout.capacity_words) a.did.one_heap);
    shows = record { a_slot = omega (arith, room.shows.a_slot, a.did.slots_are); a_credit = omega (arith, room.shows.a_credit, a.credits) };
  }

-- what is made anew is where the answer says
pub written-anew : (w : Wrote) (p : PassSeen) (s : Meaning) (low : ℕ) (bytes : List ℕ) (q : PassSeen) (t : Meaning) → IsMoved w p s bytes q t
    → IsWritten w p s low bytes q t
written-anew wrote.InPlace p s low bytes q t m = absurd m.anew
written-anew wrote.Small p s low bytes q t m = m
written-anew wrote.Copied p s low bytes q t m = m
written-anew wrote.Owned p s low bytes q t m = m
