-- A value that was just made in a slot.
use Rattle.std.proofs.Common.{◌≡◌, refl, sym, ap, subst, ◌∙◌, ℕ, ◌+◌, ◌^◌, ◌<◌, ◌≤◌, List, ◌∷◌, Bool, Option, None, true, false, length, slice_index, IsUtf8, arith}
use Rattle.std.proofs.lemmas.Str.{encodes-chars}
use Rattle.std.proofs.lemmas.List.FromFn.{length-map-range_with_len}
use Rattle.slot_model.specs.declared.event.Event.{Event}
use Rattle.text_spec.specs.Packed.{bytes_of, units_of, content_words}
use Rattle.text_spec.specs.declared.encoding.Encoding.TheVariants.{Utf8, Utf16}
use Rattle.text_spec.specs.Text.{utf8, repair}
use Rattle.word_units.specs.Packing.{byte_word, unit_word, byte_words, unit_words}
use Rattle.object_words.specs.Rows.{native, foreign, Describes, is_ascii}
use Rattle.object_words.specs.CountWord.{count_word}
use Rattle.object_words.proofs.Reading.{said}
use Rattle.slot_table.specs.Owners.{HeapId, RefSeen}
use Rattle.slot_accounts.specs.Account.{new_reference, Did}
use Rattle.slot_accounts.proofs.Doing.{Did-nothing}
use Rattle.slot_table.specs.Owners.{PassSeen, LiteralSeen}
use Rattle.str_value.specs.Meaning.{Place, fixed, sole_of}
use Rattle.str_value.specs.Making.{foreign_words, letting_go}
use Rattle.slot_edits.specs.Texts.{native_count, native_words}
use Rattle.str_value.specs.declared.storage.Storage.TheVariants.{Native, Foreign}
use Rattle.str_value.specs.Stored.{content, counted, IsStored}
use Rattle.word_units.proofs.Packed.{bytes-packed, units-packed}

-- ---- UTF-8 in a slot
module _ (object : ℕ × ℕ) (bytes : List ℕ) (ascii : Bool) (slot : ℕ) (d : Describes (native ascii ascii (length bytes) slot) object) (small : object.1 < 2 ^ 64)
    (fits : (i : ℕ) → slice_index bytes i < 2 ^ 8) where
  native_count_read : counted (object.0 ∷ byte_words bytes) ≡ length bytes
  native_count_read = (said (native ascii ascii (length bytes) slot) (object.0) (object.1) small d).count_read

  pub native-held : (words : List ℕ) → words ≡ object.0 ∷ byte_words bytes → bytes_of (content words) (counted words) ≡ bytes
  native-held words same =
      ap (λ ws. bytes_of (content ws) (counted ws)) same ∙ ap (bytes_of (byte_words bytes)) native_count_read ∙ bytes-packed bytes fits

  pub native-words : ascii ≡ is_ascii bytes → object.0 ∷ byte_words bytes ≡ native_words bytes
  native-words marked = ap (λ w. w ∷ byte_words bytes) (ap (λ w. w.0) (sym d.says) ∙ ap (λ a. count_word a a true true false (length bytes)) marked)

  head_says : ascii ≡ is_ascii bytes → bytes_of (byte_words bytes) (counted (object.0 ∷ byte_words bytes)) ≡ bytes
      → object.0 ≡ native_count (is_ascii (bytes_of (byte_words bytes) (counted (object.0 ∷ byte_words bytes)))) (counted (object.0 ∷ byte_words bytes))
  head_says marked same =
      ap (λ w. w.0) (sym d.says) ∙ ap (λ a. native_count a (length bytes)) (marked ∙ ap is_ascii (sym same))
      ∙ ap (native_count (is_ascii (bytes_of (byte_words bytes) (counted (object.0 ∷ byte_words bytes))))) (sym native_count_read)

  new_stored : (z : HeapId) (front : List Event) → ascii ≡ is_ascii bytes → IsUtf8 bytes → length bytes ≤ 16777216
      → content_words Utf8 (length bytes) + 1 ≤ z.layout.capacity_words → IsStored object (Native (new_reference z front slot (object.0 ∷ byte_words bytes)) 0)
  new_stored z front marked ok limit room =
      let same = native-held (object.0 ∷ byte_words bytes) refl in
      let long = length-map-range_with_len (byte_word bytes) 0 (content_words Utf8 (length bytes)) in
      let text : IsUtf8 (bytes_of (byte_words bytes) (counted (object.0 ∷ byte_words bytes))) = subst IsUtf8 (sym same) ok in
      let count = native_count_read in
      record {
        describes = subst (λ bs. Describes (native (is_ascii bs) (is_ascii bs) (length bs) slot) object) (sym same)
            (subst (λ a. Describes (native a a (length bytes) slot) object) marked d);
        kept = record {
          says = head_says marked same;
          marked = (said (native ascii ascii (length bytes) slot) (object.0) (object.1) small d).utf16_bit;
          room = omega (arith, count, long);
          some = omega arith;
          utf8 = text;
          within = omega (arith, long, room);
          clean = refl;
          side = refl;
          alone = λ bare. refl;
        };
        limit = omega (arith, ap length (encodes-chars _ text), ap length same, limit);
      }

  pub native-stored : (z : HeapId) (front : List Event) (r : RefSeen) → r ≡ new_reference z front slot (object.0 ∷ byte_words bytes) → ascii ≡ is_ascii bytes → IsUtf8 bytes
      → length bytes ≤ 16777216 → content_words Utf8 (length bytes) + 1 ≤ z.layout.capacity_words → IsStored object (Native r 0)
  native-stored z front r is marked ok limit room = subst (λ x. IsStored object (Native x 0)) (sym is) (new_stored z front marked ok limit room)

-- ---- UTF-16 in a slot
module _ (object : ℕ × ℕ) (units : List ℕ) (ascii : Bool) (slot : ℕ) (d : Describes (foreign ascii (length units) slot) object) (small : object.1 < 2 ^ 64)
    (fits : (i : ℕ) → slice_index units i < 2 ^ 16) where
  foreign_count : counted (object.0 ∷ unit_words units) ≡ length units
  foreign_count = (said (foreign ascii (length units) slot) (object.0) (object.1) small d).count_read

  pub foreign-held : (words : List ℕ) → words ≡ object.0 ∷ unit_words units → units_of (content words) (counted words) ≡ units
  foreign-held words same =
      ap (λ ws. units_of (content ws) (counted ws)) same ∙ ap (units_of (unit_words units)) foreign_count ∙ units-packed units fits

  pub foreign-words : ascii ≡ is_ascii units → object.0 ∷ unit_words units ≡ foreign_words units
  foreign-words marked = ap (λ w. w ∷ unit_words units) (ap (λ w. w.0) (sym d.says) ∙ ap (λ a. count_word a a false false true (length units)) marked)

  new_stored16 : (z : HeapId) (front : List Event) → ascii ≡ is_ascii units → length (utf8 (repair units)) ≤ 16777216
      → content_words Utf16 (length units) + 1 ≤ z.layout.capacity_words → IsStored object (Foreign (new_reference z front slot (object.0 ∷ unit_words units)))
  new_stored16 z front marked limit room =
      let same = foreign-held (object.0 ∷ unit_words units) refl in
      let long = length-map-range_with_len (unit_word units) 0 (content_words Utf16 (length units)) in
      let count = foreign_count in
      record {
        describes = subst (λ us. Describes (foreign (is_ascii us) (length us) slot) object) (sym same)
            (subst (λ a. Describes (foreign a (length units) slot) object) marked d);
        kept = record {
          marked = (said (foreign ascii (length units) slot) (object.0) (object.1) small d).utf16_bit;
          room = omega (arith, count, long);
          some = omega arith;
          within = omega (arith, long, room);
          clean = refl;
          no_side = refl;
        };
        limit = subst (λ us. length (utf8 (repair us)) ≤ 16777216) (sym same) limit;
      }

  pub foreign-stored : (z : HeapId) (front : List Event) (r : RefSeen) → r ≡ new_reference z front slot (object.0 ∷ unit_words units) → ascii ≡ is_ascii units
      → length (utf8 (repair units)) ≤ 16777216 → content_words Utf16 (length units) + 1 ≤ z.layout.capacity_words → IsStored object (Foreign r)
  foreign-stored z front r is marked limit room = subst (λ x. IsStored object (Foreign x)) (sym is) (new_stored16 z front marked limit room)

-- ---- a literal that is given up leaves the pass as it was
pub literal-gone : (o : Place) (l : LiteralSeen) (p : PassSeen) → o ≡ fixed l
    → (last : Bool) × (found : Option ℕ) × (sole_of o ≡ true → last ≡ true) × Did (letting_go o last found) p p
literal-gone o l p is = (true, None, λ _. refl, subst (λ (x : Place). Did (letting_go x true None) p p) (sym is) (Did-nothing p))
