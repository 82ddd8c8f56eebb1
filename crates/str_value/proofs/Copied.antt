-- A copy of what a value keeps.
use Rattle.std.proofs.Common.{◌≡◌, ◌≢◌, refl, sym, ap, subst, ◌∙◌, ℕ, ◌-◌, ◌<◌, ◌↔◌, List, [], ◌∷◌, Option, Some, IsNone, IfSome, Result, IfOk, true, false, length, map, chars, arith}
use Rattle.std.specs.List.{range_with_len}
use Rattle.std.proofs.lemmas.Result.{IfOk-weaker}
use Rattle.std.proofs.lemmas.Str.{encodes-chars, chars-encodes}
use Rattle.std.proofs.lemmas.List.FromFn.{length-map-range_with_len}
use Rattle.slot_model.specs.declared.event.Event.TheVariants.{Retain}
use Rattle.text_spec.specs.Packed.{byte_of, unit_of, units_of}
use Rattle.text_spec.specs.declared.encoding.Encoding.TheVariants.{Utf8, Utf16}
use Rattle.text_spec.specs.declared.out_of_memory.OutOfMemory.{OutOfMemory}
use Rattle.text_spec.specs.Text.{utf8, repair}
use Rattle.text_spec.specs.Views.{width_in, size_in}
use Rattle.text_spec.proofs.Bytes.{length-utf8}
use Rattle.text_spec.proofs.Walk.{start-zero}
use Rattle.word_units.proofs.Packed.{units-packed}
use Rattle.object_words.specs.Rows.{owned, is_ascii, ascii_of, count_of}
use Rattle.slot_table.specs.Owners.{PassSeen, RefSeen}
use Rattle.slot_accounts.specs.Account.{Did, Keeps}
use Rattle.slot_accounts.proofs.Doing.{Did-nothing}
use Rattle.str_value.specs.Meaning.{Meaning, Place, own, shared, fixed, storage_of}
use Rattle.str_value.specs.Copying.{IsOwned, SharedAt, ApartAt, is_utf16, beside, copying}
use Rattle.str_value.specs.declared.storage.Storage.{Storage}
use Rattle.str_value.specs.declared.storage.Storage.TheVariants.{Words, Native, Foreign, Literal, Bytes, Units}
use Rattle.str_value.specs.Stored.{content, counted, text_of, row_of, words_of, meaning_of, IsStored}
use Rattle.str_value.proofs.Kept.{size-kept}
use Rattle.str_value.proofs.Between.{utf8-kept, utf16-kept, read-part8, start-boundary}
use Rattle.str_value.proofs.Spliced.{scalars-kept, whole8}

-- ---- a second reference
module _ (object : ℕ × ℕ) (storage : Storage) (now : Meaning) (r r' s : RefSeen) (p q : PassSeen) (o : Option RefSeen) (e : meaning_of object storage ≡ now)
    (none : IsNone o ↔ (p.credits ≡ 1)) (some : o ≡ Some s) (told : IfSome o (λ x. Did (Retain r.slot ∷ []) p q)) (counted_too : IfSome o (λ x. Keeps p 1 q 2))
    (first : IfSome o (λ x. r' ≡ beside r q.front)) (second : IfSome o (λ x. x ≡ beside r x.front)) where
  did : Did (Retain r.slot ∷ []) p q
  did = subst (λ x. IfSome x (λ y. Did (Retain r.slot ∷ []) p q)) some told

  keeps : Keeps p 1 q 2
  keeps = subst (λ x. IfSome x (λ y. Keeps p 1 q 2)) some counted_too

  one : r' ≡ beside r q.front
  one = subst (λ x. IfSome x (λ y. r' ≡ beside r q.front)) some first

  other : s ≡ beside r s.front
  other = subst (λ x. IfSome x (λ y. y ≡ beside r y.front)) some second

  a_credit : 1 < p.credits
  a_credit =
      let apart : p.credits ≢ 1 = λ is. let found : IsNone (Some s) = subst IsNone some (none.1 is) in absurd (never found) in
      let k = keeps in
      omega (arith, apart, k)
    where
      never : IsNone (Some s) → ⊥
      never h = cc

  pub shared-native : (n : ℕ) → storage ≡ Native r n → SharedAt (now.place) p now q (meaning_of object (Native r' n)) (meaning_of object (Native s n))
  shared-native n same =
      subst (λ m. SharedAt (m.place) p m q (meaning_of object (Native r' n)) (meaning_of object (Native s n))) (ap (meaning_of object) (sym same) ∙ e)
      record {
        a_credit = a_credit;
        did = did;
        credits = keeps;
        value = ap (λ (x : RefSeen). meaning_of object (Native x n)) one;
        copy_front = s.front;
        copy = ap (λ (x : RefSeen). meaning_of object (Native x n)) other;
      }

  pub shared-foreign : storage ≡ Foreign r → SharedAt (now.place) p now q (meaning_of object (Foreign r')) (meaning_of object (Foreign s))
  shared-foreign same =
      subst (λ m. SharedAt (m.place) p m q (meaning_of object (Foreign r')) (meaning_of object (Foreign s))) (ap (meaning_of object) (sym same) ∙ e)
      record {
        a_credit = a_credit;
        did = did;
        credits = keeps;
        value = ap (λ (x : RefSeen). meaning_of object (Foreign x)) one;
        copy_front = s.front;
        copy = ap (λ (x : RefSeen). meaning_of object (Foreign x)) other;
      }

-- ---- a value of its own
-- the flag of a value in UTF-8 storage is that of its bytes, and of one in UTF-16 storage that of its units
ascii_bytes : (object : ℕ × ℕ) (storage : Storage) → IsStored object storage → storage_of (row_of object storage) ≡ Utf8
    → is_ascii (utf8 (text_of object storage)) ≡ ascii_of (row_of object storage)
ascii_bytes object Words is s = ap is_ascii (encodes-chars _ is.kept)
ascii_bytes object (Native r n) is s = ap is_ascii (encodes-chars _ is.kept.utf8)
ascii_bytes object (Foreign r) is s = cc
ascii_bytes object (Literal l) is s = ap is_ascii (encodes-chars _ is.kept.utf8)
ascii_bytes object (Bytes v) is s = ap is_ascii (encodes-chars _ is.kept.0)
ascii_bytes object (Units v) is s = cc

ascii_units : (object : ℕ × ℕ) (storage : Storage) → IsStored object storage → storage_of (row_of object storage) ≡ Utf16
    → is_ascii (units_of (words_of object storage) (count_of (row_of object storage))) ≡ ascii_of (row_of object storage)
ascii_units object Words is s = cc
ascii_units object (Native r n) is s = cc
ascii_units object (Foreign r) is s = ap (λ n. is_ascii (units_of (content r.known) n)) (length-map-range_with_len (unit_of (content r.known)) 0 (counted r.known))
ascii_units object (Literal l) is s = cc
ascii_units object (Bytes v) is s = cc
ascii_units object (Units v) is s = ap is_ascii (units-packed v.items is.kept)

module _ (object : ℕ × ℕ) (storage : Storage) (now : Meaning) (is : IsStored object storage) (e : meaning_of object storage ≡ now) where
  pub owned-bytes : (items : List ℕ) (c : Meaning) → storage_of (now.row) ≡ Utf8 → items ≡ utf8 (now.text) → c.text ≡ chars items
      → c.row ≡ owned false (is_ascii items) (is_ascii items) (length items) → c.place ≡ own → IsOwned now c
  owned-bytes items c stored same text row place =
      let ascii : is_ascii items ≡ ascii_of (now.row) =
      ap is_ascii same ∙ subst (λ m. storage_of (m.row) ≡ Utf8 → is_ascii (utf8 (m.text)) ≡ ascii_of (m.row)) e (ascii_bytes object storage is) stored in
      let count : length items ≡ count_of (now.row) =
      ap length same ∙ length-utf8 (now.text) ∙ ap (λ enc. size_in enc (now.text)) (sym stored) ∙ subst (λ m. size_in (storage_of (m.row)) (m.text) ≡ count_of (m.row)) e (size-kept object storage is) in
      record {
        text = text ∙ ap chars same ∙ chars-encodes (now.text) (scalars-kept object storage now is e);
        row = row ∙ ap (λ a. owned false a a (length items)) ascii ∙ ap (owned false (ascii_of (now.row)) (ascii_of (now.row))) count
            ∙ ap (λ enc. owned (is_utf16 enc) (ascii_of (now.row)) (ascii_of (now.row)) (count_of (now.row))) (sym stored);
        place = place;
      }

  pub owned-units : (items : List ℕ) (c : Meaning) → storage_of (now.row) ≡ Utf16 → items ≡ units_of (now.words) (count_of (now.row)) → c.text ≡ repair items
      → c.row ≡ owned true (is_ascii items) (is_ascii items) (length items) → c.place ≡ own → IsOwned now c
  owned-units items c stored same text row place =
      let ascii : is_ascii items ≡ ascii_of (now.row) =
      ap is_ascii same
      ∙ subst (λ m. storage_of (m.row) ≡ Utf16 → is_ascii (units_of (m.words) (count_of (m.row))) ≡ ascii_of (m.row)) e (ascii_units object storage is) stored in
      let count : length items ≡ count_of (now.row) = ap length same ∙ length-map-range_with_len (unit_of (now.words)) 0 (count_of (now.row)) in
      let kept = utf16-kept object storage now is e stored in
      record {
        text = text ∙ ap repair same ∙ sym kept.text;
        row = row ∙ ap (λ a. owned true a a (length items)) ascii ∙ ap (owned true (ascii_of (now.row)) (ascii_of (now.row))) count
            ∙ ap (λ enc. owned (is_utf16 enc) (ascii_of (now.row)) (ascii_of (now.row)) (count_of (now.row))) (sym stored);
        place = place;
      }

  -- all code units, read out of the words
  pub all-bytes : (n : ℕ) → storage_of (now.row) ≡ Utf8 → n ≡ size_in (storage_of (now.row)) (now.text) → map (byte_of (now.words)) (range_with_len 0 (n - 0)) ≡ utf8 (now.text)
  all-bytes n stored count =
      let low = start-boundary (storage_of (now.row)) (now.text) 0 0 (omega arith) (sym (start-zero (width_in (storage_of (now.row))) (now.text))) in
      let high = start-boundary (storage_of (now.row)) (now.text) (length (now.text)) n (omega arith) count in
      read-part8 now 0 n (utf8-kept object storage now is e stored) low high (omega arith) ∙ whole8 now n count

  pub all-units : (n : ℕ) → n ≡ size_in (storage_of (now.row)) (now.text) → map (unit_of (now.words)) (range_with_len 0 (n - 0)) ≡ units_of (now.words) (count_of (now.row))
  all-units n count =
      let size : n - 0 ≡ count_of (now.row) = omega (arith, count, subst (λ m. size_in (storage_of (m.row)) (m.text) ≡ count_of (m.row)) e (size-kept object storage is)) in
      ap (λ k. map (unit_of (now.words)) (range_with_len 0 k)) size

-- ---- no event is made where the copy shares no slot
apart-nothing : (o : Place) (s c : Meaning) → ApartAt o s c → copying o (c.place) ≡ []
apart-nothing own s c is = refl
apart-nothing (fixed l) s c is = refl
apart-nothing (shared r) s c is = ap (copying (shared r)) is.place

pub apart-did : (o : Place) (s : Meaning) (p q : PassSeen) (now : Place) (made : Result Meaning OutOfMemory) → o ≡ now → q ≡ p → IfOk made (ApartAt o s) → IfOk made (λ c. Did (copying now (c.place)) p q)
apart-did o s p q now made place same h =
    IfOk-weaker made (ApartAt o s) (λ c. Did (copying now (c.place)) p q)
    (λ c is. subst (λ x. Did (copying x (c.place)) p q) place (subst (λ x. Did (copying o (c.place)) p x) (sym same) (subst (λ es. Did es p p) (sym (apart-nothing o s c is)) (Did-nothing p)))) h
