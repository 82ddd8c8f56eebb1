-- A literal's row, as the words of a value.
use Rattle.std.proofs.Common.{◌≡◌, refl, sym, ap, subst, ◌∙◌, ℕ, ◌+◌, ◌/◌, ◌%◌, ◌^◌, ◌<◌, ◌≤◌, ◌==◌, List, ◌∷◌, Bool, true, false, length, slice_index, IsUtf8, arith}
use Rattle.std.proofs.lemmas.Str.{encodes-chars}
use Rattle.std.proofs.lemmas.List.FromFn.{length-map-range_with_len}
use Rattle.text_spec.specs.Packed.{bytes_of, content_words}
use Rattle.text_spec.specs.declared.encoding.Encoding.TheVariants.{Utf8}
use Rattle.word_units.specs.Packing.{byte_word, byte_words}
use Rattle.object_words.specs.Rows as rows
use Rattle.object_words.specs.Rows.{literal, Describes, form_word}
use Rattle.object_words.specs.CountWord.{count_word}
use Rattle.object_words.specs.declared.layout.TheConstants.{LITERAL_TOP}
use Rattle.object_words.proofs.Reading.{said}
use Rattle.literal_rows.specs.Rows.{literal_row}
use Rattle.slot_table.specs.Owners.{LiteralSeen}
use Rattle.str_value.specs.declared.limits.TheConstants.{MAX_TEXT_BYTES}
use Rattle.str_value.specs.declared.storage.Storage.TheVariants.{Literal}
use Rattle.str_value.specs.Stored.{content, counted, IsStored}
use Rattle.text_spec.proofs.Listed.{utf8-bytes}
use Rattle.word_units.proofs.Packed.{bytes-packed}

-- ---- the value of a literal
module _ (bs : List ℕ) (valid : IsUtf8 bs) (short : length bs ≤ MAX_TEXT_BYTES) (l : LiteralSeen) (row : l.words ≡ literal_row bs) where
  head : ℕ
  head = count_word (rows.is_ascii bs) (rows.is_ascii bs) false true false (length bs)

  words : l.words ≡ count_word (rows.is_ascii bs) (rows.is_ascii bs) false true false (length bs) ∷ byte_words bs
  words = row

  -- the count word says what a row of the literal says
  says : (w0 : ℕ) → w0 ≡ slice_index l.words 0 → (w0 / 2 ^ 63 == 1) ≡ rows.is_ascii bs × (w0 % 2 ^ 48 ≡ length bs)
  says w0 read =
      let is : w0 ≡ count_word (rows.is_ascii bs) (rows.is_ascii bs) false true false (length bs) = read ∙ ap (λ ws. slice_index ws 0) words in
      let d : Describes (literal (rows.is_ascii bs) (rows.is_ascii bs) (length bs) 0) (count_word (rows.is_ascii bs) (rows.is_ascii bs) false true false (length bs), form_word LITERAL_TOP 0)
      = record { is_row = (λ t. t, omega (arith, short), omega arith); says = refl } in
      let s = said (literal (rows.is_ascii bs) (rows.is_ascii bs) (length bs) 0) (count_word (rows.is_ascii bs) (rows.is_ascii bs) false true false (length bs)) (form_word LITERAL_TOP 0) (omega arith) d in
      (ap (λ w. w / 2 ^ 63 == 1) is ∙ s.ascii_read, ap (λ w. w % 2 ^ 48) is ∙ s.count_read)

  pub literal-says : (w0 : ℕ) (object : ℕ × ℕ) (ascii : Bool) (count k : ℕ) → w0 ≡ slice_index l.words 0 → ascii ≡ (w0 / 2 ^ 63 == 1) → count ≡ w0 % 2 ^ 48
      → Describes (literal ascii ascii count k) object → Describes (literal (rows.is_ascii bs) (rows.is_ascii bs) (length bs) k) object
  literal-says w0 object ascii count k read marked many d =
      let s = says w0 read in
      subst (λ n. Describes (literal (rows.is_ascii bs) (rows.is_ascii bs) n k) object) (many ∙ s.1) (subst (λ a. Describes (literal a a count k) object) (marked ∙ s.0) d)

  count_is : counted l.words ≡ length bs
  count_is = (says (slice_index l.words 0) refl).1

  pub literal-held : bytes_of (content l.words) (counted l.words) ≡ bs
  literal-held =
      ap (bytes_of (content l.words)) count_is ∙ ap (λ ws. bytes_of (content ws) (length bs)) words ∙ bytes-packed bs (utf8-bytes bs valid)

  pub literal-stored : (object : ℕ × ℕ) (k : ℕ) → object.1 < 2 ^ 64 → Describes (literal (rows.is_ascii bs) (rows.is_ascii bs) (length bs) k) object → IsStored object (Literal l)
  literal-stored object k small d =
      let number : object.1 % 2 ^ 32 ≡ k = (said (literal (rows.is_ascii bs) (rows.is_ascii bs) (length bs) k) (object.0) (object.1) small d).slot_read in
      let same = literal-held in
      let ok : IsUtf8 (bytes_of (content l.words) (counted l.words)) = subst IsUtf8 (sym same) valid in
      let long = length-map-range_with_len (byte_word bs) 0 (content_words Utf8 (length bs)) in
      let all : length (content l.words) ≡ length (byte_words bs) = ap (λ ws. length (content ws)) words in
      let whole : length l.words ≡ length (byte_words bs) + 1 = ap length words ∙ omega arith in
      let count = count_is in
      record {
        describes = subst (λ n. Describes (literal (rows.is_ascii (bytes_of (content l.words) (counted l.words))) (rows.is_ascii (bytes_of (content l.words) (counted l.words))) (length (bytes_of (content l.words) (counted l.words))) n) object) (sym number)
            (subst (λ b. Describes (literal (rows.is_ascii b) (rows.is_ascii b) (length b) k) object) (sym same) d);
        kept = record { room = omega (arith, count, all, long); some = omega (arith, whole); utf8 = ok };
        limit = omega (arith, ap length (encodes-chars _ ok), ap length same, short);
      }

  pub literal-number : (object : ℕ × ℕ) (k : ℕ) → object.1 < 2 ^ 64 → Describes (literal (rows.is_ascii bs) (rows.is_ascii bs) (length bs) k) object → object.1 % 2 ^ 32 ≡ k
  literal-number object k small d = (said (literal (rows.is_ascii bs) (rows.is_ascii bs) (length bs) k) (object.0) (object.1) small d).slot_read
