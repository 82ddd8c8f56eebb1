-- What a value keeps, and what contracts see of it.
use Rattle.std.proofs.Common.{◌≡◌, refl, sym, ap, subst, ◌∙◌, ℕ, ◌+◌, ◌*◌, ◌%◌, ◌^◌, ◌<◌, ◌≤◌, ◌++◌, List, [], ◌∷◌, Vec, Global, Bool, nat_lt, true, false, length, map, take, get_or, slice_index, w64, IsUtf8, IsSome, Option, Some, None, MatchOption, arith, length-drop}
use Rattle.std.specs.Int.{to_le_bytes}
use Rattle.std.specs.List.{range_with_len}
use Rattle.std.proofs.lemmas.Bool.{le-leb, lt-ltb, false≢true, cond-true}
use Rattle.std.proofs.lemmas.Str.{encodes-chars}
use Rattle.std.proofs.lemmas.List.FromFn.{take-map-range_with_len, length-map-range_with_len, get_or-map-range_with_len}
use Rattle.std.proofs.lemmas.List.{take_all}
use Rattle.std.proofs.lemmas.Grind.{get_or_after_one}
use Rattle.std.proofs.Math.Nat.{div-one}
use Rattle.text_spec.proofs.Lengths.{start-utf8}
use Rattle.crumbs.proofs.Crumbing.{size16-le}
use Rattle.text_spec.specs.declared.encoding.Encoding.{Encoding}
use Rattle.text_spec.proofs.Denoting.{denoted_size}
use Rattle.index_words.specs.Crumbs.{crumbs}
use Rattle.text_spec.specs.Packed.{byte_of, unit_of, bytes_of, units_of, content_words, denoted_text}
use Rattle.text_spec.specs.Views.{size_in}
use Rattle.text_spec.specs.declared.encoding.Encoding.TheVariants.{Utf8, Utf16}
use Rattle.text_spec.specs.Text.{utf8, repair}
use Rattle.word_units.specs.Packing.{byte_word, unit_word}
use Rattle.word_units.proofs.Packed.{utf8-denoted, bytes-denoted, units-denoted}
use Rattle.object_words.specs.Rows.{small, owned, Describes, count_of, ascii_of, is_ascii}
use Rattle.object_words.proofs.Reading.{said, top_count}
use Rattle.object_words.proofs.Forms.{small_text}
use Rattle.slot_table.specs.Owners.{RefSeen, LiteralSeen}
use Rattle.str_value.specs.Meaning.{Meaning, shared, storage_of, side_of, is_there}
use Rattle.str_value.specs.declared.storage.Storage.{Storage}
use Rattle.str_value.specs.declared.storage.Storage.TheVariants.{Words, Native, Foreign, Literal, Bytes, Units}
use Rattle.str_value.specs.Stored.{content, counted, crumb_words, held, small_count, text_of, row_of, words_of, place_of, meaning_of, IsSide, IsStored}
use Rattle.str_value.proofs.Ascii.{chars-ascii, units-ascii}

-- a row that the two words describe is the value's
pub row-kept : (object : ℕ × ℕ) (storage : Storage) (now : Meaning) → IsStored object storage → meaning_of object storage ≡ now
    → Describes (now.row) object
row-kept object storage now is e = subst (λ m. Describes (m.row) object) e is.describes

-- ---- the bytes of a Small value, in its two words
sixteen : (w0 w1 : ℕ) → map (byte_of (w0 ∷ w1 ∷ [])) (range_with_len 0 16) ≡ to_le_bytes w64 w0 ++ to_le_bytes w64 w1
sixteen w0 w1 = rw (div-one w0, div-one w1) refl

pub front-words : (w0 w1 n : ℕ) → n ≤ 16 → take n (to_le_bytes w64 w0 ++ to_le_bytes w64 w1) ≡ bytes_of (w0 ∷ w1 ∷ []) n
front-words w0 w1 n h =
    ap (take n) (sym (sixteen w0 w1)) ∙ take-map-range_with_len (byte_of (w0 ∷ w1 ∷ [])) 0 16 n h

length-small : (object : ℕ × ℕ) → length (held object Words) ≡ small_count object
length-small object = length-map-range_with_len (byte_of (object.0 ∷ object.1 ∷ [])) 0 (small_count object)

-- the words hold the bytes that the value was made of
pub small-held : (bytes : List ℕ) (object : ℕ × ℕ) → object.1 < 2 ^ 64 → Describes (small bytes) object → held object Words ≡ bytes
small-held bytes object fits d =
    let count : small_count object ≡ length bytes =
    ap (λ n. n % 16) (said (small bytes) (object.0) (object.1) fits d).form_read ∙ top_count (is_ascii bytes) (length bytes) d.is_row.0 in
    ap (bytes_of (object.0 ∷ object.1 ∷ [])) count ∙ small_text bytes (object.0) (object.1) fits d

pub small-stored : (bytes : List ℕ) (object : ℕ × ℕ) → object.1 < 2 ^ 64 → Describes (small bytes) object → IsStored object Words
small-stored bytes object fits d =
    let same = small-held bytes object fits d in
    let ok : IsUtf8 (held object Words) = subst IsUtf8 (sym same) d.is_row.2 in
    record {
      describes = subst (λ bs. Describes (small bs) object) (sym same) d;
      kept = ok;
      limit = omega (arith, ap length (encodes-chars (held object Words) ok), ap length same, d.is_row.0);
    }

-- ---- a value in a vector of its own
pub bytes-stored : (object : ℕ × ℕ) (v : Vec ℕ Global) (bytes : List ℕ) (ascii : Bool) → Describes (owned false ascii ascii (length bytes)) object
    → ascii ≡ is_ascii bytes → v.items ≡ bytes → IsUtf8 bytes → ((i : ℕ) → slice_index bytes i < 2 ^ 8) → length bytes ≤ 16777216 → IsStored object (Bytes v)
bytes-stored object v bytes ascii d marked same ok fits limit =
    let text = subst IsUtf8 (sym same) ok in
    record {
      describes = subst (λ bs. Describes (owned false (is_ascii bs) (is_ascii bs) (length bs)) object) (sym same)
          (subst (λ a. Describes (owned false a a (length bytes)) object) marked d);
      kept = (text, subst (λ bs. (i : ℕ) → slice_index bs i < 2 ^ 8) (sym same) fits);
      limit = omega (arith, ap length (encodes-chars v.items text), ap length same, limit);
    }

pub units-stored : (object : ℕ × ℕ) (v : Vec ℕ Global) (units : List ℕ) (ascii : Bool) → Describes (owned true ascii ascii (length units)) object
    → ascii ≡ is_ascii units → v.items ≡ units → ((i : ℕ) → slice_index units i < 2 ^ 16) → length (utf8 (repair units)) ≤ 16777216 → IsStored object (Units v)
units-stored object v units ascii d marked same fits limit =
    record {
      describes = subst (λ us. Describes (owned true (is_ascii us) (is_ascii us) (length us)) object) (sym same)
          (subst (λ a. Describes (owned true a a (length units)) object) marked d);
      kept = subst (λ us. (i : ℕ) → slice_index us i < 2 ^ 16) (sym same) fits;
      limit = subst (λ us. length (utf8 (repair us)) ≤ 16777216) (sym same) limit;
    }

-- ---- the text that the content words denote
length-bytes_of : (ws : List ℕ) (n : ℕ) → length (bytes_of ws n) ≡ n
length-bytes_of ws n = length-map-range_with_len (byte_of ws) 0 n

units-of-denoted : (ws : List ℕ) (n : ℕ) → n ≤ 4 * length ws → denoted_text Utf16 ws n ≡ Some (repair (units_of ws n))
units-of-denoted ws n room = cond-true _ _ None (le-leb n (4 * length ws) room)

pub denoted : (object : ℕ × ℕ) (storage : Storage) → IsStored object storage
    → denoted_text (storage_of (row_of object storage)) (words_of object storage) (count_of (row_of object storage)) ≡ Some (text_of object storage)
denoted object Words is =
    utf8-denoted (object.0 ∷ object.1 ∷ []) (held object Words) (length (held object Words)) (omega (arith, is.describes.is_row.0)) is.kept
    (ap (bytes_of (object.0 ∷ object.1 ∷ [])) (length-small object))
denoted object (Native r n) is =
    let long = length-bytes_of (content r.known) (counted r.known) in
    utf8-denoted (content r.known) (held object (Native r n)) (length (held object (Native r n))) (omega (arith, long, is.kept.room)) is.kept.utf8
    (ap (bytes_of (content r.known)) long)
denoted object (Foreign r) is =
    let long = length-map-range_with_len (unit_of (content r.known)) 0 (counted r.known) in
    units-of-denoted (content r.known) (length (held object (Foreign r))) (omega (arith, long, is.kept.room))
    ∙ ap (λ n. Some (repair (units_of (content r.known) n))) long
denoted object (Literal l) is =
    let long = length-bytes_of (content l.words) (counted l.words) in
    utf8-denoted (content l.words) (held object (Literal l)) (length (held object (Literal l))) (omega (arith, long, is.kept.room)) is.kept.utf8
    (ap (bytes_of (content l.words)) long)
denoted object (Bytes v) is = bytes-denoted v.items is.kept.1 is.kept.0
denoted object (Units v) is = units-denoted v.items is.kept

pub denotes-kept : (object : ℕ × ℕ) (storage : Storage) (now : Meaning) → IsStored object storage → meaning_of object storage ≡ now
    → denoted_text (storage_of (now.row)) (now.words) (count_of (now.row)) ≡ Some (now.text)
denotes-kept object storage now is e = subst (λ m. denoted_text (storage_of (m.row)) (m.words) (count_of (m.row)) ≡ Some (m.text)) e (denoted object storage is)

-- a storage that is marked ASCII holds ASCII alone
below : (object : ℕ × ℕ) (storage : Storage) → ascii_of (row_of object storage) ≡ true → (k : ℕ) → slice_index (text_of object storage) k < 128
below object Words marked = chars-ascii (held object Words) marked
below object (Native r n) marked = chars-ascii (held object (Native r n)) marked
below object (Foreign r) marked = units-ascii (held object (Foreign r)) marked
below object (Literal l) marked = chars-ascii (held object (Literal l)) marked
below object (Bytes v) marked = chars-ascii v.items marked
below object (Units v) marked = units-ascii v.items marked

pub ascii-kept : (object : ℕ × ℕ) (storage : Storage) (now : Meaning) → meaning_of object storage ≡ now
    → ascii_of (now.row) ≡ true → (k : ℕ) → slice_index (now.text) k < 128
ascii-kept object storage now e = subst (λ m. ascii_of (m.row) ≡ true → (k : ℕ) → slice_index (m.text) k < 128) e (below object storage)

-- there are fewer than 2^48 code units
few : (object : ℕ × ℕ) (storage : Storage) → IsStored object storage → count_of (row_of object storage) < 2 ^ 48
few object Words is = omega (arith, is.describes.is_row.0)
few object (Native r n) is = is.describes.is_row.1
few object (Foreign r) is = is.describes.is_row.0
few object (Literal l) is = is.describes.is_row.1
few object (Bytes v) is = is.describes.is_row.2
few object (Units v) is = is.describes.is_row.2

pub count-kept : (object : ℕ × ℕ) (storage : Storage) (now : Meaning) → IsStored object storage → meaning_of object storage ≡ now → count_of (now.row) < 2 ^ 48
count-kept object storage now is e = subst (λ m. count_of (m.row) < 2 ^ 48) e (few object storage is)

-- the text is within its limit
pub limit-kept : (object : ℕ × ℕ) (storage : Storage) (now : Meaning) → IsStored object storage → meaning_of object storage ≡ now
    → length (utf8 (now.text)) ≤ 16777216
limit-kept object storage now is e = subst (λ m. length (utf8 (m.text)) ≤ 16777216) e is.limit

-- ---- a content word
size : (object : ℕ × ℕ) (storage : Storage) → IsStored object storage
    → size_in (storage_of (row_of object storage)) (text_of object storage) ≡ count_of (row_of object storage)
size object storage is = sym (denoted_size _ _ _ _ (denoted object storage is))

-- no text has more code units than bytes of UTF-8
pub size8-limit : (t : List ℕ) → size_in Utf8 t ≤ length (utf8 t)
size8-limit t = omega (arith, start-utf8 t (length t), ap (λ u. length (utf8 u)) (take_all (length t) t (omega arith)))

pub size-limit : (enc : Encoding) (t : List ℕ) → size_in enc t ≤ length (utf8 t)
size-limit Utf8 t = size8-limit t
size-limit Utf16 t = omega (arith, size16-le Utf8 t, size8-limit t)

number-in : (enc : Encoding) (t : List ℕ) (k : ℕ) → k < content_words enc (size_in enc t) → length (utf8 t) ≤ 16777216 → k < 2 ^ 24
number-in Utf8 t k inside most = omega (arith, inside, most, size-limit Utf8 t)
number-in Utf16 t k inside most = omega (arith, inside, most, size-limit Utf16 t)

-- word k of those that the code units take
module _ (object : ℕ × ℕ) (storage : Storage) (now : Meaning) (k : ℕ) (is : IsStored object storage) (e : meaning_of object storage ≡ now)
    (inside : k < content_words (storage_of (now.row)) (size_in (storage_of (now.row)) (now.text))) where
  seen : (s : Storage) → storage ≡ s → IsStored object s × (meaning_of object s ≡ now) × (k < content_words (storage_of (row_of object s)) (count_of (row_of object s)))
  seen s same =
      let kept : IsStored object s = subst (IsStored object) same is in
      let shown : meaning_of object s ≡ now = ap (meaning_of object) (sym same) ∙ e in
      let below = subst (λ m. k < content_words (storage_of (m.row)) (size_in (storage_of (m.row)) (m.text))) (sym shown) inside in
      (kept, shown, subst (λ n. k < content_words (storage_of (row_of object s)) n) (size object s kept) below)

  pub two-words : storage ≡ Words → k < 2
  two-words same = let s = seen Words same in omega (arith, s.2, s.0.describes.is_row.0)

  pub object-word : storage ≡ Words → slice_index (object.0 ∷ object.1 ∷ []) k ≡ slice_index (now.words) k
  object-word same = ap (λ m. slice_index (m.words) k) (seen Words same).1

  -- its number fits 32 bits
  pub word-in : k < 2 ^ 24
  word-in = number-in (storage_of (now.row)) (now.text) k inside (limit-kept object storage now is e)

  pub native-inside : (r : RefSeen) (n : ℕ) → storage ≡ Native r n → k + 1 < length r.known
  native-inside r n same =
      let s = seen (Native r n) same in
      omega (arith, s.2, s.0.kept.room, s.0.kept.some, length-bytes_of (content r.known) (counted r.known), length-drop 1 r.known)

  pub foreign-inside : (r : RefSeen) → storage ≡ Foreign r → k + 1 < length r.known
  foreign-inside r same =
      let s = seen (Foreign r) same in
      omega (arith, s.2, s.0.kept.room, s.0.kept.some, length-map-range_with_len (unit_of (content r.known)) 0 (counted r.known), length-drop 1 r.known)

  pub literal-inside : (l : LiteralSeen) → storage ≡ Literal l → k + 1 < length l.words
  literal-inside l same =
      let s = seen (Literal l) same in
      omega (arith, s.2, s.0.kept.room, s.0.kept.some, length-bytes_of (content l.words) (counted l.words), length-drop 1 l.words)

  behind : (ws : List ℕ) → get_or ws (k + 1) 0 ≡ get_or (content ws) k 0
  behind ws = ap (λ i. get_or ws i 0) (omega arith) ∙ sym (get_or_after_one ws k 0)

  pub native-word : (r : RefSeen) (n : ℕ) → storage ≡ Native r n → get_or r.known (k + 1) 0 ≡ slice_index (now.words) k
  native-word r n same = behind r.known ∙ ap (λ m. slice_index (m.words) k) (seen (Native r n) same).1

  pub foreign-word : (r : RefSeen) → storage ≡ Foreign r → get_or r.known (k + 1) 0 ≡ slice_index (now.words) k
  foreign-word r same = behind r.known ∙ ap (λ m. slice_index (m.words) k) (seen (Foreign r) same).1

  pub literal-word : (l : LiteralSeen) → storage ≡ Literal l → get_or l.words (k + 1) 0 ≡ slice_index (now.words) k
  literal-word l same = behind l.words ∙ ap (λ m. slice_index (m.words) k) (seen (Literal l) same).1

  pub byte-inside : (v : Vec ℕ Global) → storage ≡ Bytes v → 8 * k < length v.items
  byte-inside v same = omega (arith, (seen (Bytes v) same).2)

  pub byte-word : (v : Vec ℕ Global) → storage ≡ Bytes v → byte_word v.items k ≡ slice_index (now.words) k
  byte-word v same =
      let s = seen (Bytes v) same in
      sym (get_or-map-range_with_len (byte_word v.items) 0 (content_words Utf8 (length v.items)) k k 0 s.2 (omega arith)) ∙ ap (λ m. slice_index (m.words) k) s.1

  pub unit-inside : (v : Vec ℕ Global) → storage ≡ Units v → 4 * k < length v.items
  unit-inside v same = omega (arith, (seen (Units v) same).2)

  pub unit-word : (v : Vec ℕ Global) → storage ≡ Units v → unit_word v.items k ≡ slice_index (now.words) k
  unit-word v same =
      let s = seen (Units v) same in
      sym (get_or-map-range_with_len (unit_word v.items) 0 (content_words Utf16 (length v.items)) k k 0 s.2 (omega arith)) ∙ ap (λ m. slice_index (m.words) k) s.1

-- ---- the breadcrumbs that are known
known_side : (o : Option ℕ) (n : ℕ) (ws text : List ℕ) → MatchOption o (n ≡ 0) (λ d. (0 < n) × (length ws ≡ n) × (ws ≡ crumbs text 64)) → 0 < n
    → IsSome o × (length ws ≡ n) × (ws ≡ crumbs text 64)
known_side None n ws text side some = absurd (omega (arith, side, some))
known_side (Some d) n ws text side some = (refl, side.1, side.2)

no_side : (o : Option ℕ) (n : ℕ) (ws text : List ℕ) → MatchOption o (n ≡ 0) (λ d. (0 < n) × (length ws ≡ n) × (ws ≡ crumbs text 64)) → is_there o ≡ true → 0 < n
no_side None n ws text side some = absurd (false≢true some)
no_side (Some d) n ws text side some = side.0

there : (o : Option ℕ) (n : ℕ) (ws text : List ℕ) → MatchOption o (n ≡ 0) (λ d. (0 < n) × (length ws ≡ n) × (ws ≡ crumbs text 64)) → nat_lt 0 n ≡ is_there o
there None n ws text side = ap (nat_lt 0) side
there (Some d) n ws text side = lt-ltb 0 n side.0

pub side-known : (r : RefSeen) (n : ℕ) (text : List ℕ) → IsSide r n text → 0 < n → IsSome r.side × (length r.side_words ≡ n) × (r.side_words ≡ crumbs text 64)
side-known r n text side some = known_side r.side n r.side_words text side some

pub side-some : (r : RefSeen) (n : ℕ) (text : List ℕ) → IsSide r n text → is_there r.side ≡ true → 0 < n
side-some r n text side some = no_side r.side n r.side_words text side some

-- breadcrumbs are known exactly where there are words of them
crumbs-there : (object : ℕ × ℕ) (storage : Storage) → IsStored object storage → nat_lt 0 (crumb_words storage) ≡ is_there (side_of (place_of storage))
crumbs-there object Words is = refl
crumbs-there object (Native r n) is = there r.side n r.side_words _ is.kept.side
crumbs-there object (Foreign r) is = ap is_there (sym is.kept.no_side)
crumbs-there object (Literal l) is = refl
crumbs-there object (Bytes v) is = refl
crumbs-there object (Units v) is = refl

pub crumbs-kept : (object : ℕ × ℕ) (storage : Storage) (now : Meaning) → IsStored object storage → meaning_of object storage ≡ now
    → nat_lt 0 (crumb_words storage) ≡ is_there (side_of (now.place))
crumbs-kept object storage now is e = crumbs-there object storage is ∙ ap (λ m. is_there (side_of (m.place))) e

crumbs-storage : (object : ℕ × ℕ) (storage : Storage) → IsStored object storage → is_there (side_of (place_of storage)) ≡ true → storage_of (row_of object storage) ≡ Utf8
crumbs-storage object Words is known = absurd (false≢true known)
crumbs-storage object (Native r n) is known = refl
crumbs-storage object (Foreign r) is known = absurd (false≢true (ap is_there (sym is.kept.no_side) ∙ known))
crumbs-storage object (Literal l) is known = absurd (false≢true known)
crumbs-storage object (Bytes v) is known = absurd (false≢true known)
crumbs-storage object (Units v) is known = absurd (false≢true known)

pub crumbs-utf8 : (object : ℕ × ℕ) (storage : Storage) (now : Meaning) → IsStored object storage → meaning_of object storage ≡ now
    → is_there (side_of (now.place)) ≡ true → storage_of (now.row) ≡ Utf8
crumbs-utf8 object storage now is e = subst (λ m. is_there (side_of (m.place)) ≡ true → storage_of (m.row) ≡ Utf8) e (crumbs-storage object storage is)

-- word j of them
module _ (object : ℕ × ℕ) (storage : Storage) (now : Meaning) (is : IsStored object storage) (e : meaning_of object storage ≡ now) (r : RefSeen) (n : ℕ) (same : storage ≡ Native r n) where
  native_side : IsSide r n (now.text)
  native_side =
      let kept : IsStored object (Native r n) = subst (IsStored object) same is in
      subst (λ m. IsSide r n (m.text)) (ap (meaning_of object) (sym same) ∙ e) kept.kept.side

  pub side-there : 0 < n → IsSome r.side
  side-there some = (side-known r n (now.text) native_side some).0

  pub side-inside : (j : ℕ) → j < n → j < length r.side_words
  side-inside j h = let s = (side-known r n (now.text) native_side (omega (arith, h))).1 in omega (arith, h, s)

  pub side-word : (j : ℕ) → j < n → get_or r.side_words j 0 ≡ slice_index (crumbs (now.text) 64) j
  side-word j h = ap (λ ws. get_or ws j 0) (side-known r n (now.text) native_side (omega (arith, h))).2

  pub side-past : (j : ℕ) → n ≤ j → is_there (side_of (now.place)) ≡ true → j < length (crumbs (now.text) 64) → ⊥
  side-past j past known inside =
      let place : now.place ≡ shared r = ap (λ m. m.place) (sym e) ∙ ap place_of same in
      let some : 0 < n = side-some r n (now.text) native_side (ap (λ p. is_there (side_of p)) (sym place) ∙ known) in
      let s = side-known r n (now.text) native_side some in
      omega (arith, past, inside, s.1, ap length s.2)

-- no value has more code units than its text may have bytes
pub count-limit : (object : ℕ × ℕ) (storage : Storage) → IsStored object storage → count_of (row_of object storage) ≤ 16777216
count-limit object storage is =
    let s = size object storage is in let l = is.limit in let m = size-limit (storage_of (row_of object storage)) (text_of object storage) in omega (arith, s, l, m)

pub size-kept : (object : ℕ × ℕ) (storage : Storage) → IsStored object storage → size_in (storage_of (row_of object storage)) (text_of object storage) ≡ count_of (row_of object storage)
size-kept object storage is = size object storage is
