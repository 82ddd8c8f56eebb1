-- What is read of two words is what their row says.
use Rattle.std.proofs.Common.{◌≡◌, ℕ, ◌/◌, ◌%◌, ◌^◌, ◌<◌, ◌≤◌, ◌==◌, ◌≢◌, IsTrue, List, [], ◌∷◌, map, length, refl, sym, ◌∙◌, ap, arith, nat_le, true≢false, subst, ◌↔◌, ◌++◌, take, w64, IsSome, IfSome, Option, Some, None}
use Rattle.std.specs.Int.{to_le_bytes}
use Rattle.std.proofs.Math.Seq.{take-append_seam}
use Rattle.text_spec.specs.Packed.{byte_of, bytes_of}
use Rattle.std.specs.List.{range_with_len}
use Rattle.std.proofs.lemmas.List.FromFn.{take-map-range_with_len}
use Rattle.std.proofs.Math.Nat.{div-one}
use Rattle.object_words.specs.declared.form.Form.TheVariants.{Native, Literal, Foreign, Owned}
use Rattle.object_words.specs.declared.layout.TheConstants.{NATIVE_TOP, FOREIGN_TOP, OWNED_TOP, LITERAL_TOP, SMALL_TOP, SMALL_ASCII_TOP}
use Rattle.object_words.specs.Rows.{Implies, Row, small, native, literal, foreign, owned, Describes, is_ascii, words_of, form_of, count_of, ascii_of}
use Rattle.object_words.proofs.Reading.{said, top_low, top_count, top_ascii}

-- the byte that tells a Small value is above those of the other forms
above : (bytes : List ℕ) (w0 w1 : ℕ) → w1 < 2 ^ 64 → Describes (small bytes) (w0, w1) → SMALL_TOP ≤ w1 / 2 ^ 56
above bytes w0 w1 w1_in d = omega (arith, (said (small bytes) w0 w1 w1_in d).form_read, top_low (is_ascii bytes) (length bytes))

pub native_form : (row : Row) (w0 w1 : ℕ) → w1 < 2 ^ 64 → Describes row (w0, w1) → w1 / 2 ^ 56 ≡ NATIVE_TOP → Native ≡ form_of row
native_form (small bytes) w0 w1 w1_in d top = absurd (omega (arith, above bytes w0 w1 w1_in d, top))
native_form (native ascii nfc count slot) w0 w1 w1_in d top = refl
native_form (literal ascii nfc count number) w0 w1 w1_in d top = absurd (omega (arith, (said (literal ascii nfc count number) w0 w1 w1_in d).form_read, top))
native_form (foreign ascii count slot) w0 w1 w1_in d top = absurd (omega (arith, (said (foreign ascii count slot) w0 w1 w1_in d).form_read, top))
native_form (owned utf16 ascii nfc count) w0 w1 w1_in d top = absurd (omega (arith, (said (owned utf16 ascii nfc count) w0 w1 w1_in d).form_read, top))

pub foreign_form : (row : Row) (w0 w1 : ℕ) → w1 < 2 ^ 64 → Describes row (w0, w1) → w1 / 2 ^ 56 ≡ FOREIGN_TOP → Foreign ≡ form_of row
foreign_form (small bytes) w0 w1 w1_in d top = absurd (omega (arith, above bytes w0 w1 w1_in d, top))
foreign_form (native ascii nfc count slot) w0 w1 w1_in d top = absurd (omega (arith, (said (native ascii nfc count slot) w0 w1 w1_in d).form_read, top))
foreign_form (literal ascii nfc count number) w0 w1 w1_in d top = absurd (omega (arith, (said (literal ascii nfc count number) w0 w1 w1_in d).form_read, top))
foreign_form (foreign ascii count slot) w0 w1 w1_in d top = refl
foreign_form (owned utf16 ascii nfc count) w0 w1 w1_in d top = absurd (omega (arith, (said (owned utf16 ascii nfc count) w0 w1 w1_in d).form_read, top))

pub owned_form : (row : Row) (w0 w1 : ℕ) → w1 < 2 ^ 64 → Describes row (w0, w1) → w1 / 2 ^ 56 ≡ OWNED_TOP → Owned ≡ form_of row
owned_form (small bytes) w0 w1 w1_in d top = absurd (omega (arith, above bytes w0 w1 w1_in d, top))
owned_form (native ascii nfc count slot) w0 w1 w1_in d top = absurd (omega (arith, (said (native ascii nfc count slot) w0 w1 w1_in d).form_read, top))
owned_form (literal ascii nfc count number) w0 w1 w1_in d top = absurd (omega (arith, (said (literal ascii nfc count number) w0 w1 w1_in d).form_read, top))
owned_form (foreign ascii count slot) w0 w1 w1_in d top = absurd (omega (arith, (said (foreign ascii count slot) w0 w1 w1_in d).form_read, top))
owned_form (owned utf16 ascii nfc count) w0 w1 w1_in d top = refl

pub literal_form : (row : Row) (w0 w1 : ℕ) → w1 < 2 ^ 64 → Describes row (w0, w1) → w1 / 2 ^ 56 ≡ LITERAL_TOP → Literal ≡ form_of row
literal_form (small bytes) w0 w1 w1_in d top = absurd (omega (arith, above bytes w0 w1 w1_in d, top))
literal_form (native ascii nfc count slot) w0 w1 w1_in d top = absurd (omega (arith, (said (native ascii nfc count slot) w0 w1 w1_in d).form_read, top))
literal_form (literal ascii nfc count number) w0 w1 w1_in d top = refl
literal_form (foreign ascii count slot) w0 w1 w1_in d top = absurd (omega (arith, (said (foreign ascii count slot) w0 w1 w1_in d).form_read, top))
literal_form (owned utf16 ascii nfc count) w0 w1 w1_in d top = absurd (omega (arith, (said (owned utf16 ascii nfc count) w0 w1 w1_in d).form_read, top))

-- the number of code units
pub count_low : (row : Row) (w0 w1 : ℕ) → w1 < 2 ^ 64 → Describes row (w0, w1) → w1 / 2 ^ 56 < SMALL_TOP → w0 % 2 ^ 48 ≡ count_of row
count_low (small bytes) w0 w1 w1_in d top = absurd (omega (arith, above bytes w0 w1 w1_in d, top))
count_low (native ascii nfc count slot) w0 w1 w1_in d top = (said (native ascii nfc count slot) w0 w1 w1_in d).count_read
count_low (literal ascii nfc count number) w0 w1 w1_in d top = (said (literal ascii nfc count number) w0 w1 w1_in d).count_read
count_low (foreign ascii count slot) w0 w1 w1_in d top = (said (foreign ascii count slot) w0 w1 w1_in d).count_read
count_low (owned utf16 ascii nfc count) w0 w1 w1_in d top = (said (owned utf16 ascii nfc count) w0 w1 w1_in d).count_read

pub count_high : (row : Row) (w0 w1 : ℕ) → w1 < 2 ^ 64 → Describes row (w0, w1) → SMALL_TOP ≤ w1 / 2 ^ 56 → w1 / 2 ^ 56 % 16 ≡ count_of row
count_high (small bytes) w0 w1 w1_in d top = ap (λ n. n % 16) (said (small bytes) w0 w1 w1_in d).form_read ∙ top_count (is_ascii bytes) (length bytes) d.is_row.0
count_high (native ascii nfc count slot) w0 w1 w1_in d top = absurd (omega (arith, (said (native ascii nfc count slot) w0 w1 w1_in d).form_read, top))
count_high (literal ascii nfc count number) w0 w1 w1_in d top = absurd (omega (arith, (said (literal ascii nfc count number) w0 w1 w1_in d).form_read, top))
count_high (foreign ascii count slot) w0 w1 w1_in d top = absurd (omega (arith, (said (foreign ascii count slot) w0 w1 w1_in d).form_read, top))
count_high (owned utf16 ascii nfc count) w0 w1 w1_in d top = absurd (omega (arith, (said (owned utf16 ascii nfc count) w0 w1 w1_in d).form_read, top))

-- the mark of ASCII
pub ascii_low : (row : Row) (w0 w1 : ℕ) → w1 < 2 ^ 64 → Describes row (w0, w1) → w1 / 2 ^ 56 < SMALL_TOP → (w0 / 2 ^ 63 == 1) ≡ ascii_of row
ascii_low (small bytes) w0 w1 w1_in d top = absurd (omega (arith, above bytes w0 w1 w1_in d, top))
ascii_low (native ascii nfc count slot) w0 w1 w1_in d top = (said (native ascii nfc count slot) w0 w1 w1_in d).ascii_read
ascii_low (literal ascii nfc count number) w0 w1 w1_in d top = (said (literal ascii nfc count number) w0 w1 w1_in d).ascii_read
ascii_low (foreign ascii count slot) w0 w1 w1_in d top = (said (foreign ascii count slot) w0 w1 w1_in d).ascii_read
ascii_low (owned utf16 ascii nfc count) w0 w1 w1_in d top = (said (owned utf16 ascii nfc count) w0 w1 w1_in d).ascii_read

pub ascii_high : (row : Row) (w0 w1 : ℕ) → w1 < 2 ^ 64 → Describes row (w0, w1) → SMALL_TOP ≤ w1 / 2 ^ 56 → nat_le SMALL_ASCII_TOP (w1 / 2 ^ 56) ≡ ascii_of row
ascii_high (small bytes) w0 w1 w1_in d top = top_ascii (is_ascii bytes) (length bytes) (w1 / 2 ^ 56) d.is_row.0 (said (small bytes) w0 w1 w1_in d).form_read
ascii_high (native ascii nfc count slot) w0 w1 w1_in d top = absurd (omega (arith, (said (native ascii nfc count slot) w0 w1 w1_in d).form_read, top))
ascii_high (literal ascii nfc count number) w0 w1 w1_in d top = absurd (omega (arith, (said (literal ascii nfc count number) w0 w1 w1_in d).form_read, top))
ascii_high (foreign ascii count slot) w0 w1 w1_in d top = absurd (omega (arith, (said (foreign ascii count slot) w0 w1 w1_in d).form_read, top))
ascii_high (owned utf16 ascii nfc count) w0 w1 w1_in d top = absurd (omega (arith, (said (owned utf16 ascii nfc count) w0 w1 w1_in d).form_read, top))

-- what is read of the words is a row with the same words

pub native_again : (row : Row) (w0 w1 : ℕ) → w1 < 2 ^ 64 → Describes row (w0, w1) → w1 / 2 ^ 56 ≡ NATIVE_TOP → words_of (native (w0 / 2 ^ 63 % 2 == 1) (w0 / 2 ^ 62 % 2 == 1) (w0 % 2 ^ 48) (w1 % 2 ^ 32)) ≡ (w0, w1)
native_again (small bytes) w0 w1 w1_in d top = absurd (omega (arith, above bytes w0 w1 w1_in d, top))
native_again (native ascii nfc count slot) w0 w1 w1_in d top = let read = said (native ascii nfc count slot) w0 w1 w1_in d in rw (read.ascii_bit, read.nfc_bit, read.count_read, read.slot_read) d.says
native_again (literal ascii nfc count number) w0 w1 w1_in d top = absurd (omega (arith, (said (literal ascii nfc count number) w0 w1 w1_in d).form_read, top))
native_again (foreign ascii count slot) w0 w1 w1_in d top = absurd (omega (arith, (said (foreign ascii count slot) w0 w1 w1_in d).form_read, top))
native_again (owned utf16 ascii nfc count) w0 w1 w1_in d top = absurd (omega (arith, (said (owned utf16 ascii nfc count) w0 w1 w1_in d).form_read, top))

pub literal_again : (row : Row) (w0 w1 : ℕ) → w1 < 2 ^ 64 → Describes row (w0, w1) → w1 / 2 ^ 56 ≡ LITERAL_TOP → words_of (literal (w0 / 2 ^ 63 % 2 == 1) (w0 / 2 ^ 62 % 2 == 1) (w0 % 2 ^ 48) (w1 % 2 ^ 32)) ≡ (w0, w1)
literal_again (small bytes) w0 w1 w1_in d top = absurd (omega (arith, above bytes w0 w1 w1_in d, top))
literal_again (native ascii nfc count slot) w0 w1 w1_in d top = absurd (omega (arith, (said (native ascii nfc count slot) w0 w1 w1_in d).form_read, top))
literal_again (literal ascii nfc count number) w0 w1 w1_in d top = let read = said (literal ascii nfc count number) w0 w1 w1_in d in rw (read.ascii_bit, read.nfc_bit, read.count_read, read.slot_read) d.says
literal_again (foreign ascii count slot) w0 w1 w1_in d top = absurd (omega (arith, (said (foreign ascii count slot) w0 w1 w1_in d).form_read, top))
literal_again (owned utf16 ascii nfc count) w0 w1 w1_in d top = absurd (omega (arith, (said (owned utf16 ascii nfc count) w0 w1 w1_in d).form_read, top))

pub foreign_again : (row : Row) (w0 w1 : ℕ) → w1 < 2 ^ 64 → Describes row (w0, w1) → w1 / 2 ^ 56 ≡ FOREIGN_TOP → words_of (foreign (w0 / 2 ^ 63 % 2 == 1) (w0 % 2 ^ 48) (w1 % 2 ^ 32)) ≡ (w0, w1)
foreign_again (small bytes) w0 w1 w1_in d top = absurd (omega (arith, above bytes w0 w1 w1_in d, top))
foreign_again (native ascii nfc count slot) w0 w1 w1_in d top = absurd (omega (arith, (said (native ascii nfc count slot) w0 w1 w1_in d).form_read, top))
foreign_again (literal ascii nfc count number) w0 w1 w1_in d top = absurd (omega (arith, (said (literal ascii nfc count number) w0 w1 w1_in d).form_read, top))
foreign_again (foreign ascii count slot) w0 w1 w1_in d top = let read = said (foreign ascii count slot) w0 w1 w1_in d in rw (read.ascii_bit, read.count_read, read.slot_read) d.says
foreign_again (owned utf16 ascii nfc count) w0 w1 w1_in d top = absurd (omega (arith, (said (owned utf16 ascii nfc count) w0 w1 w1_in d).form_read, top))

pub owned_again : (row : Row) (w0 w1 : ℕ) → w1 < 2 ^ 64 → Describes row (w0, w1) → w1 / 2 ^ 56 ≡ OWNED_TOP → words_of (owned (w0 / 2 ^ 59 % 2 == 1) (w0 / 2 ^ 63 % 2 == 1) (w0 / 2 ^ 62 % 2 == 1) (w0 % 2 ^ 48)) ≡ (w0, w1)
owned_again (small bytes) w0 w1 w1_in d top = absurd (omega (arith, above bytes w0 w1 w1_in d, top))
owned_again (native ascii nfc count slot) w0 w1 w1_in d top = absurd (omega (arith, (said (native ascii nfc count slot) w0 w1 w1_in d).form_read, top))
owned_again (literal ascii nfc count number) w0 w1 w1_in d top = absurd (omega (arith, (said (literal ascii nfc count number) w0 w1 w1_in d).form_read, top))
owned_again (foreign ascii count slot) w0 w1 w1_in d top = absurd (omega (arith, (said (foreign ascii count slot) w0 w1 w1_in d).form_read, top))
owned_again (owned utf16 ascii nfc count) w0 w1 w1_in d top = let read = said (owned utf16 ascii nfc count) w0 w1 w1_in d in rw (read.utf16_bit, read.ascii_bit, read.nfc_bit, read.count_read) d.says

-- ASCII is marked as NFC too
pub ascii_nfc : (row : Row) (w0 w1 : ℕ) → w1 < 2 ^ 64 → Describes row (w0, w1) → w1 / 2 ^ 56 < SMALL_TOP
    → Implies (w0 / 2 ^ 63 % 2 == 1) (w0 / 2 ^ 62 % 2 == 1)
ascii_nfc (small bytes) w0 w1 w1_in d top = absurd (omega (arith, above bytes w0 w1 w1_in d, top))
ascii_nfc (native ascii nfc count slot) w0 w1 w1_in d top = let read = said (native ascii nfc count slot) w0 w1 w1_in d in rw (read.ascii_bit, read.nfc_bit) (d.is_row.0)
ascii_nfc (literal ascii nfc count number) w0 w1 w1_in d top = let read = said (literal ascii nfc count number) w0 w1 w1_in d in rw (read.ascii_bit, read.nfc_bit) (d.is_row.0)
ascii_nfc (foreign ascii count slot) w0 w1 w1_in d top = let read = said (foreign ascii count slot) w0 w1 w1_in d in rw (read.ascii_bit, read.nfc_bit) (λ set. set)
ascii_nfc (owned utf16 ascii nfc count) w0 w1 w1_in d top = let read = said (owned utf16 ascii nfc count) w0 w1 w1_in d in rw (read.ascii_bit, read.nfc_bit) (d.is_row.0)

-- of UTF-16 in a vector only ASCII is marked as NFC
pub owned_nfc : (row : Row) (w0 w1 : ℕ) → w1 < 2 ^ 64 → Describes row (w0, w1) → w1 / 2 ^ 56 ≡ OWNED_TOP
    → IsTrue (w0 / 2 ^ 59 % 2 == 1) → Implies (w0 / 2 ^ 62 % 2 == 1) (w0 / 2 ^ 63 % 2 == 1)
owned_nfc (small bytes) w0 w1 w1_in d top = absurd (omega (arith, above bytes w0 w1 w1_in d, top))
owned_nfc (native ascii nfc count slot) w0 w1 w1_in d top = absurd (omega (arith, (said (native ascii nfc count slot) w0 w1 w1_in d).form_read, top))
owned_nfc (literal ascii nfc count number) w0 w1 w1_in d top = absurd (omega (arith, (said (literal ascii nfc count number) w0 w1 w1_in d).form_read, top))
owned_nfc (foreign ascii count slot) w0 w1 w1_in d top = absurd (omega (arith, (said (foreign ascii count slot) w0 w1 w1_in d).form_read, top))
owned_nfc (owned utf16 ascii nfc count) w0 w1 w1_in d top = let read = said (owned utf16 ascii nfc count) w0 w1 w1_in d in rw (read.ascii_bit, read.nfc_bit, read.utf16_bit) (d.is_row.1)

-- no other byte below those of Small values tells a form
pub no_other_form : (row : Row) (w0 w1 : ℕ) → w1 < 2 ^ 64 → Describes row (w0, w1) → w1 / 2 ^ 56 < SMALL_TOP
    → w1 / 2 ^ 56 ≢ NATIVE_TOP → w1 / 2 ^ 56 ≢ FOREIGN_TOP → w1 / 2 ^ 56 ≢ OWNED_TOP → w1 / 2 ^ 56 ≢ LITERAL_TOP → ⊥
no_other_form (small bytes) w0 w1 w1_in d top not_native not_foreign not_owned not_literal = omega (arith, above bytes w0 w1 w1_in d, top)
no_other_form (native ascii nfc count slot) w0 w1 w1_in d top not_native not_foreign not_owned not_literal = not_native (said (native ascii nfc count slot) w0 w1 w1_in d).form_read
no_other_form (literal ascii nfc count number) w0 w1 w1_in d top not_native not_foreign not_owned not_literal = not_literal (said (literal ascii nfc count number) w0 w1 w1_in d).form_read
no_other_form (foreign ascii count slot) w0 w1 w1_in d top not_native not_foreign not_owned not_literal = not_foreign (said (foreign ascii count slot) w0 w1 w1_in d).form_read
no_other_form (owned utf16 ascii nfc count) w0 w1 w1_in d top not_native not_foreign not_owned not_literal = not_owned (said (owned utf16 ascii nfc count) w0 w1 w1_in d).form_read

-- the bytes that are read of the words of a Small value are those of its text
pub spelled_bytes : (bytes block : List ℕ) (w0 w1 : ℕ) → w1 < 2 ^ 64 → Describes (small bytes) (w0, w1)
    → block ≡ to_le_bytes w64 w0 ++ to_le_bytes w64 w1 → take (w1 / 2 ^ 56 % 16) block ≡ bytes
spelled_bytes bytes block w0 w1 w1_in d is =
    let read = said (small bytes) w0 w1 w1_in d in
    let count : w1 / 2 ^ 56 % 16 ≡ length bytes = ap (λ n. n % 16) read.form_read ∙ top_count (is_ascii bytes) (length bytes) d.is_row.0 in
    ap (λ n. take n block) count ∙ (ap (take (length bytes)) (is ∙ read.bytes_read) ∙ take-append_seam bytes _)

-- the object made of these bytes has the same words
pub small_again : (made : Option (ℕ × ℕ)) (read bytes : List ℕ) (w0 w1 : ℕ) → (IsSome made ↔ (length read ≤ 15))
    → IfSome made (Describes (small read)) → read ≡ bytes → Describes (small bytes) (w0, w1) → made ≡ Some (w0, w1)
small_again None read bytes w0 w1 found row same d = absurd (true≢false (sym (found.1 (subst (λ bs. length bs ≤ 15) (sym same) d.is_row.0))))
small_again (Some words) read bytes w0 w1 found row same d = ap Some (sym row.says ∙ (ap (λ bs. words_of (small bs)) same ∙ d.says))

-- the words of a row are those of no other

only_native : (row : Row) (w0 w1 : ℕ) → w1 < 2 ^ 64 → Describes row (w0, w1) → w1 / 2 ^ 56 ≡ NATIVE_TOP → native (w0 / 2 ^ 63 % 2 == 1) (w0 / 2 ^ 62 % 2 == 1) (w0 % 2 ^ 48) (w1 % 2 ^ 32) ≡ row
only_native (small bytes) w0 w1 w1_in d top = absurd (omega (arith, above bytes w0 w1 w1_in d, top))
only_native (native ascii nfc count slot) w0 w1 w1_in d top = let read = said (native ascii nfc count slot) w0 w1 w1_in d in rw (read.ascii_bit, read.nfc_bit, read.count_read, read.slot_read) refl
only_native (literal ascii nfc count number) w0 w1 w1_in d top = absurd (omega (arith, (said (literal ascii nfc count number) w0 w1 w1_in d).form_read, top))
only_native (foreign ascii count slot) w0 w1 w1_in d top = absurd (omega (arith, (said (foreign ascii count slot) w0 w1 w1_in d).form_read, top))
only_native (owned utf16 ascii nfc count) w0 w1 w1_in d top = absurd (omega (arith, (said (owned utf16 ascii nfc count) w0 w1 w1_in d).form_read, top))

only_literal : (row : Row) (w0 w1 : ℕ) → w1 < 2 ^ 64 → Describes row (w0, w1) → w1 / 2 ^ 56 ≡ LITERAL_TOP → literal (w0 / 2 ^ 63 % 2 == 1) (w0 / 2 ^ 62 % 2 == 1) (w0 % 2 ^ 48) (w1 % 2 ^ 32) ≡ row
only_literal (small bytes) w0 w1 w1_in d top = absurd (omega (arith, above bytes w0 w1 w1_in d, top))
only_literal (native ascii nfc count slot) w0 w1 w1_in d top = absurd (omega (arith, (said (native ascii nfc count slot) w0 w1 w1_in d).form_read, top))
only_literal (literal ascii nfc count number) w0 w1 w1_in d top = let read = said (literal ascii nfc count number) w0 w1 w1_in d in rw (read.ascii_bit, read.nfc_bit, read.count_read, read.slot_read) refl
only_literal (foreign ascii count slot) w0 w1 w1_in d top = absurd (omega (arith, (said (foreign ascii count slot) w0 w1 w1_in d).form_read, top))
only_literal (owned utf16 ascii nfc count) w0 w1 w1_in d top = absurd (omega (arith, (said (owned utf16 ascii nfc count) w0 w1 w1_in d).form_read, top))

only_foreign : (row : Row) (w0 w1 : ℕ) → w1 < 2 ^ 64 → Describes row (w0, w1) → w1 / 2 ^ 56 ≡ FOREIGN_TOP → foreign (w0 / 2 ^ 63 % 2 == 1) (w0 % 2 ^ 48) (w1 % 2 ^ 32) ≡ row
only_foreign (small bytes) w0 w1 w1_in d top = absurd (omega (arith, above bytes w0 w1 w1_in d, top))
only_foreign (native ascii nfc count slot) w0 w1 w1_in d top = absurd (omega (arith, (said (native ascii nfc count slot) w0 w1 w1_in d).form_read, top))
only_foreign (literal ascii nfc count number) w0 w1 w1_in d top = absurd (omega (arith, (said (literal ascii nfc count number) w0 w1 w1_in d).form_read, top))
only_foreign (foreign ascii count slot) w0 w1 w1_in d top = let read = said (foreign ascii count slot) w0 w1 w1_in d in rw (read.ascii_bit, read.count_read, read.slot_read) refl
only_foreign (owned utf16 ascii nfc count) w0 w1 w1_in d top = absurd (omega (arith, (said (owned utf16 ascii nfc count) w0 w1 w1_in d).form_read, top))

only_owned : (row : Row) (w0 w1 : ℕ) → w1 < 2 ^ 64 → Describes row (w0, w1) → w1 / 2 ^ 56 ≡ OWNED_TOP → owned (w0 / 2 ^ 59 % 2 == 1) (w0 / 2 ^ 63 % 2 == 1) (w0 / 2 ^ 62 % 2 == 1) (w0 % 2 ^ 48) ≡ row
only_owned (small bytes) w0 w1 w1_in d top = absurd (omega (arith, above bytes w0 w1 w1_in d, top))
only_owned (native ascii nfc count slot) w0 w1 w1_in d top = absurd (omega (arith, (said (native ascii nfc count slot) w0 w1 w1_in d).form_read, top))
only_owned (literal ascii nfc count number) w0 w1 w1_in d top = absurd (omega (arith, (said (literal ascii nfc count number) w0 w1 w1_in d).form_read, top))
only_owned (foreign ascii count slot) w0 w1 w1_in d top = absurd (omega (arith, (said (foreign ascii count slot) w0 w1 w1_in d).form_read, top))
only_owned (owned utf16 ascii nfc count) w0 w1 w1_in d top = let read = said (owned utf16 ascii nfc count) w0 w1 w1_in d in rw (read.utf16_bit, read.ascii_bit, read.nfc_bit, read.count_read) refl

only_small : (row : Row) (w0 w1 : ℕ) → w1 < 2 ^ 64 → Describes row (w0, w1) → SMALL_TOP ≤ w1 / 2 ^ 56
    → small (take (w1 / 2 ^ 56 % 16) (to_le_bytes w64 w0 ++ to_le_bytes w64 w1)) ≡ row
only_small (small bytes) w0 w1 w1_in d top = ap small (spelled_bytes bytes _ w0 w1 w1_in d refl)
only_small (native ascii nfc count slot) w0 w1 w1_in d top = absurd (omega (arith, (said (native ascii nfc count slot) w0 w1 w1_in d).form_read, top))
only_small (literal ascii nfc count number) w0 w1 w1_in d top = absurd (omega (arith, (said (literal ascii nfc count number) w0 w1 w1_in d).form_read, top))
only_small (foreign ascii count slot) w0 w1 w1_in d top = absurd (omega (arith, (said (foreign ascii count slot) w0 w1 w1_in d).form_read, top))
only_small (owned utf16 ascii nfc count) w0 w1 w1_in d top = absurd (omega (arith, (said (owned utf16 ascii nfc count) w0 w1 w1_in d).form_read, top))

pub one_row : (one other : Row) (w0 w1 : ℕ) → w1 < 2 ^ 64 → Describes one (w0, w1) → Describes other (w0, w1) → one ≡ other
one_row (small bytes) other w0 w1 w1_in d e =
    let top = (above bytes w0 w1 w1_in d) in sym (only_small (small bytes) w0 w1 w1_in d top) ∙ only_small other w0 w1 w1_in e top
one_row (native ascii nfc count slot) other w0 w1 w1_in d e =
    let top = (said (native ascii nfc count slot) w0 w1 w1_in d).form_read in sym (only_native (native ascii nfc count slot) w0 w1 w1_in d top) ∙ only_native other w0 w1 w1_in e top
one_row (literal ascii nfc count number) other w0 w1 w1_in d e =
    let top = (said (literal ascii nfc count number) w0 w1 w1_in d).form_read in sym (only_literal (literal ascii nfc count number) w0 w1 w1_in d top) ∙ only_literal other w0 w1 w1_in e top
one_row (foreign ascii count slot) other w0 w1 w1_in d e =
    let top = (said (foreign ascii count slot) w0 w1 w1_in d).form_read in sym (only_foreign (foreign ascii count slot) w0 w1 w1_in d top) ∙ only_foreign other w0 w1 w1_in e top
one_row (owned utf16 ascii nfc count) other w0 w1 w1_in d e =
    let top = (said (owned utf16 ascii nfc count) w0 w1 w1_in d).form_read in sym (only_owned (owned utf16 ascii nfc count) w0 w1 w1_in d top) ∙ only_owned other w0 w1 w1_in e top

-- the sixteen bytes of two words, by position
sixteen : (w0 w1 : ℕ) → map (byte_of (w0 ∷ w1 ∷ [])) (range_with_len 0 16) ≡ to_le_bytes w64 w0 ++ to_le_bytes w64 w1
sixteen w0 w1 = rw (div-one w0, div-one w1) refl

pub small_text : (bytes : List ℕ) (w0 w1 : ℕ) → w1 < 2 ^ 64 → Describes (small bytes) (w0, w1) → bytes_of (w0 ∷ w1 ∷ []) (length bytes) ≡ bytes
small_text bytes w0 w1 w1_in d =
    sym (take-map-range_with_len (byte_of (w0 ∷ w1 ∷ [])) 0 16 (length bytes) (omega (arith, d.is_row.0)))
    ∙ (ap (take (length bytes)) (sixteen w0 w1 ∙ (said (small bytes) w0 w1 w1_in d).bytes_read) ∙ take-append_seam bytes _)
