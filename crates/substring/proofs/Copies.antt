-- A copy of a value has its text in the same encoding, so that places in the one's storage are places in the other's.
use Rattle.std.proofs.Common.{◌≡◌, refl, ap, ◌∙◌, ℕ, Bool, ⊎_elim}
use Rattle.text_spec.specs.declared.encoding.Encoding.{Encoding}
use Rattle.text_spec.specs.declared.encoding.Encoding.TheVariants.{Utf8, Utf16}
use Rattle.object_words.specs.Rows.{owned, ascii_of, count_of}
use Rattle.slot_table.specs.Owners.{PassSeen}
use Rattle.str_value.specs.Meaning.{Meaning, Place, own, shared, fixed, storage_of}
use Rattle.str_value.specs.Copying.{CopiedAt, IsOwned, is_utf16}

again : (e : Encoding) (ascii nfc : Bool) (count : ℕ) → storage_of (owned (is_utf16 e) ascii nfc count) ≡ e
again Utf8 ascii nfc count = refl
again Utf16 ascii nfc count = refl

apart : (s c : Meaning) → IsOwned s c → storage_of (c.row) ≡ storage_of (s.row)
apart s c is = ap storage_of is.row ∙ again (storage_of (s.row)) (ascii_of (s.row)) (ascii_of (s.row)) (count_of (s.row))

pub same-storage : (place : Place) (p : PassSeen) (s : Meaning) (q : PassSeen) (t c : Meaning) → CopiedAt place p s q t c → storage_of (c.row) ≡ storage_of (s.row)
same-storage own p s q t c copied = ap (λ (m : Meaning). storage_of (m.row)) copied.2
same-storage (fixed l) p s q t c copied = ap (λ (m : Meaning). storage_of (m.row)) copied.2
same-storage (shared r) p s q t c copied = ⊎_elim (λ is. ap (λ (m : Meaning). storage_of (m.row)) is.copy) (λ is. apart s c is.3) copied
