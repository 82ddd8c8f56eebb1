-- A value that an edit makes, before the old one is given up.
use Rattle.std.proofs.Common.{◌≡◌, ◌≢◌, refl, sym, ap, subst, ◌∙◌, ℕ, ◌<◌, ◌≤◌, ◌⊎◌, inl, inr, Bool, true, false, Option, None, List, length, Vec, Global, arith}
use Rattle.text_spec.specs.declared.encoding.Encoding.TheVariants.{Utf8, Utf16}
use Rattle.object_words.specs.Rows.{Row, small, owned, is_ascii, form_of}
use Rattle.object_words.specs.declared.form.Form.TheVariants.{Owned}
use Rattle.slot_table.specs.Owners.{PassSeen}
use Rattle.slot_accounts.specs.Account.{Did, Keeps}
use Rattle.slot_accounts.proofs.Doing.{Did-nothing, Did-then}
use Rattle.str_value.specs.Meaning.{Meaning, Place, own, sole_of, credit_of, storage_of}
use Rattle.str_value.specs.Making.{MadeOfUtf8, HasRoom, making, letting_go}
use Rattle.str_value.specs.Editing.{IsRemade}
use Rattle.str_value.specs.declared.storage.Storage.{Storage}
use Rattle.str_value.specs.declared.storage.Storage.TheVariants.{Words, Native, Foreign, Literal, Bytes, Units}
use Rattle.str_value.specs.Stored.{row_of, meaning_of, IsStored}
use Rattle.std.specs.List.{splice}
use Rattle.text_spec.specs.Text.{utf8}
use Rattle.str_value.proofs.Between.{bytes-kept}

-- what giving the value s up did
abbrev pub GivenUp : Meaning → PassSeen → PassSeen → Type 0
GivenUp s p q = (last : Bool) × (found : Option ℕ) × (sole_of (s.place) ≡ true → last ≡ true) × Did (letting_go (s.place) last found) p q

pub remade : (p m q : PassSeen) (s t : Meaning) (bytes : List ℕ) → MadeOfUtf8 p m bytes (t.place) (t.row) → Did (making (t.place)) p m → Keeps p 0 m (credit_of (t.place))
    → GivenUp s m q → Keeps m (credit_of (s.place)) q 0 → IsRemade p s bytes q t
remade p m q s t bytes made did credits gone back = record {
  between = m;
  made = made;
  last = gone.0;
  found = gone.1;
  known = gone.2;
  did = Did-then did gone.3;
  credits = omega (arith, credits, back);
}

-- the new one is Small
pub remade-small : (p q : PassSeen) (s t : Meaning) (bytes : List ℕ) → t.place ≡ own → t.row ≡ small bytes → length bytes ≤ 15
    → GivenUp s p q → Keeps p (credit_of (s.place)) q 0 → IsRemade p s bytes q t
remade-small p q s t bytes place row few gone back =
    remade p p q s t bytes (subst (λ (o : Place). MadeOfUtf8 p p bytes o (t.row)) (sym place) (refl, inl (few, row)))
    (subst (λ (o : Place). Did (making o) p p) (sym place) (Did-nothing p)) (subst (λ (o : Place). Keeps p 0 p (credit_of o)) (sym place) refl) gone back

-- the old one held nothing
pub remade-own : (p q : PassSeen) (s t : Meaning) (bytes : List ℕ) → s.place ≡ own → MadeOfUtf8 p q bytes (t.place) (t.row) → Did (making (t.place)) p q
    → Keeps p 0 q (credit_of (t.place)) → IsRemade p s bytes q t
remade-own p q s t bytes place made did credits =
    remade p q q s t bytes made did credits (true, None, λ _. refl, subst (λ (o : Place). Did (letting_go o true None) q q) (sym place) (Did-nothing q))
    (subst (λ (o : Place). Keeps q (credit_of o) q 0) (sym place) refl)

-- both stand in vectors
pub made-owned : (p : PassSeen) (bytes : List ℕ) (o : Place) (row : Row) → o ≡ own → 15 < length bytes → ¬ HasRoom p Utf8 (length bytes)
    → row ≡ owned false (is_ascii bytes) (is_ascii bytes) (length bytes) → MadeOfUtf8 p p bytes o row
made-owned p bytes o row place long none is = subst (λ (x : Place). MadeOfUtf8 p p bytes x row) (sym place) (refl, inr (long, none, is))

-- a value that has no vector of UTF-8
pub no-vector : (object : ℕ × ℕ) (storage : Storage) → ((v : _) → storage ≢ Bytes v) → (storage_of (row_of object storage) ≡ Utf16) ⊎ (form_of (row_of object storage) ≢ Owned)
no-vector object Words none = inr (λ e. cc)
no-vector object (Native r n) none = inr (λ e. cc)
no-vector object (Foreign r) none = inl refl
no-vector object (Literal l) none = inr (λ e. cc)
no-vector object (Bytes v) none = absurd (none v refl)
no-vector object (Units v) none = inl refl

-- the bytes of a vector with a part replaced are those of the text with it replaced
pub replaced-bytes : (object : ℕ × ℕ) (storage : Storage) (now : Meaning) (v : Vec ℕ Global) (items : List ℕ) (low high : ℕ) (with : List ℕ) → IsStored object storage
    → meaning_of object storage ≡ now → storage ≡ Bytes v → items ≡ splice v.items low high with → items ≡ splice (utf8 (now.text)) low high with
replaced-bytes object storage now v items low high with is e s replaced =
    let kept = bytes-kept object storage now v v.items is e s refl in
    replaced ∙ ap (λ l. splice l low high with) (sym kept.text)
