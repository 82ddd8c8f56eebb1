-- Which value is made of bytes or units, and what that does on the heap.
use Rattle.std.specs.Prelude.{◌≡◌, ℕ, ◌+◌, ◌<◌, ◌≤◌, ◌⊎◌, Bool, true, false, Option, List, [], ◌∷◌, length, get_or, chars}
use Rattle.literal_rows.specs.Rows.{row_words}
use Rattle.slot_model.specs.declared.event.Event.{Event}
use Rattle.slot_model.specs.declared.event.Event.TheVariants.{Publish}
use Rattle.text_spec.specs.declared.encoding.Encoding.{Encoding}
use Rattle.text_spec.specs.declared.encoding.Encoding.TheVariants.{Utf8, Utf16}
use Rattle.text_spec.specs.Packed.{content_words}
use Rattle.word_units.specs.Packing.{unit_words}
use Rattle.object_words.specs.Rows.{Row, small, native, literal, foreign, owned, is_ascii}
use Rattle.object_words.specs.CountWord.{count_word}
use Rattle.object_words.specs.declared.layout.TheConstants.{SMALL_CAPACITY}
use Rattle.slot_table.specs.Owners.{PassSeen, RefSeen}
use Rattle.slot_accounts.specs.Account.{Shows, giving_up, new_reference}
use Rattle.slot_edits.specs.Texts.{native_words}
use Rattle.str_value.specs.Meaning.{Meaning, Place, own, shared, fixed}

-- a slot has room for a count word and so many code units, and the pass shows a free one and a credit
pub record HasRoom (p : PassSeen) (e : Encoding) (count : ℕ) : Type 0 where
  pub fits : content_words e count + 1 ≤ p.heap.layout.capacity_words
  pub shows : Shows p

-- the words that a text stands with in a slot, by its UTF-16 units
abbrev pub foreign_words : List ℕ → List ℕ
foreign_words units = count_word (is_ascii units) (is_ascii units) false false true (length units) ∷ unit_words units

-- the value of these bytes stands as UTF-8 in the slot of r, which was just published: a slot has room for it, and the pass shows it
abbrev pub IsPublishedUtf8 : PassSeen → PassSeen → List ℕ → RefSeen → Row → Type 0
IsPublishedUtf8 p q bytes r row = HasRoom p Utf8 (length bytes) × (row ≡ native (is_ascii bytes) (is_ascii bytes) (length bytes) r.slot)
    × (r ≡ new_reference p.heap q.front r.slot (native_words bytes))

-- The value that the pass p makes of UTF-8: Small where the bytes fit the two words, Native where they fit a slot and the pass shows one, Owned elsewhere. The pass is q then.
-- The mark of ASCII is exact, and only ASCII is known to be in NFC (Unicode Standard Annex 15).
abbrev pub MadeOfUtf8 : PassSeen → PassSeen → List ℕ → Place → Row → Type 0
MadeOfUtf8 p q bytes own row = (q ≡ p) × (((length bytes ≤ SMALL_CAPACITY) × (row ≡ small bytes))
    ⊎ ((SMALL_CAPACITY < length bytes) × ¬ HasRoom p Utf8 (length bytes) × (row ≡ owned false (is_ascii bytes) (is_ascii bytes) (length bytes))))
MadeOfUtf8 p q bytes (shared r) row = (SMALL_CAPACITY < length bytes) × IsPublishedUtf8 p q bytes r row
MadeOfUtf8 p q bytes (fixed l) row = ⊥

-- the value that the pass p makes of UTF-16 units: Foreign, whatever their number, where they fit a slot and the pass shows one, Owned elsewhere
abbrev pub MadeOfUtf16 : PassSeen → PassSeen → List ℕ → Place → Row → Type 0
MadeOfUtf16 p q units own row = (q ≡ p) × ¬ HasRoom p Utf16 (length units) × (row ≡ owned true (is_ascii units) (is_ascii units) (length units))
MadeOfUtf16 p q units (shared r) row = HasRoom p Utf16 (length units) × (row ≡ foreign (is_ascii units) (length units) r.slot)
    × (r ≡ new_reference p.heap q.front r.slot (foreign_words units))
MadeOfUtf16 p q units (fixed l) row = ⊥

-- the events that make a new value, and that give one up
abbrev pub making : Place → List Event
making own = []
making (shared r) = Publish r.slot r.known ∷ []
making (fixed l) = []

abbrev pub letting_go : Place → Bool → Option ℕ → List Event
letting_go own last found = []
letting_go (shared r) last found = giving_up r.slot last found
letting_go (fixed l) last found = []

-- a value of literal k of the pass's heap
pub record IsLiteralOf (p : PassSeen) (k : ℕ) (s : Meaning) : Type 0 where
  pub text : s.text ≡ chars (get_or p.heap.literals k [])
  pub row : s.row ≡ (let bytes = get_or p.heap.literals k [] in literal (is_ascii bytes) (is_ascii bytes) (length bytes) k)
  pub place : s.place ≡ fixed (record { heap = p.heap; front = p.front; words = row_words p.heap.literals k })
