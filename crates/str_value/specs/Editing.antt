-- What an edit of a value does, and its events. p and s are the pass and the value before, q and t after.
use Rattle.std.specs.Prelude.{◌≡◌, ℕ, ◌+◌, ◌-◌, ◌/◌, ◌<◌, ◌≤◌, ◌⊎◌, Bool, true, false, Option, List, [], ◌∷◌, ◌++◌, length}
use Rattle.std.specs.List.{splice}
use Rattle.slot_model.specs.declared.event.Event.{Event}
use Rattle.slot_model.specs.declared.event.Event.TheVariants.{Sole}
use Rattle.text_spec.specs.Text.{utf8}
use Rattle.text_spec.specs.declared.encoding.Encoding.TheVariants.{Utf8}
use Rattle.object_words.specs.Rows.{native, form_of, is_ascii}
use Rattle.object_words.specs.declared.form.Form.TheVariants.{Native}
use Rattle.object_words.specs.declared.layout.TheConstants.{SMALL_CAPACITY}
use Rattle.slot_table.specs.Owners.{PassSeen, RefSeen}
use Rattle.slot_accounts.specs.Account.{Did, Keeps, Shows}
use Rattle.slot_edits.specs.Edits.{asking, detaching, readied}
use Rattle.slot_edits.specs.Parts.{Fits}
use Rattle.slot_edits.specs.declared.part.Part.{Part}
use Rattle.slot_edits.specs.Writes.{AllWrites}
use Rattle.str_value.specs.declared.wrote.Wrote.{Wrote}
use Rattle.str_value.specs.declared.wrote.Wrote.TheVariants as wrote
use Rattle.str_value.specs.Meaning.{Meaning, shared, sole_of, credit_of}
use Rattle.str_value.specs.Making.{MadeOfUtf8, IsPublishedUtf8, HasRoom, making, letting_go}

-- the UTF-8 of a value's text with bytes in place of a part of it
abbrev pub new_bytes : Meaning → Part → List ℕ → List ℕ
new_bytes s part with = splice (utf8 s.text) part.low part.high with

-- The value is Native, r being its reference, and so many bytes fit its slot. An edit then finds out whether r is the slot's only
-- reference: it is known, or asked
pub record MayBeWritten (r : RefSeen) (p : PassSeen) (s : Meaning) (bytes : ℕ) : Type 0 where
  pub form : form_of s.row ≡ Native
  pub place : s.place ≡ shared r
  pub fits : Fits bytes p.heap.layout.capacity_words

-- The bytes were written over the old ones: where r wasn't known to be alone it was asked, breadcrumbs were taken away, unless there were
-- known to be none, and words of the slot were written, no more than the new text has from the place `low` on, and its count word
pub record IsOverwritten (r : RefSeen) (p : PassSeen) (low : ℕ) (bytes : List ℕ) (q : PassSeen) (t : Meaning) : Type 0 where
  pub found : Option ℕ
  pub writes : List Event
  pub are_writes : AllWrites r.slot writes
  pub some : 0 < length writes
  pub few : length writes ≤ (length bytes + 7) / 8 - low / 8 + 1
  pub did : Did (asking r.slot r.sole true ++ (detaching r.slot r.bare found ++ writes)) p q
  pub credits : q.credits ≡ p.credits
  pub reference : RefSeen
  pub place : t.place ≡ shared reference
  pub alone : reference ≡ readied r reference reference.known
  pub row : t.row ≡ native (is_ascii bytes) (is_ascii bytes) (length bytes) r.slot

-- nothing was done, since the value isn't Native or so many bytes don't fit its slot
pub record IsUnasked (p : PassSeen) (s : Meaning) (bytes : ℕ) (q : PassSeen) (t : Meaning) : Type 0 where
  pub none : (r : RefSeen) → ¬ (MayBeWritten r p s bytes)
  pub pass : q ≡ p
  pub value : t ≡ s

-- its slot was asked for, and has another reference
pub record IsAskedInVain (r : RefSeen) (p : PassSeen) (s : Meaning) (bytes : ℕ) (q : PassSeen) (t : Meaning) : Type 0 where
  pub may : MayBeWritten r p s bytes
  pub unknown : r.sole ≡ false
  pub did : Did (Sole r.slot false ∷ []) p q
  pub credits : q.credits ≡ p.credits
  pub front : List Event
  pub value : t ≡ record s { place = shared (record r { front = front }) }

-- so the text can't be written over the old one, and stands as it stood
abbrev pub IsUnwritten : PassSeen → Meaning → ℕ → PassSeen → Meaning → Type 0
IsUnwritten p s bytes q t = IsUnasked p s bytes q t ⊎ ((r : RefSeen) × IsAskedInVain r p s bytes q t)

-- The value of these bytes was made, by the pass that `between` is after it, and then the old one was given up: a reader of the old
-- one may go on until then. `last` is whether that was its slot's last holder
pub record IsRemade (p : PassSeen) (s : Meaning) (bytes : List ℕ) (q : PassSeen) (t : Meaning) : Type 0 where
  pub between : PassSeen
  pub made : MadeOfUtf8 p between bytes t.place t.row
  pub last : Bool
  pub found : Option ℕ
  pub known : sole_of s.place ≡ true → last ≡ true
  pub did : Did (making t.place ++ letting_go s.place last found) p q
  pub credits : Keeps p (credit_of s.place) q (credit_of t.place)

-- Where the text of these bytes stands that isn't written over the old one, by the first rule that holds: in the value's two words; in a
-- slot, where one has room for it and the pass shows it; and else in a vector
abbrev pub IsMadeAnew : Wrote → PassSeen → Meaning → List ℕ → PassSeen → Meaning → Type 0
IsMadeAnew wrote.InPlace p s bytes q t = ⊥
IsMadeAnew wrote.Small p s bytes q t = (length bytes ≤ SMALL_CAPACITY) × IsRemade p s bytes q t
IsMadeAnew wrote.Copied p s bytes q t = (SMALL_CAPACITY < length bytes) × HasRoom p Utf8 (length bytes) × IsRemade p s bytes q t
IsMadeAnew wrote.Owned p s bytes q t = (SMALL_CAPACITY < length bytes) × ¬ HasRoom p Utf8 (length bytes) × IsRemade p s bytes q t

-- the same, once it was found that the bytes can't be written over the old ones, which takes no slot and no credit
pub record IsMoved (wrote : Wrote) (p : PassSeen) (s : Meaning) (bytes : List ℕ) (q : PassSeen) (t : Meaning) : Type 0 where
  pub asked : PassSeen
  pub kept : Meaning
  pub unwritten : IsUnwritten p s (length bytes) asked kept
  pub anew : IsMadeAnew wrote asked kept bytes q t

-- where the text of these bytes stands, by the first rule that holds: written over the old one, with which it agrees up to the place
-- `low`, where the value is the only holder of its slot; and else made anew
abbrev pub IsWritten : Wrote → PassSeen → Meaning → ℕ → List ℕ → PassSeen → Meaning → Type 0
IsWritten wrote.InPlace p s low bytes q t = (r : RefSeen) × MayBeWritten r p s (length bytes) × IsOverwritten r p low bytes q t
IsWritten wrote.Small p s low bytes q t = IsMoved wrote.Small p s bytes q t
IsWritten wrote.Copied p s low bytes q t = IsMoved wrote.Copied p s bytes q t
IsWritten wrote.Owned p s low bytes q t = IsMoved wrote.Owned p s bytes q t

-- ---- a value that an edit can write over: Native, its slot's only holder, without breadcrumbs
-- it was Native, and its reference is its slot's only one, which was asked unless it was known. Breadcrumbs were taken away, unless there
-- were known to be none
pub record IsStripped (r : RefSeen) (p : PassSeen) (s : Meaning) (q : PassSeen) (t : Meaning) : Type 0 where
  pub may : MayBeWritten r p s (length (utf8 s.text))
  pub found : Option ℕ
  pub did : Did (asking r.slot r.sole true ++ detaching r.slot r.bare found) p q
  pub credits : q.credits ≡ p.credits
  pub reference : RefSeen
  pub alone : reference ≡ readied r reference r.known
  pub value : t ≡ record s { place = shared reference }

-- its text was published in a slot of its own, by the pass that `between` is after it, and then the old value was given up
pub record IsSettled (p : PassSeen) (s : Meaning) (q : PassSeen) (t : Meaning) : Type 0 where
  pub asked : PassSeen
  pub kept : Meaning
  pub unwritten : IsUnwritten p s (length (utf8 s.text)) asked kept
  pub between : PassSeen
  pub reference : RefSeen
  pub place : t.place ≡ shared reference
  pub published : IsPublishedUtf8 asked between (utf8 s.text) reference t.row
  pub last : Bool
  pub found : Option ℕ
  pub known : sole_of kept.place ≡ true → last ≡ true
  pub did : Did (making t.place ++ letting_go kept.place last found) asked q
  pub credits : Keeps asked (credit_of kept.place) q (credit_of t.place)

abbrev pub IsReserved : PassSeen → Meaning → PassSeen → Meaning → Type 0
IsReserved p s q t = ((r : RefSeen) × IsStripped r p s q t) ⊎ IsSettled p s q t

-- it can't be had: the text doesn't fit a slot, or the pass shows no free slot or no credit, and the text can't be written over where it is
abbrev pub IsNotReserved : PassSeen → Meaning → PassSeen → Meaning → Type 0
IsNotReserved p s q t = IsUnwritten p s (length (utf8 s.text)) q t
    × (¬ (Fits (length (utf8 s.text)) p.heap.layout.capacity_words) ⊎ ¬ (Shows p))
