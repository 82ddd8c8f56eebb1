-- What a copy of a value is, and what becomes of the value and the pass. p and s are the pass and the value before, q and t after, c is the copy.
use Rattle.std.specs.Prelude.{◌≡◌, ◌≢◌, ◌<◌, ◌⊎◌, Bool, true, false, List, [], ◌∷◌}
use Rattle.slot_model.specs.declared.event.Event.{Event}
use Rattle.slot_model.specs.declared.event.Event.TheVariants.{Retain}
use Rattle.text_spec.specs.declared.encoding.Encoding.{Encoding}
use Rattle.text_spec.specs.declared.encoding.Encoding.TheVariants.{Utf8, Utf16}
use Rattle.object_words.specs.Rows.{owned, form_of, ascii_of, count_of}
use Rattle.object_words.specs.declared.form.Form.TheVariants.{Small}
use Rattle.slot_table.specs.Owners.{PassSeen, RefSeen}
use Rattle.slot_accounts.specs.Account.{Did, Keeps}
use Rattle.str_value.specs.Meaning.{Meaning, Place, own, shared, fixed, storage_of}

abbrev pub is_utf16 : Encoding → Bool
is_utf16 Utf8 = false
is_utf16 Utf16 = true

-- the same text and flags in a vector of its own, in the same encoding
pub record IsOwned (s c : Meaning) : Type 0 where
  pub text : c.text ≡ s.text
  pub row : c.row ≡ owned (is_utf16 (storage_of s.row)) (ascii_of s.row) (ascii_of s.row) (count_of s.row)
  pub place : c.place ≡ own

-- a reference after another was made beside it
abbrev pub beside : RefSeen → List Event → RefSeen
beside r front = record r { front = front; places = []; sole = false; bare = false }

-- a second reference of the slot was made, by one Retain, and both know what the first one knew but for its marks
pub record IsShared (r : RefSeen) (p : PassSeen) (s : Meaning) (q : PassSeen) (t c : Meaning) : Type 0 where
  pub a_credit : 1 < p.credits
  pub did : Did (Retain r.slot ∷ []) p q
  pub credits : Keeps p 1 q 2
  pub value : t ≡ record s { place = shared (beside r q.front) }
  pub copy_front : List Event
  pub copy : c ≡ record s { place = shared (beside r copy_front) }

-- A Small, Literal or Owned value is copied as it is. One in a slot is shared where the pass shows a credit, and its copy is Owned elsewhere
abbrev pub CopiedAt : Place → PassSeen → Meaning → PassSeen → Meaning → Meaning → Type 0
CopiedAt own p s q t c = (q ≡ p) × (t ≡ s) × (c ≡ s)
CopiedAt (fixed l) p s q t c = (q ≡ p) × (t ≡ s) × (c ≡ s)
CopiedAt (shared r) p s q t c = IsShared r p s q t c ⊎ ((p.credits ≡ 1) × (q ≡ p) × (t ≡ s) × IsOwned s c)

-- a second reference of the slot, where the value stands in one
abbrev pub SharedAt : Place → PassSeen → Meaning → PassSeen → Meaning → Meaning → Type 0
SharedAt own p s q t c = ⊥
SharedAt (fixed l) p s q t c = ⊥
SharedAt (shared r) p s q t c = IsShared r p s q t c

-- a copy that shares no slot
abbrev pub ApartAt : Place → Meaning → Meaning → Type 0
ApartAt own s c = c ≡ s
ApartAt (fixed l) s c = c ≡ s
ApartAt (shared r) s c = IsOwned s c

-- whether such a copy may take memory
abbrev pub MayNeedMemory : Place → Meaning → Type 0
MayNeedMemory own s = form_of s.row ≢ Small
MayNeedMemory (fixed l) s = ⊥
MayNeedMemory (shared r) s = Unit {0}

-- where a copy takes memory
abbrev pub NeedsMemory : Place → PassSeen → Meaning → Type 0
NeedsMemory own p s = form_of s.row ≢ Small
NeedsMemory (fixed l) p s = ⊥
NeedsMemory (shared r) p s = p.credits ≡ 1

-- the events of a copy
abbrev pub copying : Place → Place → List Event
copying own c = []
copying (fixed l) c = []
copying (shared r) own = []
copying (shared r) (fixed l) = []
copying (shared r) (shared x) = Retain r.slot ∷ []
