-- How a value learns its breadcrumbs, and what that does on the heap. p and s are the pass and the value before, q and t after.
use Rattle.std.specs.Prelude.{◌≡◌, ℕ, ◌+◌, ◌/◌, ◌<◌, ◌≤◌, ◌⊎◌, Bool, true, false, Option, Some, None, List, [], ◌∷◌}
use Rattle.slot_model.specs.declared.event.Event.{Event}
use Rattle.slot_model.specs.declared.event.Event.TheVariants.{Look, Install}
use Rattle.index_words.specs.Crumbs.{crumbs, size16}
use Rattle.text_spec.specs.declared.encoding.Encoding.TheVariants.{Utf8, Utf16}
use Rattle.object_words.specs.Rows.{ascii_of, count_of}
use Rattle.slot_table.specs.Owners.{PassSeen, DraftSeen, RefSeen, offered_side}
use Rattle.slot_accounts.specs.Account.{Did, Shows, IsDrawn}
use Rattle.str_value.specs.Meaning.{Meaning, Place, own, shared, fixed, storage_of, is_there, credit_of}
use Rattle.str_value.specs.declared.learning.Learned.{Learned}
use Rattle.str_value.specs.declared.learning.Learned.TheVariants.{Foreign, Ascii, Short, NotShared, Known, NoSlot}

-- a reference that has looked for a side
abbrev pub looked : RefSeen → List Event → Option ℕ → List ℕ → RefSeen
looked r front None text = record r { front = front; places = []; side = None; side_words = [] }
looked r front (Some d) text = record r { front = front; places = []; side = Some d; side_words = crumbs text 64 }

-- a reference that knows slot d as its slot's side, which it or another installed
abbrev pub knowing : RefSeen → List Event → ℕ → List ℕ → RefSeen
knowing r front d text = record r { front = front; places = []; bare = false; side = Some d; side_words = crumbs text 64 }

-- one Look was made, which found so much
pub record Looks (r : RefSeen) (p : PassSeen) (s : Meaning) (q : PassSeen) (t : Meaning) (found : Bool) : Type 0 where
  pub side : Option ℕ
  pub did : Did (Look r.slot side ∷ []) p q
  pub rest : q ≡ record p { front = q.front; places = q.places }
  pub found_is : found ≡ is_there side
  pub bare : r.bare ≡ true → side ≡ None
  pub value : t ≡ record s { place = shared (looked r q.front side s.text) }

-- The draft d was offered, beside which `found` was. The accounts are from the pass that the draft was cut from
pub record Offers (r : RefSeen) (d : DraftSeen) (p : PassSeen) (s : Meaning) (q : PassSeen) (t : Meaning) : Type 0 where
  pub found : Option ℕ
  pub did : (o : PassSeen) → IsDrawn o p d → Did (Install r.slot d.slot d.written found ∷ []) o q
  pub credits : (o : PassSeen) → IsDrawn o p d → q.credits ≡ o.credits
  pub one_heap : q.heap ≡ p.heap
  pub bare : r.bare ≡ true → found ≡ None
  pub value : t ≡ record s { place = shared (knowing r q.front (offered_side d.slot found) s.text) }

-- nothing was done
pub record Nothing (p : PassSeen) (s : Meaning) (q : PassSeen) (t : Meaning) : Type 0 where
  pub pass_is : q ≡ p
  pub value_is : t ≡ s

-- a value that may have breadcrumbs: UTF-8 in a slot, with at least 64 bytes that aren't all ASCII
pub record MayLearn (s : Meaning) : Type 0 where
  pub utf8 : storage_of s.row ≡ Utf8
  pub not_ascii : ascii_of s.row ≡ false
  pub long : 64 ≤ count_of s.row
  pub in_slot : credit_of s.place ≡ 1

-- such a value whose breadcrumbs aren't known, and the pass that is to learn them; a slot has room for the list
pub record Ready (s : Meaning) (p : PassSeen) : Type 0 where
  pub reference : RefSeen
  pub place : s.place ≡ shared reference
  pub heap : reference.heap ≡ p.heap
  pub may : MayLearn s
  pub unknown : reference.side ≡ None
  pub room : size16 s.text / 64 + 2 ≤ p.heap.layout.capacity_words

-- A Look found the side
pub record Found (r : RefSeen) (p : PassSeen) (s : Meaning) (q : PassSeen) (t : Meaning) : Type 0 where
  pub unknown : r.side ≡ None
  pub side : ℕ
  pub did : Did (Look r.slot (Some side) ∷ []) p q
  pub rest : q ≡ record p { front = q.front; places = q.places }
  pub not_bare : r.bare ≡ true → ⊥
  pub value : t ≡ record s { place = shared (looked r q.front (Some side) s.text) }

-- A Look found none, and the text's breadcrumbs were offered in slot d: `found` is None where they were installed, and else the side that another installed in between
pub record Installed (r : RefSeen) (p : PassSeen) (s : Meaning) (q : PassSeen) (t : Meaning) : Type 0 where
  pub unknown : r.side ≡ None
  pub shows : Shows p
  pub d : ℕ
  pub found : Option ℕ
  pub did : Did (Look r.slot None ∷ Install r.slot d (crumbs s.text 64) found ∷ []) p q
  pub credits : q.credits ≡ p.credits
  pub bare : r.bare ≡ true → found ≡ None
  pub value : t ≡ record s { place = shared (knowing r q.front (offered_side d found) s.text) }

-- A Look found none, and the pass showed no slot or no credit
pub record Failed (r : RefSeen) (p : PassSeen) (s : Meaning) (q : PassSeen) (t : Meaning) : Type 0 where
  pub unknown : r.side ≡ None
  pub not_shown : ¬ Shows p
  pub did : Did (Look r.slot None ∷ []) p q
  pub rest : q ≡ record p { front = q.front; places = q.places }
  pub value : t ≡ record s { place = shared (looked r q.front None s.text) }

-- breadcrumbs that were known, found or installed
abbrev pub KnownAt : Place → PassSeen → Meaning → PassSeen → Meaning → Type 0
KnownAt own p s q t = ⊥
KnownAt (fixed l) p s q t = ⊥
KnownAt (shared r) p s q t = ((is_there r.side ≡ true) × (r.bare ≡ true → ⊥) × Nothing p s q t) ⊎ (Found r p s q t ⊎ Installed r p s q t)

abbrev pub FailedAt : Place → PassSeen → Meaning → PassSeen → Meaning → Type 0
FailedAt own p s q t = ⊥
FailedAt (fixed l) p s q t = ⊥
FailedAt (shared r) p s q t = Failed r p s q t

-- the answers, by the first rule that holds
abbrev pub Learns : Learned → PassSeen → Meaning → PassSeen → Meaning → Type 0
Learns Foreign p s q t = (storage_of s.row ≡ Utf16) × Nothing p s q t
Learns Ascii p s q t = (storage_of s.row ≡ Utf8) × (ascii_of s.row ≡ true) × Nothing p s q t
Learns Short p s q t = (storage_of s.row ≡ Utf8) × (ascii_of s.row ≡ false) × (count_of s.row < 64) × Nothing p s q t
Learns NotShared p s q t = (storage_of s.row ≡ Utf8) × (ascii_of s.row ≡ false) × (64 ≤ count_of s.row) × (credit_of s.place ≡ 0) × Nothing p s q t
Learns Known p s q t = MayLearn s × KnownAt s.place p s q t
Learns NoSlot p s q t = MayLearn s × FailedAt s.place p s q t

-- a bare value looks and finds none, and then installs the breadcrumbs of its text: no other was there
abbrev pub BareInstalls : Type 0
BareInstalls = (r : RefSeen) (p q : PassSeen) (s t : Meaning) → s.place ≡ shared r → r.bare ≡ true → Learns Known p s q t
    → (d : ℕ) × Did (Look r.slot None ∷ Install r.slot d (crumbs s.text 64) None ∷ []) p q
