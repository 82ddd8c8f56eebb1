-- What ops do to a value and on the heap. p and s are the pass and the value before, q and t after.
use Rattle.std.specs.Prelude.{◌≡◌, ◌≢◌, ℕ, ◌+◌, ◌*◌, ◌<◌, ◌≤◌, nat_lt, ◌⊎◌, ◌||◌, Bool, cond, true, false, None, All, List, [], ◌∷◌, length}
use Rattle.slot_model.specs.declared.event.Event.{Event}
use Rattle.slot_model.specs.declared.event.Event.TheVariants.{Look, Install}
use Rattle.index_words.specs.Crumbs.{crumbs}
use Rattle.text_spec.specs.Packed.{content_words}
use Rattle.text_spec.specs.Text.{utf8}
use Rattle.text_spec.specs.declared.encoding.Encoding.TheVariants.{Utf8}
use Rattle.object_words.specs.Rows.{form_of, count_of, ascii_of}
use Rattle.object_words.specs.declared.layout.TheConstants.{SMALL_CAPACITY}
use Rattle.object_words.specs.declared.form.Form.TheVariants.{Native}
use Rattle.slot_table.specs.Owners.{PassSeen}
use Rattle.slot_accounts.specs.Account.{Did, Keeps, Shows, sum_of}
use Rattle.slot_accounts.specs.Counts.{publishes, retains}
use Rattle.query_lines.specs.declared.op.Op.{Op}
use Rattle.query_lines.specs.declared.reply.OpReply.{OpReply}
use Rattle.str_value.specs.Meaning.{Meaning, Place, own, shared, fixed, OfHeap, credit_of, storage_of, sole_of, bare_of, side_of, is_there}
use Rattle.str_value.specs.Learning.{MayLearn}
use Rattle.batch_workers.specs.Ops.{is_counts, is_at}

-- the value was read and no more: its text and its two words are as they were, and it is known to be its slot's only holder where it was
pub record IsRead (s t : Meaning) : Type 0 where
  pub text : t.text ≡ s.text
  pub row : t.row ≡ s.row
  pub words : t.words ≡ s.words
  pub sole : sole_of t.place ≡ sole_of s.place

-- a value that is Native is known to be its slot's only holder
abbrev pub IsSoleIfNative : Meaning → Type 0
IsSoleIfNative s = form_of s.row ≡ Native → sole_of s.place ≡ true

-- how many edits an answer tells of
abbrev pub edits_of : OpReply → ℕ
edits_of reply = cond (is_counts reply) 1 0

-- how many lists of breadcrumbs a value knows, 1 or 0
abbrev pub lists_known : Place → ℕ
lists_known place = cond (is_there (side_of place)) 1 0

-- The own events of ops led from the one pass to the other. At most so many of them publish, none takes a reference, and the credits of
-- the pass and of the value keep their sum. An edit leaves at most two free slots fewer, and nothing else takes one but breadcrumbs that
-- the value knows then
pub record IsWorked (p : PassSeen) (s : Meaning) (q : PassSeen) (t : Meaning) (edits : ℕ) : Type 0 where
  pub events : List Event
  pub did : Did events p q
  pub published : sum_of publishes events ≤ edits
  pub retained : sum_of retains events ≡ 0
  pub slots : length p.free + lists_known s.place ≤ length q.free + lists_known t.place + 2 * edits
  pub credits : Keeps p (credit_of s.place) q (credit_of t.place)
  pub heap : OfHeap q t.place

-- A value that may have breadcrumbs, and knows them; and one that knows them once a place was asked for: it knows them, or the pass shows
-- what they take
pub record Knows (s : Meaning) : Type 0 where
  pub may : MayLearn s
  pub there : is_there (side_of s.place) ≡ true

pub record Learnable (p : PassSeen) (s : Meaning) : Type 0 where
  pub may : MayLearn s
  pub can : Shows p ⊎ (is_there (side_of s.place) ≡ true)

-- ---- breadcrumbs that are installed
-- a value that may have breadcrumbs and knows that its slot has none, and a pass that shows what they take
pub record IsToInstall (p : PassSeen) (s : Meaning) : Type 0 where
  pub may : MayLearn s
  pub shows : Shows p
  pub bare : bare_of s.place ≡ true
  pub unknown : is_there (side_of s.place) ≡ false

-- the events are a look that found no breadcrumbs, and the installing of those of the text
abbrev pub InstallsAt : Place → List ℕ → List Event → Type 0
InstallsAt own text es = ⊥
InstallsAt (shared r) text es = (d : ℕ) × (es ≡ Look r.slot None ∷ Install r.slot d (crumbs text 64) None ∷ [])
InstallsAt (fixed l) text es = ⊥

-- What ops did. Where places alone were asked for, of a value that is to install its breadcrumbs, it installed them and did nothing else
pub record IsRun (p : PassSeen) (s : Meaning) (ops : List Op) (q : PassSeen) (t : Meaning) (edits : ℕ) : Type 0 where
  pub worked : IsWorked p s q t edits
  pub installed : ops ≢ [] → All (λ op. is_at op ≡ true) ops → IsToInstall p s → InstallsAt s.place s.text worked.events

-- the same of one op, and of the breadcrumbs alone: a value that knows them does nothing
pub record IsOpRun (p : PassSeen) (s : Meaning) (op : Op) (q : PassSeen) (t : Meaning) (edits : ℕ) : Type 0 where
  pub worked : IsWorked p s q t edits
  pub nothing : is_at op ≡ true → Knows s → worked.events ≡ []
  pub installed : is_at op ≡ true → IsToInstall p s → InstallsAt s.place s.text worked.events

pub record IsLearnt (p : PassSeen) (s : Meaning) (q : PassSeen) (t : Meaning) : Type 0 where
  pub worked : IsWorked p s q t 0
  pub nothing : Knows s → worked.events ≡ []
  pub installed : IsToInstall p s → InstallsAt s.place s.text worked.events

-- ---- a text in a slot after edits
-- a text that is too long for a value's two words, and that a slot has room for
pub record IsForSlot (p : PassSeen) (text : List ℕ) : Type 0 where
  pub long : SMALL_CAPACITY < length (utf8 text)
  pub fits : content_words Utf8 (length (utf8 text)) + 1 ≤ p.heap.layout.capacity_words

-- the pass shows a free slot and a credit beside its stake, and two more of each for each of so many edits
pub record Affords (p : PassSeen) (edits : ℕ) : Type 0 where
  pub slots : 1 + 2 * edits ≤ length p.free
  pub credits : 1 + 2 * edits < p.credits

-- ---- words that are read
-- a value with fewer than 64 bytes, by its row, and so with fewer than 64 scalars
pub record IsShort (s : Meaning) : Type 0 where
  pub row : count_of s.row < 64
  pub text : length s.text < 64

-- a value of UTF-8 where an offset in UTF-16 is found with few words read: it knows its breadcrumbs, is marked ASCII or is short
pub record IsQuick (s : Meaning) : Type 0 where
  pub utf8 : storage_of s.row ≡ Utf8
  pub cause : (is_there (side_of s.place) ≡ true) ⊎ ((ascii_of s.row ≡ true) ⊎ IsShort s)

-- the same once a place was asked for: it is now, or it may learn its breadcrumbs and the pass shows what they take
abbrev pub IsSoonQuick : PassSeen → Meaning → Type 0
IsSoonQuick p s = IsQuick s ⊎ (MayLearn s × Shows p)

-- whether it has nothing to learn: it knows its breadcrumbs, or is marked ASCII or has fewer than 64 code units
abbrev pub has_learned : Meaning → Bool
has_learned s = is_there (side_of s.place) || (ascii_of s.row || nat_lt (count_of s.row) 64)
