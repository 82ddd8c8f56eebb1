-- What an edit did on the heap, by where the new text stands.
use Rattle.std.proofs.Common.{◌≡◌, refl, sym, ap, subst, ◌∙◌, ℕ, ◌+◌, ◌<◌, ◌≤◌, length, ◌⊎◌, inl, inr, ⊎_elim, Bool, true, false, Option, List, [], ◌∷◌, ◌++◌, Result, Ok, Err, arith}
use Rattle.slot_model.specs.declared.event.Event.{Event}
use Rattle.slot_model.specs.declared.event.Event.TheVariants.{Publish, Retain, Release, Sole, Write, Look, Install, Detach}
use Rattle.text_spec.specs.Packed.{content_words}
use Rattle.text_spec.specs.declared.encoding.Encoding.TheVariants.{Utf8}
use Rattle.object_words.specs.Rows.{Row, form_of}
use Rattle.object_words.specs.declared.layout.TheConstants.{SMALL_CAPACITY}
use Rattle.object_words.specs.declared.form.Form.{Form}
use Rattle.object_words.specs.declared.form.Form.TheVariants.{Small, Native, Owned}
use Rattle.slot_table.specs.Owners.{PassSeen, RefSeen}
use Rattle.slot_accounts.specs.Account.{sum_of, takes}
use Rattle.slot_accounts.specs.Counts.{publishes, retains}
use Rattle.slot_accounts.proofs.Doing.{sum_of-append}
use Rattle.slot_edits.specs.Edits.{asking, detaching}
use Rattle.slot_edits.specs.Writes.{AllWrites}
use Rattle.str_value.specs.declared.wrote.Wrote.{Wrote}
use Rattle.str_value.specs.declared.wrote.Wrote.TheVariants as wrote
use Rattle.str_value.specs.Meaning.{Meaning, Place, own, shared, fixed, OfHeap, credit_of, sole_of}
use Rattle.str_value.specs.Making.{MadeOfUtf8, HasRoom}
use Rattle.str_value.specs.Editing.{IsUnwritten, IsMadeAnew, IsMoved, IsOverwritten, IsWritten}
use Rattle.edit_cow.specs.declared.error.EditError.{EditError}
use Rattle.edit_cow.specs.declared.error.EditError.TheVariants as refusal
use Rattle.edit_cow.specs.Edits.{IsLeft}
use Rattle.batch_workers.specs.Working.{IsSoleIfNative, IsWorked, lists_known}
use Rattle.batch_workers.proofs.Working.{worked-nothing, worked-then, worked-remade, known-one}

-- ---- events that neither publish nor retain, and take no slot
abbrev Neither : List Event → Type 0
Neither es = (sum_of publishes es ≡ 0) × (sum_of retains es ≡ 0) × (sum_of takes es ≡ 0)

neither-then : (es ds : List Event) → Neither es → Neither ds → Neither (es ++ ds)
neither-then es ds first then = (
  omega (arith, sum_of-append publishes es ds, first.0, then.0),
  omega (arith, sum_of-append retains es ds, first.1, then.1),
  omega (arith, sum_of-append takes es ds, first.2, then.2),
)

asking-neither : (x : ℕ) (sole answer : Bool) → Neither (asking x sole answer)
asking-neither x true answer = (refl, refl, refl)
asking-neither x false answer = (refl, refl, refl)

detaching-neither : (x : ℕ) (bare : Bool) (found : Option ℕ) → Neither (detaching x bare found)
detaching-neither x true found = (refl, refl, refl)
detaching-neither x false found = (refl, refl, refl)

writes-neither : (x : ℕ) (es : List Event) → AllWrites x es → Neither es
writes-neither x [] all = (refl, refl, refl)
writes-neither x (Publish y ws ∷ es) all = absurd all.0
writes-neither x (Retain y ∷ es) all = absurd all.0
writes-neither x (Release y last ∷ es) all = absurd all.0
writes-neither x (Sole y answer ∷ es) all = absurd all.0
writes-neither x (Write y k w ∷ es) all = let rest = writes-neither x es all.1 in (omega (arith, rest.0), omega (arith, rest.1), omega (arith, rest.2))
writes-neither x (Look y found ∷ es) all = absurd all.0
writes-neither x (Install y d ws found ∷ es) all = absurd all.0
writes-neither x (Detach y found ∷ es) all = absurd all.0

-- ---- a value that was asked for in vain, or not at all
pub unwritten-worked : (p : PassSeen) (s : Meaning) (n : ℕ) (q : PassSeen) (t : Meaning) → IsUnwritten p s n q t → OfHeap p s.place → IsWorked p s q t 0
unwritten-worked p s n q t (inl u) of = worked-nothing p q s t 0 u.pass u.value of
unwritten-worked p s n q t (inr (r, a)) of =
    let before : credit_of s.place ≡ 1 = ap credit_of a.may.place in
    let after : credit_of t.place ≡ 1 = ap (λ (m : Meaning). credit_of m.place) a.value in
    let heap : r.heap ≡ p.heap = subst (OfHeap p) a.may.place of in
    let known : lists_known t.place ≡ lists_known s.place = ap (λ (m : Meaning). lists_known m.place) a.value ∙ sym (ap lists_known a.may.place) in
    let free : length q.free + 0 ≡ length p.free + 0 = a.did.slots_are in
    record {
      events = Sole r.slot false ∷ [];
      did = a.did;
      published = omega arith;
      retained = refl;
      slots = omega (arith, free, known);
      credits = omega (arith, a.credits, before, after);
      heap = subst (λ (m : Meaning). OfHeap q m.place) (sym a.value) (heap ∙ sym a.did.one_heap);
    }

pub unwritten-text : (p : PassSeen) (s : Meaning) (n : ℕ) (q : PassSeen) (t : Meaning) → IsUnwritten p s n q t → t.text ≡ s.text
unwritten-text p s n q t (inl u) = ap (λ (m : Meaning). m.text) u.value
unwritten-text p s n q t (inr (r, a)) = ap (λ (m : Meaning). m.text) a.value

-- ---- an edit that was done
module _ (p : PassSeen) (s : Meaning) (bytes : List ℕ) (q : PassSeen) (t : Meaning) (of : OfHeap p s.place) (stays : OfHeap q t.place) where
  anew_worked : (w : Wrote) (a : PassSeen) (k : Meaning) → IsMadeAnew w a k bytes q t → IsWorked a k q t 1
  anew_worked wrote.InPlace a k is = absurd is
  anew_worked wrote.Small a k is = worked-remade a k bytes q t is.1 stays
  anew_worked wrote.Copied a k is = worked-remade a k bytes q t is.2 stays
  anew_worked wrote.Owned a k is = worked-remade a k bytes q t is.2 stays

  moved_worked : (w : Wrote) → IsMoved w p s bytes q t → IsWorked p s q t 1
  moved_worked w m = worked-then p s m.asked m.kept q t 0 1 (unwritten-worked p s _ m.asked m.kept m.unwritten of) (anew_worked w m.asked m.kept m.anew)

  pub written-worked : (w : Wrote) (low : ℕ) → IsWritten w p s low bytes q t → IsWorked p s q t 1
  written-worked wrote.InPlace low (r, may, over) =
      let asked = asking r.slot r.sole true in
      let taken = detaching r.slot r.bare over.found in
      let none = neither-then asked (taken ++ over.writes) (asking-neither r.slot r.sole true)
      (neither-then taken over.writes (detaching-neither r.slot r.bare over.found) (writes-neither r.slot over.writes over.are_writes)) in
      let before : credit_of s.place ≡ 1 = ap credit_of may.place in
      let after : credit_of t.place ≡ 1 = ap credit_of over.place in
      record {
        events = asked ++ (taken ++ over.writes);
        did = over.did;
        published = omega (arith, none.0);
        retained = none.1;
        slots = omega (arith, over.did.slots_are, none.2, known-one s.place);
        credits = omega (arith, over.credits, before, after);
        heap = stays;
      }
  written-worked wrote.Small low m = moved_worked wrote.Small m
  written-worked wrote.Copied low m = moved_worked wrote.Copied m
  written-worked wrote.Owned low m = moved_worked wrote.Owned m

-- ---- a Native value is its slot's only holder after an edit
remade-sole : (p b : PassSeen) (bytes : List ℕ) (o : Place) (row : Row) → MadeOfUtf8 p b bytes o row → form_of row ≡ Native → sole_of o ≡ true
remade-sole p b bytes own row made native =
    ⊎_elim (λ small. absurd (let no : Small ≡ Native = sym (ap form_of small.1) ∙ native in cc)) (λ owned. absurd (let no : Owned ≡ Native = sym (ap form_of owned.2) ∙ native in cc)) made.1
remade-sole p b bytes (shared r) row made native = ap (λ (x : RefSeen). x.sole) made.1.2
remade-sole p b bytes (fixed l) row made native = absurd made

anew-sole : (w : Wrote) (p : PassSeen) (s : Meaning) (bytes : List ℕ) (q : PassSeen) (t : Meaning) → IsMadeAnew w p s bytes q t → IsSoleIfNative t
anew-sole wrote.InPlace p s bytes q t is = absurd is
anew-sole wrote.Small p s bytes q t is = remade-sole p is.1.between bytes t.place t.row is.1.made
anew-sole wrote.Copied p s bytes q t is = remade-sole p is.2.between bytes t.place t.row is.2.made
anew-sole wrote.Owned p s bytes q t is = remade-sole p is.2.between bytes t.place t.row is.2.made

overwritten-sole : (r : RefSeen) (p : PassSeen) (low : ℕ) (bytes : List ℕ) (q : PassSeen) (t : Meaning) → IsOverwritten r p low bytes q t → IsSoleIfNative t
overwritten-sole r p low bytes q t over native = ap sole_of over.place ∙ ap (λ (x : RefSeen). x.sole) over.alone

pub written-sole : (w : Wrote) (p : PassSeen) (s : Meaning) (low : ℕ) (bytes : List ℕ) (q : PassSeen) (t : Meaning) → IsWritten w p s low bytes q t → IsSoleIfNative t
written-sole wrote.InPlace p s low bytes q t (r, may, over) = overwritten-sole r p low bytes q t over
written-sole wrote.Small p s low bytes q t m = anew-sole wrote.Small m.asked m.kept bytes q t m.anew
written-sole wrote.Copied p s low bytes q t m = anew-sole wrote.Copied m.asked m.kept bytes q t m.anew
written-sole wrote.Owned p s low bytes q t m = anew-sole wrote.Owned m.asked m.kept bytes q t m.anew

-- ---- an edited text that a slot has room for stands in one
unwritten-room : (p : PassSeen) (s : Meaning) (n : ℕ) (q : PassSeen) (t : Meaning) (bytes : ℕ) → IsUnwritten p s n q t → HasRoom p Utf8 bytes → HasRoom q Utf8 bytes
unwritten-room p s n q t bytes (inl u) room = subst (λ x. HasRoom x Utf8 bytes) (sym u.pass) room
unwritten-room p s n q t bytes (inr (r, a)) room =
    let free : length q.free + 0 ≡ length p.free + 0 = a.did.slots_are in
    record {
      fits = subst (λ h. content_words Utf8 bytes + 1 ≤ h.layout.capacity_words) (sym a.did.one_heap) room.fits;
      shows = record { a_slot = omega (arith, free, room.shows.a_slot); a_credit = omega (arith, a.credits, room.shows.a_credit) };
    }

remade-native : (p b : PassSeen) (bytes : List ℕ) (o : Place) (row : Row) → MadeOfUtf8 p b bytes o row → SMALL_CAPACITY < length bytes → HasRoom p Utf8 (length bytes)
    → form_of row ≡ Native
remade-native p b bytes own row made long room = ⊎_elim (λ small. absurd (omega (arith, small.0, long))) (λ owned. absurd (owned.1 room)) made.1
remade-native p b bytes (shared r) row made long room = ap form_of made.1.1
remade-native p b bytes (fixed l) row made long room = absurd made

anew-native : (w : Wrote) (p : PassSeen) (s : Meaning) (bytes : List ℕ) (q : PassSeen) (t : Meaning) → IsMadeAnew w p s bytes q t → SMALL_CAPACITY < length bytes
    → HasRoom p Utf8 (length bytes) → form_of t.row ≡ Native
anew-native wrote.InPlace p s bytes q t is long room = absurd is
anew-native wrote.Small p s bytes q t is long room = absurd (omega (arith, is.0, long))
anew-native wrote.Copied p s bytes q t is long room = remade-native p is.2.between bytes t.place t.row is.2.made long room
anew-native wrote.Owned p s bytes q t is long room = absurd (is.1 room)

pub written-native : (w : Wrote) (p : PassSeen) (s : Meaning) (low : ℕ) (bytes : List ℕ) (q : PassSeen) (t : Meaning) → IsWritten w p s low bytes q t
    → SMALL_CAPACITY < length bytes → HasRoom p Utf8 (length bytes) → form_of t.row ≡ Native
written-native wrote.InPlace p s low bytes q t (r, may, over) long room = ap form_of over.row
written-native wrote.Small p s low bytes q t m long room = anew-native wrote.Small m.asked m.kept bytes q t m.anew long (unwritten-room p s _ m.asked m.kept _ m.unwritten room)
written-native wrote.Copied p s low bytes q t m long room = anew-native wrote.Copied m.asked m.kept bytes q t m.anew long (unwritten-room p s _ m.asked m.kept _ m.unwritten room)
written-native wrote.Owned p s low bytes q t m long room = anew-native wrote.Owned m.asked m.kept bytes q t m.anew long (unwritten-room p s _ m.asked m.kept _ m.unwritten room)

-- ---- what a refused edit leaves
module _ (p : PassSeen) (s : Meaning) (q : PassSeen) (t : Meaning) where
  pub left-kept : (o : Result (List ℕ) EditError) (e : EditError) → o ≡ Err e → IsLeft p s o q t → (t ≡ s) × (q ≡ p)
  left-kept (Ok text) e is left = cc
  left-kept (Err e') e is left = left

  pub left-worked : (o : Result (List ℕ) EditError) → IsLeft p s o q t → OfHeap p s.place → (t.text ≡ s.text) × IsWorked p s q t 0
  left-worked (Ok text) left of = (unwritten-text p s _ q t left, unwritten-worked p s _ q t left of)
  left-worked (Err e) left of = (ap (λ (m : Meaning). m.text) left.0, worked-nothing p q s t 0 left.1 left.0 of)

-- an edit that is refused for the length of its text
pub too-long-cause : (o : Result (List ℕ) EditError) (e : EditError) (n : ℕ) → e ≡ refusal.TooLong n → (e ≡ refusal.OutOfMemory) ⊎ (o ≡ Err e) → o ≡ Err (refusal.TooLong n)
too-long-cause o e n is (inl m) = absurd (let no : refusal.TooLong n ≡ refusal.OutOfMemory = sym is ∙ m in cc)
too-long-cause o e n is (inr cause) = cause ∙ ap Err is
