-- Slot loads where the pass shows a free slot and a credit: their values stand in slots, and their words are published in order.
use Rattle.std.proofs.Common.{◌≡◌, refl, sym, ap, ◌∙◌, subst, arith, Bool, true, false, true≢false, cond, ◌&&◌, ℕ, ◌<◌, ◌≤◌, nat_lt, nat_le, List, [], ◌∷◌, ◌++◌, length, append-nil, append_assoc, Option, Some, None, ⊎_elim}
use Rattle.std.proofs.lemmas.Bool.{ltb-true, leb-true}
use mathlib.Core.List.{IsPrefix}
use Rattle.text_spec.specs.declared.encoding.Encoding.TheVariants.{Utf8}
use Rattle.object_words.specs.Rows.{Row, native, is_ascii}
use Rattle.object_words.specs.declared.layout.TheConstants.{SMALL_CAPACITY}
use Rattle.slot_model.specs.declared.event.Event.{Event}
use Rattle.slot_model.specs.declared.event.Event.TheVariants.{Publish}
use Rattle.slot_table.specs.Owners.{HeapId, PassSeen, RefSeen}
use Rattle.slot_accounts.specs.Account.{Made, Shows, Stand, Scattered, IsAt, new_reference}
use Rattle.slot_accounts.specs.Counts.{published, data_in}
use Rattle.slot_accounts.proofs.Doing.{stand-grows, stand-then, is_at-below}
use Rattle.slot_edits.specs.Texts.{native_words}
use Rattle.str_value.specs.Meaning.{Meaning, Place, own, shared, fixed}
use Rattle.str_value.specs.Making.{HasRoom, IsPublishedUtf8, MadeOfUtf8, making}
use Rattle.query_lines.specs.Commands.{command_of}
use Rattle.query_lines.specs.declared.command.Command.{Command}
use Rattle.query_lines.specs.declared.command.Command.TheVariants as command
use Rattle.query_lines.specs.declared.command.Content.{Content}
use Rattle.query_lines.specs.declared.command.Content.TheVariants as content
use Rattle.query_session.specs.Reply.{reply_to}
use Rattle.query_session.specs.State.{State}
use Rattle.query_session.specs.Steps.{Done, Makes}
use Rattle.query_session.specs.Values.{Values, texts_of}
use Rattle.query_program.specs.Runs.{DidRead}
use Rattle.query_program.specs.Use.{is_accepted, if_accepted, fits_slot, is_slot_load, words_in, loaded_in, loaded, slot_bytes}
use Rattle.query_program.specs.declared.limits.TheConstants.{CAPACITY_WORDS}
use Rattle.query_program.proofs.Doing.{accepted-done, refused-same}
use Rattle.query_program.proofs.Slots.{Showing}

both_first : (a b : Bool) → (a && b) ≡ true → a ≡ true
both_first true b h = refl
both_first false b h = absurd (true≢false (sym h))

both_second : (a b : Bool) → (a && b) ≡ true → b ≡ true
both_second true b h = h
both_second false b h = absurd (true≢false (sym h))

-- the bytes of a slot load
abbrev pub bytes_in : Content → List ℕ
bytes_in (content.Text bytes) = bytes
bytes_in (content.Raw bytes) = bytes
bytes_in (content.Units units) = []
bytes_in (content.Literal number) = []

-- the value of a slot load stands in a slot that was just published
pub record InNewSlot (what : Content) (v : Meaning) : Type 0 where
  pub reference : RefSeen
  pub place : v.place ≡ shared reference
  pub known : reference.known ≡ words_in what
  pub bare : reference.bare ≡ true
  pub side : reference.side ≡ None
  pub row : v.row ≡ native (is_ascii (bytes_in what)) (is_ascii (bytes_in what)) (length (bytes_in what)) reference.slot

room : (p : PassSeen) (bytes : List ℕ) → Shows p → p.heap.layout.capacity_words ≡ CAPACITY_WORDS → fits_slot bytes ≡ true → HasRoom p Utf8 (length bytes)
room p bytes shows same h = record {
  fits = let low = leb-true (length bytes) slot_bytes (both_second (nat_lt SMALL_CAPACITY (length bytes)) (nat_le (length bytes) slot_bytes) h) in omega (arith, low, same);
  shows = shows;
}

published-value : (p q : PassSeen) (bytes : List ℕ) (o : Place) (row : Row) → HasRoom p Utf8 (length bytes) → SMALL_CAPACITY < length bytes → MadeOfUtf8 p q bytes o row
    → (r : RefSeen) × (o ≡ shared r) × IsPublishedUtf8 p q bytes r row
published-value p q bytes own row room long m = absurd (⊎_elim
    (λ (a : (length bytes ≤ SMALL_CAPACITY) × (row ≡ Rattle.object_words.specs.Rows.small bytes)). let b = a.0 in let z : ⊥ = omega (arith, b, long) in z)
    (λ (a : (SMALL_CAPACITY < length bytes) × ¬ HasRoom p Utf8 (length bytes) × (row ≡ Rattle.object_words.specs.Rows.owned false (is_ascii bytes) (is_ascii bytes) (length bytes))). a.1 room)
    m.1)
published-value p q bytes (shared r) row room long m = (r, refl, m.1)
published-value p q bytes (fixed l) row room long m = absurd m

of-utf8 : (what : Content) (p q : PassSeen) (bytes : List ℕ) (v : Meaning) → Shows p → p.heap.layout.capacity_words ≡ CAPACITY_WORDS → fits_slot bytes ≡ true
    → MadeOfUtf8 p q bytes v.place v.row → words_in what ≡ native_words bytes → bytes_in what ≡ bytes → InNewSlot what v
of-utf8 what p q bytes v shows same h made words is =
    let long : SMALL_CAPACITY < length bytes = ltb-true SMALL_CAPACITY (length bytes) (both_first (nat_lt SMALL_CAPACITY (length bytes)) (nat_le (length bytes) slot_bytes) h) in
    let x = published-value p q bytes v.place v.row (room p bytes shows same h) long made in
    let r : RefSeen = x.0 in
    let at : IsPublishedUtf8 p q bytes r v.row = x.2 in
    let new : r ≡ new_reference p.heap q.front r.slot (native_words bytes) = at.2 in
    record {
      reference = r;
      place = x.1;
      known = ap (λ (y : RefSeen). y.known) new ∙ sym words;
      bare = ap (λ (y : RefSeen). y.bare) new;
      side = ap (λ (y : RefSeen). y.side) new;
      row = at.1 ∙ ap (λ bs. native (is_ascii bs) (is_ascii bs) (length bs) r.slot) (sym is);
    }

pub in-new_slot : (what : Content) (p q : PassSeen) (v : Meaning) → Shows p → p.heap.layout.capacity_words ≡ CAPACITY_WORDS → is_slot_load what ≡ true → Makes what p q v
    → InNewSlot what v
in-new_slot (content.Text bytes) p q v shows same h made = of-utf8 (content.Text bytes) p q bytes v shows same h made refl refl
in-new_slot (content.Raw bytes) p q v shows same h made = of-utf8 (content.Raw bytes) p q bytes v shows same h made refl refl
in-new_slot (content.Units units) p q v shows same h made = absurd (true≢false (sym h))
in-new_slot (content.Literal number) p q v shows same h made = absurd (true≢false (sym h))

-- ---- the words that were published so far, in order

published-append : (es ds : List Event) → published (es ++ ds) ≡ published es ++ published ds
published-append [] ds = refl
published-append (e ∷ es) ds = ap (λ l. data_in e ++ l) (published-append es ds) ∙ sym (append_assoc (data_in e) (published es) (published ds))

abbrev pub Loads : PassSeen → List (List ℕ) → Type 0
Loads q words = (ks : List ℕ) × (ls : List Event) × Stand q.front 0 ks ls × (published ls ≡ words)

loads-stay : (p q : PassSeen) (words : List (List ℕ)) → IsPrefix p.front q.front → Loads p words → Loads q (words ++ [])
loads-stay p q words grown l = (l.0, l.1, stand-grows p.front q.front 0 l.0 l.1 l.2 grown, l.3 ∙ sym (append-nil words))

-- where the first own event stands
first-made : (e : Event) (es : List Event) (p q : PassSeen) → Made (e ∷ es) p q → (m : ℕ) × (length p.front ≤ m) × IsAt q.front m e
first-made e es p q made = by made.new_places made.stand
  where
    by : (ms : List ℕ) → Scattered q.front (length p.front) ms (e ∷ es) → (m : ℕ) × (length p.front ≤ m) × IsAt q.front m e
    by [] s = absurd s
    by (m ∷ ms) s = (m, s.0, s.1)

loads-more : (x : ℕ) (ws : List ℕ) (es : List Event) (p q : PassSeen) (words : List (List ℕ)) → Made (Publish x ws ∷ es) p q → Loads p words → Loads q (words ++ ws ∷ [])
loads-more x ws es p q words made l =
    let e : Event = Publish x ws in
    let f = first-made e es p q made in
    let at : IsAt q.front f.0 e = f.2 in (
      l.0 ++ f.0 ∷ [],
      l.1 ++ e ∷ [],
      stand-then p.front q.front 0 l.0 (f.0 ∷ []) l.1 (e ∷ []) l.2 made.grown (f.1, at, is_at-below q.front f.0 e at),
      published-append l.1 (e ∷ []) ∙ ap (λ y. y ++ ws ∷ []) l.3,
    )

loads-done : (c : Command) (m n : Values) (p q : PassSeen) (words : List (List ℕ)) → Shows p → p.heap.layout.capacity_words ≡ CAPACITY_WORDS → Done c m p n q → Loads p words
    → Loads q (words ++ loaded_in c)
loads-done (command.Load name what) m n p q words shows same d l = by (is_slot_load what) refl
  where
    by : (b : Bool) → is_slot_load what ≡ b → Loads q (words ++ cond b (words_in what ∷ []) [])
    by false h = loads-stay p q words d.made.grown l
    by true h =
        let a = d.acted in
        let s = in-new_slot what p a.between a.value shows same h a.made in
        let are : d.events ≡ Publish s.reference.slot (words_in what) ∷ a.rest =
        a.events_are ∙ (ap (λ (o : Place). making o ++ a.rest) s.place ∙ ap (λ (ws : List ℕ). Publish s.reference.slot ws ∷ a.rest) s.known) in
        loads-more s.reference.slot (words_in what) a.rest p q words (subst (λ (es : List Event). Made es p q) are d.made) l
loads-done (command.Copy to source) m n p q words shows same d l = loads-stay p q words d.made.grown l
loads-done (command.Drop name) m n p q words shows same d l = loads-stay p q words d.made.grown l
loads-done (command.Compare a b) m n p q words shows same d l = loads-stay p q words d.made.grown l
loads-done (command.On name ops) m n p q words shows same d l = loads-stay p q words d.made.grown l
loads-done (command.Batch jobs) m n p q words shows same d l = loads-stay p q words d.made.grown l

loads-still : (p q : PassSeen) (words : List (List ℕ)) → q ≡ p → Loads p words → Loads q (words ++ [])
loads-still p q words still l = subst (λ (x : PassSeen). Loads x (words ++ [])) (sym still) (subst (Loads p) (sym (append-nil words)) l)

loads-line : (o : Option Command) (m n : Values) (p q : PassSeen) (words : List (List ℕ)) → Shows p → p.heap.layout.capacity_words ≡ CAPACITY_WORDS → DidRead o m p n q → Loads p words
    → Loads q (words ++ if_accepted [] (λ t c. loaded_in c) (texts_of m) o)
loads-line None m n p q words shows same d l = loads-still p q words d.1 l
loads-line (Some c) m n p q words shows same d l = by (is_accepted (reply_to (texts_of m) c).0) refl
  where
    by : (b : Bool) → is_accepted (reply_to (texts_of m) c).0 ≡ b → Loads q (words ++ cond b (loaded_in c) [])
    by true h = loads-done c m n p q words shows same (accepted-done (reply_to (texts_of m) c).0 c m n p q h d.stepped) l
    by false h = loads-still p q words (refused-same (reply_to (texts_of m) c).0 c m n p q h d.stepped).1 l

pub loads-lines : (z : HeapId) (ls : List (List ℕ)) (m n : Values) (p q : PassSeen) (words : List (List ℕ)) → z.layout.capacity_words ≡ CAPACITY_WORDS → Showing z ls m p n q
    → Loads p words → Loads q (words ++ loaded (texts_of m) ls)
loads-lines z [] m n p q words same d l = loads-still p q words d.1 l
loads-lines z (line ∷ ls) m n p q words same d l =
    let first : List (List ℕ) = if_accepted [] (λ t c. loaded_in c) (texts_of m) (command_of line) in
    let here = loads-line (command_of line) m d.0 p d.1 words d.2 (ap (λ (h : HeapId). h.layout.capacity_words) d.3 ∙ same) d.4.done l in
    let all = loads-lines z ls d.0 n d.1 q (words ++ first) same d.5 here in
    subst (Loads q) (append_assoc words first (loaded (texts_of d.0) ls) ∙ ap (λ (s : State). words ++ (first ++ loaded s ls)) d.4.state) all
