-- What ops did, one after another.
use Rattle.std.proofs.Common.{◌≡◌, ◌≢◌, refl, sym, ap, subst, ◌∙◌, ℕ, ◌+◌, ◌*◌, ◌<◌, ◌≤◌, nat_lt, ◌⊎◌, inl, inr, ⊎_elim, Bool, true, false, ◌||◌, Option, None, Some, All, List, [], ◌∷◌, ◌++◌, length, cond, Result, Ok, Err, IfOk, OnOk, OnErr, append-nil, arith}
use Rattle.std.proofs.lemmas.Bool.{cases_lt, lt-ltb, ltb-true}
use Rattle.slot_model.specs.declared.event.Event.{Event}
use Rattle.slot_model.specs.declared.event.Event.TheVariants.{Look, Install}
use Rattle.index_words.specs.Crumbs.{crumbs}
use Rattle.text_spec.specs.Packed.{content_words}
use Rattle.text_spec.specs.Text.{utf8}
use Rattle.text_spec.specs.declared.encoding.Encoding.TheVariants.{Utf8}
use Rattle.text_spec.specs.declared.out_of_memory.OutOfMemory.{OutOfMemory}
use Rattle.object_words.specs.Rows.{ascii_of, count_of, form_of}
use Rattle.object_words.specs.declared.form.Form.TheVariants.{Native}
use Rattle.slot_table.specs.Owners.{PassSeen}
use Rattle.slot_accounts.specs.Account.{Did, Shows, sum_of, takes, none_found}
use Rattle.slot_accounts.specs.Counts.{publishes, retains, installs}
use Rattle.slot_accounts.proofs.Doing.{Did-nothing, Did-then, sum_of-append}
use Rattle.str_value.specs.Meaning.{Meaning, Place, own, shared, fixed, OfHeap, credit_of, storage_of, side_of, bare_of, is_there}
use Rattle.str_value.specs.Making.{making, letting_go}
use Rattle.str_value.specs.Editing.{IsRemade}
use Rattle.str_value.specs.Learning.{Learns, KnownAt, FailedAt, Nothing, MayLearn}
use Rattle.str_value.specs.declared.learning.Learned.{Learned}
use Rattle.str_value.specs.declared.learning.Learned.TheVariants.{Foreign, Ascii, Short, NotShared, Known, NoSlot}
use Rattle.query_lines.specs.declared.op.Op.{Op}
use Rattle.query_lines.specs.declared.op.Op.TheVariants as asking
use Rattle.query_lines.specs.declared.reply.OpReply.{OpReply}
use Rattle.batch_workers.specs.Ops.{is_counts, is_at, finds_places}
use Rattle.batch_workers.specs.Working.{IsWorked, IsRead, IsSoleIfNative, IsLearnt, IsRun, IsOpRun, IsToInstall, InstallsAt, IsForSlot, Affords, IsQuick, Learnable, Knows, edits_of, lists_known, has_learned}

by_bool : (b : Bool) → cond b 1 0 ≤ 1
by_bool true = omega arith
by_bool false = omega arith

credit-one : (place : Place) → credit_of place ≤ 1
credit-one own = omega arith
credit-one (shared r) = omega arith
credit-one (fixed l) = omega arith

pub known-one : (place : Place) → lists_known place ≤ 1
known-one place = by_bool (is_there (side_of place))

-- ---- nothing, or one thing and then another
pub worked-nothing : (p q : PassSeen) (s t : Meaning) (n : ℕ) → q ≡ p → t ≡ s → OfHeap p s.place → IsWorked p s q t n
worked-nothing p q s t n pass value of = record {
  events = [];
  did = subst (λ x. Did [] p x) (sym pass) (Did-nothing p);
  published = omega arith;
  retained = refl;
  slots = omega (arith, ap (λ (x : PassSeen). length x.free) pass, ap (λ (m : Meaning). lists_known m.place) value);
  credits = omega (arith, ap (λ (x : PassSeen). x.credits) pass, ap (λ (m : Meaning). credit_of m.place) value);
  heap = subst (λ x. OfHeap x t.place) (sym pass) (subst (λ (m : Meaning). OfHeap p m.place) (sym value) of);
}

pub worked-then : (p : PassSeen) (s : Meaning) (q : PassSeen) (t : Meaning) (r : PassSeen) (u : Meaning) (m n : ℕ) → IsWorked p s q t m → IsWorked q t r u n
    → IsWorked p s r u (m + n)
worked-then p s q t r u m n first then =
    let publish = sum_of-append publishes first.events then.events in
    let retain = sum_of-append retains first.events then.events in
    record {
      events = first.events ++ then.events;
      did = Did-then first.did then.did;
      published = omega (arith, publish, first.published, then.published);
      retained = omega (arith, retain, first.retained, then.retained);
      slots = omega (arith, first.slots, then.slots);
      credits = omega (arith, first.credits, then.credits);
      heap = then.heap;
    }

pub worked-more : (p : PassSeen) (s : Meaning) (q : PassSeen) (t : Meaning) (m n : ℕ) → m ≤ n → IsWorked p s q t m → IsWorked p s q t n
worked-more p s q t m n more is = record {
  events = is.events;
  did = is.did;
  published = omega (arith, is.published, more);
  retained = is.retained;
  slots = omega (arith, is.slots, more);
  credits = is.credits;
  heap = is.heap;
}

-- ---- an edit
making-publishes : (place : Place) → sum_of publishes (making place) ≤ 1
making-publishes own = omega arith
making-publishes (shared r) = omega arith
making-publishes (fixed l) = omega arith

making-retains : (place : Place) → sum_of retains (making place) ≡ 0
making-retains own = refl
making-retains (shared r) = refl
making-retains (fixed l) = refl

letting_go-publishes : (place : Place) (last : Bool) (found : Option ℕ) → sum_of publishes (letting_go place last found) ≡ 0
letting_go-publishes own last found = refl
letting_go-publishes (shared r) true found = refl
letting_go-publishes (shared r) false found = refl
letting_go-publishes (fixed l) last found = refl

letting_go-retains : (place : Place) (last : Bool) (found : Option ℕ) → sum_of retains (letting_go place last found) ≡ 0
letting_go-retains own last found = refl
letting_go-retains (shared r) true found = refl
letting_go-retains (shared r) false found = refl
letting_go-retains (fixed l) last found = refl

making-takes : (place : Place) → sum_of takes (making place) ≤ 1
making-takes own = omega arith
making-takes (shared r) = omega arith
making-takes (fixed l) = omega arith

letting_go-takes : (place : Place) (last : Bool) (found : Option ℕ) → sum_of takes (letting_go place last found) ≡ 0
letting_go-takes own last found = refl
letting_go-takes (shared r) true found = refl
letting_go-takes (shared r) false found = refl
letting_go-takes (fixed l) last found = refl

pub worked-remade : (p : PassSeen) (s : Meaning) (bytes : List ℕ) (q : PassSeen) (t : Meaning) → IsRemade p s bytes q t → OfHeap q t.place → IsWorked p s q t 1
worked-remade p s bytes q t is of =
    let made = making t.place in
    let gone = letting_go s.place is.last is.found in
    record {
      events = made ++ gone;
      did = is.did;
      published = omega (arith, sum_of-append publishes made gone, making-publishes t.place, letting_go-publishes s.place is.last is.found);
      retained = omega (arith, sum_of-append retains made gone, making-retains t.place, letting_go-retains s.place is.last is.found);
      slots = omega (arith, is.did.slots_are, sum_of-append takes made gone, making-takes t.place, letting_go-takes s.place is.last is.found, known-one s.place);
      credits = is.credits;
      heap = of;
    }

-- ---- breadcrumbs that are learned
pub record Learnt (p : PassSeen) (s : Meaning) (q : PassSeen) (t : Meaning) : Type 0 where
  pub done : IsLearnt p s q t
  pub credit : credit_of t.place ≡ credit_of s.place

learnt-nothing : (p : PassSeen) (s : Meaning) (q : PassSeen) (t : Meaning) → OfHeap p s.place → Nothing p s q t → ¬ IsToInstall p s → Learnt p s q t
unfolding worked-nothing
learnt-nothing p s q t of is none = record {
  done = record { worked = worked-nothing p q s t 0 is.pass_is is.value_is of; nothing = λ _. refl; installed = λ able. absurd (none able) };
  credit = ap (λ (m : Meaning). credit_of m.place) is.value_is;
}

none-one : (found : Option ℕ) → none_found found ≤ 1
none-one None = omega arith
none-one (Some d) = omega arith

unknown-there : (o : Option ℕ) → o ≡ None → is_there o ≡ true → ⊥
unknown-there None is there = let no : false ≡ true = there in cc
unknown-there (Some d) is there = cc

learnt-known : (o : Place) (p : PassSeen) (s : Meaning) (q : PassSeen) (t : Meaning) → s.place ≡ o → OfHeap p s.place → OfHeap q t.place → KnownAt o p s q t → Learnt p s q t
learnt-known own p s q t place of stays is = absurd is
learnt-known (fixed l) p s q t place of stays is = absurd is
learnt-known (shared r) p s q t place of stays is =
    let one : credit_of s.place ≡ 1 = ap credit_of place in
    let bare : IsToInstall p s → r.bare ≡ true = λ able. sym (ap bare_of place) ∙ able.bare in
    ⊎_elim (λ known. learnt-nothing p s q t of known.2 (λ able. known.1 (bare able)))
    (λ new.
    ⊎_elim
    (λ found.
    let now : credit_of t.place ≡ 1 = ap (λ (m : Meaning). credit_of m.place) found.value in
    let same : q.credits ≡ p.credits = ap (λ (x : PassSeen). x.credits) found.rest in
    let free : length q.free ≡ length p.free = ap (λ (x : PassSeen). length x.free) found.rest in
    let before : lists_known s.place ≡ 0 = ap lists_known place ∙ ap (λ d. cond (is_there d) 1 0) found.unknown in
    record {
      done = record {
        worked = record { events = _; did = found.did; published = omega arith; retained = refl; slots = omega (arith, free, before); credits = omega (arith, same, one, now); heap = stays };
        nothing = λ knows. absurd (unknown-there r.side found.unknown (sym (ap (λ o. is_there (side_of o)) place) ∙ knows.there));
        installed = λ able. absurd (found.not_bare (bare able));
      };
      credit = now ∙ sym one;
    })
    (λ installed.
    let now : credit_of t.place ≡ 1 = ap (λ (m : Meaning). credit_of m.place) installed.value in
    let before : lists_known s.place ≡ 0 = ap lists_known place ∙ ap (λ d. cond (is_there d) 1 0) installed.unknown in
    let after : lists_known t.place ≡ 1 = ap (λ (m : Meaning). lists_known m.place) installed.value in
    let taken : length q.free + (0 + (none_found installed.found + 0)) ≡ length p.free + 0 = installed.did.slots_are in
    record {
      done = record {
        worked = record {
          events = Look r.slot None ∷ Install r.slot installed.d (crumbs s.text 64) installed.found ∷ [];
          did = installed.did;
          published = omega arith;
          retained = refl;
          slots = omega (arith, taken, before, after, none-one installed.found);
          credits = omega (arith, installed.credits, one, now);
          heap = stays;
        };
        nothing = λ knows. absurd (unknown-there r.side installed.unknown (sym (ap (λ o. is_there (side_of o)) place) ∙ knows.there));
        installed = λ able.
            let made : InstallsAt (shared r) s.text (Look r.slot None ∷ Install r.slot installed.d (crumbs s.text 64) installed.found ∷ []) =
            (installed.d, ap (λ found. Look r.slot None ∷ Install r.slot installed.d (crumbs s.text 64) found ∷ []) (installed.bare (bare able))) in
            subst (λ o. InstallsAt o s.text (Look r.slot None ∷ Install r.slot installed.d (crumbs s.text 64) installed.found ∷ [])) (sym place) made;
      };
      credit = now ∙ sym one;
    })
    new)
    is

learnt-failed : (o : Place) (p : PassSeen) (s : Meaning) (q : PassSeen) (t : Meaning) → s.place ≡ o → OfHeap q t.place → FailedAt o p s q t → Learnt p s q t
learnt-failed own p s q t place stays is = absurd is
learnt-failed (fixed l) p s q t place stays is = absurd is
learnt-failed (shared r) p s q t place stays is =
    let one : credit_of s.place ≡ 1 = ap credit_of place in
    let now : credit_of t.place ≡ 1 = ap (λ (m : Meaning). credit_of m.place) is.value in
    let same : q.credits ≡ p.credits = ap (λ (x : PassSeen). x.credits) is.rest in
    let free : length q.free ≡ length p.free = ap (λ (x : PassSeen). length x.free) is.rest in
    let before : lists_known s.place ≡ 0 = ap lists_known place ∙ ap (λ d. cond (is_there d) 1 0) is.unknown in
    record {
      done = record {
        worked = record { events = _; did = is.did; published = omega arith; retained = refl; slots = omega (arith, free, before); credits = omega (arith, same, one, now); heap = stays };
        nothing = λ knows. absurd (unknown-there r.side is.unknown (sym (ap (λ o. is_there (side_of o)) place) ∙ knows.there));
        installed = λ able. absurd (is.not_shown able.shows);
      };
      credit = now ∙ sym one;
    }

pub learnt : (a : Learned) (p : PassSeen) (s : Meaning) (q : PassSeen) (t : Meaning) → OfHeap p s.place → OfHeap q t.place → Learns a p s q t → Learnt p s q t
learnt Foreign p s q t of stays is = learnt-nothing p s q t of is.1 (λ able. let no = able.may.utf8 in let other = is.0 in cc)
learnt Ascii p s q t of stays is = learnt-nothing p s q t of is.2 (λ able. let no = able.may.not_ascii in let other = is.1 in cc)
learnt Short p s q t of stays is = learnt-nothing p s q t of is.3 (λ able. omega (arith, able.may.long, is.2))
learnt NotShared p s q t of stays is = learnt-nothing p s q t of is.4 (λ able. omega (arith, able.may.in_slot, is.3))
learnt Known p s q t of stays is = learnt-known s.place p s q t refl of stays is.1
learnt NoSlot p s q t of stays is = learnt-failed s.place p s q t refl stays is.1

-- a value that has nothing to learn
nothing-by : (b c d : Bool) → (b || (c || d)) ≡ true → (b ≡ true) ⊎ ((c ≡ true) ⊎ (d ≡ true))
nothing-by true c d is = inl refl
nothing-by false true d is = inr (inl refl)
nothing-by false false d is = inr (inr is)

pub nothing-cases : (s : Meaning) → has_learned s ≡ true → (is_there (side_of s.place) ≡ true) ⊎ ((ascii_of s.row ≡ true) ⊎ (count_of s.row < 64))
nothing-cases s is =
    ⊎_elim (λ there. inl there) (λ rest. inr (⊎_elim (λ ascii. inl ascii) (λ short. inr (ltb-true (count_of s.row) 64 short)) rest))
    (nothing-by (is_there (side_of s.place)) (ascii_of s.row) (nat_lt (count_of s.row) 64) is)

pub nothing-installed : (p : PassSeen) (s : Meaning) → has_learned s ≡ true → ¬ IsToInstall p s
nothing-installed p s is able =
    ⊎_elim (λ there. let no : false ≡ true = sym able.unknown ∙ there in cc) (λ rest. ⊎_elim (λ ascii. let no : false ≡ true = sym able.may.not_ascii ∙ ascii in cc) (λ short. omega (arith, able.may.long, short)) rest) (nothing-cases s is)

pub nothing-learnt : (p q : PassSeen) (s t : Meaning) → q ≡ p → t ≡ s → OfHeap p s.place → has_learned s ≡ true → IsLearnt p s q t
unfolding worked-nothing
nothing-learnt p q s t pass value of is = record {
  worked = worked-nothing p q s t 0 pass value of;
  nothing = λ _. refl;
  installed = λ able. absurd (nothing-installed p s is able);
}

pub nothing-knows : (p : PassSeen) (s : Meaning) → has_learned s ≡ true → Learnable p s → Knows s
nothing-knows p s is able = record {
  may = able.may;
  there = ⊎_elim (λ there. there) (λ rest. ⊎_elim (λ ascii. absurd (let no : false ≡ true = sym able.may.not_ascii ∙ ascii in cc)) (λ short. absurd (omega (arith, able.may.long, short))) rest) (nothing-cases s is);
}

either-true : (b c d : Bool) → (b ≡ true) ⊎ ((c ≡ true) ⊎ (d ≡ true)) → (b || (c || d)) ≡ true
either-true true c d is = refl
either-true false true d is = refl
either-true false false d is = ⊎_elim (λ no. absurd (let clash : false ≡ true = no in cc)) (λ rest. ⊎_elim (λ no. absurd (let clash : false ≡ true = no in cc)) (λ yes. yes) rest) is

pub quick-learned : (s : Meaning) → IsQuick s → has_learned s ≡ true
quick-learned s is =
    either-true (is_there (side_of s.place)) (ascii_of s.row) (nat_lt (count_of s.row) 64)
    (⊎_elim (λ there. inl there) (λ rest. inr (⊎_elim (λ ascii. inl ascii) (λ short. inr (lt-ltb (count_of s.row) 64 short.row)) rest)) is.cause)

pub knows-quick : (s : Meaning) → Knows s → IsQuick s
knows-quick s is = record { utf8 = is.may.utf8; cause = inl is.there }

-- one op
pub op-other : (p : PassSeen) (s : Meaning) (op : Op) (q : PassSeen) (t : Meaning) (m n : ℕ) → is_at op ≡ false → m ≤ n → IsWorked p s q t m → IsOpRun p s op q t n
op-other p s op q t m n other more is = record {
  worked = worked-more p s q t m n more is;
  nothing = λ at. absurd (let clash : true ≡ false = sym at ∙ other in cc);
  installed = λ at. absurd (let clash : true ≡ false = sym at ∙ other in cc);
}

pub op-learnt : (p : PassSeen) (s : Meaning) (op : Op) (q : PassSeen) (t : Meaning) (n : ℕ) → IsLearnt p s q t → IsOpRun p s op q t n
unfolding worked-more
op-learnt p s op q t n is = record {
  worked = worked-more p s q t 0 n (omega arith) is.worked;
  nothing = λ _. is.nothing;
  installed = λ _. is.installed;
}

-- the events of an op more
abbrev pub Installed : PassSeen → Meaning → List Op → ℕ → List Event → Type 0
Installed p s ops n es = 0 < n → All (λ op. is_at op ≡ true) ops → IsToInstall p s → InstallsAt s.place s.text es

pub run-more : (p : PassSeen) (s : Meaning) (ops : List Op) (i : ℕ) (op : Op) (m : PassSeen) (u : Meaning) (q : PassSeen) (t : Meaning) (a b : ℕ) (done : IsWorked p s m u a)
    → (more : IsOpRun m u op q t b) → (All (λ op. is_at op ≡ true) ops → is_at op ≡ true) → (i ≡ 0 → (m ≡ p) × (u ≡ s) × (done.events ≡ []))
    → (All (λ op. is_at op ≡ true) ops → IsToInstall p s → 0 < i → Knows u) → Installed p s ops i done.events
    → Installed p s ops (i + 1) (done.events ++ more.worked.events)
run-more p s ops i op m u q t a b done more asks begins knows sofar some asked able =
    ⊎_elim
    (λ (later : 0 < i).
    let none = more.nothing (asks asked) (knows asked able later) in
    subst (λ es. InstallsAt s.place s.text (done.events ++ es)) (sym none) (subst (InstallsAt s.place s.text) (sym (append-nil done.events)) (sofar later asked able)))
    (λ (first : i ≤ 0).
    let start = begins (omega (arith, first)) in
    let here = more.installed (asks asked) (subst (λ x. IsToInstall x u) (sym start.0) (subst (IsToInstall p) (sym start.1) able)) in
    subst (λ es. InstallsAt s.place s.text (es ++ more.worked.events)) (sym start.2)
    (subst (λ (v : Meaning). InstallsAt v.place v.text more.worked.events) start.1 here))
    (cases_lt 0 i)

pub learnable-first : {p : PassSeen} {s : Meaning} → IsToInstall p s → Learnable p s
learnable-first able = record { may = able.may; can = inl able.shows }

-- what some first ops did
pub record IsRunTo (p : PassSeen) (s : Meaning) (ops : List Op) (i : ℕ) (q : PassSeen) (t : Meaning) (edits : ℕ) : Type 0 where
  pub worked : IsWorked p s q t edits
  pub begins : i ≡ 0 → (q ≡ p) × (t ≡ s) × (worked.events ≡ [])
  pub installed : Installed p s ops i worked.events

pub run-nothing : (p : PassSeen) (s : Meaning) (ops : List Op) (n : ℕ) → OfHeap p s.place → IsRunTo p s ops 0 p s n
unfolding worked-nothing
run-nothing p s ops n of = record { worked = worked-nothing p p s s n refl refl of; begins = λ _. (refl, refl, refl); installed = λ no. absurd (omega (arith, no)) }

pub run-then : (p : PassSeen) (s : Meaning) (ops : List Op) (i : ℕ) (op : Op) (m : PassSeen) (u : Meaning) (q : PassSeen) (t : Meaning) (a b n : ℕ) → IsRunTo p s ops i m u a
    → IsOpRun m u op q t b → (All (λ op. is_at op ≡ true) ops → is_at op ≡ true) → (All (λ op. is_at op ≡ true) ops → IsToInstall p s → 0 < i → Knows u) → a + b ≤ n
    → IsRunTo p s ops (i + 1) q t n
unfolding worked-more worked-then
run-then p s ops i op m u q t a b n done more asks knows few = record {
  worked = worked-more p s q t (a + b) n few (worked-then p s m u q t a b done.worked more.worked);
  begins = λ no. absurd (omega (arith, no));
  installed = run-more p s ops i op m u q t a b done.worked more asks done.begins knows done.installed;
}

pub installed-one : (place : Place) (text : List ℕ) (es : List Event) → InstallsAt place text es → 1 ≤ sum_of installs es
installed-one own text es is = absurd is
installed-one (shared r) text es is = omega (arith, ap (sum_of installs) is.1)
installed-one (fixed l) text es is = absurd is

-- the first rules don't hold of a value that may have breadcrumbs, and those that are known or have room are known afterwards
failed-unknown : (o : Place) (p : PassSeen) (s : Meaning) (q : PassSeen) (t : Meaning) → s.place ≡ o → FailedAt o p s q t → ¬ Learnable p s
failed-unknown own p s q t place is able = absurd is
failed-unknown (fixed l) p s q t place is able = absurd is
failed-unknown (shared r) p s q t place is able =
    let none : is_there (side_of s.place) ≡ false = ap (λ o. is_there (side_of o)) place ∙ ap is_there is.unknown in
    ⊎_elim (λ shows. is.not_shown shows) (λ there. cc) able.can

pub learns-known : (a : Learned) (p : PassSeen) (s : Meaning) (q : PassSeen) (t : Meaning) → Learns a p s q t → Learnable p s → a ≡ Known
learns-known Foreign p s q t is able = absurd (let no = able.may.utf8 in let other = is.0 in cc)
learns-known Ascii p s q t is able = absurd (let no = able.may.not_ascii in let other = is.1 in cc)
learns-known Short p s q t is able = absurd (omega (arith, able.may.long, is.2))
learns-known NotShared p s q t is able = absurd (omega (arith, able.may.in_slot, is.3))
learns-known Known p s q t is able = refl
learns-known NoSlot p s q t is able = absurd (failed-unknown s.place p s q t refl is.1 able)

pub may-again : (s t : Meaning) → t.row ≡ s.row → credit_of t.place ≡ credit_of s.place → MayLearn s → MayLearn t
may-again s t row credit may = record {
  utf8 = ap storage_of row ∙ may.utf8;
  not_ascii = ap ascii_of row ∙ may.not_ascii;
  long = subst (λ n. 64 ≤ n) (sym (ap count_of row)) may.long;
  in_slot = credit ∙ may.in_slot;
}

pub knows-after : (a : Learned) (p : PassSeen) (s : Meaning) (q : PassSeen) (t : Meaning) → OfHeap p s.place → OfHeap q t.place → Learns a p s q t → t.row ≡ s.row
    → (a ≡ Known → is_there (side_of t.place) ≡ true) → Learnable p s → Knows t
knows-after a p s q t of stays is row known able = record {
  may = may-again s t row (learnt a p s q t of stays is).credit able.may;
  there = known (learns-known a p s q t is able);
}

-- ---- reading
pub read-nothing : (s t : Meaning) → t ≡ s → IsRead s t
read-nothing s t is = subst (λ m. IsRead s m) (sym is) (record { text = refl; row = refl; words = refl; sole = refl })

pub read-then : (s t u : Meaning) → IsRead s t → IsRead t u → IsRead s u
read-then s t u first then = record {
  text = then.text ∙ first.text;
  row = then.row ∙ first.row;
  words = then.words ∙ first.words;
  sole = then.sole ∙ first.sole;
}

pub read-sole : (s t : Meaning) → IsRead s t → IsSoleIfNative s → IsSoleIfNative t
read-sole s t is sole native = is.sole ∙ sole (sym (ap form_of is.row) ∙ native)

sole-by : (b : Bool) (reply : OpReply) (s t : Meaning) → is_counts reply ≡ b → (is_counts reply ≡ true → IsSoleIfNative t) → (is_counts reply ≡ false → IsRead s t) → IsSoleIfNative s
    → IsSoleIfNative t
sole-by true reply s t is done none at_first = done is
sole-by false reply s t is done none at_first = read-sole s t (none is) at_first

pub edited-sole : (r : Result OpReply OutOfMemory) (s t : Meaning) → IfOk r (λ reply. is_counts reply ≡ true → IsSoleIfNative t) → IfOk r (λ reply. is_counts reply ≡ false → IsRead s t)
    → OnOk r (IsSoleIfNative s → IsSoleIfNative t)
edited-sole (Ok reply) s t done none = sole-by (is_counts reply) reply s t refl done none
edited-sole (Err e) s t done none = tt

-- ---- answers
pub edit-one : (reply : OpReply) → edits_of reply ≤ 1
edit-one reply = by_bool (is_counts reply)

pub at_most : (more done : List OpReply) (reply : OpReply) (n : ℕ) → more ≡ done ++ reply ∷ [] → sum_of edits_of done ≤ n → sum_of edits_of more ≤ n + 1
at_most more done reply n is few =
    omega (arith, ap (sum_of edits_of) is, sum_of-append edits_of done (reply ∷ []), edit-one reply, few)

pub if_ok : {X E : Type 0} (r : Result X E) (P : X → Type 0) → ((x : X) → P x) → IfOk r P
if_ok (Ok x) P all = all x
if_ok (Err e) P all = tt

pub ok-map : {X E : Type 0} (r : Result X E) (P Q : X → Type 0) → ((x : X) → P x → Q x) → IfOk r P → IfOk r Q
ok-map (Ok x) P Q step is = step x is
ok-map (Err e) P Q step is = tt

pub on_ok-then : {X E : Type 0} (r : Result X E) (P Q : Type 0) → (P → Q) → OnOk r P → OnOk r Q
on_ok-then (Ok x) P Q step is = step is
on_ok-then (Err e) P Q step is = tt

-- what was done, whether or not memory was wanting
pub worked-either : {X E : Type 0} (r : Result X E) (edits : X → ℕ) (p : PassSeen) (s : Meaning) (ops : List Op) (q : PassSeen) (t : Meaning) (n : ℕ)
    → IfOk r (λ x. IsRun p s ops q t (edits x)) → OnErr r (IsWorked p s q t n) → (m : ℕ) × IsWorked p s q t m
worked-either (Ok x) edits p s ops q t n done left = (edits x, done.worked)
worked-either (Err e) edits p s ops q t n done left = (n, left)

pub on_err : {X E : Type 0} (r : Result X E) (P : Type 0) → P → OnErr r P
on_err (Ok x) P is = tt
on_err (Err e) P is = is

-- ---- a text that stands in a slot after edits
native-by : (b : Bool) (reply : OpReply) (done more : List OpReply) (p : PassSeen) (s : Meaning) (m : PassSeen) (u t : Meaning) → is_counts reply ≡ b → more ≡ done ++ reply ∷ []
    → IsWorked p s m u (sum_of edits_of done)
    → (1 ≤ sum_of edits_of done → IsForSlot p u.text → Affords p (sum_of edits_of done) → form_of u.row ≡ Native)
    → (is_counts reply ≡ false → IsRead u t) → (is_counts reply ≡ true → IsForSlot m t.text → Shows m → form_of t.row ≡ Native)
    → 1 ≤ sum_of edits_of more → IsForSlot p t.text → Affords p (sum_of edits_of more) → form_of t.row ≡ Native
native-by true reply done more p s m u t is items worked before read here some suits can =
    let one : edits_of reply ≡ 1 = ap (λ b. cond b 1 0) is in
    let all = ap (sum_of edits_of) items ∙ sum_of-append edits_of done (reply ∷ []) in
    let least = credit-one u.place in
    here is (record { long = suits.long; fits = subst (λ h. content_words Utf8 (length (utf8 t.text)) + 1 ≤ h.layout.capacity_words) (sym worked.did.one_heap) suits.fits })
    (record { a_slot = omega (arith, can.slots, worked.slots, known-one u.place, all, one); a_credit = omega (arith, can.credits, worked.credits, least, all, one) })
native-by false reply done more p s m u t is items worked before read here some suits can =
    let none : edits_of reply ≡ 0 = ap (λ b. cond b 1 0) is in
    let all : sum_of edits_of more ≡ sum_of edits_of done = omega (arith, ap (sum_of edits_of) items, sum_of-append edits_of done (reply ∷ []), none) in
    let kept = read is in
    ap form_of kept.row
    ∙ before (omega (arith, some, all)) (subst (IsForSlot p) kept.text suits) (subst (Affords p) all can)

pub native-more : (reply : OpReply) (done more : List OpReply) (p : PassSeen) (s : Meaning) (m : PassSeen) (u t : Meaning) → more ≡ done ++ reply ∷ []
    → IsWorked p s m u (sum_of edits_of done)
    → (1 ≤ sum_of edits_of done → IsForSlot p u.text → Affords p (sum_of edits_of done) → form_of u.row ≡ Native)
    → (is_counts reply ≡ false → IsRead u t) → (is_counts reply ≡ true → IsForSlot m t.text → Shows m → form_of t.row ≡ Native)
    → 1 ≤ sum_of edits_of more → IsForSlot p t.text → Affords p (sum_of edits_of more) → form_of t.row ≡ Native
native-more reply done more p s m u t = native-by (is_counts reply) reply done more p s m u t refl

-- ---- the list of ops
at-find : (op : Op) → is_at op ≡ true → finds_places op ≡ true
at-find (asking.At offset) is = refl
at-find (asking.Place offset) is = absurd (let clash : false ≡ true = is in cc)
at-find (asking.Slice a b) is = refl
at-find (asking.Edit a b with) is = absurd (let clash : false ≡ true = is in cc)
at-find (asking.Count view) is = absurd (let clash : false ≡ true = is in cc)
at-find asking.All is = absurd (let clash : false ≡ true = is in cc)

pub at-finds : (list : List Op) → All (λ op. is_at op ≡ true) list → All (λ op. finds_places op ≡ true) list
at-finds list all = λ k d h. at-find _ (all k d h)

pub some-length : {X : Type 0} (xs : List X) → xs ≢ [] → 0 < length xs
some-length [] some = absurd (some refl)
some-length (x ∷ xs) some = omega arith
