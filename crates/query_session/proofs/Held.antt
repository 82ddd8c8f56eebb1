-- A map under texts, as the values that it holds.
use Rattle.std.proofs.Common.{◌≡◌, refl, sym, ap, ◌∙◌, Bool, true, false, cond, ◌||◌, ◌+◌, ◌-◌, ◌<◌, ◌≤◌, nat_lt, is_some, T, subst, List, [], ◌∷◌, ℕ, map, Option, Some, None, IsSome, IsUtf8, String, string_bytes, arith, true≢false, lt_of_not-le, Bor, MatchOption}
use Rattle.std.specs.Option.{option_map, option_copied}
use Rattle.std.specs.Ordering.{nat_cmp, eq_by_cmp, is_eq}
use Rattle.std.specs.Cmp.Lexicographic.{slice_cmp, nat_list_cmp_total}
use Rattle.std.specs.declared.alloc.Global.{Global}
use Rattle.std.specs.FinMap as finite
use Rattle.std.specs.Str.{bytes_eq}
use Rattle.std.specs.String.{string_cmp}
use Rattle.std.specs.BTreeMap.{BTreeMap, get_by_text, is_at, UpdatesBy}
use Rattle.std.specs.Map.{lookup}
use Rattle.std.proofs.lemmas.Cmp.{eq_by_cmp_equiv}
use Rattle.std.proofs.lemmas.Str.{IsUtf8-string_bytes}
use Rattle.std.proofs.lemmas.Map.Text.{is_eq-slice_cmp, btree_map_updates_text}
use Rattle.std.proofs.lemmas.Bool.{ltb-true}
use Rattle.str_value.specs.Meaning.{Meaning}
use Rattle.query_session.specs.State.{has_room, is_in_use}
use Rattle.query_session.specs.Values.{Values, texts_of}
use Rattle.query_session.specs.Held.{held, value_entry}
use Rattle.query_session.proofs.Sums.{get-texts, has-texts, len-texts}
use Rattle.query_session.proofs.States.{same-bytes}

abbrev pub Map : Type 0
Map = BTreeMap (String Global) Meaning

find-entry : (q : List ℕ) (es : List (String Global × Meaning)) → finite.find (slice_cmp nat_cmp) q (map value_entry es) ≡ lookup (is_at (λ k. slice_cmp nat_cmp q (string_bytes k))) es
find-entry q [] = refl
find-entry q (e ∷ es) = ap (cond (is_eq (slice_cmp nat_cmp q (string_bytes e.0))) (Some e.1)) (find-entry q es)

-- what the map that the entries make has under bytes
pub get-held : (m : Map) (q : List ℕ) → finite.get (held m.entries) q ≡ get_by_text m q
get-held m q = finite.get-from_entries nat_list_cmp_total (map value_entry m.entries) q ∙ find-entry q m.entries

same-test : (name q : List ℕ) → bytes_eq name q ≡ eq_by_cmp (slice_cmp nat_cmp) q name
same-test name q = sym (is_eq-slice_cmp name q) ∙ (eq_by_cmp_equiv nat_list_cmp_total).symm name q

-- maps that differ under one name
pub held-insert : (m n : Map) (name : List ℕ) (v : Meaning) → ((q : List ℕ) → get_by_text n q ≡ cond (bytes_eq name q) (Some v) (get_by_text m q))
    → held n.entries ≡ finite.insert (held m.entries) name v
held-insert m n name v h =
    finite.same_map nat_list_cmp_total (finite.slice_cmp-IsAntisymmetric finite.nat_cmp-IsAntisymmetric) _ _ (λ q.
    get-held n q ∙ h q ∙ ap (λ b. cond b (Some v) (get_by_text m q)) (same-test name q)
    ∙ sym (finite.get-insert nat_list_cmp_total (held m.entries) name v q ∙ ap (cond (eq_by_cmp (slice_cmp nat_cmp) q name) (Some v)) (get-held m q)))

pub held-remove : (m n : Map) (name : List ℕ) → ((q : List ℕ) → get_by_text n q ≡ cond (bytes_eq name q) None (get_by_text m q))
    → held n.entries ≡ finite.remove (held m.entries) name
held-remove m n name h =
    finite.same_map nat_list_cmp_total (finite.slice_cmp-IsAntisymmetric finite.nat_cmp-IsAntisymmetric) _ _ (λ q.
    get-held n q ∙ h q ∙ ap (λ b. cond b None (get_by_text m q)) (same-test name q)
    ∙ sym (finite.get-remove nat_list_cmp_total (held m.entries) name q ∙ ap (cond (eq_by_cmp (slice_cmp nat_cmp) q name) None) (get-held m q)))

-- what `get_mut` lent is written back as another value
pub held-written : (m n : Map) (name : List ℕ) (old v : Meaning) → get_by_text m name ≡ Some old
    → (IsSome (get_by_text m name) → UpdatesBy string_cmp (λ k. slice_cmp nat_cmp name (string_bytes k)) m n (Some v))
    → held n.entries ≡ finite.insert (held m.entries) name v
held-written m n name old v some updates = held-insert m n name v (btree_map_updates_text name m n (Some v) (updates (ap is_some some)))

-- how many names there are after one more, one more value, one fewer
pub len-new : (m n : Values) (name : List ℕ) (v : Meaning) → n ≡ finite.insert m name v → finite.get m name ≡ None → finite.len n ≡ finite.len m + 1
len-new m n name v same none =
    ap finite.len same ∙ finite.len-insert nat_list_cmp_total m name v ∙ ap (λ o. cond (is_some o) (finite.len m) (finite.len m + 1)) none

pub len-same : (m n : Values) (name : List ℕ) (v old : Meaning) → n ≡ finite.insert m name v → finite.get m name ≡ Some old → finite.len n ≡ finite.len m
len-same m n name v old same some =
    ap finite.len same ∙ finite.len-insert nat_list_cmp_total m name v ∙ ap (λ o. cond (is_some o) (finite.len m) (finite.len m + 1)) some

pub len-less : (m n : Values) (name : List ℕ) (old : Meaning) → n ≡ finite.remove m name → finite.get m name ≡ Some old → finite.len n ≡ finite.len m - 1
len-less m n name old same some =
    ap finite.len same ∙ finite.len-remove nat_list_cmp_total m name ∙ ap (λ o. cond (is_some o) (finite.len m - 1) (finite.len m)) some

-- a map that has a name is not empty
some_named : (m : Values) (name : List ℕ) (v : Meaning) → finite.get m name ≡ Some v → finite.len m ≡ 0 → ⊥
some_named m name v some none =
    true≢false (ap is_some (sym some ∙ ap (λ x. finite.get x name) (finite.empty_of_len m none) ∙ finite.get-empty (slice_cmp nat_cmp) name))

second_true : (a b : Bool) → (a || b) ≡ true → a ≡ false → b ≡ true
second_true true b e f = absurd (subst T f tt)
second_true false b e f = e

-- where a name is new and there is room for it, the limit isn't reached
pub below_limit : (m : Values) (name : List ℕ) → has_room (texts_of m) name ≡ true → finite.get m name ≡ None → finite.len m < 256
below_limit m name room none =
    let below = ltb-true (finite.len (texts_of m)) 256 (second_true (finite.contains_key (texts_of m) name) (nat_lt (finite.len (texts_of m)) 256) room (has-texts m name ∙ ap is_some none)) in
    subst (λ l. l < 256) (len-texts m) below

-- a count of names, one of which is there, can fall
pub one_fewer : (m : Values) (name : List ℕ) (v : Meaning) (n : ℕ) → n ≡ finite.len m → finite.get m name ≡ Some v → 1 ≤ n
one_fewer m name v n is some = lt_of_not-le (λ (f : n ≤ 0). some_named m name v some (omega (arith, is, f)))

-- whether a name is in use, by the map
pub in_use : (m : Map) (name : List ℕ) (v : Meaning) → get_by_text m name ≡ Some v → is_in_use (texts_of (held m.entries)) name ≡ true
in_use m name v some = has-texts (held m.entries) name ∙ ap is_some (get-held m name ∙ some)

-- a key that is found is a text
key-by : (k : String Global) (q : List ℕ) (b : Bool) (rest : Option Meaning) (v : Meaning) → is_eq (slice_cmp nat_cmp q (string_bytes k)) ≡ b
    → (is_some rest ≡ true → IsUtf8 q) → is_some (cond b (Some v) rest) ≡ true → IsUtf8 q
key-by k q true rest v same f is = subst IsUtf8 (sym (same-bytes q (string_bytes k) (sym (is_eq-slice_cmp q (string_bytes k)) ∙ same))) (IsUtf8-string_bytes k)
key-by k q false rest v same f is = f is

key-text : (q : List ℕ) (es : List (String Global × Meaning)) → is_some (lookup (is_at (λ k. slice_cmp nat_cmp q (string_bytes k))) es) ≡ true → IsUtf8 q
key-text q [] is = absurd (true≢false (sym is))
key-text q (e ∷ es) is = key-by e.0 q (is_eq (slice_cmp nat_cmp q (string_bytes e.0))) (lookup (is_at (λ k. slice_cmp nat_cmp q (string_bytes k))) es) e.1 refl (key-text q es) is

-- a name in use is a text
pub named-text : (m : Map) (name : List ℕ) → is_in_use (texts_of (held m.entries)) name ≡ true → IsUtf8 name
named-text m name is = key-text name m.entries (ap is_some (sym (get-held m name)) ∙ (sym (has-texts (held m.entries) name) ∙ is))

pub not_in_use : (m : Map) (name : List ℕ) → get_by_text m name ≡ None → is_in_use (texts_of (held m.entries)) name ≡ false
not_in_use m name none = has-texts (held m.entries) name ∙ ap is_some (get-held m name ∙ none)

pub text_in_use : (m : Values) (name : List ℕ) (v : Meaning) → finite.get m name ≡ Some v → finite.get (texts_of m) name ≡ Some (v.text)
text_in_use m name v some = get-texts m name ∙ ap (option_map (λ (w : Meaning). w.text)) some

pub no_text : (m : Values) (name : List ℕ) → finite.get m name ≡ None → finite.get (texts_of m) name ≡ None
no_text m name none = get-texts m name ∙ ap (option_map (λ (w : Meaning). w.text)) none

pub some-copied : (r : Option (Bor Meaning)) → is_some r ≡ is_some (option_copied r)
some-copied None = refl
some-copied (Some s) = refl

-- a text that two answers hold
abbrev text_or_empty : Option (List ℕ) → List ℕ
text_or_empty None = []
text_or_empty (Some t) = t

pub one-text : (s t : List ℕ) → ◌≡◌ {A = Option (List ℕ)} (Some s) (Some t) → s ≡ t
one-text s t is = ap text_or_empty is

-- where nothing came out, nothing is there
pub no_more : {V : Type 0} (A : Type 0) (B : V → Type 0) (r : Option V) → ((x : V) → r ≡ Some x → ⊥) → MatchOption r A B → A
no_more A B None f m = m
no_more A B (Some x) f m = absurd (f x refl)
