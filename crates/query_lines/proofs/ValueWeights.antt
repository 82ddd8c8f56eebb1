-- A value that is read holds no more than its text has bytes.
use Rattle.std.proofs.Common.{◌≡◌, ℕ, zero, suc, ◌+◌, ◌≤◌, List, [], ◌∷◌, length, Option, Some, None, option_map, option_and_then, Ordering, Less, Equal, Greater, refl, ap, subst, arith}
use Rattle.std.specs.Prelude.{⊤}
use Rattle.std.specs.Ordering.{match_ordering}
use Rattle.json.specs.Token.{Token}
use Rattle.json.specs.Lex.{tokens}
use Rattle.json.specs.Json as json
use Rattle.json.specs.Json.{Json, Parse, parse_map, after_end_array, read_key, items_step, members_step}
use Rattle.json.proofs.Grammar.{closed_array, read_key_is}
use Rattle.serde_json.specs.Data.{Data, number, array, object, item, Members, no_members, member, put}
use Rattle.serde_json.specs.Read.{number_of, of_json, of_items, of_members, max_depth, read}
use Rattle.query_lines.specs.Weights.{weight, items_weight, members_weight}
use Rattle.query_lines.proofs.TokenWeights.{tokens_weight, tokens-weight}

abbrev mutual
  json_weight : Json → ℕ
  json_weight json.null = 1
  json_weight (json.boolean b) = 1
  json_weight (json.number s) = 1
  json_weight (json.string s) = suc (length s)
  json_weight (json.array js) = suc (json_items_weight js)
  json_weight (json.object ms) = suc (json_members_weight ms)

  json_items_weight : json.Items → ℕ
  json_items_weight json.no_items = 0
  json_items_weight (json.item j js) = json_weight j + json_items_weight js

  json_members_weight : json.Members → ℕ
  json_members_weight json.no_members = 0
  json_members_weight (json.member k j ms) = json_weight j + json_members_weight ms

-- what is read and what is left hold at most n together
abbrev Within : {A : Type 0} → (A → ℕ) → ℕ → Option (A × List Token) → Type 0
Within w n None = ⊤
Within w n (Some p) = w p.0 + tokens_weight p.1 ≤ n

abbrev Reads : {A : Type 0} → (A → ℕ) → Parse A → Type 0
Reads w p = (ts : List Token) → Within w (tokens_weight ts) (p ts)

mapped : {A B : Type 0} (w : A → ℕ) (v : B → ℕ) (m n : ℕ) (f : A → B) → ((a : A) (k : ℕ) → w a + k ≤ m → v (f a) + k ≤ n) → (r : Option (A × List Token)) → Within w m r → Within v n (parse_map f r)
mapped w v m n f h None x = tt
mapped w v m n f h (Some p) x = h p.0 (tokens_weight p.1) x

then_more : {B : Type 0} (w : B → ℕ) (f : Json → B → B) (more : Parse B) → ((j : Json) (b : B) → w (f j b) ≡ json_weight j + w b) → Reads w more
    → (n : ℕ) (o : Option (Json × List Token)) → Within json_weight n o → Within w n (option_and_then (λ q. parse_map (f q.0) (more q.1)) o)
then_more w f more grows again n None x = tt
then_more w f more grows again n (Some q) x = mapped w w (tokens_weight q.1) n (f q.0) (λ b k h. omega (arith, grows q.0 b)) (more q.1) (again q.1)

module _ (p : Parse Json) (reads : Reads json_weight p) where
  item_turn : (more : Parse json.Items) (ts : List Token) (o : Option (List Token)) → Reads json_items_weight more → after_end_array ts ≡ o → Within json_items_weight (tokens_weight ts) (items_step p more ts o)
  item_turn more ts (Some rest) again e = omega (arith, ap tokens_weight (closed_array ts rest e))
  item_turn more ts None again e = then_more json_items_weight json.item more (λ j js. refl) again (tokens_weight ts) (p ts) (reads ts)

  Reads-items : (n : ℕ) → Reads json_items_weight (json.items p n)
  unfolding json.items
  Reads-items zero ts = tt
  Reads-items (suc n) ts = item_turn (json.items p n) ts (after_end_array ts) (Reads-items n) refl

  member_turn : (more : Parse json.Members) (ts : List Token) (o : Option (Option (List ℕ) × List Token)) → Reads json_members_weight more → read_key ts ≡ o
      → Within json_members_weight (tokens_weight ts) (option_and_then (λ q. members_step p more q.0 q.1) o)
  member_turn more ts None again e = tt
  member_turn more ts (Some (None, rest)) again e = omega (arith, ap tokens_weight (read_key_is ts None rest e))
  member_turn more ts (Some (Some k, rest)) again e =
      subst (λ n. Within json_members_weight n (option_and_then (λ q. parse_map (json.member k q.0) (more q.1)) (p rest))) (let same : tokens_weight rest ≡ tokens_weight ts = omega (arith, ap tokens_weight (read_key_is ts (Some k) rest e)) in same)
      (then_more json_members_weight (json.member k) more (λ j ms. refl) again (tokens_weight rest) (p rest) (reads rest))

  Reads-members : (n : ℕ) → Reads json_members_weight (json.members p n)
  unfolding json.members
  Reads-members zero ts = tt
  Reads-members (suc n) ts = member_turn (json.members p n) ts (read_key ts) (Reads-members n) refl

Reads-value_with : (a : Parse json.Items) (o : Parse json.Members) → Reads json_items_weight a → Reads json_members_weight o → Reads json_weight (json.value_with a o)
Reads-value_with a o p q [] = tt
Reads-value_with a o p q (Token.begin_object ∷ ts) = mapped json_members_weight json_weight (tokens_weight ts) _ json.object (λ ms k h. omega arith) (o ts) (q ts)
Reads-value_with a o p q (Token.end_object ∷ ts) = tt
Reads-value_with a o p q (Token.begin_array ∷ ts) = mapped json_items_weight json_weight (tokens_weight ts) _ json.array (λ js k h. omega arith) (a ts) (p ts)
Reads-value_with a o p q (Token.end_array ∷ ts) = tt
Reads-value_with a o p q (Token.key s ∷ ts) = tt
Reads-value_with a o p q (Token.string s ∷ ts) = omega arith
Reads-value_with a o p q (Token.number s ∷ ts) = omega arith
Reads-value_with a o p q (Token.boolean b ∷ ts) = omega arith
Reads-value_with a o p q (Token.null ∷ ts) = omega arith
Reads-value_with a o p q (Token.bad ∷ ts) = tt

Reads-value : (depth : ℕ) → Reads json_weight (json.value depth)
unfolding json.value
Reads-value zero = Reads-value_with (λ ts. None) (λ ts. None) (λ ts. tt) (λ ts. tt)
Reads-value (suc d) =
    Reads-value_with (λ ts. json.items (json.value d) (length ts) ts) (λ ts. json.members (json.value d) (length ts) ts)
    (λ ts. Reads-items (json.value d) (Reads-value d) (length ts) ts) (λ ts. Reads-members (json.value d) (Reads-value d) (length ts) ts)

-- ---- from the grammar's values to those that are read

abbrev pub AtMost : {A : Type 0} → (A → ℕ) → ℕ → Option A → Type 0
AtMost f n None = ⊤
AtMost f n (Some a) = f a ≤ n

AtMost-map : {A B : Type 0} (f : A → ℕ) (g : B → ℕ) (m n : ℕ) (h : A → B) → ((a : A) → f a ≤ m → g (h a) ≤ n) → (o : Option A) → AtMost f m o → AtMost g n (option_map h o)
AtMost-map f g m n h k None x = tt
AtMost-map f g m n h k (Some a) x = k a x

AtMost-and_then : {A B : Type 0} (f : A → ℕ) (g : B → ℕ) (m n : ℕ) (h : A → Option B) → ((a : A) → f a ≤ m → AtMost g n (h a)) → (o : Option A) → AtMost f m o → AtMost g n (option_and_then h o)
AtMost-and_then f g m n h k None x = tt
AtMost-and_then f g m n h k (Some a) x = k a x

flat : {A : Type 0} (o : Option A) → AtMost (λ _. 0) 0 o
flat None = tt
flat (Some a) = omega arith

members_weight-match_ordering : (o : Ordering) (a b c : Members) (n : ℕ) → members_weight a ≤ n → members_weight b ≤ n → members_weight c ≤ n → members_weight (match_ordering o a b c) ≤ n
members_weight-match_ordering Less a b c n p q r = p
members_weight-match_ordering Equal a b c n p q r = q
members_weight-match_ordering Greater a b c n p q r = r

members_weight-put : (k : List ℕ) (d : Data) (ms : Members) → members_weight (put k d ms) ≤ weight d + members_weight ms
members_weight-put k d no_members = omega arith
members_weight-put k d (member l e ms) =
    members_weight-match_ordering _ (member k d (member l e ms)) (member l d ms) (member l e (put k d ms)) _ (omega arith) (omega arith) (omega (arith, members_weight-put k d ms))

mutual
  weight-of_json : (j : Json) → AtMost weight (json_weight j) (of_json j)
  weight-of_json json.null = omega arith
  weight-of_json (json.boolean b) = omega arith
  weight-of_json (json.number s) = AtMost-map (λ _. 0) weight 0 1 number (λ a x. omega arith) (number_of s) (flat _)
  weight-of_json (json.string s) = omega arith
  weight-of_json (json.array js) = AtMost-map items_weight weight (json_items_weight js) _ array (λ a x. omega arith) _ (weight-of_items js)
  weight-of_json (json.object ms) = AtMost-map members_weight weight (json_members_weight ms) _ object (λ a x. omega arith) _ (weight-of_members ms no_members _ (omega arith))

  weight-of_items : (js : json.Items) → AtMost items_weight (json_items_weight js) (of_items js)
  weight-of_items json.no_items = omega arith
  weight-of_items (json.item j js) =
      AtMost-and_then weight items_weight (json_weight j) _ _ (λ d x. AtMost-map items_weight items_weight (json_items_weight js) _ (item d) (λ ds y. omega arith) _ (weight-of_items js)) _ (weight-of_json j)

  weight-of_members : (ms : json.Members) (found : Members) (n : ℕ) → members_weight found + json_members_weight ms ≤ n → AtMost members_weight n (of_members ms found)
  weight-of_members json.no_members found n h = omega arith
  weight-of_members (json.member k j ms) found n h =
      AtMost-and_then weight members_weight (json_weight j) n _ (λ d x. weight-of_members ms (put k d found) n (omega (arith, members_weight-put k d found))) _ (weight-of_json j)

last : (n : ℕ) (o : Option (Json × List Token)) → Within json_weight n o → AtMost json_weight n (option_and_then (λ p. json.if_last p.0 p.1) o)
last n None h = tt
last n (Some (j, [])) h = omega arith
last n (Some (j, t ∷ ts)) h = tt

raised : {A : Type 0} (f : A → ℕ) (m n : ℕ) (o : Option A) → m ≤ n → AtMost f m o → AtMost f n o
raised f m n None le h = tt
raised f m n (Some a) le h = omega arith

read-weight : (text : List ℕ) → AtMost weight (length text) (read text)
read-weight text =
    AtMost-and_then json_weight weight (length text) (length text) of_json (λ j x. raised weight (json_weight j) (length text) (of_json j) x (weight-of_json j)) _
    (last (length text) (json.value max_depth (tokens text)) (within (json.value max_depth (tokens text)) (Reads-value max_depth (tokens text)))) where
      within : (o : Option (Json × List Token)) → Within json_weight (tokens_weight (tokens text)) o → Within json_weight (length text) o
      within None h = tt
      within (Some p) h = omega (arith, tokens-weight text)

-- a value that was read holds no more than its text has bytes
pub weight-read : (text : List ℕ) (value : Data) → read text ≡ Some value → weight value ≤ length text
weight-read text value e = subst (AtMost weight (length text)) e (read-weight text)
