-- What a load gives fits a text, where the line isn't too long.
use Rattle.std.proofs.Common.{◌≡◌, ℕ, suc, ◌+◌, ◌*◌, ◌≤◌, Bool, true, false, ◌&&◌, if◌then◌else◌, List, [], ◌∷◌, length, Option, Some, None, option_map, option_and_then, Ordering, Less, Equal, Greater, codes, IfSome, nat_cmp, subst, arith}
use Rattle.std.specs.Prelude.{⊤}
use Rattle.std.specs.Ordering.{match_ordering}
use Rattle.std.specs.Cmp.Lexicographic.{slice_cmp}
use Rattle.std.specs.Char.{encode_utf8}
use Rattle.std.specs.Char.Utf16.{utf16_chars, lone_unit_char, surrogate_pair_char, is_high_surrogate, is_low_surrogate}
use Rattle.std.specs.Option.{unwrap_or}
use Rattle.std.proofs.lemmas.List.{length-append, length-map}
use Rattle.std.proofs.lemmas.Str.{length-encode, len_utf8_bounds}
use Rattle.serde_json.specs.Data.{Data, null, boolean, number, string, array, object, Items, no_items, item, Members, no_members, member}
use Rattle.serde_json.specs.Find.{get_member, as_str}
use Rattle.text_spec.specs.Text.{utf8, repair}
use Rattle.query_lines.specs.Objects.{both, each_item, list_in, number_below, number_in, under, has_key}
use Rattle.query_lines.specs.Commands.{content_in}
use Rattle.query_lines.specs.Weights.{weight, items_weight, members_weight}
use Rattle.query_lines.specs.WellFormed.{IsTextContent, IsWellFormedContent, line_limit, text_limit}
use Rattle.query_lines.specs.declared.command.Content.{Content}
use Rattle.query_lines.specs.declared.command.Content.TheVariants as content
use Rattle.query_lines.proofs.ValueWeights.{AtMost}

found : (o : Ordering) (a b : Option Data) (n : ℕ) → AtMost weight n a → AtMost weight n b → AtMost weight n (match_ordering o a b a)
found Less a b n p q = p
found Equal a b n p q = q
found Greater a b n p q = p

raised : {A : Type 0} (f : A → ℕ) (m n : ℕ) (o : Option A) → m ≤ n → AtMost f m o → AtMost f n o
raised f m n None le h = tt
raised f m n (Some a) le h = omega arith

weight-get_member : (key : List ℕ) (members : Members) → AtMost weight (members_weight members) (get_member key members)
weight-get_member key no_members = tt
weight-get_member key (member name value members) =
    found (slice_cmp nat_cmp key name) (get_member key members) (Some value) _ (raised weight (members_weight members) _ _ (omega arith) (weight-get_member key members)) (let own : weight value ≤ weight value + members_weight members = omega arith in own)

weight-positive : (value : Data) → 1 ≤ weight value
weight-positive null = omega arith
weight-positive (boolean b) = omega arith
weight-positive (number n) = omega arith
weight-positive (string s) = omega arith
weight-positive (array items) = omega arith
weight-positive (object ms) = omega arith

length-as_str : (value : Data) → AtMost length (weight value) (as_str value)
length-as_str null = tt
length-as_str (boolean b) = tt
length-as_str (number n) = tt
length-as_str (string s) = omega arith
length-as_str (array items) = tt
length-as_str (object ms) = tt

joined : {A : Type 0} (m n : ℕ) (x : Option A) (xs : Option (List A)) → AtMost length m xs → suc m ≤ n → AtMost length n (both (λ x xs. x ∷ xs) x xs)
joined m n None xs h le = tt
joined m n (Some x) None h le = tt
joined m n (Some x) (Some xs) h le = omega arith

length-each_item : {A : Type 0} (f : Data → Option A) (items : Items) → AtMost length (items_weight items) (each_item f items)
length-each_item f no_items = omega arith
length-each_item f (item value items) = joined (items_weight items) _ (f value) (each_item f items) (length-each_item f items) (omega (arith, weight-positive value))

length-list_in : {A : Type 0} (f : Data → Option A) (value : Data) → AtMost length (weight value) (list_in f value)
length-list_in f null = tt
length-list_in f (boolean b) = tt
length-list_in f (number n) = tt
length-list_in f (string s) = tt
length-list_in f (array items) = raised length (items_weight items) _ _ (omega arith) (length-each_item f items)
length-list_in f (object ms) = tt

under-within : {A : Type 0} (g : A → ℕ) (f : Data → Option A) (n : ℕ) → ((value : Data) → AtMost g (weight value) (f value)) → (o : Option Data) → AtMost weight n o → AtMost g n (option_and_then f o)
under-within g f n each None h = tt
under-within g f n each (Some value) h = raised g (weight value) n (f value) h (each value)

-- ---- the bytes of repaired units

length-utf8 : (text : List ℕ) → length (utf8 text) ≤ 4 * length text
length-utf8 [] = omega arith
length-utf8 (c ∷ text) = omega (arith, length-append (encode_utf8 c) (utf8 text), length-encode c, (len_utf8_bounds c).1, length-utf8 text)

shorter : {A : Type 0} (b : Bool) (xs ys : List A) (n : ℕ) → length xs ≤ n → length ys ≤ n → length (if b then xs else ys) ≤ n
shorter true xs ys n p q = p
shorter false xs ys n p q = q

length-utf16_chars : (units : List ℕ) → length (utf16_chars units) ≤ length units
unfolding utf16_chars
length-utf16_chars [] = omega arith
length-utf16_chars (u ∷ []) = omega arith
length-utf16_chars (u ∷ v ∷ units) =
    shorter (is_high_surrogate u && is_low_surrogate v) (Some (surrogate_pair_char u v) ∷ utf16_chars units) (lone_unit_char u ∷ utf16_chars (v ∷ units)) _
    (omega (arith, length-utf16_chars units)) (omega (arith, length-utf16_chars (v ∷ units)))

length-repair : (units : List ℕ) → length (utf8 (repair units)) ≤ 4 * length units
length-repair units = omega (arith, length-utf8 (repair units), length-map (utf16_chars units) (λ o. unwrap_or o 0xFFFD), length-utf16_chars units)

-- ---- contents

abbrev Fits : Content → Type 0
Fits (content.Text text) = length text ≤ text_limit
Fits (content.Units units) = length (utf8 (repair units)) ≤ text_limit
Fits (content.Raw bytes) = length bytes ≤ text_limit
Fits (content.Literal n) = ⊤

chosen : (b : Bool) (x y : Option Content) → IfSome x Fits → IfSome y Fits → IfSome (if b then x else y) Fits
chosen true x y p q = p
chosen false x y p q = q

mapped : {A : Type 0} (g : A → ℕ) (n : ℕ) (f : A → Content) → ((a : A) → g a ≤ n → Fits (f a)) → (o : Option A) → AtMost g n o → IfSome (option_map f o) Fits
mapped g n f fits None h = tt
mapped g n f fits (Some a) h = fits a h

literal : (o : Option ℕ) → IfSome (option_map content.Literal o) Fits
literal None = tt
literal (Some n) = tt

bytes_under : {A : Type 0} (f : Data → Option (List A)) (key : List ℕ) (members : Members) → ((value : Data) → AtMost length (weight value) (f value)) → AtMost length (members_weight members) (under f key members)
bytes_under f key members each = under-within length f (members_weight members) each (get_member key members) (weight-get_member key members)

content-fits : (members : Members) → members_weight members ≤ line_limit → IfSome (content_in members) Fits
content-fits members short =
    chosen (has_key (codes "text") members) _ _ (mapped length (members_weight members) content.Text (λ text h. omega arith) _ (bytes_under as_str (codes "text") members length-as_str))
    (chosen (has_key (codes "bytes") members) _ _ (mapped length (members_weight members) content.Raw (λ bytes h. omega arith) _ (bytes_under (list_in (number_below 256)) (codes "bytes") members (length-list_in (number_below 256))))
    (chosen (has_key (codes "units") members) _ _ (mapped length (members_weight members) content.Units (λ units h. omega (arith, length-repair units)) _ (bytes_under (list_in (number_below 65536)) (codes "units") members (length-list_in (number_below 65536))))
    (literal (under number_in (codes "literal") members))))

fitting : (what : Content) → IsTextContent what → Fits what → IsWellFormedContent what
fitting (content.Text text) utf fits = record { text = utf; short = fits }
fitting (content.Units units) utf fits = fits
fitting (content.Raw bytes) utf fits = fits
fitting (content.Literal n) utf fits = tt

-- what a load gives fits a text, where the object holds no more than the longest line
pub content-well_formed : (members : Members) (what : Content) → content_in members ≡ Some what → IsTextContent what → members_weight members ≤ line_limit → IsWellFormedContent what
content-well_formed members what e utf short = fitting what utf (subst (λ o. IfSome o Fits) e (content-fits members short))
