-- The entries of a map beside the members of the object that they are.
use Rattle.std.proofs.Common.{◌≡◌, refl, ap, ◌∙◌, ℕ, List, [], ◌∷◌, ◌+◌, length, Bool, true, false, if◌then◌else◌, Option, None, String, Global, arith}
use Rattle.std.specs.Prelude.{IsUtf8}
use Rattle.std.specs.Str.{is_utf8}
use Rattle.std.proofs.lemmas.Str.{IsUtf8-from_is_utf8}
use Rattle.serde_json.specs.Read.{read}
use Rattle.serde_json.specs.View.{items_view, members_view}
use Rattle.serde_json.specs.declared.value.Value.{Value}
use Rattle.query_lines.specs.Objects.{key_count, two_items, value_of_line}

-- an object has as many keys as its map has entries
pub key_count-members_view : (entries : List (String Global × Value)) → key_count (members_view entries) ≡ length entries
key_count-members_view [] = refl
key_count-members_view (entry ∷ entries) = ap (λ n. n + 1) (key_count-members_view entries) ∙ omega arith

-- no two items stand in a list of another length
pub two_items-items_view : (items : List Value) → (length items ≡ 2 → ⊥) → None ≡ two_items (items_view items)
two_items-items_view [] other = refl
two_items-items_view (a ∷ []) other = refl
two_items-items_view (a ∷ b ∷ []) other = absurd (other refl)
two_items-items_view (a ∷ b ∷ c ∷ items) other = refl

guarded : {A : Type 0} (test : Bool) (x : Option A) → (test ≡ true → x ≡ None) → (if test then x else None) ≡ None
guarded true x none = none refl
guarded false x none = refl

-- a line has no value where it is no text, or is one that isn't JSON
pub value_of_line-none : (line : List ℕ) → (IsUtf8 line → read line ≡ None) → value_of_line line ≡ None
value_of_line-none line none = guarded (is_utf8 line) (read line) (λ e. none (IsUtf8-from_is_utf8 line e))
