-- A list that is read item by item.
use Rattle.std.proofs.Common.{◌≡◌, List, [], ◌∷◌, ◌++◌, Option, Some, None, option_map, refl, sym, ap, ◌∙◌, append_assoc}
use Rattle.serde_json.specs.Data.{Data}
use Rattle.serde_json.specs.View.{view, items_view}
use Rattle.serde_json.specs.declared.value.Value.{Value}
use Rattle.query_lines.specs.Objects.{both, each_item}

shifted : {A : Type 0} (done : List A) (x : A) (o : Option (List A)) → option_map (λ xs. done ++ x ∷ [] ++ xs) o ≡ option_map (λ xs. done ++ xs) (both (λ y ys. y ∷ ys) (Some x) o)
shifted done x None = refl
shifted done x (Some xs) = ap Some (append_assoc done (x ∷ []) xs)

-- one item more is read: what was read, then what is left to read, stays the whole list as it is read
pub each_item-step : {A : Type 0} (f : Data → Option A) (done : List A) (later : List A) (x : A) (value : Value) (all rest : List Value) (whole : Option (List A)) → all ≡ value ∷ rest → f (view value) ≡ Some x → later ≡ done ++ x ∷ []
    → option_map (λ xs. done ++ xs) (each_item f (items_view all)) ≡ whole → option_map (λ xs. later ++ xs) (each_item f (items_view rest)) ≡ whole
each_item-step f done later x value all rest whole split read grown before =
    ap (λ front. option_map (λ xs. front ++ xs) (each_item f (items_view rest))) grown ∙ shifted done x (each_item f (items_view rest))
    ∙ ap (λ o. option_map (λ xs. done ++ xs) (both (λ y ys. y ∷ ys) o (each_item f (items_view rest)))) (sym read)
    ∙ ap (λ values. option_map (λ xs. done ++ xs) (each_item f (items_view values))) (sym split) ∙ before
