-- States in which names are stored and forgotten.
use Rattle.std.proofs.Common.{◌≡◌, refl, sym, ap, ◌∙◌, Bool, true, false, cond, ◌+◌, List, ℕ, Option, Some, None, is_some}
use Rattle.std.specs.Ordering.{nat_cmp, eq_by_cmp, is_eq}
use Rattle.std.specs.Cmp.Lexicographic.{slice_cmp, nat_list_cmp_total}
use Rattle.std.specs.declared.cmp.Ordering.{Ordering}
use Rattle.std.specs.declared.cmp.Ordering.TheVariants.{Less, Equal, Greater}
use Rattle.std.specs.FinMap as finite
use Rattle.std.proofs.lemmas.Cmp.{eq_by_cmp_equiv}
use Rattle.std.specs.Str.{bytes_eq}
use Rattle.std.proofs.lemmas.Map.Text.{is_eq-slice_cmp}
use Rattle.query_session.specs.State.{State, is_in_use, store, forget}

-- whether two names are the same
abbrev pub alike : List ℕ → List ℕ → Bool
alike q name = eq_by_cmp (slice_cmp nat_cmp) q name

-- states that answer alike are the same
pub same-state : (s t : State) → ((q : List ℕ) → finite.get s q ≡ finite.get t q) → s ≡ t
same-state s t h = finite.same_map nat_list_cmp_total (finite.slice_cmp-IsAntisymmetric finite.nat_cmp-IsAntisymmetric) s t h

equal-of : (o : Ordering) → is_eq o ≡ true → o ≡ Equal
equal-of Less h = absurd (let clash : false ≡ true = h in cc)
equal-of Equal h = refl
equal-of Greater h = absurd (let clash : false ≡ true = h in cc)

pub one-name : (q name : List ℕ) → alike q name ≡ true → q ≡ name
one-name q name h = finite.slice_cmp-IsAntisymmetric finite.nat_cmp-IsAntisymmetric q name (equal-of (slice_cmp nat_cmp q name) h)

-- names whose bytes were compared
pub same-bytes : (a b : List ℕ) → bytes_eq a b ≡ true → a ≡ b
same-bytes a b h = one-name a b (is_eq-slice_cmp a b ∙ h)

pub apart : (a b : List ℕ) → bytes_eq a b ≡ false → alike b a ≡ false
apart a b h = (eq_by_cmp_equiv nat_list_cmp_total).symm b a ∙ is_eq-slice_cmp a b ∙ h

pub itself : (name : List ℕ) → alike name name ≡ true
itself name = (eq_by_cmp_equiv nat_list_cmp_total).refl name

chosen : {A : Type 0} (b : Bool) (x y : A) → (b ≡ true → x ≡ y) → cond b x y ≡ y
chosen true x y h = h refl
chosen false x y h = refl

chosen-twice : {A : Type 0} (b : Bool) (x y z : A) → cond b x (cond b y z) ≡ cond b x z
chosen-twice true x y z = refl
chosen-twice false x y z = refl

-- a name and another one after one was stored or forgotten
pub get-there : (s : State) (name t : List ℕ) → finite.get (store s name t) name ≡ Some t
get-there s name t = finite.get-insert nat_list_cmp_total s name t name ∙ ap (λ b. cond b (Some t) (finite.get s name)) (itself name)

pub get-other : (s : State) (name t q : List ℕ) → alike q name ≡ false → finite.get (store s name t) q ≡ finite.get s q
get-other s name t q h = finite.get-insert nat_list_cmp_total s name t q ∙ ap (λ b. cond b (Some t) (finite.get s q)) h

pub get-gone : (s : State) (name : List ℕ) → finite.get (forget s name) name ≡ None
get-gone s name = finite.get-remove nat_list_cmp_total s name name ∙ ap (λ b. cond b None (finite.get s name)) (itself name)

is_some-chosen : (b : Bool) (x y : Option (List ℕ)) → is_some x ≡ true → is_some y ≡ true → is_some (cond b x y) ≡ true
is_some-chosen true x y h i = h
is_some-chosen false x y h i = i

-- a name in use stays so where one is stored
pub still-in-use : (s : State) (name t q : List ℕ) → is_in_use s q ≡ true → is_in_use (store s name t) q ≡ true
still-in-use s name t q h =
    ap is_some (finite.get-insert nat_list_cmp_total s name t q) ∙ is_some-chosen (alike q name) (Some t) (finite.get s q) refl h

-- a name stored with the text that it has
pub store-same : (s : State) (name t : List ℕ) → finite.get s name ≡ Some t → store s name t ≡ s
store-same s name t there =
    same-state _ _ (λ q. finite.get-insert nat_list_cmp_total s name t q
    ∙ chosen (alike q name) (Some t) (finite.get s q) (λ h. sym there ∙ ap (finite.get s) (sym (one-name q name h))))

-- and with that which it had before another one, or before it was forgotten
pub store-back : (s : State) (name t e : List ℕ) → finite.get s name ≡ Some t → store (store s name e) name t ≡ s
store-back s name t e there =
    same-state _ _ (λ q. finite.get-insert nat_list_cmp_total (store s name e) name t q
    ∙ ap (cond (alike q name) (Some t)) (finite.get-insert nat_list_cmp_total s name e q)
    ∙ chosen-twice (alike q name) (Some t) (Some e) (finite.get s q)
    ∙ chosen (alike q name) (Some t) (finite.get s q) (λ h. sym there ∙ ap (finite.get s) (sym (one-name q name h))))

store-again : (s : State) (name t : List ℕ) → finite.get s name ≡ Some t → store (forget s name) name t ≡ s
store-again s name t there =
    same-state _ _ (λ q. finite.get-insert nat_list_cmp_total (forget s name) name t q
    ∙ ap (cond (alike q name) (Some t)) (finite.get-remove nat_list_cmp_total s name q)
    ∙ chosen-twice (alike q name) (Some t) None (finite.get s q)
    ∙ chosen (alike q name) (Some t) (finite.get s q) (λ h. sym there ∙ ap (finite.get s) (sym (one-name q name h))))

-- one name fewer
pub len-gone : (s : State) (name t : List ℕ) → finite.get s name ≡ Some t → finite.len s ≡ finite.len (forget s name) + 1
len-gone s name t there =
    ap finite.len (sym (store-again s name t there)) ∙ finite.len-insert nat_list_cmp_total (forget s name) name t
    ∙ ap (λ o. cond (is_some o) (finite.len (forget s name)) (finite.len (forget s name) + 1)) (get-gone s name)
