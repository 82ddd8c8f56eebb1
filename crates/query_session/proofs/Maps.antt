-- Values that are stored again.
use Rattle.std.proofs.Common.{◌≡◌, refl, sym, ap, ◌∙◌, Bool, true, false, cond, List, ℕ, Some, None}
use Rattle.std.specs.Cmp.Lexicographic.{nat_list_cmp_total}
use Rattle.std.specs.FinMap as finite
use Rattle.str_value.specs.Meaning.{Meaning}
use Rattle.query_session.specs.Values.{Values}
use Rattle.query_session.proofs.States.{alike, one-name, itself}

pub same-values : (s t : Values) → ((q : List ℕ) → finite.get s q ≡ finite.get t q) → s ≡ t
same-values s t h = finite.same_map nat_list_cmp_total (finite.slice_cmp-IsAntisymmetric finite.nat_cmp-IsAntisymmetric) s t h

-- a name's value stored again
pub insert-same : (m : Values) (name : List ℕ) (v : Meaning) → finite.get m name ≡ Some v → finite.insert m name v ≡ m
insert-same m name v found = same-values _ _ (λ q. finite.get-insert nat_list_cmp_total m name v q ∙ by q (alike q name) refl)
  where
    by : (q : List ℕ) (b : Bool) → alike q name ≡ b → cond b (Some v) (finite.get m q) ≡ finite.get m q
    by q true e = sym (ap (finite.get m) (one-name q name e) ∙ found)
    by q false e = refl

-- and stored after another one
insert-twice : (m : Values) (name : List ℕ) (e v : Meaning) → finite.insert (finite.insert m name e) name v ≡ finite.insert m name v
insert-twice m name e v =
    same-values _ _ (λ q. finite.get-insert nat_list_cmp_total (finite.insert m name e) name v q
    ∙ (ap (cond (alike q name) (Some v)) (finite.get-insert nat_list_cmp_total m name e q) ∙ (by q (alike q name) ∙ sym (finite.get-insert nat_list_cmp_total m name v q))))
  where
    by : (q : List ℕ) (b : Bool) → cond b (Some v) (cond b (Some e) (finite.get m q)) ≡ cond b (Some v) (finite.get m q)
    by q true = refl
    by q false = refl

pub insert-back : (m : Values) (name : List ℕ) (e v : Meaning) → finite.get m name ≡ Some v → finite.insert (finite.insert m name e) name v ≡ m
insert-back m name e v found = insert-twice m name e v ∙ insert-same m name v found

pub get-stored : (m : Values) (name : List ℕ) (v : Meaning) → finite.get (finite.insert m name v) name ≡ Some v
get-stored m name v = finite.get-insert nat_list_cmp_total m name v name ∙ ap (λ b. cond b (Some v) (finite.get m name)) (itself name)

pub get-other : (m : Values) (name q : List ℕ) (v : Meaning) → alike q name ≡ false → finite.get (finite.insert m name v) q ≡ finite.get m q
get-other m name q v other = finite.get-insert nat_list_cmp_total m name v q ∙ ap (λ b. cond b (Some v) (finite.get m q)) other

-- a name that has no value taken out
pub remove-absent : (m : Values) (name : List ℕ) → finite.get m name ≡ None → finite.remove m name ≡ m
remove-absent m name none = same-values _ _ (λ q. finite.get-remove nat_list_cmp_total m name q ∙ by q (alike q name) refl)
  where
    by : (q : List ℕ) (b : Bool) → alike q name ≡ b → cond b None (finite.get m q) ≡ finite.get m q
    by q true e = sym (ap (finite.get m) (one-name q name e) ∙ none)
    by q false e = refl
