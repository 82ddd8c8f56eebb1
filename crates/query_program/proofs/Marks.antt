-- The count and the mark of bytes with one more.
use Rattle.std.proofs.Common.{◌≡◌, ℕ, ◌+◌, ◌*◌, ◌%◌, ◌^◌, List, [], ◌∷◌, ◌++◌, length, map, refl, sym, ap, ◌∙◌, arith, length-append}
use Rattle.std.proofs.lemmas.List.{map-append}
use Rattle.std.proofs.Math.Nat.{mod-add-mod}
use Rattle.query_program.specs.Summary.{mark_of, mark_after}

mark_after-push : (m : ℕ) (bs : List ℕ) (b : ℕ) → mark_after m (bs ++ b ∷ []) ≡ (mark_after m bs * 31 + b) % 2 ^ 32
mark_after-push m [] b = refl
mark_after-push m (x ∷ bs) b = mark_after-push ((m * 31 + x) % 2 ^ 32) bs b

mark_of-push : (m : ℕ) (bs : List ℕ) (b : ℕ) → m ≡ mark_of bs → (m * 31 % 2 ^ 32 + b) % 2 ^ 32 ≡ mark_of (bs ++ b ∷ [])
mark_of-push m bs b e = mod-add-mod (m * 31) (2 ^ 32) b ∙ (ap (λ k. (k * 31 + b) % 2 ^ 32) e ∙ sym (mark_after-push 0 bs b))

one_more : (count : ℕ) (bs : List ℕ) (b : ℕ) → count ≡ length bs → count + 1 ≡ length (bs ++ b ∷ [])
one_more count bs b e = omega (arith, e, length-append bs (b ∷ []))

abbrev pub firsts : List (ℕ × Unit {0}) → List ℕ
firsts items = map (λ p. p.0) items

pub counted_more : (items more : List (ℕ × Unit {0})) (b count mark : ℕ) → more ≡ items ++ (b, tt) ∷ [] → (count ≡ length (firsts items)) × (mark ≡ mark_of (firsts items))
    → (count + 1 ≡ length (firsts more)) × ((mark * 31 % 2 ^ 32 + b) % 2 ^ 32 ≡ mark_of (firsts more))
counted_more items more b count mark is before =
    let e = ap firsts is ∙ map-append (λ (p : ℕ × Unit {0}). p.0) items ((b, tt) ∷ []) in
    (one_more count (firsts items) b before.0 ∙ ap length (sym e), mark_of-push mark (firsts items) b before.1 ∙ ap mark_of (sym e))
