-- A line that grows part by part: where the whole has room each part has, and the parts come to the whole.
use Rattle.std.proofs.Common.{◌≡◌, ℕ, ◌≤◌, List, ◌++◌, length, ap, sym, subst, ◌∙◌, arith, length-append, append_assoc}

pub room-front : (room : ℕ) (line part rest : List ℕ) → length (line ++ (part ++ rest)) ≤ room → length (line ++ part) ≤ room
room-front room line part rest h = omega (arith, length-append line part, length-append line (part ++ rest), length-append part rest, h)

pub room-rest : (room : ℕ) (line part rest next : List ℕ) → next ≡ line ++ part → length (line ++ (part ++ rest)) ≤ room → length (next ++ rest) ≤ room
room-rest room line part rest next is h =
    let moved : length ((line ++ part) ++ rest) ≤ room = subst (λ l. length l ≤ room) (sym (append_assoc line part rest)) h in
    subst (λ l. length (l ++ rest) ≤ room) (sym is) moved

pub parts-join : (line part rest next : List ℕ) → next ≡ line ++ part → next ++ rest ≡ line ++ (part ++ rest)
parts-join line part rest next is = ap (λ l. l ++ rest) is ∙ append_assoc line part rest
