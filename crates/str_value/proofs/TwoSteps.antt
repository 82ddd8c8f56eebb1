-- Bytes spliced in two steps.
use Rattle.std.proofs.Common.{◌≡◌, sym, ap, ◌∙◌, ℕ, ◌+◌, ◌-◌, ◌≤◌, List, ◌++◌, length, take, drop, append_assoc, length-append, arith}
use Rattle.std.proofs.lemmas.List.{take_at, drop_at, length-take-le, take-take, take-append-le, take-append-drop, drop-drop}
use Rattle.std.specs.List.{splice}

-- what is written over a front of the part leaves the rest of the part to be taken out
pub write-remove : (xs ws : List ℕ) (low high : ℕ) → low + length ws ≤ high → high ≤ length xs
    → take (low + length ws) (splice xs low (low + length ws) ws) ++ drop high (splice xs low (low + length ws) ws) ≡ splice xs low high ws
write-remove xs ws low high fits inside =
    let n = low + length ws in
    let front = take low xs ++ ws in
    let long : length front ≡ n = omega (arith, length-append (take low xs) ws, length-take-le low xs (omega arith)) in
    let same : splice xs low n ws ≡ front ++ drop n xs = sym (append_assoc (take low xs) ws (drop n xs)) in
    let to_high : n + (high - n) ≡ high = omega arith in
    let first : take n (splice xs low n ws) ≡ front = ap (take n) same ∙ take_at front (drop n xs) n long in
    let last : drop high (splice xs low n ws) ≡ drop high xs =
    ap (λ k. drop k (splice xs low n ws)) (sym to_high) ∙ sym (drop-drop (high - n) n (splice xs low n ws))
    ∙ ap (drop (high - n)) (ap (drop n) same ∙ drop_at front (drop n xs) n long)
    ∙ drop-drop (high - n) n xs ∙ ap (λ k. drop k xs) to_high in
    ap (λ l. l ++ drop high (splice xs low n ws)) first ∙ ap (λ l. front ++ l) last ∙ append_assoc (take low xs) ws (drop high xs)

-- what is put behind the part, the rest then being written over it
pub insert-write : (xs ws : List ℕ) (low high : ℕ) → low ≤ high → high ≤ length xs → high - low ≤ length ws
    → splice (splice xs high high (drop (high - low) ws)) low (low + length (take (high - low) ws)) (take (high - low) ws) ≡ splice xs low high ws
insert-write xs ws low high order inside longer =
    let first = take (high - low) ws in
    let more = drop (high - low) ws in
    let put = splice xs high high more in
    let long : length (take high xs) ≡ high = length-take-le high xs inside in
    let width : low + length first ≡ high = omega (arith, length-take-le (high - low) ws longer) in
    let front : take low put ≡ take low xs = take-append-le low (take high xs) (more ++ drop high xs) (omega (arith, long)) ∙ take-take low high xs order in
    let back : drop (low + length first) put ≡ more ++ drop high xs = ap (λ k. drop k put) width ∙ drop_at (take high xs) (more ++ drop high xs) high long in
    let all : first ++ (more ++ drop high xs) ≡ ws ++ drop high xs =
    sym (append_assoc first more (drop high xs)) ∙ ap (λ l. l ++ drop high xs) (take-append-drop (high - low) ws) in
    ap (λ l. l ++ (first ++ drop (low + length first) put)) front ∙ ap (λ l. take low xs ++ (first ++ l)) back ∙ ap (λ l. take low xs ++ l) all
