-- What moves from the front of the bytes to come into a buffer.
use Rattle.std.proofs.Common.{◌≡◌, ◌+◌, ◌-◌, ◌<◌, ◌≤◌, ℕ, List, [], ◌++◌, length, take, drop, min, arith, length-drop, take-append-drop, sym, ap, ◌∙◌, subst}
use Rattle.std.proofs.lemmas.List.{take_all, drop-drop, drop_all, length-take-le}

-- the bytes to come are the n that stand at the buffer's front and then the others
pub front-moved : (bytes buf : List ℕ) (at n : ℕ) → n ≤ length (take (length bytes - at) (drop at bytes))
    → take (length (take n (take (length bytes - at) (drop at bytes)))) buf ≡ take n (take (length bytes - at) (drop at bytes))
    → drop at bytes ≡ take n buf ++ drop (at + n) bytes
front-moved bytes buf at n inside moved =
    let whole : take (length bytes - at) (drop at bytes) ≡ drop at bytes = take_all (length bytes - at) (drop at bytes) (omega (arith, length-drop at bytes)) in
    let inside' : n ≤ length (drop at bytes) = subst (λ left. n ≤ length left) whole inside in
    let moved' : take (length (take n (drop at bytes))) buf ≡ take n (drop at bytes) = subst (λ left. take (length (take n left)) buf ≡ take n left) whole moved in
    let front : take n buf ≡ take n (drop at bytes) = subst (λ k. take k buf ≡ take n (drop at bytes)) (length-take-le n (drop at bytes) inside') moved' in
    sym (take-append-drop n (drop at bytes)) ∙ ap (λ rest. take n (drop at bytes) ++ rest) (drop-drop n at bytes) ∙ ap (λ part. part ++ drop (at + n) bytes) (sym front)

-- a piece with no byte, where a piece and the buffer have room, comes only at the end
pub none-at-end : (bytes : List ℕ) (at piece room n : ℕ) → 0 < piece → 0 < room → n ≡ min (min piece room) (length (take (length bytes - at) (drop at bytes)))
    → n ≡ 0 → drop (at + n) bytes ≡ []
none-at-end bytes at piece room n some_piece some_room is none =
    let whole : take (length bytes - at) (drop at bytes) ≡ drop at bytes = take_all (length bytes - at) (drop at bytes) (omega (arith, length-drop at bytes)) in
    let is' : n ≡ min (min piece room) (length (drop at bytes)) = subst (λ left. n ≡ min (min piece room) (length left)) whole is in
    drop_all (at + n) bytes (omega (arith, length-drop at bytes, is'))
