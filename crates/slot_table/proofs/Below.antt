-- No place of an owner is past its front.
use Rattle.std.proofs.Common.{◌≡◌, ℕ, ◌+◌, ◌<◌, ◌≤◌, cond, List, [], ◌∷◌, ◌++◌, length, ap, arith, length-append, ne_eqb}
use Rattle.std.proofs.lemmas.Bool.Decides.{nat_tests}
use mathlib.Core.List.{IsPrefix}
use Rattle.slot_model.specs.declared.event.Event.{Event}
use Rattle.slot_table.specs.Numbers.{one, AllOnce, Below}
use Rattle.slot_table.proofs.Sums.{times_append}

pub below-one : (l n : ℕ) → l < n → one n l ≡ 0
below-one l n h = ap (λ b. cond b 1 0) (ne_eqb n l (λ e. let z : n ≡ l = e in omega (arith, h, z)))

prefix_long : (xs ys : List Event) → IsPrefix xs ys → length xs ≤ length ys
prefix_long xs ys p = let e : length (xs ++ p.0) ≡ length ys = ap length p.1 in omega (arith, e, length-append xs p.0)

-- an event more
pub below-adds : (front all : List Event) (e : Event) (ps : List ℕ) → IsPrefix front all → Below front ps → Below (all ++ e ∷ []) (ps ++ length all ∷ [])
below-adds front all e ps p b n h =
    let l : length (all ++ e ∷ []) ≡ length all + 1 = length-append all (e ∷ []) in let t = prefix_long front all p in
    let was = b n (omega (arith, l, t, h)) in let z = below-one (length all) n (omega (arith, l, h)) in let s = times_append n ps (length all ∷ []) in omega (arith, was, z, s)

-- a front that goes on
pub below-more : (f h : List Event) (ps : List ℕ) → IsPrefix f h → Below f ps → Below h ps
below-more f h ps p a n past = let x = prefix_long f h p in a n (omega (arith, x, past))

-- two owners' places beside each other
pub below-both : (f g h : List Event) (ps qs : List ℕ) → IsPrefix f h → IsPrefix g h → Below f ps → Below g qs → Below h (ps ++ qs)
below-both f g h ps qs p q a b n past = let x = prefix_long f h p in let y = prefix_long g h q in
    let u = a n (omega (arith, x, past)) in let v = b n (omega (arith, y, past)) in let s = times_append n ps qs in omega (arith, u, v, s)

pub below-once : (front : List Event) (ps : List ℕ) → AllOnce (length front) ps → Below front ps
below-once front ps once n past = let t = once n in grind (arith, nat_tests, t, past)
