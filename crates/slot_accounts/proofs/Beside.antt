-- Shares of a pass whose owners work beside each other: what they made is what the pass's owner made, in some order.
use Rattle.std.proofs.Common.{◌≡◌, ℕ, ◌+◌, List, [], ◌∷◌, ◌++◌, length, refl, ap, ◌∙◌, subst, arith, length-append, append_assoc}
use mathlib.Core.List.{IsPrefix}
use Rattle.slot_model.specs.declared.event.Event.{Event}
use Rattle.slot_table.specs.Owners.{PassSeen, Divided, Joined}
use Rattle.slot_accounts.specs.Account.{Made, takes, gives}
use Rattle.slot_accounts.specs.Shares.{Dealt}
use Rattle.slot_accounts.proofs.Doing.{prefix_all, prefix_trans, prefix_length, sum_of-append}
use Rattle.slot_accounts.proofs.Counts.{scattered-grows, scattered-append, Made-of}

pub Made-nothing : (p : PassSeen) → Made [] p p
Made-nothing p = Made-of (Rattle.slot_accounts.proofs.Doing.Did-nothing p)

-- a share is cut off, both parts go on, and they are joined
pub beside : {es ds : List Event} {p m n : PassSeen} {s t : PassSeen} {r : PassSeen} → ((slots credits : ℕ) × Divided p slots credits m s) → Made es m n → Made ds s t → Joined n t r → Made (es ++ ds) p r
beside {es} {ds} {p} {m} {n} {s} {t} {r} cut a b back =
    let d = cut.2 in
    let was = d.pass_is in let other = d.other_is in let now = back.pass_is in
    let front_m : m.front ≡ p.front = ap (λ (x : PassSeen). x.front) was in
    let front_s : s.front ≡ p.front = ap (λ (x : PassSeen). x.front) other in
    let places_s : s.places ≡ [] = ap (λ (x : PassSeen). x.places) other in
    let places_t : t.places ≡ b.new_places = b.places_are ∙ ap (λ l. l ++ b.new_places) places_s in
    let places_n : n.places ≡ p.places ++ a.new_places = a.places_are ∙ ap (λ l. l ++ a.new_places) (ap (λ (x : PassSeen). x.places) was) in
    let len_m : length m.front ≡ length p.front = ap length front_m in let len_s : length s.front ≡ length p.front = ap length front_s in
    record {
      one_heap = ap (λ (x : PassSeen). x.heap) now ∙ (a.one_heap ∙ ap (λ (x : PassSeen). x.heap) was);
      grown = prefix_trans p.front n.front r.front (subst (λ (l : List Event). IsPrefix l n.front) front_m a.grown) back.fronts.first;
      new_places = a.new_places ++ b.new_places;
      places_are = ap (λ (x : PassSeen). x.places) now ∙ ((λ i. places_n i ++ places_t i) ∙ append_assoc p.places a.new_places b.new_places);
      stand = scattered-append r.front (length p.front) a.new_places b.new_places es ds
          (scattered-grows n.front r.front (length p.front) (length m.front) a.new_places es (omega (arith, len_m)) back.fronts.first a.stand)
          (scattered-grows t.front r.front (length p.front) (length s.front) b.new_places ds (omega (arith, len_s)) back.fronts.second b.stand);
      slots_are =
          let parts : length p.free ≡ length m.free + length s.free = ap length d.free_are ∙ length-append m.free s.free in
          let joined : length r.free ≡ length n.free + length t.free = ap (λ (x : PassSeen). length x.free) now ∙ length-append n.free t.free in
          let x = a.slots_are in let y = b.slots_are in let u = sum_of-append takes es ds in let v = sum_of-append gives es ds in omega (arith, parts, joined, x, y, u, v);
    }

-- one more share
pub dealt-snoc : (p q r s : PassSeen) (ss : List PassSeen) → Dealt p ss q → ((slots credits : ℕ) × Divided q slots credits r s) → Dealt p (ss ++ s ∷ []) r
dealt-snoc p q r s [] d cut = (r, subst (λ (x : PassSeen). (slots credits : ℕ) × Divided x slots credits r s) d cut, refl)
dealt-snoc p q r s (t ∷ ts) d cut = (d.0, d.1, dealt-snoc d.0 q r s ts d.2 cut)
