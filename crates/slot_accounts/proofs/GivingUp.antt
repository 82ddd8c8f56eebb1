-- What gives a reference up, put into one account: a Release, and after the last one a Detach.
use Rattle.std.proofs.Common.{◌≡◌, ℕ, ◌+◌, Bool, true, false, List, [], ◌∷◌, ◌++◌, length, Option, Some, None, refl, sym, ap, ◌∙◌, subst, arith, append-nil, length-append}
use mathlib.Core.List.{IsPrefix}
use Rattle.slot_model.specs.declared.event.Event.{Event}
use Rattle.slot_model.specs.declared.event.Event.TheVariants.{Release, Detach}
use Rattle.slot_table.specs.Owners.{PassSeen, RefSeen, with_side, Released, Met}
use Rattle.slot_accounts.specs.Account.{IsAt, gives, Did, Keeps, giving_up}
use Rattle.slot_accounts.proofs.Doing.{prefix_trans, prefix_length, is_at-below, is_at-grows, Did-one}

-- a place that comes behind no other of the reference's
alone : (ms : List ℕ) (n : ℕ) (ns : List ℕ) → ms ≡ [] → ns ≡ ms ++ n ∷ [] → ns ≡ n ∷ []
alone ms n ns none is = is ∙ ap (λ l. l ++ n ∷ []) none

-- ---- the reference meets the pass, and is given up to it
module _ (fits : List ℕ → List ℕ → Type 0) (p : PassSeen) (r : RefSeen) (q : PassSeen) (s : RefSeen) (t : PassSeen)
    (clean : r.places ≡ []) (met : Met p r q s) where
  same_slot : s.slot ≡ r.slot
  same_slot = ap (λ (x : RefSeen). x.slot) met.reference_is

  no_places : s.places ≡ []
  no_places = ap (λ (x : RefSeen). x.places) met.reference_is

  known : IsPrefix p.front s.front
  known = subst (IsPrefix p.front) (sym (ap (λ (x : RefSeen). x.front) met.reference_is)) met.fronts.first

  module _ (last : Bool) (let_go : Released fits q s last t) where
    one_heap : t.heap ≡ p.heap
    one_heap = ap (λ (x : PassSeen). x.heap) let_go.pass_is ∙ ap (λ (x : PassSeen). x.heap) met.pass_is

    placed : (ms : List ℕ) → let_go.places ≡ ms → t.places ≡ p.places ++ ms
    placed ms e =
        let was : q.places ≡ p.places = ap (λ (x : PassSeen). x.places) met.pass_is ∙ (ap (λ l. p.places ++ l) clean ∙ append-nil p.places) in
        ap (λ (x : PassSeen). x.places) let_go.pass_is ∙ (ap (λ l. l ++ let_go.places) was ∙ ap (λ l. p.places ++ l) e)

    freed : (xs : List ℕ) → let_go.freed ≡ xs → length t.free ≡ length p.free + length xs
    freed xs e =
        let a : length t.free ≡ length (q.free ++ let_go.freed) = ap (λ (x : PassSeen). length x.free) let_go.pass_is in
        let b : length q.free ≡ length p.free = ap (λ (x : PassSeen). length x.free) met.pass_is in
        let f : length let_go.freed ≡ length xs = ap length e in
        omega (arith, a, b, f, length-append q.free let_go.freed)

    pub Keeps-let_go : Keeps p 1 t 0
    Keeps-let_go =
        let a : t.credits ≡ q.credits + 1 = ap (λ (x : PassSeen). x.credits) let_go.pass_is in
        let b : q.credits ≡ p.credits = ap (λ (x : PassSeen). x.credits) met.pass_is in
        omega (arith, a, b)

  -- another reference holds the slot still
  kept_on : (g : Released fits q s false t) → Did (Release r.slot false ∷ []) p t
  kept_on g =
      let event = g.events.2 in
      let then = g.events.3 in
      let all = event.0 in
      let from : IsPrefix p.front all = prefix_trans p.front s.front all known event.1 in
      let end : g.front ≡ all ++ Release r.slot false ∷ [] = then.0 ∙ (event.2 ∙ ap (λ x. all ++ Release x false ∷ []) same_slot) in
      let mine : g.places ≡ length all ∷ [] = then.1 ∙ alone s.places (length all) g.events.1 no_places event.3 in
      let f = freed false g [] then.2 in
      Did-one p t all (Release r.slot false) (one_heap false g) from (subst (λ (l : List Event). IsPrefix l t.front) end g.fronts.second)
      (placed false g (length all ∷ []) mine) (omega (arith, f))

  -- it was the last
  freed_too : (g : Released fits q s true t) → (found : Option ℕ) × Did (Release r.slot true ∷ Detach r.slot found ∷ []) p t
  freed_too g =
      let event = g.events.2 in
      let found : Option ℕ = g.events.3.0 in
      let second = g.events.3.1 in
      let all = event.0 in
      let later = second.0 in
      let from : IsPrefix p.front all = prefix_trans p.front s.front all known event.1 in
      let middle : g.events.0 ≡ all ++ Release r.slot true ∷ [] = event.2 ∙ ap (λ x. all ++ Release x true ∷ []) same_slot in
      let end : g.front ≡ later ++ Detach r.slot found ∷ [] = second.2 ∙ ap (λ x. later ++ Detach x found ∷ []) same_slot in
      let then : IsAt t.front (length later) (Detach r.slot found) = (later, refl, subst (λ (l : List Event). IsPrefix l t.front) end g.fronts.second) in
      let before : IsAt later (length all) (Release r.slot true) = (all, refl, subst (λ (l : List Event). IsPrefix l later) middle second.1) in
      let inside : IsPrefix later t.front = prefix_trans later (later ++ Detach r.slot found ∷ []) t.front (Detach r.slot found ∷ [], refl) then.2 in
      let first : g.events.1 ≡ length all ∷ [] = alone s.places (length all) g.events.1 no_places event.3 in
      let mine : g.places ≡ length all ∷ length later ∷ [] = second.3 ∙ ap (λ l. l ++ length later ∷ []) first in
      let freed_slots : g.freed ≡ with_side r.slot found = g.events.3.2 ∙ ap (λ x. with_side x found) same_slot in (
        found,
        record {
          one_heap = one_heap true g;
          grown = prefix_trans p.front later t.front (prefix_trans p.front all later from (prefix_trans all (all ++ Release r.slot true ∷ []) later (Release r.slot true ∷ [], refl) before.2)) inside;
          new_places = length all ∷ length later ∷ [];
          places_are = placed true g (length all ∷ length later ∷ []) mine;
          stand = (
            prefix_length p.front all from,
            is_at-grows later t.front (length all) _ before inside,
            (is_at-below later (length all) _ before, then, is_at-below t.front (length later) _ then),
          );
          slots_are = let f = freed true g (with_side r.slot found) freed_slots in let b = counted found in omega (arith, f, b);
        },
      )
    where
      counted : (f : Option ℕ) → length (with_side r.slot f) ≡ 1 + gives (Detach r.slot f)
      counted None = refl
      counted (Some d) = refl

  pub Did-let_go : (last : Bool) → Released fits q s last t → (found : Option ℕ) × Did (giving_up r.slot last found) p t
  Did-let_go true g = freed_too g
  Did-let_go false g = (None, kept_on g)
