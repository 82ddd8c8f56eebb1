-- A reference's own events between two meetings, as the Writes of an edit in place.
use Rattle.std.proofs.Common.{◌≡◌, ℕ, List, [], ◌∷◌, ◌++◌, length, refl, sym, ap, ◌∙◌, subst, arith, append_assoc, append-nil}
use mathlib.Core.List.{IsPrefix}
use Rattle.slot_model.specs.declared.event.Event.{Event}
use Rattle.slot_model.specs.declared.layout.Layout.{Layout}
use Rattle.slot_table.specs.Owners.{PassSeen, RefSeen, Adds, Met}
use Rattle.slot_accounts.specs.Account.{IsAt, takes, gives, sum_of, Did, Strung}
use Rattle.slot_accounts.proofs.Doing.{prefix_all, prefix_trans, prefix_length, is_at-below, stand-then, stand-grows, stand-earlier}

pub Strung-nothing : (s : RefSeen) → Strung [] s s
Strung-nothing s = record { grown = prefix_all s.front; new_places = []; places_are = sym (append-nil s.places); stand = omega arith }

pub Strung-one : (fits : List ℕ → List ℕ → Type 0) (k : Layout) (s t : RefSeen) (e : Event) → Adds fits k s.front s.places e t.front t.places
    → Strung (e ∷ []) s t
Strung-one fits k s t e event =
    let all = event.0 in
    let seen : IsPrefix (all ++ e ∷ []) t.front = ([], append-nil (all ++ e ∷ []) ∙ sym event.2) in
    let stands : IsAt t.front (length all) e = (all, refl, seen) in
    record {
      grown = prefix_trans s.front all t.front event.1 (prefix_trans all (all ++ e ∷ []) t.front (e ∷ [], refl) seen);
      new_places = length all ∷ [];
      places_are = event.3;
      stand = (prefix_length s.front all event.1, stands, is_at-below t.front (length all) e stands);
    }

pub Strung-then : {es ds : List Event} {s t u : RefSeen} → Strung es s t → Strung ds t u → Strung (es ++ ds) s u
Strung-then {es} {ds} {s} {t} {u} a b = record {
  grown = prefix_trans s.front t.front u.front a.grown b.grown;
  new_places = a.new_places ++ b.new_places;
  places_are = b.places_are ∙ (ap (λ l. l ++ b.new_places) a.places_are ∙ append_assoc s.places a.new_places b.new_places);
  stand = stand-then t.front u.front (length s.front) a.new_places b.new_places es ds a.stand b.grown b.stand;
}

-- a meeting, the events, a meeting: what the pass did
pub Did-strung : (es : List Event) (p : PassSeen) (r : RefSeen) (q : PassSeen) (s t : RefSeen) (end : PassSeen) (u : RefSeen) → r.places ≡ []
    → Met p r q s → Strung es s t → sum_of takes es ≡ 0 → sum_of gives es ≡ 0 → Met q t end u → Did es p end
Did-strung es p r q s t end u clean met strung none_taken none_given again =
    let known : IsPrefix p.front s.front = subst (IsPrefix p.front) (sym (ap (λ (x : RefSeen). x.front) met.reference_is)) met.fronts.first in
    let was : q.places ≡ p.places = ap (λ (x : PassSeen). x.places) met.pass_is ∙ (ap (λ l. p.places ++ l) clean ∙ append-nil p.places) in
    let mine : t.places ≡ strung.new_places =
    strung.places_are ∙ ap (λ l. l ++ strung.new_places) (ap (λ (x : RefSeen). x.places) met.reference_is) in
    let a : length end.free ≡ length q.free = ap (λ (x : PassSeen). length x.free) again.pass_is in
    let b : length q.free ≡ length p.free = ap (λ (x : PassSeen). length x.free) met.pass_is in
    record {
      one_heap = ap (λ (x : PassSeen). x.heap) again.pass_is ∙ ap (λ (x : PassSeen). x.heap) met.pass_is;
      grown = prefix_trans p.front s.front end.front known (prefix_trans s.front t.front end.front strung.grown again.fronts.second);
      new_places = strung.new_places;
      places_are = ap (λ (x : PassSeen). x.places) again.pass_is ∙ (ap (λ l. l ++ t.places) was ∙ ap (λ l. p.places ++ l) mine);
      stand = stand-grows t.front end.front (length p.front) strung.new_places es
          (stand-earlier t.front (length p.front) (length s.front) strung.new_places es (prefix_length p.front s.front known) strung.stand)
          again.fronts.second;
      slots_are = omega (arith, a, b, none_taken, none_given);
    }
