-- A seat's view is cut in two, or takes in another's.
use Rattle.std.proofs.Common.{◌≡◌, ℕ, ◌+◌, ⊎_elim, List, [], ◌∷◌, ◌++◌, set, sym, ap, ◌∙◌, subst}
use mathlib.Core.Option.{some, some-injective}
use mathlib.Core.Logic.{dite}
use native.Mathlib.Decide.{ℕ_discrete}
use lib.ListN.{get_elem?}
use Rattle.atomic_table.specs.Table.{State}
use Rattle.atomic_table.proofs.Lists.{at_snoc, at_longer, set_here, set_else}
use Rattle.slot_model.specs.declared.layout.Layout.{Layout}
use Rattle.slot_table.specs.declared.view.SeatView.{SeatView}
use Rattle.slot_table.specs.Seats.{weight_on, closing_on, free_on, place_on, credits_in}
use Rattle.slot_table.specs.Holdings.{IsActive, Owned, SeatOk, Holds}
use Rattle.slot_table.proofs.Sums.{total_split, total_join}
use Rattle.slot_table.proofs.Turns.{seats_after, owned_set, listed, total_same}

-- two views hold between them what two others do
pub record Shares (v w l r : SeatView) : Type 0 where
  pub weights : (x : ℕ) → weight_on x l + weight_on x r ≡ weight_on x v + weight_on x w
  pub closings : (x : ℕ) → closing_on x l + closing_on x r ≡ closing_on x v + closing_on x w
  pub frees : (x : ℕ) → free_on x l + free_on x r ≡ free_on x v + free_on x w
  pub credits : l.credits + r.credits ≡ v.credits + w.credits
  pub places : (m : ℕ) → place_on m l + place_on m r ≡ place_on m v + place_on m w

-- a view holds what two others do
pub record Parts (v l r : SeatView) : Type 0 where
  pub weights : (x : ℕ) → weight_on x l + weight_on x r ≡ weight_on x v
  pub closings : (x : ℕ) → closing_on x l + closing_on x r ≡ closing_on x v
  pub frees : (x : ℕ) → free_on x l + free_on x r ≡ free_on x v
  pub credits : l.credits + r.credits ≡ v.credits
  pub places : (m : ℕ) → place_on m l + place_on m r ≡ place_on m v

pub seats_snoc : (P : SeatView → Type 0) (views : List SeatView) (w : SeatView) → P w → ((j : ℕ) (u : SeatView) → get_elem? views j ≡ some u → P u) → (j : ℕ) (u : SeatView) → get_elem? (views ++ w ∷ []) j ≡ some u → P u
seats_snoc P views w mine others j u e = ⊎_elim (λ (t : get_elem? views j ≡ some u). others j u t) (λ (t : w ≡ u). subst P t mine) (at_snoc views w u j e)

module _ (fits : List ℕ → List ℕ → Type 0) (k : Layout) (ls : List (List ℕ)) where
  pub cut : (s : State ℕ SeatView) → (r : Holds fits k ls s) → (id : ℕ) (v left right : SeatView) → get_elem? s.views id ≡ some v → Parts v left right
      → (IsActive v.role → IsActive left.role) → left.front ≡ v.front → SeatOk k ls s.words r.all left → SeatOk k ls s.words r.all right
      → Holds fits k ls record { words = s.words; homes = s.homes; views = set s.views id left ++ right ∷ [] }
  cut s r id v left right at_id parts active same_front mine new =
      let own = owned_set r.all s.views id v left at_id (λ a f. (active a, same_front ∙ f)) r.owner in record {
        all = r.all;
        legal = r.legal;
        wide = r.wide;
        zero_is = r.zero_is;
        rows = r.rows;
        owner = (own.0, own.1, at_longer (set s.views id left) (right ∷ []) own.0 own.1 own.2, own.3, own.4);
        slots = λ y below. let was = r.slots y below in record {
          count = was.count;
          side_shown = was.side_shown;
          content = was.content;
          room = was.room;
          alive = was.alive;
          weights = total_split (weight_on y) s.views id v left right at_id (parts.weights y) ∙ was.weights;
          closings = total_split (closing_on y) s.views id v left right at_id (parts.closings y) ∙ was.closings;
          frees = total_split (free_on y) s.views id v left right at_id (parts.frees y) ∙ was.frees;
        };
        frees_below = λ y above. total_split (free_on y) s.views id v left right at_id (parts.frees y) ∙ r.frees_below y above;
        credits = total_split credits_in s.views id v left right at_id parts.credits ∙ r.credits;
        places = λ m. total_split (place_on m) s.views id v left right at_id (parts.places m) ∙ r.places m;
        seats = seats_snoc (SeatOk k ls s.words r.all) (set s.views id left) right new (seats_after fits k ls s.words r.all s.views id left mine (λ j u _ e. r.seats j u e));
      }

  pub merge : (s : State ℕ SeatView) → (r : Holds fits k ls s) → (id other : ℕ) (v w both spent : SeatView) → get_elem? s.views id ≡ some v → ¬ (other ≡ id) → get_elem? (set s.views id both) other ≡ some w
      → Shares v w both spent → IsActive both.role → (v.front ≡ r.all → both.front ≡ r.all) → (w.front ≡ r.all → both.front ≡ r.all) → SeatOk k ls s.words r.all both → SeatOk k ls s.words r.all spent
      → Holds fits k ls record { words = s.words; homes = s.homes; views = set (set s.views id both) other spent }
  merge s r id other v w both spent at_id apart at_other shares active from_v from_w mine rest = record {
    all = r.all;
    legal = r.legal;
    wide = r.wide;
    zero_is = r.zero_is;
    rows = r.rows;
    owner = owned;
    slots = λ y below. let was = r.slots y below in record {
      count = was.count;
      side_shown = was.side_shown;
      content = was.content;
      room = was.room;
      alive = was.alive;
      weights = total_join (weight_on y) s.views id other v w both spent at_id at_other (shares.weights y) ∙ was.weights;
      closings = total_join (closing_on y) s.views id other v w both spent at_id at_other (shares.closings y) ∙ was.closings;
      frees = total_join (free_on y) s.views id other v w both spent at_id at_other (shares.frees y) ∙ was.frees;
    };
    frees_below = λ y above. total_join (free_on y) s.views id other v w both spent at_id at_other (shares.frees y) ∙ r.frees_below y above;
    credits = total_join credits_in s.views id other v w both spent at_id at_other shares.credits ∙ r.credits;
    places = λ m. total_join (place_on m) s.views id other v w both spent at_id at_other (shares.places m) ∙ r.places m;
    seats = seats_after fits k ls s.words r.all (set s.views id both) other spent rest (λ j u ne e. seats_after fits k ls s.words r.all s.views id both mine (λ i x _ e'. r.seats i x e') j u e);
  }
    where
      still : get_elem? (set (set s.views id both) other spent) id ≡ some both
      still = set_else (set s.views id both) other id spent (λ e. apart (sym e)) ∙ set_here s.views id both (listed s.views id v at_id)

      owned : Owned r.all (set (set s.views id both) other spent)
      owned = dite (ℕ_discrete r.owner.0 id)
          (λ (same : r.owner.0 ≡ id). let e : r.owner.1 ≡ v = some-injective r.owner.1 v (sym r.owner.2 ∙ (ap (get_elem? s.views) same ∙ at_id)) in (id, both, still, active, from_v (ap (λ (y : SeatView). y.front) (sym e) ∙ r.owner.4)))
          (λ (ne : ¬ (r.owner.0 ≡ id)). dite (ℕ_discrete r.owner.0 other)
          (λ (same : r.owner.0 ≡ other). let e : r.owner.1 ≡ w = some-injective r.owner.1 w (sym (set_else s.views id r.owner.0 both ne ∙ r.owner.2) ∙ (ap (get_elem? (set s.views id both)) same ∙ at_other)) in (id, both, still, active, from_w (ap (λ (y : SeatView). y.front) (sym e) ∙ r.owner.4)))
          (λ (ne' : ¬ (r.owner.0 ≡ other)). (r.owner.0, r.owner.1, set_else (set s.views id both) other r.owner.0 spent ne' ∙ (set_else s.views id r.owner.0 both ne ∙ r.owner.2), r.owner.3, r.owner.4)))

  -- a view changes in what no sum and no other seat sees
  pub restate : (s : State ℕ SeatView) → (r : Holds fits k ls s) → (id : ℕ) (v w : SeatView) → get_elem? s.views id ≡ some v
      → ((x : ℕ) → weight_on x w ≡ weight_on x v) → ((x : ℕ) → closing_on x w ≡ closing_on x v) → ((x : ℕ) → free_on x w ≡ free_on x v) → w.credits ≡ v.credits → ((m : ℕ) → place_on m w ≡ place_on m v)
      → (IsActive v.role → IsActive w.role) → w.front ≡ v.front → SeatOk k ls s.words r.all w → Holds fits k ls record { words = s.words; homes = s.homes; views = set s.views id w }
  restate s r id v w at_id weights closings frees credits places active same_front mine = record {
    all = r.all;
    legal = r.legal;
    wide = r.wide;
    zero_is = r.zero_is;
    rows = r.rows;
    owner = owned_set r.all s.views id v w at_id (λ a f. (active a, same_front ∙ f)) r.owner;
    slots = λ y below. let was = r.slots y below in record {
      count = was.count;
      side_shown = was.side_shown;
      content = was.content;
      room = was.room;
      alive = was.alive;
      weights = total_same (weight_on y) s.views id v w at_id (weights y) ∙ was.weights;
      closings = total_same (closing_on y) s.views id v w at_id (closings y) ∙ was.closings;
      frees = total_same (free_on y) s.views id v w at_id (frees y) ∙ was.frees;
    };
    frees_below = λ y above. total_same (free_on y) s.views id v w at_id (frees y) ∙ r.frees_below y above;
    credits = total_same credits_in s.views id v w at_id credits ∙ r.credits;
    places = λ m. total_same (place_on m) s.views id v w at_id (places m) ∙ r.places m;
    seats = seats_after fits k ls s.words r.all s.views id w mine (λ j u _ e. r.seats j u e);
  }
