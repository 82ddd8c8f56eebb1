-- What stays known to the seats that do not step, and small facts on the sums.
use Rattle.std.proofs.Common.{◌≡◌, ◌≢◌, ℕ, ◌*◌, ◌<◌, ◌≤◌, List, set, cond, true, Option, Some, None, refl, sym, ap, ◌∙◌, arith, eq-eqb, ne_eqb, get_or-set_other, zero-mul, mul-zero, one-mul}
use Rattle.slot_model.specs.declared.layout.Layout.{Layout}
use Rattle.slot_model.specs.declared.event.Event.{Event}
use Rattle.slot_model.specs.History.{Slot, Heap, idle, held, closing, side_of, at, count_of, words_of, side_in, idle_in, Legal, heap_after}
use Rattle.slot_model.proofs.Sides.{paired_after}
use Rattle.slot_table.specs.declared.view.SeatView.{SeatView}
use Rattle.slot_table.specs.declared.view.Role.{Role}
use Rattle.slot_table.specs.declared.view.Role.TheVariants.{Share, Draft, Reference, Closing, Literal, Spent}
use Rattle.slot_table.specs.Addresses.{data_place}
use Rattle.slot_table.specs.Numbers.{one}
use Rattle.slot_table.specs.Holdings.{SideOk, RoleOk, DraftOk, ReferenceOk}

pub one-same : (x : ℕ) → one x x ≡ 1
one-same x = ap (λ b. cond b 1 0) (eq-eqb x x refl)

pub one-other : (x y : ℕ) → x ≢ y → one x y ≡ 0
one-other x y ne = ap (λ b. cond b 1 0) (ne_eqb x y ne)

pub weigh : (x y n : ℕ) → x ≡ y → one x y * n ≡ n
weigh x y n e = ap (λ z. one x z * n) (sym e) ∙ ap (λ z. z * n) (one-same x) ∙ one-mul n

pub weigh_not : (x y n : ℕ) → x ≢ y → one x y * n ≡ 0
weigh_not x y n ne = ap (λ z. z * n) (one-other x y ne) ∙ zero-mul n

pub weigh_none : (x y n : ℕ) → n ≡ 0 → one x y * n ≡ 0
weigh_none x y n e = ap (λ z. one x y * z) e ∙ mul-zero (one x y)

pub idle-is : (c : Slot) → 1 ≤ idle_in c → c ≡ idle
idle-is idle h = refl
idle-is (held n ws d) h = absurd (omega arith)
idle-is (closing d) h = absurd (omega arith)
idle-is (side_of x ws) h = absurd (omega arith)

-- what a reference's slot and known side have to keep
pub record Like (k : Layout) (h g : Heap) (u : SeatView) : Type 0 where
  pub same_words : words_of (at g u.slot) ≡ words_of (at h u.slot)
  pub still_sole : u.sole ≡ true → count_of (at h u.slot) ≡ 1 → count_of (at g u.slot) ≡ 1
  pub still_bare : u.bare ≡ true → side_in (at h u.slot) ≡ None → side_in (at g u.slot) ≡ None
  pub same_side : (d : ℕ) → u.side ≡ Some d → SideOk k h u (Some d) → SideOk k g u (Some d)

side_kept : (k : Layout) (h g : Heap) (u : SeatView) (d : Option ℕ) → ((e : ℕ) → d ≡ Some e → SideOk k h u (Some e) → SideOk k g u (Some e)) → SideOk k h u d → SideOk k g u d
side_kept k h g u None same ok = tt
side_kept k h g u (Some d) same ok = same d refl ok

pub role_kept : (k : Layout) (h g : Heap) (u : SeatView) (ρ : Role) → (ρ ≡ Reference → ReferenceOk k h u → Like k h g u) → RoleOk k h u ρ → RoleOk k g u ρ
role_kept k h g u Share like ok = ok
role_kept k h g u Draft like ok = ok
role_kept k h g u Reference like ok = let e = like refl ok in record {
  layout_is = ok.layout_is;
  below = ok.below;
  weighs = ok.weighs;
  pays = ok.pays;
  knows = ok.knows ∙ sym e.same_words;
  sole_is = λ b. ((ok.sole_is b).0, e.still_sole b (ok.sole_is b).1);
  bare_is = λ b. ((ok.bare_is b).0, e.still_bare b (ok.bare_is b).1);
  side_is = side_kept k h g u u.side e.same_side ok.side_is;
}
role_kept k h g u Closing like ok = ok
role_kept k h g u Literal like ok = ok
role_kept k h g u Spent like ok = ok

-- a reference whose slot and side do not change
pub untouched : (k : Layout) (h g : Heap) (u : SeatView) → at g u.slot ≡ at h u.slot → ((d : ℕ) → side_in (at h u.slot) ≡ Some d → words_of (at g d) ≡ words_of (at h d)) → Like k h g u
untouched k h g u e sides = record {
  same_words = ap words_of e;
  still_sole = λ _ c. ap count_of e ∙ c;
  still_bare = λ _ c. ap side_in e ∙ c;
  same_side = λ d is ok. (ok.0, ap side_in e ∙ ok.1, ok.2 ∙ sym (sides d ok.1));
}

-- a draft's words stand where no data word of its slot changes
pub draft_kept : (k : Layout) (words : List ℕ) (i n : ℕ) (u : SeatView) (d : Option ℕ) → ((x j : ℕ) → d ≡ Some x → j < k.capacity_words → data_place k x j ≢ i) → DraftOk k words u d → DraftOk k (set words i n) u d
draft_kept k words i n u None apart ok = tt
draft_kept k words i n u (Some x) apart ok = (ok.0, ok.1, λ j h. get_or-set_other words i (data_place k x j) n 0 (apart x j refl (omega (arith, ok.1))) ∙ ok.2 j h)

-- the side of a slot isn't idle, nor held, nor closing
pub side_is-side : (fits : List ℕ → List ℕ → Type 0) (k : Layout) (all : List Event) → Legal fits k all → (x d : ℕ) → side_in (at (heap_after k all) x) ≡ Some d → (ws : List ℕ) × (at (heap_after k all) d ≡ side_of x ws)
side_is-side fits k all legal x d its = (paired_after fits k all legal).has x d its

pub side_not_idle : (fits : List ℕ → List ℕ → Type 0) (k : Layout) (all : List Event) → Legal fits k all → (x d : ℕ) → side_in (at (heap_after k all) x) ≡ Some d → at (heap_after k all) d ≡ idle → ⊥
side_not_idle fits k all legal x d its is_idle = let was = side_is-side fits k all legal x d its in let e : idle ≡ side_of x was.0 = sym is_idle ∙ was.1 in cc
