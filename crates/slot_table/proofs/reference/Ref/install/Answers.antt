use Rattle.std.proofs.Common.{rules, ◌≡◌, ◌+◌, ℕ, suc, List, [], ◌∷◌, ◌++◌, Some, None, sym, ap, ◌∙◌, subst, arith}
use Rattle.std.specs.Prelude.{IfSome}
use mathlib.Core.List.{IsPrefix}
use Rattle.slot_model.specs.declared.layout.Layout.{Layout}
use Rattle.slot_model.specs.History.{Legal}
use Rattle.slot_table.specs.declared.view.SeatView.{SeatView}
use Rattle.slot_table.specs.Addresses.{side_place}
use Rattle.slot_table.specs.Owners.{HeapId, DraftSeen, RefSeen}
use Rattle.slot_table.specs.Views.{recorded}
use Rattle.slot_table.specs.SideSteps.{IsSideKnown, armed, installing, placed, unarmed, change}
use Rattle.slot_table.specs.declared.side.Installed.{Installed}
use Rattle.slot_table.specs.declared.side.Installed.TheVariants.{Won, Lost}
use Rattle.slot_table.proofs.Arming.{arms_allowed, changes_allowed}
use Rattle.slot_table.proofs.Offering.{installs_allowed, placed-keeps, found_none, found_some}
use Rattle.slot_table.proofs.Fronts.{both_prefix}
use Rattle.slot_table.proofs.Tying.{tied_on, is_ref_by}
use Rattle.slot_table.proofs.Referring.{ref_won, ref_lost, if_some}
use Rattle.slot_table.proofs.Siding.{offered_won, offered_lost}
use Rattle.slot_table.proofs.reference.Ref.install.Goals as goal

pub join_seat-requires : goal.join_seat-requires
join_seat-requires g c = let i = c.self.invariant in let d = c.draft.invariant in
    let same : c.draft.inside.seat.table_id ≡ c.heap.inside.table.shared.table_id =
    d.0.same ∙ (ap (λ (x : DraftSeen). x.heap.table) c.draft.view_is ∙ (ap (λ (z : HeapId). z.table) c.requires.draft ∙ (sym (ap (λ (r : RefSeen). r.heap.table) c.self.view_is) ∙ sym (ap (λ (z : HeapId). z.table) c.heap.view_is)))) in
    (search rules, same, d.0.empty, search rules, arms_allowed g.A.Attach.fits _ _ _ _ c.draft.inside.slot _ _ i.1.role i.1.no_draft i.1.light i.1.one_credit d.1.role d.1.draft_is d.1.one_credit d.1.no_slots)

pub compare_exchange-found-requires : goal.compare_exchange-found-requires
compare_exchange-found-requires g c = let i = c.self.invariant in let d = c.draft.invariant in let same = c.heap.invariant.layout_is in let k = c.heap.inside.table.shared.key.layout in
    let both : c.join_seat.new.seat.me.0 ≡ armed c.self.inside.seat.me.0 c.draft.inside.seat.me.0 = ap (λ m. m.0) c.join_seat.ensures.2 in
    let place : c.side_place-place.result ≡ side_place k c.join_seat.new.seat.me.0.slot = c.side_place-place.ensures.0 ∙ (λ t. side_place (sym same t) ((sym i.1.slot_is ∙ sym (ap (λ (v : SeatView). v.slot) both)) t)) in
    let known : c.args.self.now.known ≡ c.join_seat.new.seat.me.0.known = sym (ap (λ (v : SeatView). v.known) both ∙ ap (λ (r : RefSeen). r.known) c.self.view_is) in
    let written : c.args.draft.written ≡ c.join_seat.new.seat.me.0.written = sym (ap (λ (v : SeatView). v.written) both ∙ ap (λ (x : DraftSeen). x.written) c.draft.view_is) in
    let fit = subst (λ (t : List ℕ × List ℕ). g.A.Attach.fits t.0 t.1) (λ j. (known j, written j)) c.requires.fits in
    let new : c.draft.inside.slot + 1 ≡ suc c.draft.inside.slot = omega arith in
    (search rules, search rules, installs_allowed g.A.Attach.fits k _ _ _ _ c.draft.inside.slot _ _ new (ap (λ (v : SeatView). v.role) both ∙ i.1.role) (ap (λ (v : SeatView). v.weight) both ∙ i.1.light) (ap (λ (v : SeatView). v.draft) both ∙ d.1.draft_is) fit place)

pub split_seat-change-requires : goal.split_seat-change-requires
split_seat-change-requires g c = let i = c.self.invariant in let d = c.draft.invariant in let told = c.compare_exchange-found.ensures.2.5 in
    let both : c.join_seat.new.seat.me.0 ≡ armed c.self.inside.seat.me.0 c.draft.inside.seat.me.0 = ap (λ m. m.0) c.join_seat.ensures.2 in
    let keeps = placed-keeps c.compare_exchange-found.result (recorded c.join_seat.new.seat.me.0 told.0 (installing c.compare_exchange-found.result c.join_seat.new.seat.me.0)) in
    let mine = i.1.one_credit in let theirs = d.1.one_credit in
    let rich : c.compare_exchange-found.new.seat.me.0.credits ≡ c.self.inside.seat.me.0.credits + c.draft.inside.seat.me.0.credits = ap (λ (v : SeatView). v.credits) told.3 ∙ (keeps.2 ∙ ap (λ (v : SeatView). v.credits) both) in (
      search rules,
      search rules,
      changes_allowed g.A.Attach.fits _ _ _ _ (ap (λ (v : SeatView). v.role) told.3 ∙ (keeps.0 ∙ (ap (λ (v : SeatView). v.role) both ∙ i.1.role))) (ap (λ (v : SeatView). v.weight) told.3 ∙ (keeps.1 ∙ (ap (λ (v : SeatView). v.weight) both ∙ i.1.light))) (omega (arith, rich, mine, theirs)),
    )

pub found_in-requires : goal.found_in-requires
found_in-requires g c = let i = c.self.invariant in
    let both : c.join_seat.new.seat.me.0 ≡ armed c.self.inside.seat.me.0 c.draft.inside.seat.me.0 = ap (λ m. m.0) c.join_seat.ensures.2 in
    let few = c.compare_exchange-found.ensures.2.2 in let slots = i.0.laid.slots_most in let same = ap (λ (v : SeatView). v.layout.slots) both ∙ ap (λ (l : Layout). l.slots) i.0.layout_is in omega (arith, few, slots, same)

-- the draft is the side
pub invariant_of-self : goal.invariant_of-self
invariant_of-self g c = let i = c.self.invariant in let d = c.draft.invariant in let v : SeatView = c.self.inside.seat.me.0 in let w : SeatView = c.draft.inside.seat.me.0 in
    let tells = c.compare_exchange-found.ensures.2 in let told = tells.5 in let e = c.split_seat-change.ensures in let n : ℕ = c.compare_exchange-found.result in
    let both : c.join_seat.new.seat.me.0 ≡ armed v w = ap (λ m. m.0) c.join_seat.ensures.2 in
    let is : n ≡ 0 = found_none n (sym c.found_in.ensures ∙ c.in-None.is) in
    let now : c.compare_exchange-found.new.seat.me.0 ≡ placed 0 (recorded (armed v w) told.0 (installing 0 (armed v w))) = told.3 ∙ (λ t. placed (is t) (recorded (both t) told.0 (installing (is t) (both t)))) in
    let begins = subst (λ (z : SeatView). IsPrefix z.front told.0) both told.1 in let each = both_prefix v.front w.front (subst (λ (z : SeatView). IsPrefix z.told z.front) both tells.0) in
    let known = subst (λ (z : SeatView). IfSome z.side (IsSideKnown g.A.Attach.fits z)) now tells.3 in
    let mine = ap (λ m. m.0) e.2 ∙ ap unarmed now in (
      tied_on _ c.self.inside.seat _ (e.0 ∙ (c.compare_exchange-found.ensures.0 ∙ c.join_seat.ensures.0)) (ap (λ m. m.1) e.2 ∙ (told.4 ∙ (ap (λ m. m.1) c.join_seat.ensures.2 ∙ i.0.empty))) (ap (λ (z : SeatView). z.layout) mine) (ap (λ (z : SeatView). z.literals) mine) i.0,
      is_ref_by g.A.Attach.fits _ _ _ _ _ _ mine (ref_won g.A.Attach.fits v _ _ _ _ told.0 _ w c.draft.inside.slot _ begins each.0 each.1 i.1 d.1 known),
    )

-- another side was there
pub invariant_of-self-in-Some : goal.invariant_of-self-in-Some
invariant_of-self-in-Some g c = let i = c.self.invariant in let d = c.draft.invariant in let v : SeatView = c.self.inside.seat.me.0 in let w : SeatView = c.draft.inside.seat.me.0 in
    let tells = c.compare_exchange-found.ensures.2 in let told = tells.5 in let e = c.split_seat-change.ensures in let n : ℕ = c.compare_exchange-found.result in let f : ℕ = c.in-Some.found in
    let both : c.join_seat.new.seat.me.0 ≡ armed v w = ap (λ m. m.0) c.join_seat.ensures.2 in
    let is : n ≡ suc f = found_some n f (sym c.found_in.ensures ∙ c.in-Some.is) in
    let now : c.compare_exchange-found.new.seat.me.0 ≡ placed (suc f) (recorded (armed v w) told.0 (installing (suc f) (armed v w))) = told.3 ∙ (λ t. placed (is t) (recorded (both t) told.0 (installing (is t) (both t)))) in
    let begins = subst (λ (z : SeatView). IsPrefix z.front told.0) both told.1 in let each = both_prefix v.front w.front (subst (λ (z : SeatView). IsPrefix z.told z.front) both tells.0) in
    let known = subst (λ (z : SeatView). IfSome z.side (IsSideKnown g.A.Attach.fits z)) now tells.3 in
    let mine = ap (λ m. m.0) e.2 ∙ ap unarmed now in (
      tied_on _ c.self.inside.seat _ (e.0 ∙ (c.compare_exchange-found.ensures.0 ∙ c.join_seat.ensures.0)) (ap (λ m. m.1) e.2 ∙ (told.4 ∙ (ap (λ m. m.1) c.join_seat.ensures.2 ∙ i.0.empty))) (ap (λ (z : SeatView). z.layout) mine) (ap (λ (z : SeatView). z.literals) mine) i.0,
      is_ref_by g.A.Attach.fits _ _ _ _ _ _ mine (ref_lost g.A.Attach.fits v _ _ _ _ told.0 _ w c.draft.inside.slot _ begins each.0 each.1 i.1 d.1 f known),
    )

pub returns-in-None-clause-offered : goal.returns-in-None-clause-offered
returns-in-None-clause-offered g c = let i = c.self.invariant in let d = c.draft.invariant in let v : SeatView = c.self.inside.seat.me.0 in let w : SeatView = c.draft.inside.seat.me.0 in
    let tells = c.compare_exchange-found.ensures.2 in let told = tells.5 in let e = c.split_seat-change.ensures in let n : ℕ = c.compare_exchange-found.result in
    let both : c.join_seat.new.seat.me.0 ≡ armed v w = ap (λ m. m.0) c.join_seat.ensures.2 in
    let is : n ≡ 0 = found_none n (sym c.found_in.ensures ∙ c.in-None.is) in
    let now : c.compare_exchange-found.new.seat.me.0 ≡ placed 0 (recorded (armed v w) told.0 (installing 0 (armed v w))) = told.3 ∙ (λ t. placed (is t) (recorded (both t) told.0 (installing (is t) (both t)))) in
    let begins = subst (λ (z : SeatView). IsPrefix z.front told.0) both told.1 in let joint = subst (λ (z : SeatView). IsPrefix z.told z.front) both tells.0 in
    let legal = subst (λ (t : SeatView × ℕ). Legal g.A.Attach.fits t.0.layout (told.0 ++ installing t.1 t.0 ∷ [])) (λ j. (both j, is j)) told.2 in
    let mine = i.1.one_credit in let theirs = d.1.one_credit in
    offered_won g.A.Attach.fits _ _ _ _ _ _ _ v w _ _ c.draft.inside.slot told.0 c.self.view_is c.draft.view_is i.0.layout_is d.1.draft_is joint begins legal (ap (λ m. m.0) e.2 ∙ ap unarmed now) (ap (λ m. m.0) e.4 ∙ ap change now) (omega (arith, mine, theirs)) c.absorb.ensures

pub returns-in-Some-clause-offered : goal.returns-in-Some-clause-offered
returns-in-Some-clause-offered g c = let i = c.self.invariant in let d = c.draft.invariant in let v : SeatView = c.self.inside.seat.me.0 in let w : SeatView = c.draft.inside.seat.me.0 in
    let tells = c.compare_exchange-found.ensures.2 in let told = tells.5 in let e = c.split_seat-change.ensures in let n : ℕ = c.compare_exchange-found.result in let f : ℕ = c.in-Some.found in
    let both : c.join_seat.new.seat.me.0 ≡ armed v w = ap (λ m. m.0) c.join_seat.ensures.2 in
    let is : n ≡ suc f = found_some n f (sym c.found_in.ensures ∙ c.in-Some.is) in
    let now : c.compare_exchange-found.new.seat.me.0 ≡ placed (suc f) (recorded (armed v w) told.0 (installing (suc f) (armed v w))) = told.3 ∙ (λ t. placed (is t) (recorded (both t) told.0 (installing (is t) (both t)))) in
    let begins = subst (λ (z : SeatView). IsPrefix z.front told.0) both told.1 in let joint = subst (λ (z : SeatView). IsPrefix z.told z.front) both tells.0 in
    let legal = subst (λ (t : SeatView × ℕ). Legal g.A.Attach.fits t.0.layout (told.0 ++ installing t.1 t.0 ∷ [])) (λ j. (both j, is j)) told.2 in
    let mine = i.1.one_credit in let theirs = d.1.one_credit in
    offered_lost g.A.Attach.fits _ _ _ _ _ _ _ v w _ _ c.draft.inside.slot told.0 f c.self.view_is c.draft.view_is i.0.layout_is d.1.draft_is joint begins legal (ap (λ m. m.0) e.2 ∙ ap unarmed now) (ap (λ m. m.0) e.4 ∙ ap change now) (omega (arith, mine, theirs)) c.absorb-in-Some.ensures

-- no side was known, since there was none
pub returns-in-None-clause-agrees : goal.returns-in-None-clause-agrees
returns-in-None-clause-agrees g c = let v : SeatView = c.self.inside.seat.me.0 in let l : SeatView = c.split_seat-change.new.seat.me.0 in
    let both : c.join_seat.new.seat.me.0 ≡ armed v c.draft.inside.seat.me.0 = ap (λ m. m.0) c.join_seat.ensures.2 in
    subst (λ (r : RefSeen). IfSome r.side (λ d. (Won ≡ Lost d) × (l.side_words ≡ r.side_words))) c.self.view_is (if_some v.side (λ d. (Won ≡ Lost d) × (l.side_words ≡ v.side_words))
    (λ d is. let t = c.compare_exchange-found.ensures.2.4 d (ap (λ (z : SeatView). z.side) both ∙ is) in let none_is : None ≡ Some d = sym (sym c.found_in.ensures ∙ c.in-None.is) ∙ t.0 in absurd (cc)))

-- the side that was known is the one that was there
pub returns-in-Some-clause-agrees : goal.returns-in-Some-clause-agrees
returns-in-Some-clause-agrees g c = let v : SeatView = c.self.inside.seat.me.0 in let l : SeatView = c.split_seat-change.new.seat.me.0 in let f : ℕ = c.in-Some.found in
    let both : c.join_seat.new.seat.me.0 ≡ armed v c.draft.inside.seat.me.0 = ap (λ m. m.0) c.join_seat.ensures.2 in
    subst (λ (r : RefSeen). IfSome r.side (λ d. (Lost f ≡ Lost d) × (l.side_words ≡ r.side_words))) c.self.view_is (if_some v.side (λ d. (Lost f ≡ Lost d) × (l.side_words ≡ v.side_words))
    (λ d is.
    let t = c.compare_exchange-found.ensures.2.4 d (ap (λ (z : SeatView). z.side) both ∙ is) in
    let same : Some f ≡ Some d = sym c.in-Some.is ∙ (c.found_in.ensures ∙ t.0) in let q : f ≡ d = cc in
    (ap (λ (z : ℕ). let o : Installed = Lost z in o) q, ap (λ (z : SeatView). z.side_words) (ap (λ m. m.0) c.split_seat-change.ensures.2) ∙ (t.1 ∙ ap (λ (z : SeatView). z.side_words) both))))
