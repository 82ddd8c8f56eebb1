-- Shares come back, that of the last job first.
use Rattle.std.proofs.Common.{◌≡◌, ◌≢◌, ℕ, suc, ◌-◌, ◌%◌, ◌<◌, ⊎_elim, eqb, true, false, List, [], ◌∷◌, ◌++◌, length, reverse, refl, sym, ap, ◌∙◌, subst, arith, length-append, append-nil, append_assoc}
use Rattle.std.specs.Global.{Vec}
use Rattle.std.proofs.lemmas.Bool.Decides.{eqb_tells}
use Rattle.std.proofs.lemmas.List.{reverse-append}
use Rattle.std.proofs.lemmas.Nat.{mod_below}
use Rattle.slot_table.specs.Owners.{PassSeen, Joined}
use Rattle.slot_accounts.specs.Shares.{Gathered}
use Rattle.batch_workers.specs.declared.jobs.Done.{Done}
use Rattle.batch_workers.specs.declared.jobs.Finished.{Finished}
use Rattle.batch_workers.specs.Sharing.{bundle, column, IsSpread, Pushed, shares_in, done_in, EachShareOf, IsGathered}
use Rattle.batch_workers.proofs.Spreading.{snoc-same, from_end, column-here, column-elsewhere}

-- what jobs left, the last first
abbrev pub back : List Finished → List Done
back [] = []
back (f ∷ fs) = back fs ++ f.done ∷ []

reverse-back : (fs : List Finished) → reverse (back fs) ≡ done_in fs
reverse-back [] = refl
reverse-back (f ∷ fs) = reverse-append (back fs) (f.done ∷ []) ∙ ap (λ l. f.done ∷ l) (reverse-back fs)

-- `before` is still with the w workers, `after` is back
pub record Gathering (q r : PassSeen) (fs : List Finished) (w left : ℕ) (bs : List (Vec Finished)) (ds : List Done) : Type 0 where
  pub before : List Finished
  pub after : List Finished
  pub parts : before ++ after ≡ fs
  pub count : length before ≡ left
  pub spread : (k : ℕ) → k < w → bundle bs k ≡ column w k 0 before
  pub heap : r.heap ≡ q.heap
  pub same : EachShareOf q before
  pub shares : Gathered q (shares_in after) r
  pub done_are : ds ≡ back after

pub gathering_none : (q : PassSeen) (fs : List Finished) (bs : List (Vec Finished)) → IsSpread fs bs → EachShareOf q fs → Gathering q q fs (length bs) (length fs) bs []
gathering_none q fs bs spread same = record { before = fs; after = []; parts = append-nil fs; count = refl; spread = spread; heap = refl; same = same; shares = refl; done_are = refl }

-- one of those that are left
pub one_left : (q r : PassSeen) (fs : List Finished) (w left : ℕ) (bs : List (Vec Finished)) (ds : List Done) → 0 < left → Gathering q r fs w left bs ds → Gathering q r fs w (suc (left - 1)) bs ds
one_left q r fs w left bs ds some g = let e : left ≡ suc (left - 1) = omega (arith, some) in subst (λ n. Gathering q r fs w n bs ds) e g

same-unsnoc : (q : PassSeen) (fs : List Finished) (f : Finished) → EachShareOf q (fs ++ f ∷ []) → EachShareOf q fs × (f.pass.heap ≡ q.heap)
same-unsnoc q [] f s = (tt, s.0)
same-unsnoc q (e ∷ es) f s = let t = same-unsnoc q es f s.1 in ((s.0, t.0), t.1)

-- what is with the worker of the last job
at_last : (q r : PassSeen) (fs : List Finished) (w left : ℕ) (bs : List (Vec Finished)) (ds : List Done) → 0 < w → (g : Gathering q r fs w (suc left) bs ds)
    → bundle bs (left % w) ≡ column w (left % w) 0 (from_end g.before left g.count).0 ++ (from_end g.before left g.count).1 ∷ []
at_last q r fs w left bs ds some g =
    let e = from_end g.before left g.count in
    g.spread (left % w) (mod_below left w some) ∙ (ap (column w (left % w) 0) e.3 ∙ column-here w (left % w) e.0 e.1 (ap (λ n. n % w) e.2))

-- it isn't empty
pub gathering_some : (q r : PassSeen) (fs : List Finished) (w left : ℕ) (bs : List (Vec Finished)) (ds : List Done) → 0 < w → Gathering q r fs w (suc left) bs ds → bundle bs (left % w) ≢ []
gathering_some q r fs w left bs ds some g none =
    let e = from_end g.before left g.count in
    let l = ap length (sym (at_last q r fs w left bs ds some g) ∙ none) in
    omega (arith, l, length-append (column w (left % w) 0 e.0) (e.1 ∷ []))

-- and its last is the last job
took : (q r : PassSeen) (fs : List Finished) (w left : ℕ) (bs cs : List (Vec Finished)) (ds : List Done) (f : Finished) → 0 < w → (g : Gathering q r fs w (suc left) bs ds) → Pushed cs (left % w) f bs
    → (bundle cs (left % w) ≡ column w (left % w) 0 (from_end g.before left g.count).0) × (f ≡ (from_end g.before left g.count).1)
took q r fs w left bs cs ds f some g popped =
    let e = from_end g.before left g.count in
    snoc-same (bundle cs (left % w)) (column w (left % w) 0 e.0) f e.1 (sym popped.here ∙ at_last q r fs w left bs ds some g)

pub gathering_same : (q r : PassSeen) (fs : List Finished) (w left : ℕ) (bs cs : List (Vec Finished)) (ds : List Done) (f : Finished) → 0 < w → Gathering q r fs w (suc left) bs ds → Pushed cs (left % w) f bs
    → f.pass.heap ≡ r.heap
gathering_same q r fs w left bs cs ds f some g popped =
    let e = from_end g.before left g.count in
    let is = (took q r fs w left bs cs ds f some g popped).1 in
    ap (λ (x : Finished). x.pass.heap) is ∙ ((same-unsnoc q e.0 e.1 (subst (EachShareOf q) e.3 g.same)).1 ∙ sym g.heap)

pub gathering_more : (q r t : PassSeen) (fs : List Finished) (w left : ℕ) (bs cs : List (Vec Finished)) (ds es : List Done) (f : Finished) → 0 < w → Gathering q r fs w (suc left) bs ds → Pushed cs (left % w) f bs
    → Joined r f.pass t → es ≡ ds ++ f.done ∷ [] → Gathering q t fs w left cs es
gathering_more q r t fs w left bs cs ds es f some g popped join more =
    let e = from_end g.before left g.count in
    let is = took q r fs w left bs cs ds f some g popped in
    record {
      before = e.0;
      after = f ∷ g.after;
      parts = ap (λ x. e.0 ++ x ∷ g.after) is.1 ∙ (sym (append_assoc e.0 (e.1 ∷ []) g.after) ∙ (ap (λ l. l ++ g.after) (sym e.3) ∙ g.parts));
      count = e.2;
      spread = λ k less.
          ⊎_elim (λ (here : (eqb k (left % w) ≡ true) × (k ≡ left % w)). subst (λ j. bundle cs j ≡ column w j 0 e.0) (sym here.1) is.0)
          (λ (else : (eqb k (left % w) ≡ false) × (k ≢ left % w)).
          sym (popped.elsewhere k else.1) ∙ (g.spread k less ∙ (ap (column w k 0) e.3 ∙ column-elsewhere w k e.0 e.1 (subst (λ n. k ≢ n % w) (sym e.2) else.1))))
          (eqb_tells k (left % w));
      heap = ap (λ (x : PassSeen). x.heap) join.pass_is ∙ g.heap;
      same = (same-unsnoc q e.0 e.1 (subst (EachShareOf q) e.3 g.same)).0;
      shares = (r, g.shares, join);
      done_are = more ∙ ap (λ l. l ++ f.done ∷ []) g.done_are;
    }

pub gathering_end : (q r : PassSeen) (fs : List Finished) (w : ℕ) (bs : List (Vec Finished)) (ds es : List Done) → Gathering q r fs w 0 bs ds → es ≡ reverse ds → IsGathered q fs r es
gathering_end q r fs w bs ds es g turned = ended g.before g.after g.count g.parts g.shares g.done_are
  where
    ended : (before after : List Finished) → length before ≡ 0 → before ++ after ≡ fs → Gathered q (shares_in after) r → ds ≡ back after → IsGathered q fs r es
    ended [] after none parts shares done_are = subst (λ l. IsGathered q l r es) parts record { shares = shares; done_are = turned ∙ (ap reverse done_are ∙ reverse-back after) }
    ended (f ∷ before) after none parts shares done_are = absurd (omega (arith, none))
