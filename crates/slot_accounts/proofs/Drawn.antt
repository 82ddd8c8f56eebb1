-- A draft that was cut from a pass, as words are written into it.
use Rattle.std.proofs.Common.{◌≡◌, ℕ, List, sym, ap, ◌∙◌}
use Rattle.slot_table.specs.Owners.{PassSeen, DraftSeen}
use Rattle.slot_accounts.specs.Account.{IsDrawn}

module _ (p q : PassSeen) (d : DraftSeen) (drawn : IsDrawn p q d) where
  -- more words are written into it
  pub Drawn-written : (e : DraftSeen) (ws : List ℕ) → e ≡ record d { written = ws } → IsDrawn p q e
  Drawn-written e ws written = record {
    cut = drawn.cut;
    drafted = drawn.drafted;
    filled =
        let same : e.written ≡ ws = ap (λ (x : DraftSeen). x.written) written in
        written ∙ ap (λ (x : DraftSeen). record x { written = ws }) drawn.filled ∙ ap (λ (vs : List ℕ). record drawn.cut { written = vs }) (sym same);
  }
