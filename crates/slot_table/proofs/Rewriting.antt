-- What is read of a list after some writes.
use Rattle.std.proofs.Common.{◌≡◌, ◌≢◌, ℕ, zero, suc, ◌≤◌, eqb, cond, List, [], ◌∷◌, ◌++◌, length, get_or, set, refl, sym, ap, ◌∙◌, eq-eqb, ne_eqb, get_or-set_other}
use mathlib.Core.Logic.{dite}
use native.Mathlib.Decide.{ℕ_discrete}
use Rattle.slot_model.specs.History.{put}
use Rattle.slot_table.specs.Laws.{after_writes, MayWrite, last_written}
use Rattle.slot_table.proofs.Writing.{put-at}

-- reading elsewhere than at the end of a list that grew by one
get_or-beside : (ws : List ℕ) (x j : ℕ) → j ≢ length ws → get_or (ws ++ x ∷ []) j 0 ≡ get_or ws j 0
get_or-beside [] x zero ne = absurd (ne refl)
get_or-beside [] x (suc j) ne = refl
get_or-beside (w ∷ ws) x zero ne = refl
get_or-beside (w ∷ ws) x (suc j) ne = get_or-beside ws x j (λ e. ne (ap (λ n. suc n) e))

put-reads : (ws : List ℕ) (j w k : ℕ) → j ≤ length ws → get_or (put ws j w) k 0 ≡ cond (eqb j k) w (get_or ws k 0)
put-reads ws j w k low = dite (ℕ_discrete j k)
    (λ (q : j ≡ k). ap (λ (z : ℕ). get_or (put ws j w) z 0) (sym q) ∙ (put-at ws j w low ∙ sym (ap (λ b. cond b w (get_or ws k 0)) (eq-eqb j k q))))
    (λ (n : ¬ (j ≡ k)). dite (ℕ_discrete j (length ws))
    (λ (q : j ≡ length ws). ap (λ b. get_or (cond b (ws ++ w ∷ []) (set ws j w)) k 0) (eq-eqb j (length ws) q) ∙ (get_or-beside ws w k (λ e. n (q ∙ sym e)) ∙ sym (ap (λ b. cond b w (get_or ws k 0)) (ne_eqb j k n))))
    (λ (m : ¬ (j ≡ length ws)). ap (λ b. get_or (cond b (ws ++ w ∷ []) (set ws j w)) k 0) (ne_eqb j (length ws) m) ∙ (get_or-set_other ws j k w 0 (λ e. n (sym e)) ∙ sym (ap (λ b. cond b w (get_or ws k 0)) (ne_eqb j k n)))))

pub reads_last : (ws : List ℕ) (ps : List (ℕ × ℕ)) (k : ℕ) → MayWrite ws ps → get_or (after_writes ws ps) k 0 ≡ last_written k (get_or ws k 0) ps
reads_last ws [] k may = refl
reads_last ws (p ∷ ps) k may = reads_last (put ws p.0 p.1) ps k may.1 ∙ ap (λ (z : ℕ). last_written k z ps) (put-reads ws p.0 p.1 k may.0)
