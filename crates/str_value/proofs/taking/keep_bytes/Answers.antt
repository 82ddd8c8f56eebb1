use Rattle.std.proofs.Common.{refl, subst, ◌^◌, ◌<◌, ℕ, length, false, slice_index}
use Rattle.object_words.specs.Rows.{Describes, owned, is_ascii}
use Rattle.str_value.proofs.Kept.{bytes-stored}
use Rattle.str_value.proofs.taking.keep_bytes.Goals as goal

pub invariant_of-result : goal.invariant_of-result
invariant_of-result c =
    let told = c.object_beside_bytes-object in
    let same = c.as_slice.ensures.value in
    bytes-stored _ _ c.args.bytes.items _ (subst (λ bs. Describes (owned false (is_ascii bs) (is_ascii bs) (length bs)) told.result) same told.ensures.describes)
    refl refl c.requires.utf8 (subst (λ bs. (i : ℕ) → slice_index bs i < 2 ^ 8) same told.ensures.bytes) c.requires.limit
