use Rattle.std.proofs.Common.{◌≡◌, ◌⊎◌, ⊎_elim, inl, inr, ℕ, ◌+◌, ◌-◌, ◌*◌, ◌^◌, ◌<◌, ◌≤◌, sym, ap, subst, ◌∙◌, List, [], ◌∷◌, ◌++◌, append-nil, append_assoc, length, take, length-append, arith}
use Rattle.std.proofs.lemmas.Bool.{cases_lt}
use Rattle.std.proofs.lemmas.List.{take_all, length-take-le}
use Rattle.text_spec.specs.Packed.{bytes_of}
use Rattle.str_value.specs.Drafting.{Writing}
use Rattle.str_value.proofs.Written.{next-small, next-taken}
use Rattle.str_value.proofs.byte_writer.ByteWriter.push.Goals as goal

pub loop-k-init : goal.loop-k-init
loop-k-init c = sym (ap (λ (l : List ℕ). record c.args.self.now { bytes = l }) (append-nil c.args.self.now.bytes))

-- eight bytes more, or those that are left
inside : (c : goal.After-byte_word) → 8 * c.loop-k.k + c.min-count.result ≤ length c.args.bytes.now
inside c = omega (arith, c.min-count.ensures, c.loop-k-test.true)

few : (c : goal.After-byte_word) → c.min-count.result ≤ 8
few c = omega (arith, c.min-count.ensures)

all : (c : goal.After-byte_word) → (length c.args.bytes.now ≡ 8 * c.loop-k.k + c.min-count.result) ⊎ (c.min-count.result ≡ 8)
all c =
    ⊎_elim (λ l. inl (omega (arith, c.min-count.ensures, c.loop-k-test.true))) (λ l. inr (omega (arith, c.min-count.ensures)))
    (cases_lt (length c.args.bytes.now - 8 * c.loop-k.k) 8)

pub push_word-requires-clause-small : goal.push_word-requires-clause-small
push_word-requires-clause-small c =
    subst (λ v. v < 2 ^ (8 * c.min-count.result)) (sym c.byte_word.ensures)
    (next-small c.args.bytes.now (λ i. (c.type_inv.bytes i).fits) c.loop-k.k c.min-count.result (inside c) (all c) (few c))

pub push_word-requires-clause-room : goal.push_word-requires-clause-room
push_word-requires-clause-room c =
    let b = c.args.bytes.now in
    omega (
      arith,
      c.requires.room,
      inside c,
      ap (λ (x : Writing). length x.bytes) c.loop-k.invariant,
      ap (λ (x : Writing). x.start.heap.layout.capacity_words) c.loop-k.invariant,
      length-append c.args.self.now.bytes (take (8 * c.loop-k.k) b),
      length-take-le (8 * c.loop-k.k) b (omega (arith, inside c)),
    )

pub loop-k-preserved : goal.loop-k-preserved
loop-k-preserved c =
    let b = c.args.bytes.now in
    let s = c.args.self.now in
    let k = c.loop-k.k in
    let n = c.min-count.result in
    let inside : 8 * k + n ≤ length b = omega (arith, c.min-count.ensures, c.loop-k-test.true) in
    let few : n ≤ 8 = omega (arith, c.min-count.ensures) in
    let all : (length b ≡ 8 * k + n) ⊎ (n ≡ 8) =
    ⊎_elim (λ l. inl (omega (arith, c.min-count.ensures, c.loop-k-test.true))) (λ l. inr (omega (arith, c.min-count.ensures))) (cases_lt (length b - 8 * k) 8) in
    let next : take (8 * k) b ++ bytes_of (c.byte_word.result ∷ []) n ≡ take (8 * (k + 1)) b =
    ap (λ v. take (8 * k) b ++ bytes_of (v ∷ []) n) c.byte_word.ensures ∙ next-taken b (λ i. (c.type_inv.bytes i).fits) k n inside all few in
    c.push_word.ensures
    ∙ ap (λ (x : Writing). record x { bytes = x.bytes ++ bytes_of (c.byte_word.result ∷ []) n }) c.loop-k.invariant
    ∙ ap (λ (l : List ℕ). record s { bytes = l }) (append_assoc s.bytes (take (8 * k) b) (bytes_of (c.byte_word.result ∷ []) n) ∙ ap (λ (l : List ℕ). s.bytes ++ l) next)

pub returns : goal.returns
returns c =
    c.loop-k.invariant
    ∙ ap (λ (l : List ℕ). record c.args.self.now { bytes = c.args.self.now.bytes ++ l })
    (take_all (8 * c.loop-k.k) c.args.bytes.now (omega (arith, c.loop-k-test.false)))
