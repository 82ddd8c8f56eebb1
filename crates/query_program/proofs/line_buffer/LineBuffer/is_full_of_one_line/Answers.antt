use Rattle.std.proofs.Common.{rules, arith, ◌≡◌, ℕ, ◌+◌, ◌≤◌, List, length, Option, Some, None, refl}
use Rattle.memchr.specs.Find.{IsFirstByte, is_byte}
use Rattle.query_program.specs.Lines.{last_part}
use Rattle.query_program.specs.declared.limits.TheConstants.{LINE_LIMIT}
use Rattle.query_program.proofs.Cuts.{last_part-le, last_part-less}
use Rattle.query_program.proofs.line_buffer.LineBuffer.is_full_of_one_line.Goals as goal

-- the newline itself makes what stands behind it shorter than all
behind-short : (bytes : List ℕ) (r : Option ℕ) → length bytes ≤ LINE_LIMIT + 1 → IsFirstByte (is_byte 10) bytes r → (r ≡ None → ⊥) → length (last_part bytes) ≤ LINE_LIMIT
behind-short bytes None bound first some = absurd (some refl)
behind-short bytes (Some n) bound first some = omega (arith, bound, last_part-less bytes n first)

pub returns-then-len-gt-LINE_LIMIT-clause-short : goal.returns-then-len-gt-LINE_LIMIT-clause-short
returns-then-len-gt-LINE_LIMIT-clause-short c = λ is. behind-short c.args.self.now.bytes c.first_line.result c.requires.room c.first_line.ensures.first (search rules)

pub returns-else-len-gt-LINE_LIMIT-clause-short : goal.returns-else-len-gt-LINE_LIMIT-clause-short
returns-else-len-gt-LINE_LIMIT-clause-short c = λ is. omega (arith, last_part-le c.args.self.now.bytes, (let small : length c.args.self.now.bytes ≤ LINE_LIMIT = search rules in small))
