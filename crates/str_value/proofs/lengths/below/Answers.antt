use Rattle.std.proofs.Common.{ap, ◌∙◌, nat_lt, w8, arith}
use Rattle.std.specs.Int.RustNames.{count_ones}
use Rattle.std.proofs.lemmas.Simd.{bitmask_splat, ones-mask_l}
use Rattle.str_value.proofs.lengths.below.Goals as goal

pub returns-clause-count : goal.returns-clause-count
returns-clause-count c =
    ap count_ones (bitmask_splat w8 nat_lt c.args.block 64 c.args.limit c.fits-block.0 (omega arith)) ∙ ones-mask_l (λ b. nat_lt b c.args.limit) c.args.block
