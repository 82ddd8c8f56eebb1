use Rattle.outside.proofs.Pieces.{front-moved, none-at-end}
use Rattle.std.proofs.Common.{rules, length, sym, ap, ◌∙◌}
use Rattle.outside.proofs.memory_source.MemSourceSource.read.Goals as goal

-- the piece stands at the buffer's front, and what is left begins after it
pub returns-clause-bytes : goal.returns-clause-bytes
returns-clause-bytes c =
    let bytes = c.self.inside.bytes.items in (
      ap (λ s. s.left) (sym c.self.view_is) ∙ front-moved bytes c.fill_front.new.buf c.self.inside.at c.min-count.result (search rules) (search rules),
      none-at-end bytes c.self.inside.at c.self.inside.piece_length (length c.args.buf.now) c.min-count.result (search rules) (search rules) (search rules),
    )
