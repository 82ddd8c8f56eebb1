use Rattle.std.proofs.Common.{◌≡◌, sym, ◌∙◌, ap, true, false, ◌&&◌, ◌-◌, take, drop, length, arith}
use Rattle.std.proofs.Math.Bool.{true-and, false-and}
use Rattle.std.proofs.lemmas.List.{take_all, length-drop}
use Rattle.object_words.specs.Rows.{is_ascii}
use Rattle.str_value.proofs.Spliced.{ascii-marked, ascii-added, ascii-both, ascii-left}
use Rattle.str_value.proofs.own_splicing.ascii_after.Goals as goal
use Rattle.str_value.proofs.own_splicing.ascii_after.Goals.{then-marked-via-then-marked, then-marked-via-else-marked+then-not-added}

-- all is ASCII before, or something is added that isn't
pub returns-then-marked : goal.returns-then-marked
returns-then-marked c =
    let b = c.args.bytes.now in
    let w = c.args.with.now in
    elim c.then-marked.branch [
      | then-marked-via-then-marked e ↦ c.is_ascii-added.ensures ∙ ascii-marked b w c.args.part.low c.args.part.high (sym c.requires.marked ∙ e.if-marked.true)
      | then-marked-via-else-marked+then-not-added e ↦ c.is_ascii-added.ensures
          ∙ ascii-added b w c.args.part.low c.args.part.high (sym c.is_ascii-added.ensures ∙ e.if-not-added.true)
    ]

-- what goes is ASCII, so what isn't stays
pub returns-then-is_ascii : goal.returns-then-is_ascii
returns-then-is_ascii c =
    ascii-left c.args.bytes.now c.args.with.now c.args.part.low c.args.part.high c.requires.order (sym c.requires.marked ∙ c.if-marked.false)
    (sym c.is_ascii-added.ensures ∙ c.if-not-added.false) (sym c.is_ascii.ensures ∙ c.if-is_ascii.true)

-- front and back tell it
pub returns-then-is_ascii-2 : goal.returns-then-is_ascii-2
returns-then-is_ascii-2 c =
    let b = c.args.bytes.now in
    let h = c.args.part.high in
    let all : take (length b - h) (drop h b) ≡ drop h b = take_all (length b - h) (drop h b) (omega (arith, length-drop h b)) in
    let front : is_ascii (take c.args.part.low b) ≡ true = sym c.is_ascii-2.ensures ∙ c.if-is_ascii-2.true in
    c.is_ascii-then-is_ascii-2.ensures ∙ ap is_ascii all ∙ sym (true-and (is_ascii (drop h b))) ∙ sym (ap (λ x. x && is_ascii (drop h b)) front)
    ∙ ascii-both b c.args.with.now c.args.part.low h (sym c.is_ascii-added.ensures ∙ c.if-not-added.false)

pub returns-else-is_ascii-2 : goal.returns-else-is_ascii-2
returns-else-is_ascii-2 c =
    let b = c.args.bytes.now in
    let h = c.args.part.high in
    let front : is_ascii (take c.args.part.low b) ≡ false = sym c.is_ascii-2.ensures ∙ c.if-is_ascii-2.false in
    c.if-is_ascii-2.false ∙ sym (false-and (is_ascii (drop h b))) ∙ sym (ap (λ x. x && is_ascii (drop h b)) front)
    ∙ ascii-both b c.args.with.now c.args.part.low h (sym c.is_ascii-added.ensures ∙ c.if-not-added.false)
