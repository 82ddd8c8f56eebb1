use Rattle.std.proofs.Common.{◌≡◌, ◌-◌, ◌<◌, ◌++◌, [], ◌∷◌, ◌∙◌, length, ap, sym, subst, inl, arith, length-append, append_assoc}
use Rattle.made_input.specs.Made.{load_line, units, batch_lines, joined, made}
use Rattle.made_input.proofs.Lengths.{units-low, units-high}
use Rattle.made_input.proofs.made.MadeInput.new.Goals as goal

pub invariant_of-result : goal.invariant_of-result
invariant_of-result c =
    let x = c.args.number in
    let low : 16 < c.put_load-units.result = subst (λ u. 16 < u) (sym c.put_load-units.ensures.units) (units-low x) in
    let high : c.put_load-units.result < 100000 = subst (λ u. u < 100000) (sym c.put_load-units.ensures.units) (units-high x) in
    let whole : length c.put_load-units.new.line ≡ length (load_line x ++ 10 ∷ []) = ap length c.put_load-units.ensures.bytes in
    let some : 0 < length c.put_load-units.new.line = omega (arith, whole, length-append (load_line x) (10 ∷ [])) in
    (omega arith, inl some, low, high)

-- the first line, and then the batches over the source's units and from the state that it left
pub returns : goal.returns
unfolding made
returns c =
    let x = c.args.number in
    let n = c.args.lines - 1 in
    ap (λ l. l ++ joined (batch_lines c.put_load-units.result n c.put_load-units.new.draws.state)) c.put_load-units.ensures.bytes
    ∙ append_assoc (load_line x) (10 ∷ []) (joined (batch_lines c.put_load-units.result n c.put_load-units.new.draws.state))
    ∙ ap (λ u. load_line x ++ 10 ∷ joined (batch_lines u n c.put_load-units.new.draws.state)) c.put_load-units.ensures.units
    ∙ ap (λ s. load_line x ++ 10 ∷ joined (batch_lines (units x) n s)) c.put_load-units.ensures.state
