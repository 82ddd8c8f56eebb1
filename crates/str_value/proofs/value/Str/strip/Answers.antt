use Rattle.std.proofs.Common.{refl, sym, subst, ◌∙◌}
use Rattle.slot_edits.specs.Parts.{Fits}
use Rattle.str_value.proofs.Overwritten.{heap-is, clean-is, asked-in-vain}
use Rattle.str_value.proofs.Reserved.{stripped}
use Rattle.str_value.proofs.value.Str.strip.Goals as goal

pub ready-reference-requires-clause-heap : goal.ready-reference-requires-clause-heap
ready-reference-requires-clause-heap c =
    heap-is _ _ c.args.self.now c.in-Native.reference c.in-Native.crumbs c.self.invariant c.self.view_is (sym c.replace.ensures.value ∙ c.in-Native.is) c.args.pass.now c.requires.heap

pub ready-reference-requires-clause-clean : goal.ready-reference-requires-clause-clean
ready-reference-requires-clause-clean c =
    clean-is _ _ c.args.self.now c.in-Native.reference c.in-Native.crumbs c.self.invariant c.self.view_is (sym c.replace.ensures.value ∙ c.in-Native.is)

pub returns-then-alone-clause-stripped : goal.returns-then-alone-clause-stripped
returns-then-alone-clause-stripped c _ = (
  c.in-Native.reference,
  stripped _ _ c.args.self.now c.in-Native.reference c.in-Native.crumbs c.self.invariant c.self.view_is (sym c.replace.ensures.value ∙ c.in-Native.is) c.args.pass.now c.ready-reference.new.pass
      c.ready-reference.result.0 _ (subst (λ n. Fits n c.args.pass.now.heap.layout.capacity_words) c.requires.bytes c.requires.fits)
      (c.ready-reference.ensures.readied c.if-alone.true) c.ready-reference.ensures.credits refl,
)

pub returns-else-alone-clause-unwritten : goal.returns-else-alone-clause-unwritten
returns-else-alone-clause-unwritten c _ =
    asked-in-vain _ _ c.args.self.now c.in-Native.reference c.in-Native.crumbs c.self.invariant c.self.view_is (sym c.replace.ensures.value ∙ c.in-Native.is) c.args.pass.now c.ready-reference.new.pass
    c.args.bytes c.ready-reference.result.0 _ c.requires.fits (c.ready-reference.ensures.shared c.if-alone.false) c.ready-reference.ensures.credits refl
