use Rattle.std.proofs.Common.{◌≡◌, ap, ◌∙◌, [], get_or}
use Rattle.std.proofs.lemmas.List.{get_or_default}
use Rattle.std.specs.Option.{unwrap_or}
use Rattle.text_spec.specs.declared.encoding.Encoding.TheVariants.{Utf8}
use Rattle.text_spec.specs.Views.{size_in}
use Rattle.crumbs.specs.Fitting.{stored_text}
use Rattle.object_words.specs.CountWord.{unit_count}
use Rattle.crumbs.proofs.Sampling.{sampled}
use Rattle.crumbs.proofs.stored.StoredTextText.count.Goals as goal

pub returns-clause-value : goal.returns-clause-value
returns-clause-value g c =
    let s = sampled _ c.self.inside.stored.items c.self.inside.list.items c.self.invariant in
    c.unit_count.ensures
    ∙ ap unit_count (c.index.ensures ∙ get_or_default c.self.inside.stored.items 0 c.index.result.now 0 s.some)
    ∙ s.size
    ∙ ap (λ v. size_in Utf8 (unwrap_or (stored_text (v.0)) [])) c.self.view_is

pub returns-clause-denotes : goal.returns-clause-denotes
returns-clause-denotes g c =
    let s = sampled _ c.self.inside.stored.items c.self.inside.list.items c.self.invariant in
    let is : c.unit_count.result ≡ unit_count (get_or c.self.inside.stored.items 0 0) =
    c.unit_count.ensures ∙ ap unit_count (c.index.ensures ∙ get_or_default c.self.inside.stored.items 0 c.index.result.now 0 s.some) in
    rw (is, ← c.self.view_is) s.denoted
