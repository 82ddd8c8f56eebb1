-- Breadcrumbs, computed at a text worked out by hand.
use Rattle.std.proofs.Common.{◌≡◌, refl, [], ◌∷◌, ◌++◌, replicate}
use Rattle.index_words.specs.Crumbs.{crumbs}

-- 63 letters of two bytes, a pair, 63 letters more: units 0, 64 and 128
crumbs_of_long : crumbs (replicate 63 233 ++ (128512 ∷ replicate 63 233)) 64 ≡ 128 ∷ 5 ∷ 8273924 ∷ 16777221 ∷ []
crumbs_of_long = refl
