-- What is counted over events, and which words they publish. Read by callers.
use Rattle.std.specs.Prelude.{◌≡◌, ℕ, ◌⊎◌, List, [], ◌∷◌, ◌++◌, length}
use Rattle.slot_model.specs.declared.event.Event.{Event}
use Rattle.slot_model.specs.declared.event.Event.TheVariants.{Publish, Retain, Release, Sole, Write, Look, Install, Detach}
use Rattle.slot_table.specs.Numbers.{AllOnce}
use Rattle.slot_table.specs.Owners.{PassSeen}
use Rattle.slot_accounts.specs.Account.{none_found}

-- whether an event publishes, retains, or installs a side where there was none, as 1 or 0
abbrev pub publishes : Event → ℕ
publishes (Publish x ws) = 1
publishes (Retain x) = 0
publishes (Release x last) = 0
publishes (Sole x answer) = 0
publishes (Write x k w) = 0
publishes (Look x found) = 0
publishes (Install x d ws found) = 0
publishes (Detach x found) = 0

abbrev pub retains : Event → ℕ
retains (Publish x ws) = 0
retains (Retain x) = 1
retains (Release x last) = 0
retains (Sole x answer) = 0
retains (Write x k w) = 0
retains (Look x found) = 0
retains (Install x d ws found) = 0
retains (Detach x found) = 0

abbrev pub installs : Event → ℕ
installs (Publish x ws) = 0
installs (Retain x) = 0
installs (Release x last) = 0
installs (Sole x answer) = 0
installs (Write x k w) = 0
installs (Look x found) = 0
installs (Install x d ws found) = none_found found
installs (Detach x found) = 0

-- the words of an event Publish
abbrev pub data_in : Event → List (List ℕ)
data_in (Publish x ws) = ws ∷ []
data_in (Retain x) = []
data_in (Release x last) = []
data_in (Sole x answer) = []
data_in (Write x k w) = []
data_in (Look x found) = []
data_in (Install x d ws found) = []
data_in (Detach x found) = []

-- the words of the events Publish, in order
abbrev pub published : List Event → List (List ℕ)
published [] = []
published (e ∷ es) = data_in e ++ published es

-- es is a subsequence of xs
abbrev pub Follows : {X : Type 0} → List X → List X → Type 0
Follows [] [] = Unit {0}
Follows (e ∷ es) [] = ⊥
Follows [] (x ∷ xs) = Unit {0}
Follows (e ∷ es) (x ∷ xs) = ((e ≡ x) × Follows es xs) ⊎ Follows (e ∷ es) xs

-- the pass has the place of each event of its front
abbrev pub IsComplete : PassSeen → Type 0
IsComplete p = AllOnce (length p.front) p.places
