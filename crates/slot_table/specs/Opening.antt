-- Which heaps may be opened: the limits of a layout and of its literals. Read by callers.
use Rattle.std.specs.Prelude.{ℕ, ◌-◌, ◌*◌, ◌≤◌}
use Rattle.slot_model.specs.declared.layout.Layout.{Layout}
use Rattle.slot_table.specs.declared.limits.TheConstants.{LEAST_CAPACITY_WORDS, MOST_CAPACITY_WORDS, MOST_SLOTS, LEAST_CREDITS}
use Rattle.slot_table.specs.declared.limits.TheConstants.{MOST_CREDITS, MOST_WORDS, MOST_LITERALS}

-- the layouts that a heap may have
pub record LayoutOk (k : Layout) : Type 0 where
  pub capacity_least : LEAST_CAPACITY_WORDS ≤ k.capacity_words
  pub capacity_most : k.capacity_words ≤ MOST_CAPACITY_WORDS
  pub slots_most : k.slots ≤ MOST_SLOTS
  pub credits_least : LEAST_CREDITS ≤ k.credits
  pub credits_most : k.credits ≤ MOST_CREDITS
  pub words_most : k.slots * k.capacity_words ≤ MOST_WORDS

-- the layout keeps the limits, and there are not too many literals
abbrev pub IsAccepted : Layout → ℕ → Type 0
IsAccepted k count = LayoutOk k × (count ≤ MOST_LITERALS)

-- the most bytes of a literal: its row has no more words than a slot
abbrev pub most_bytes : Layout → ℕ
most_bytes k = 8 * (k.capacity_words - 1)
