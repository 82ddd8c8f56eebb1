-- The heap that a run opens.
use Rattle.slot_model.specs.declared.layout.Layout.{Layout}
use Rattle.query_program.specs.declared.limits.TheConstants.{CAPACITY_WORDS, SLOTS, CREDITS}

abbrev pub default_layout : Layout
default_layout = record { capacity_words = CAPACITY_WORDS; slots = SLOTS; credits = CREDITS }
