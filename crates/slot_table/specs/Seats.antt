-- Inner: what the views of all seats add up to.
use Rattle.std.specs.Prelude.{ℕ, ◌+◌, ◌*◌, Option, Some, None}
use Rattle.slot_table.specs.declared.view.SeatView.{SeatView}
use Rattle.slot_table.specs.declared.view.Role.{Role}
use Rattle.slot_table.specs.declared.view.Role.TheVariants.{Share, Draft, Reference, Closing, Literal, Spent}
use Rattle.slot_table.specs.Numbers.{one, times}

abbrev pub in_option : ℕ → Option ℕ → ℕ
in_option x None = 0
in_option x (Some d) = one x d

-- the number of drafts
abbrev pub drafts : Option ℕ → ℕ
drafts None = 0
drafts (Some d) = 1

abbrev pub closes : Role → ℕ
closes Share = 0
closes Draft = 0
closes Reference = 0
closes Closing = 1
closes Literal = 0
closes Spent = 0

-- what one seat adds to the count of slot x, to its closing seats, and to where it stands as free or as a draft
abbrev pub weight_on : ℕ → SeatView → ℕ
weight_on x v = one x v.slot * v.weight

abbrev pub closing_on : ℕ → SeatView → ℕ
closing_on x v = one x v.slot * closes v.role

abbrev pub free_on : ℕ → SeatView → ℕ
free_on x v = times x v.free + in_option x v.draft

-- how often event n is one of the seat's
abbrev pub place_on : ℕ → SeatView → ℕ
place_on n v = times n v.places

abbrev pub credits_in : SeatView → ℕ
credits_in v = v.credits
