-- one scalar after another: it is passed exactly where its width fits into what is left of the offset
use Rattle.text_spec.proofs.Downward.{down-length, start-down, down-greatest}
use Rattle.text_spec.proofs.laws.down_is_greatest.Goals as goal

pub returns : goal.returns
returns c = record {
  greatest = λ w t o. record { inside = down-length w t o; not_after = start-down w t o; greatest = λ k. down-greatest w t o k };
}
