-- Of the value of a name a copy was taken. m and p are the values and the pass before, n and q after.
use Rattle.std.specs.Prelude.{◌≡◌, ℕ, List, Some}
use Rattle.std.specs.FinMap as finite
use Rattle.slot_table.specs.Owners.{PassSeen}
use Rattle.slot_accounts.specs.Account.{Did}
use Rattle.str_value.specs.Meaning.{Meaning}
use Rattle.str_value.specs.Copying.{CopiedAt, copying}
use Rattle.query_session.specs.Values.{Values}

-- the name's value may know less of its slot after that
pub record CopiedIn (m : Values) (name : List ℕ) (p : PassSeen) (n : Values) (q : PassSeen) (value : Meaning) : Type 0 where
  pub before : Meaning
  pub after : Meaning
  pub found : finite.get m name ≡ Some before
  pub now : n ≡ finite.insert m name after
  pub copied : CopiedAt before.place p before q after value
  pub did : Did (copying before.place value.place) p q
  pub text : value.text ≡ before.text
  pub same : after.text ≡ before.text
