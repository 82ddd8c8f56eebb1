-- What contracts see of a session.
use Rattle.std.specs.Prelude.{ℕ, Bool, refl}
use Rattle.std.specs.Coded.{Coded, code_by, coded×, coded_ℕ, coded_bool, coded_list}
use Rattle.std.specs.FinMap as finite
use Rattle.slot_table.specs.Owners.{PassSeen}
use Rattle.slot_table.specs.contracts.pass.Pass.{the_row as pass_row}
use Rattle.std.specs.Borrow.{u8 as byte}
use Rattle.str_value.specs.contracts.value.Str.{the_row}
use Rattle.query_session.specs.Codes.{no_lifetime}
use Rattle.query_session.specs.Values.{Values}

pub record Shown : Type 0 where
  -- the value of each name
  pub values : Values
  -- how many workers do the jobs of a batch
  pub workers : ℕ
  -- whether a step found no memory
  pub failed : Bool
  -- its pass
  pub pass : PassSeen

abbrev pub Parts : Type 0
Parts = Values × (ℕ × (Bool × PassSeen))

abbrev pub parts_of : Shown → Parts
parts_of s = (s.values, (s.workers, (s.failed, s.pass)))

abbrev pub of_parts : Parts → Shown
of_parts p = record { values = p.0; workers = p.1.0; failed = p.1.1.0; pass = p.1.1.1 }

abbrev pub shown_code : Coded Shown
shown_code =
    code_by Parts
    (coded× (finite.code (coded_list coded_ℕ) (the_row no_lifetime).coded) (coded× coded_ℕ (coded× coded_bool (pass_row no_lifetime byte (record { fits = λ words side. ⊥ })).coded)))
    parts_of of_parts (λ _. refl)
