-- The history is there exactly where neither words nor want of memory ended the run.
use Rattle.std.proofs.Common.{◌≡◌, refl, ap, Option, Result, Ok, Err, IsSome, IsErrOf, ◌↔◌, arith}
use Rattle.query_program.specs.Statuses.{status_of_end}
use Rattle.query_program.specs.declared.stop.Stop.{Stop}
use Rattle.query_program.specs.declared.stop.Stop.TheVariants.{ReadFault, WriteFault, OutOfMemory, LineTooLong, InputTooLong}

-- where the status isn't 5, memory was not wanting, and no run of lines has status 2
not_memory : (end : Result (Unit {0}) Stop) → (status_of_end end ≡ 5 → ⊥) → IsErrOf end OutOfMemory → ⊥
not_memory end not is = not (ap status_of_end is)

two-five : (end : Result (Unit {0}) Stop) → (IsErrOf end OutOfMemory → ⊥) → (status_of_end end ≡ 2 → ⊥) × (status_of_end end ≡ 5 → ⊥)
two-five (Ok x) not = ((λ e. absurd (omega (arith, e))), (λ e. absurd (omega (arith, e))))
two-five (Err ReadFault) not = ((λ e. absurd (omega (arith, e))), (λ e. absurd (omega (arith, e))))
two-five (Err WriteFault) not = ((λ e. absurd (omega (arith, e))), (λ e. absurd (omega (arith, e))))
two-five (Err OutOfMemory) not = absurd (not refl)
two-five (Err LineTooLong) not = ((λ e. absurd (omega (arith, e))), (λ e. absurd (omega (arith, e))))
two-five (Err InputTooLong) not = ((λ e. absurd (omega (arith, e))), (λ e. absurd (omega (arith, e))))

pub history-there : {A : Type 0} (end : Result (Unit {0}) Stop) (h : Option A) → (IsSome h ↔ (IsErrOf end OutOfMemory → ⊥))
    → IsSome h ↔ ((status_of_end end ≡ 2 → ⊥) × (status_of_end end ≡ 5 → ⊥))
history-there end h i = ((λ s. two-five end (i.0 s)), (λ n. i.1 (not_memory end n.1)))
