use Rattle.std.proofs.Common.{drop, rules, ◌-◌, ◌+◌, subst, Some, None, Option, List, ℕ, take, ◌≡◌}
use Rattle.memchr.specs.Find.{IsFirstByte, is_byte, Passes}
use Rattle.query_program.proofs.Places.{first-in_part, none-in_part, nowhere-of_part, nowhere-join}
use Rattle.query_program.proofs.line_buffer.LineBuffer.first_line.Goals as goal

-- what is searched are the buffer's own places
searched-part : {xs ys : List ℕ} (n q : ℕ) (r : Option ℕ) → ys ≡ xs → IsFirstByte (is_byte 10) (take n (drop q ys)) r → IsFirstByte (is_byte 10) (take n (drop q xs)) r
searched-part n q r same first = subst (λ zs. IsFirstByte (is_byte 10) (take n (drop q zs)) r) same first

-- no newline was searched, and none stands behind
pub invariant_of-self : goal.invariant_of-self
invariant_of-self c =
    let b = c.self.inside in
    let v = c.self.invariant in (
      search rules,
      search rules,
      v.2,
      v.3,
      v.4,
      nowhere-join (is_byte 10) (Passes (is_byte 10) b.places.items) b.start b.searched b.end v.5
          (nowhere-of_part (is_byte 10) b.places.items b.searched b.end v.2 (searched-part (b.end - b.searched) b.searched None c.deref.ensures.value c.in-None.ensures)),
    )

pub returns-in-Some-clause-first : goal.returns-in-Some-clause-first
returns-in-Some-clause-first c =
    let b = c.self.inside in
    let v = c.self.invariant in
    subst (λ p. IsFirstByte (is_byte 10) p.bytes (Some (b.searched + c.in-Some.at - b.start))) c.self.view_is
    (first-in_part (is_byte 10) b.places.items b.start b.searched b.end c.in-Some.at v.0 v.1 v.2 v.5 (searched-part (b.end - b.searched) b.searched (Some c.in-Some.at) c.deref.ensures.value c.in-Some.ensures))

pub returns-in-None-clause-first : goal.returns-in-None-clause-first
returns-in-None-clause-first c =
    let b = c.self.inside in
    let v = c.self.invariant in
    subst (λ p. IsFirstByte (is_byte 10) p.bytes None) c.self.view_is
    (none-in_part (is_byte 10) b.places.items b.start b.searched b.end v.2 v.0 v.1 v.5 (searched-part (b.end - b.searched) b.searched None c.deref.ensures.value c.in-None.ensures))
