-- Writes of one slot, one after another.
use Rattle.std.proofs.Common.{◌≡◌, ℕ, ◌+◌, ◌∷◌, List, [], ◌++◌, refl, sym, ap, subst, ◌∙◌, arith, length-append}
use Rattle.slot_model.specs.declared.event.Event.{Event}
use Rattle.slot_model.specs.declared.event.Event.TheVariants.{Publish, Retain, Release, Sole, Write, Look, Install, Detach}
use Rattle.slot_table.specs.Owners.{RefSeen, Adds}
use Rattle.slot_accounts.specs.Account.{takes, gives, sum_of}
use Rattle.slot_accounts.proofs.Runs.{Strung-nothing, Strung-one, Strung-then}
use Rattle.slot_edits.specs.Writes.{IsWriteOf, AllWrites, Wrote}

all_writes-join : (x : ℕ) (es ds : List Event) → AllWrites x es → AllWrites x ds → AllWrites x (es ++ ds)
all_writes-join x [] ds a b = b
all_writes-join x (e ∷ es) ds a b = (a.0, all_writes-join x es ds a.1 b)

pub wrote-none : (r : RefSeen) → Wrote 0 r r
wrote-none r = record { events = []; writes = tt; number = refl; strung = Strung-nothing r; rest = refl }

-- some, and then others
pub wrote-then : (r s t : RefSeen) (n m k : ℕ) → k ≡ n + m → Wrote n r s → Wrote m s t → Wrote k r t
wrote-then r s t n m k e a b =
    let slot : s.slot ≡ r.slot = ap (λ (z : RefSeen). z.slot) a.rest in
    record {
      events = a.events ++ b.events;
      writes = all_writes-join r.slot a.events b.events a.writes (subst (λ x. AllWrites x b.events) slot b.writes);
      number = length-append a.events b.events ∙ omega (arith, a.number, b.number, e);
      strung = Strung-then a.strung b.strung;
      rest = b.rest ∙ ap (λ (z : RefSeen). record z { front = t.front; places = t.places; known = t.known }) a.rest;
    }

-- some, and then one more
pub wrote-more : (fits : List ℕ → List ℕ → Type 0) (r s t : RefSeen) (n m k word : ℕ) (known : List ℕ) → Wrote n r s → m ≡ n + 1
    → Adds fits s.heap.layout s.front s.places (Write s.slot k word) t.front t.places
    → t ≡ record s { front = t.front; places = t.places; known = known } → Wrote m r t
wrote-more fits r s t n m k word known w e adds is =
    let one : Wrote 1 s t = record {
      events = Write s.slot k word ∷ [];
      writes = (refl, tt);
      number = refl;
      strung = Strung-one fits s.heap.layout s t (Write s.slot k word) adds;
      rest = is ∙ ap (λ (l : List ℕ). record s { front = t.front; places = t.places; known = l }) (sym (ap (λ (z : RefSeen). z.known) is));
    } in
    wrote-then r s t n 1 m e w one

-- they take no slot and give none
is_write : (x : ℕ) (e : Event) → IsWriteOf x e → (takes e ≡ 0) × (gives e ≡ 0)
is_write x (Publish y ws) w = absurd w
is_write x (Retain y) w = absurd w
is_write x (Release y last) w = absurd w
is_write x (Sole y answer) w = absurd w
is_write x (Write y k v) w = (refl, refl)
is_write x (Look y found) w = absurd w
is_write x (Install y d ws found) w = absurd w
is_write x (Detach y found) w = absurd w

pub writes-free : (x : ℕ) (es : List Event) → AllWrites x es → (sum_of takes es ≡ 0) × (sum_of gives es ≡ 0)
writes-free x [] w = (refl, refl)
writes-free x (e ∷ es) w =
    let here = is_write x e w.0 in
    let rest = writes-free x es w.1 in
    (omega (arith, here.0, rest.0), omega (arith, here.1, rest.1))
