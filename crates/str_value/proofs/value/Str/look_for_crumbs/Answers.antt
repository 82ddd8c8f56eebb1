use Rattle.std.proofs.Common.{sym, ap, subst, ◌∙◌, IsSome}
use Rattle.slot_table.specs.Owners.{RefSeen}
use Rattle.str_value.proofs.Crumbing.{listed, some_of}
use Rattle.str_value.proofs.value.Str.look_for_crumbs.Goals as goal

pub known_crumbs-crumbs-requires : goal.known_crumbs-crumbs-requires
known_crumbs-crumbs-requires c some =
    let x = c.look-reference.ensures in
    listed c.self.inside.object c.self.inside.storage c.in-Native.reference c.in-Native.field-1 c.self.invariant (sym c.replace.ensures.value ∙ c.in-Native.is) c.look-reference.result.0
    (ap (λ (r : RefSeen). r.known) x.reference) (some_of c.look-reference.result.1 0 (subst IsSome (ap (λ (r : RefSeen). r.side) x.reference) some) x.fits)
