use Rattle.std.proofs.Common.{◌≡◌, [], refl, ap, arith}
use Rattle.std.specs.FinMap as finite
use Rattle.slot_accounts.proofs.Doing.{Did-nothing, Did-then}
use Rattle.query_session.specs.Values.{credits_in}
use Rattle.query_session.proofs.Sums.{credits_in-remove, credits_in-empty}
use Rattle.query_session.proofs.Storing.{of-found, removed-sound}
use Rattle.query_session.proofs.Held.{len-less, one_fewer, no_more}
use Rattle.query_session.proofs.names.Names.release.Goals as goal

pub values-init : goal.values-init
values-init c = record { sound = c.requires; did = ([], Did-nothing c.args.pass.now); credits = refl }

pub values-smaller : goal.values-smaller
values-smaller c =
    let e = c.in-Some.ensures in
    let old = c.values.self in
    let l = len-less old c.take_any.new.self e.0 c.in-Some.value e.2 e.1 in
    let o = one_fewer old e.0 c.in-Some.value (finite.len old) refl e.1 in omega (arith, l, o)

pub release-requires : goal.release-requires
release-requires c =
    let e = c.in-Some.ensures in
    of-found c.values.pass c.values.self e.0 c.in-Some.value c.values.invariant.sound.heap e.1

pub values-preserved : goal.values-preserved
values-preserved c =
    let e = c.in-Some.ensures in
    let i = c.values.invariant in
    let old = c.values.self in
    let new = c.take_any.new.self in
    let r = c.release.ensures in
    record {
      sound = removed-sound old new e.0 c.values.pass c.release.new.pass i.sound r.one_heap e.2;
      did = (_, Did-then i.did.1 r.did.3);
      credits =
          let a = credits_in-remove old e.0 c.in-Some.value e.1 in
          let b : credits_in new ≡ credits_in (finite.remove old e.0) = ap credits_in e.2 in
          let x = i.credits in
          let y = r.credits in omega (arith, a, b, x, y);
    }

pub returns-clause-credits : goal.returns-clause-credits
returns-clause-credits c =
    let z = credits_in-empty c.values.self (no_more _ _ c.take_any.result c.in_default.not-Some c.take_any.ensures) in
    let i = c.values.invariant.credits in omega (arith, z, i)
