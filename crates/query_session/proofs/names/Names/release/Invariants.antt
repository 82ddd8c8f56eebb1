use Rattle.std.proofs.Common.{List}
use Rattle.std.specs.FinMap as finite
use Rattle.slot_model.specs.declared.event.Event.{Event}
use Rattle.slot_accounts.specs.Account.{Did, Keeps}
use Rattle.query_session.specs.Values.{IsSound, credits_in}
use Rattle.query_session.proofs.names.Names.release.Given as goal

abbrev pub invariant-values : goal.invariant-values
invariant-values l = record {
  sound : IsSound l.self l.pass;
  did : (es : List Event) × Did es l.fn.pass l.pass;
  credits : Keeps l.fn.pass (credits_in l.fn.self) l.pass (credits_in l.self);
}

abbrev pub decreases-values : goal.decreases-values
decreases-values l = finite.len l.self
