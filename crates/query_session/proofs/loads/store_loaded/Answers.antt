use Rattle.std.proofs.Common.{ap, ◌∙◌, refl, string_bytes}
use Rattle.std.specs.FinMap as finite
use Rattle.query_session.proofs.Texts.{load-stored}
use Rattle.query_session.proofs.Accounts.{loading}
use Rattle.query_session.proofs.loads.store_loaded.Goals as goal

pub returns-clause-reply : goal.returns-clause-reply
returns-clause-reply c =
    let kept = c.counts_of-counts.ensures.kept in
    load-stored c.args.names.now c.store_value.new.names (string_bytes c.args.name) c.args.value.text c.args.value c.counts_of-counts.result c.requires.room refl
    (c.in_ok-store_value.ensures.stored ∙ ap (finite.insert c.args.names.now (string_bytes c.args.name)) kept) c.counts_of-counts.ensures.reply

pub returns-clause-stepped : goal.returns-clause-stepped
returns-clause-stepped c =
    let e = c.in_ok-store_value.ensures in
    loading c.counts_of-counts.result _ _ _ (string_bytes c.args.name) c.args.names.now c.store_value.new.names c.args.pass.now c.store_value.new.pass c.args.value
    c.counts_of-counts.new.value c.counts_of-counts.ensures.kept c.counts_of-counts.ensures.reply e.stored e.did e.credits e.sound
