-- A copy of a name onto itself.
use Rattle.std.proofs.Common.{◌≡◌, refl, sym, ap, ◌∙◌, true, false, ◌||◌, nat_lt, List, ℕ, Option, Some, None, is_some}
use Rattle.std.proofs.lemmas.Bool.{cond-true}
use Rattle.std.specs.FinMap as finite
use Rattle.query_lines.specs.declared.reply.Reply.{Reply}
use Rattle.query_lines.specs.declared.reply.Reply.TheVariants as reply
use Rattle.query_session.specs.State.{State, text_of, is_in_use, has_room, store}
use Rattle.query_session.specs.Reply.{copy_reply}
use Rattle.query_session.proofs.States.{store-same}

abbrev answered : State → Reply × State
answered state = (reply.Copied, state)

by-text : (s : State) (name : List ℕ) (o : Option (List ℕ)) → text_of s name ≡ o → is_some o ≡ true → answered s ≡ copy_reply s name name o
by-text s name None is there = absurd (let clash : false ≡ true = there in cc)
by-text s name (Some t) is there =
    let room : has_room s name ≡ true = ap (λ o. is_some o || nat_lt (finite.len s) 256) is in
    sym (cond-true (has_room s name) (answered (store s name t)) _ room ∙ ap answered (store-same s name t is))

pub copy-itself : (s : State) (to source : List ℕ) → to ≡ source → is_in_use s source ≡ true → answered s ≡ copy_reply s to source (text_of s source)
copy-itself s to source same there =
    by-text s source (text_of s source) refl there ∙ ap (λ name. copy_reply s name source (text_of s source)) (sym same)
