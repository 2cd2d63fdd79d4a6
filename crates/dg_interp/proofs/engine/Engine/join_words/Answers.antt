use Rattle.std.proofs.Common.{◌≡◌, [], ◌∷◌, None, true, false, rules, refl, subst, ap, ◌∙◌}
use Rattle.dg_base.specs.declared.program.Goal.TheVariants.{JoinWords}
use Rattle.dg_meaning.specs.Words.{joined_letters, spelled_value}
use Rattle.dg_interp.specs.inside.Frames.{stretch}
use Rattle.dg_texts.specs.Printing.{value_at}
use Rattle.dg_texts.specs.Spelling.{IsJoined}
use Rattle.dg_interp.specs.inside.Engine.{store_in, FailsAt, TakesAt}
use Rattle.dg_interp.specs.inside.Wording.{words_in, MakesAt}
use Rattle.dg_interp.proofs.Takes.{store_sound, store_ready}
use Rattle.dg_interp.proofs.Stores.{both_among}
use Rattle.dg_interp.proofs.Giving.{kept_limits, written_full, branches_made}
use Rattle.dg_texts.proofs.SpellLemmas.{names_spelled, WasJoined, was_joined, none_joined}
use Rattle.dg_interp.proofs.Wordings.{join_held, join_fails, join_leads}
use Rattle.dg_interp.proofs.Branches.{full_made, back_made}
use Rattle.dg_interp.proofs.engine.Engine.join_words.Goals as goal

pub returns-in-Err-clause-full : goal.returns-in-Err-clause-full
returns-in-Err-clause-full c = written_full (JoinWords c.args.list.now c.args.into.now) (c.args.list.now ∷ c.args.into.now ∷ []) (join_held c.args.list.now c.args.into.now) c.args.self.now c.in-Err.e c.in-Err.ensures.written

pub join-requires-clause-list : goal.join-requires-clause-list
join-requires-clause-list c = (c.in-Ok.ensures.written c.args.self.now.program.now refl).left_in

pub join-requires-clause-words : goal.join-requires-clause-words
join-requires-clause-words c = names_spelled c.as_slice.result.now (rw c.as_slice.ensures c.requires.ready.sound.base.sound.words)

pub back-requires : goal.back-requires
back-requires c = record { sound = store_sound c.args.self.now c.write_both.new.store c.write_both.new.stack c.write_both.ensures.kept c.write_both.ensures.saved c.requires.ready.sound }

pub returns-then-not-join-clause-full : goal.returns-then-not-join-clause-full
returns-then-not-join-clause-full c =
    let old = c.args.self.now in
    let x = JoinWords c.args.list.now c.args.into.now in
    let e = record old { store = c.write_both.new.store; made = c.write_both.new.stack } in
    let no : c.join.result ≡ false = search rules in
    let none : joined_letters (words_in old) (value_at (store_in c.write_both.new.store) c.in-Ok.list) ≡ None = none_joined _ c.join.new.joined (subst (λ b. IsJoined (joined_letters (words_in old) (value_at (store_in c.write_both.new.store) c.in-Ok.list)) c.join.new.joined b) no (subst (λ ws. IsJoined (joined_letters ws (value_at (store_in c.write_both.new.store) c.in-Ok.list)) c.join.new.joined c.join.result) c.as_slice.ensures c.join.ensures)) in
    full_made (TakesAt x old) (FailsAt e) (store_in old.store) (store_in c.write_both.new.store) c.back.result c.write_both.ensures.kept.heap_limit c.write_both.ensures.kept.trail_limit
    (join_fails c.args.list.now c.args.into.now old c.write_both.new.store c.write_both.new.stack c.in-Ok.list c.in-Ok.into c.requires.ready c.write_both.ensures.kept c.write_both.ensures.saved (λ program e. both_among program _ _ _ _ _ _ old.refs.items c.stretch-env.result.now old.here.env (c.stretch-env.ensures ∙ ap (λ l. stretch l old.here.env) c.deref.ensures.value) (c.in-Ok.ensures.written program e)) none) c.back.ensures.full

pub returns-then-not-join-clause-done : goal.returns-then-not-join-clause-done
returns-then-not-join-clause-done c =
    let old = c.args.self.now in
    let x = JoinWords c.args.list.now c.args.into.now in
    let e = record old { store = c.write_both.new.store; made = c.write_both.new.stack } in
    let no : c.join.result ≡ false = search rules in
    let none : joined_letters (words_in old) (value_at (store_in c.write_both.new.store) c.in-Ok.list) ≡ None = none_joined _ c.join.new.joined (subst (λ b. IsJoined (joined_letters (words_in old) (value_at (store_in c.write_both.new.store) c.in-Ok.list)) c.join.new.joined b) no (subst (λ ws. IsJoined (joined_letters ws (value_at (store_in c.write_both.new.store) c.in-Ok.list)) c.join.new.joined c.join.result) c.as_slice.ensures c.join.ensures)) in
    back_made (TakesAt x old) (FailsAt e) old e c.back.new.self refl (kept_limits old c.write_both.new.store c.write_both.new.stack c.requires.ready c.write_both.ensures.kept c.write_both.ensures.saved)
    (join_fails c.args.list.now c.args.into.now old c.write_both.new.store c.write_both.new.stack c.in-Ok.list c.in-Ok.into c.requires.ready c.write_both.ensures.kept c.write_both.ensures.saved (λ program e. both_among program _ _ _ _ _ _ old.refs.items c.stretch-env.result.now old.here.env (c.stretch-env.ensures ∙ ap (λ l. stretch l old.here.env) c.deref.ensures.value) (c.in-Ok.ensures.written program e)) none) c.back.result c.back.ensures.back

pub give_spelled-requires-clause-ready : goal.give_spelled-requires-clause-ready
give_spelled-requires-clause-ready c = store_ready c.args.self.now c.write_both.new.store c.write_both.new.stack c.write_both.ensures.kept c.write_both.ensures.saved c.requires.ready

pub give_spelled-requires-clause-hold : goal.give_spelled-requires-clause-hold
give_spelled-requires-clause-hold c = (c.in-Ok.ensures.written c.args.self.now.program.now refl).right_in

pub give_spelled-requires-clause-spelling : goal.give_spelled-requires-clause-spelling
give_spelled-requires-clause-spelling c =
    let old = c.args.self.now in
    let yes : c.join.result ≡ true = search rules in
    let was : WasJoined (joined_letters (words_in old) (value_at (store_in c.write_both.new.store) c.in-Ok.list)) c.join.new.joined = was_joined _ c.join.new.joined (subst (λ b. IsJoined (joined_letters (words_in old) (value_at (store_in c.write_both.new.store) c.in-Ok.list)) c.join.new.joined b) yes (subst (λ ws. IsJoined (joined_letters ws (value_at (store_in c.write_both.new.store) c.in-Ok.list)) c.join.new.joined c.join.result) c.as_slice.ensures c.join.ensures)) in
    record { letters = was.letters; hold = was.short; is = c.spelling.ensures ∙ was.is }

pub returns-else-not-join-clause-full : goal.returns-else-not-join-clause-full
returns-else-not-join-clause-full c =
    let old = c.args.self.now in
    let x = JoinWords c.args.list.now c.args.into.now in
    let e = record old { store = c.write_both.new.store; made = c.write_both.new.stack } in
    let yes : c.join.result ≡ true = search rules in
    let was : WasJoined (joined_letters (words_in old) (value_at (store_in c.write_both.new.store) c.in-Ok.list)) c.join.new.joined = was_joined _ c.join.new.joined (subst (λ b. IsJoined (joined_letters (words_in old) (value_at (store_in c.write_both.new.store) c.in-Ok.list)) c.join.new.joined b) yes (subst (λ ws. IsJoined (joined_letters ws (value_at (store_in c.write_both.new.store) c.in-Ok.list)) c.join.new.joined c.join.result) c.as_slice.ensures c.join.ensures)) in
    full_made (TakesAt x old) (MakesAt (spelled_value (words_in old) was.letters) c.in-Ok.into e) (store_in old.store) (store_in c.write_both.new.store) c.give_spelled.result c.write_both.ensures.kept.heap_limit c.write_both.ensures.kept.trail_limit
    (join_leads c.args.list.now c.args.into.now old c.write_both.new.store c.write_both.new.stack c.in-Ok.list c.in-Ok.into c.requires.ready c.write_both.ensures.kept c.write_both.ensures.saved (λ program e. both_among program _ _ _ _ _ _ old.refs.items c.stretch-env.result.now old.here.env (c.stretch-env.ensures ∙ ap (λ l. stretch l old.here.env) c.deref.ensures.value) (c.in-Ok.ensures.written program e)) was.letters was.are) (c.give_spelled.ensures.full was.letters was.short (c.spelling.ensures ∙ was.is))

pub returns-else-not-join-clause-done : goal.returns-else-not-join-clause-done
returns-else-not-join-clause-done c =
    let old = c.args.self.now in
    let x = JoinWords c.args.list.now c.args.into.now in
    let e = record old { store = c.write_both.new.store; made = c.write_both.new.stack } in
    let yes : c.join.result ≡ true = search rules in
    let was : WasJoined (joined_letters (words_in old) (value_at (store_in c.write_both.new.store) c.in-Ok.list)) c.join.new.joined = was_joined _ c.join.new.joined (subst (λ b. IsJoined (joined_letters (words_in old) (value_at (store_in c.write_both.new.store) c.in-Ok.list)) c.join.new.joined b) yes (subst (λ ws. IsJoined (joined_letters ws (value_at (store_in c.write_both.new.store) c.in-Ok.list)) c.join.new.joined c.join.result) c.as_slice.ensures c.join.ensures)) in
    branches_made (TakesAt x old) (MakesAt (spelled_value (words_in old) was.letters) c.in-Ok.into e) old e c.give_spelled.new.self refl (kept_limits old c.write_both.new.store c.write_both.new.stack c.requires.ready c.write_both.ensures.kept c.write_both.ensures.saved)
    (join_leads c.args.list.now c.args.into.now old c.write_both.new.store c.write_both.new.stack c.in-Ok.list c.in-Ok.into c.requires.ready c.write_both.ensures.kept c.write_both.ensures.saved (λ program e. both_among program _ _ _ _ _ _ old.refs.items c.stretch-env.result.now old.here.env (c.stretch-env.ensures ∙ ap (λ l. stretch l old.here.env) c.deref.ensures.value) (c.in-Ok.ensures.written program e)) was.letters was.are) c.give_spelled.result (c.give_spelled.ensures.given was.letters was.short (c.spelling.ensures ∙ was.is))
