use Rattle.std.proofs.Common.{◌≡◌, [], ◌∷◌, Some, None, refl, sym, ap, ◌∙◌}
use Rattle.dg_base.specs.declared.program.Goal.TheVariants.{SplitWord}
use Rattle.dg_meaning.specs.Words.{letters_in_word, each_alone, spelled_list}
use Rattle.dg_unify.proofs.StoreLemmas.{walked_to}
use Rattle.dg_interp.specs.inside.Frames.{stretch}
use Rattle.dg_interp.specs.inside.Engine.{store_in, FailsAt, TakesAt}
use Rattle.dg_interp.specs.inside.Wording.{words_in, MakesAt}
use Rattle.dg_interp.proofs.Takes.{store_sound, store_ready}
use Rattle.dg_interp.proofs.Stores.{both_among}
use Rattle.dg_interp.proofs.Giving.{kept_limits, written_full, branches_made}
use Rattle.dg_texts.proofs.SpellLemmas.{names_spelled, none_seen, some_seen, seen_small}
use Rattle.dg_interp.proofs.Wordings.{split_held, split_fails, split_leads}
use Rattle.dg_interp.proofs.Branches.{full_made, back_made}
use Rattle.dg_interp.proofs.engine.Engine.split_word.Goals as goal

pub returns-in-Err-clause-full : goal.returns-in-Err-clause-full
returns-in-Err-clause-full c = written_full (SplitWord c.args.word.now c.args.into.now) (c.args.word.now ∷ c.args.into.now ∷ []) (split_held c.args.word.now c.args.into.now) c.args.self.now c.in-Err.e c.in-Err.ensures.written

pub walk-requires : goal.walk-requires
walk-requires c = (c.in-Ok.ensures.written c.args.self.now.program.now refl).left_in

pub spelling_of-requires-clause-shown : goal.spelling_of-requires-clause-shown
spelling_of-requires-clause-shown c = (walked_to (store_in c.write_both.new.store) c.in-Ok.word, c.walk.ensures)

pub spelling_of-requires-clause-words : goal.spelling_of-requires-clause-words
spelling_of-requires-clause-words c = names_spelled c.as_slice-words.result.now (rw c.as_slice-words.ensures c.requires.ready.sound.base.sound.words)

pub back-requires : goal.back-requires
back-requires c = record { sound = store_sound c.args.self.now c.write_both.new.store c.write_both.new.stack c.write_both.ensures.kept c.write_both.ensures.saved c.requires.ready.sound }

pub returns-in-None-clause-full : goal.returns-in-None-clause-full
returns-in-None-clause-full c =
    let old = c.args.self.now in
    let x = SplitWord c.args.word.now c.args.into.now in
    let e = record old { store = c.write_both.new.store; made = c.write_both.new.stack } in
    let none : letters_in_word (words_in old) (walked_to (store_in c.write_both.new.store) c.in-Ok.word) ≡ None = rw c.as_slice-words.ensures at (none_seen _ (c.in-None.ensures.spelled (walked_to (store_in c.write_both.new.store) c.in-Ok.word) c.walk.ensures)) in
    full_made (TakesAt x old) (FailsAt e) (store_in old.store) (store_in c.write_both.new.store) c.back.result c.write_both.ensures.kept.heap_limit c.write_both.ensures.kept.trail_limit
    (split_fails c.args.word.now c.args.into.now old c.write_both.new.store c.write_both.new.stack c.in-Ok.word c.in-Ok.into c.requires.ready c.write_both.ensures.kept c.write_both.ensures.saved (λ program e. both_among program _ _ _ _ _ _ old.refs.items c.stretch-env.result.now old.here.env (c.stretch-env.ensures ∙ ap (λ l. stretch l old.here.env) c.deref.ensures.value) (c.in-Ok.ensures.written program e)) none) c.back.ensures.full

pub returns-in-None-clause-done : goal.returns-in-None-clause-done
returns-in-None-clause-done c =
    let old = c.args.self.now in
    let x = SplitWord c.args.word.now c.args.into.now in
    let e = record old { store = c.write_both.new.store; made = c.write_both.new.stack } in
    let none : letters_in_word (words_in old) (walked_to (store_in c.write_both.new.store) c.in-Ok.word) ≡ None = rw c.as_slice-words.ensures at (none_seen _ (c.in-None.ensures.spelled (walked_to (store_in c.write_both.new.store) c.in-Ok.word) c.walk.ensures)) in
    back_made (TakesAt x old) (FailsAt e) old e c.back.new.self refl (kept_limits old c.write_both.new.store c.write_both.new.stack c.requires.ready c.write_both.ensures.kept c.write_both.ensures.saved)
    (split_fails c.args.word.now c.args.into.now old c.write_both.new.store c.write_both.new.stack c.in-Ok.word c.in-Ok.into c.requires.ready c.write_both.ensures.kept c.write_both.ensures.saved (λ program e. both_among program _ _ _ _ _ _ old.refs.items c.stretch-env.result.now old.here.env (c.stretch-env.ensures ∙ ap (λ l. stretch l old.here.env) c.deref.ensures.value) (c.in-Ok.ensures.written program e)) none) c.back.result c.back.ensures.back

pub give_letters-requires-clause-ready : goal.give_letters-requires-clause-ready
give_letters-requires-clause-ready c = store_ready c.args.self.now c.write_both.new.store c.write_both.new.stack c.write_both.ensures.kept c.write_both.ensures.saved c.requires.ready

pub give_letters-requires-clause-hold : goal.give_letters-requires-clause-hold
give_letters-requires-clause-hold c = (c.in-Ok.ensures.written c.args.self.now.program.now refl).right_in

pub give_letters-requires-clause-spelling : goal.give_letters-requires-clause-spelling
give_letters-requires-clause-spelling c =
    let w = walked_to (store_in c.write_both.new.store) c.in-Ok.word in
    let seen = some_seen _ c.in-Some.spelling.now (c.in-Some.ensures.spelled w c.walk.ensures) in
    record { letters = seen.letters; hold = seen_small _ seen.letters seen.is (c.in-Some.ensures.small w c.walk.ensures); is = seen.spelled }

pub returns-in-Some-clause-full : goal.returns-in-Some-clause-full
returns-in-Some-clause-full c =
    let old = c.args.self.now in
    let x = SplitWord c.args.word.now c.args.into.now in
    let e = record old { store = c.write_both.new.store; made = c.write_both.new.stack } in
    let w = walked_to (store_in c.write_both.new.store) c.in-Ok.word in
    let seen = some_seen _ c.in-Some.spelling.now (c.in-Some.ensures.spelled w c.walk.ensures) in
    let some : letters_in_word (words_in old) w ≡ Some seen.letters = ap (λ ws. letters_in_word ws w) (sym c.as_slice-words.ensures) ∙ seen.is in
    full_made (TakesAt x old) (MakesAt (spelled_list (words_in old) (each_alone seen.letters)) c.in-Ok.into e) (store_in old.store) (store_in c.write_both.new.store) c.give_letters.result c.write_both.ensures.kept.heap_limit c.write_both.ensures.kept.trail_limit
    (split_leads c.args.word.now c.args.into.now old c.write_both.new.store c.write_both.new.stack c.in-Ok.word c.in-Ok.into c.requires.ready c.write_both.ensures.kept c.write_both.ensures.saved (λ program e. both_among program _ _ _ _ _ _ old.refs.items c.stretch-env.result.now old.here.env (c.stretch-env.ensures ∙ ap (λ l. stretch l old.here.env) c.deref.ensures.value) (c.in-Ok.ensures.written program e)) seen.letters some)
    (c.give_letters.ensures.full seen.letters (seen_small _ seen.letters seen.is (c.in-Some.ensures.small w c.walk.ensures)) seen.spelled)

pub returns-in-Some-clause-done : goal.returns-in-Some-clause-done
returns-in-Some-clause-done c =
    let old = c.args.self.now in
    let x = SplitWord c.args.word.now c.args.into.now in
    let e = record old { store = c.write_both.new.store; made = c.write_both.new.stack } in
    let w = walked_to (store_in c.write_both.new.store) c.in-Ok.word in
    let seen = some_seen _ c.in-Some.spelling.now (c.in-Some.ensures.spelled w c.walk.ensures) in
    let some : letters_in_word (words_in old) w ≡ Some seen.letters = ap (λ ws. letters_in_word ws w) (sym c.as_slice-words.ensures) ∙ seen.is in
    branches_made (TakesAt x old) (MakesAt (spelled_list (words_in old) (each_alone seen.letters)) c.in-Ok.into e) old e c.give_letters.new.self refl (kept_limits old c.write_both.new.store c.write_both.new.stack c.requires.ready c.write_both.ensures.kept c.write_both.ensures.saved)
    (split_leads c.args.word.now c.args.into.now old c.write_both.new.store c.write_both.new.stack c.in-Ok.word c.in-Ok.into c.requires.ready c.write_both.ensures.kept c.write_both.ensures.saved (λ program e. both_among program _ _ _ _ _ _ old.refs.items c.stretch-env.result.now old.here.env (c.stretch-env.ensures ∙ ap (λ l. stretch l old.here.env) c.deref.ensures.value) (c.in-Ok.ensures.written program e)) seen.letters some) c.give_letters.result
    (c.give_letters.ensures.given seen.letters (seen_small _ seen.letters seen.is (c.in-Some.ensures.small w c.walk.ensures)) seen.spelled)
