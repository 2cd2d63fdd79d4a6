use Rattle.std.proofs.Common.{◌∷◌, [], sym, ◌∙◌, subst, length, arith}
use Rattle.std.specs.List.{All}
use Rattle.dg_meaning.specs.Moves.{gives, splits, looked_up, spelled}
use Rattle.dg_meaning.specs.Words.{letters_in_word, spelled_list, each_alone}
use Rattle.dg_meaning.specs.World.{worked}
use Rattle.dg_unify.proofs.StoreLemmas.{holds_some, walked_to}
use Rattle.dg_texts.specs.Spelling.{IsSpelled}
use Rattle.dg_texts.proofs.SpellLemmas.{none_seen, some_seen, seen_small}
use Rattle.dg_arena.specs.Held.{meaning_of}
use Rattle.dg_mid.specs.Actions.{registers_of, world_of}
use Rattle.dg_mid.specs.Step.{setting, done}
use Rattle.dg_machine.specs.declared.now.Now.TheVariants.{Fails}
use Rattle.dg_machine.specs.Standing.{Stands}
use Rattle.dg_machine.proofs.Wordings.{word_letters}
use Rattle.dg_machine.proofs.memory.Memory.split_args.Goals as goal

pub arg-word-requires : goal.arg-word-requires
arg-word-requires c = let some = c.requires.args in (some.0 ∷ some.1 ∷ [], some.2, omega arith)

pub arg-into-requires : goal.arg-into-requires
arg-into-requires c = let some = c.requires.args in (some.0 ∷ some.1 ∷ [], some.2, omega arith)

pub walk-requires : goal.walk-requires
walk-requires c = let some = c.requires.args in holds_some (meaning_of c.args.self.now.arena) c.arg-word.result some.0 (c.arg-word.ensures (some.0 ∷ some.1 ∷ []) some.2)

pub spelling_of-requires-clause-shown : goal.spelling_of-requires-clause-shown
spelling_of-requires-clause-shown c = (walked_to (meaning_of c.args.self.now.arena) c.arg-word.result, c.walk.ensures)

pub spelling_of-requires-clause-words : goal.spelling_of-requires-clause-words
spelling_of-requires-clause-words c = subst (All IsSpelled) (sym c.as_slice-words.ensures) c.args.tables.now.spelled

pub returns-in-None : goal.returns-in-None
returns-in-None c code g is_of l m u v at h refs =
    let r = c.args.self.now in
    let s = meaning_of r.arena in
    let world = worked (looked_up (registers_of m) u) (world_of [] m) in
    let letters = word_letters c.as_slice-words.result.now g.program s m c.arg-word.result u (c.as_slice-words.ensures ∙ is_of.words) h.0.state_is (c.arg-word.ensures (u ∷ v ∷ []) refs) in
    let none = none_seen (letters_in_word c.as_slice-words.result.now (walked_to s c.arg-word.result)) (c.in-None.ensures.spelled (walked_to s c.arg-word.result) c.walk.ensures) in
    subst (λ o. Stands code l r Fails (done (setting g code l) (splits g o v (registers_of m) world) m)) (sym none ∙ letters) h

pub give_letters-requires-clause-into : goal.give_letters-requires-clause-into
give_letters-requires-clause-into c = let some = c.requires.args in holds_some (meaning_of c.args.self.now.arena) c.arg-into.result some.1 (c.arg-into.ensures (some.0 ∷ some.1 ∷ []) some.2)

pub give_letters-requires-clause-spelling : goal.give_letters-requires-clause-spelling
give_letters-requires-clause-spelling c =
    let w = walked_to (meaning_of c.args.self.now.arena) c.arg-word.result in
    let seen = some_seen (letters_in_word c.as_slice-words.result.now w) c.in-Some.spelling.now (c.in-Some.ensures.spelled w c.walk.ensures) in
    record { letters = seen.letters; hold = seen_small (letters_in_word c.as_slice-words.result.now w) seen.letters seen.is (c.in-Some.ensures.small w c.walk.ensures); is = seen.spelled }

pub returns-in-Some : goal.returns-in-Some
returns-in-Some c code g is_of l m u v at h refs =
    let r = c.args.self.now in
    let s = meaning_of r.arena in
    let w = walked_to s c.arg-word.result in
    let ws = c.as_slice-words.result.now in
    let world = worked (looked_up (registers_of m) u) (world_of [] m) in
    let letters = word_letters ws g.program s m c.arg-word.result u (c.as_slice-words.ensures ∙ is_of.words) h.0.state_is (c.arg-word.ensures (u ∷ v ∷ []) refs) in
    let seen = some_seen (letters_in_word ws w) c.in-Some.spelling.now (c.in-Some.ensures.spelled w c.walk.ensures) in
    let small = seen_small (letters_in_word ws w) seen.letters seen.is (c.in-Some.ensures.small w c.walk.ensures) in
    let new = c.give_letters.new.self in
    let now = c.give_letters.result in
    let made = spelled_list g.program.words (each_alone seen.letters) in
    subst (λ o. Stands code l new now (done (setting g code l) (splits g o v (registers_of m) world) m)) (sym seen.is ∙ letters)
    (subst (λ x. Stands code l new now (done (setting g code l) (gives v (spelled_list x (each_alone seen.letters)) (registers_of m) (spelled g (length seen.letters) made world)) m)) is_of.words
    (c.give_letters.ensures code seen.letters small seen.spelled g l m v (spelled g (length seen.letters) made world) at h (c.arg-into.ensures (u ∷ v ∷ []) refs)))
