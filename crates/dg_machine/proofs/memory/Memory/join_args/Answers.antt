use Rattle.std.proofs.Common.{◌∷◌, [], sym, ◌∙◌, subst, length, arith}
use Rattle.std.specs.List.{All}
use Rattle.dg_meaning.specs.Moves.{gives, joins, whole_looks, spelled}
use Rattle.dg_meaning.specs.Words.{joined_letters, spelled_value}
use Rattle.dg_meaning.specs.World.{worked}
use Rattle.dg_unify.proofs.StoreLemmas.{holds_some}
use Rattle.dg_texts.specs.Printing.{value_at}
use Rattle.dg_texts.specs.Spelling.{IsSpelled, IsJoined}
use Rattle.dg_texts.proofs.SpellLemmas.{was_joined, none_joined}
use Rattle.dg_arena.specs.Held.{meaning_of}
use Rattle.dg_mid.specs.Actions.{registers_of, world_of}
use Rattle.dg_mid.specs.Step.{setting, done}
use Rattle.dg_machine.specs.declared.now.Now.TheVariants.{Fails}
use Rattle.dg_machine.specs.Standing.{Stands}
use Rattle.dg_machine.proofs.Wordings.{list_letters}
use Rattle.dg_machine.proofs.memory.Memory.join_args.Goals as goal

pub arg-list-requires : goal.arg-list-requires
arg-list-requires c = let some = c.requires.args in (some.0 ∷ some.1 ∷ [], some.2, omega arith)

pub arg-into-requires : goal.arg-into-requires
arg-into-requires c = let some = c.requires.args in (some.0 ∷ some.1 ∷ [], some.2, omega arith)

pub join-requires-clause-list : goal.join-requires-clause-list
join-requires-clause-list c = let some = c.requires.args in holds_some (meaning_of c.args.self.now.arena) c.arg-list.result some.0 (c.arg-list.ensures (some.0 ∷ some.1 ∷ []) some.2)

pub join-requires-clause-words : goal.join-requires-clause-words
join-requires-clause-words c = subst (All IsSpelled) (sym c.as_slice.ensures) c.args.tables.now.spelled

pub returns-then-not-join : goal.returns-then-not-join
returns-then-not-join c code g is_of l m u v at h refs =
    let r = c.args.self.now in
    let s = meaning_of r.arena in
    let o = joined_letters c.as_slice.result.now (value_at s c.arg-list.result) in
    let world = worked (whole_looks (registers_of m) u) (world_of [] m) in
    let letters = list_letters c.as_slice.result.now g.program s m c.arg-list.result u (c.as_slice.ensures ∙ is_of.words) h.0.state_is (c.arg-list.ensures (u ∷ v ∷ []) refs) in
    let none = none_joined o c.join.new.joined (subst (IsJoined o c.join.new.joined) c.if-not-join.true c.join.ensures) in
    subst (λ x. Stands code l r Fails (done (setting g code l) (joins g x v (registers_of m) world) m)) (sym none ∙ letters) h

pub give_spelled-requires-clause-into : goal.give_spelled-requires-clause-into
give_spelled-requires-clause-into c = let some = c.requires.args in holds_some (meaning_of c.args.self.now.arena) c.arg-into.result some.1 (c.arg-into.ensures (some.0 ∷ some.1 ∷ []) some.2)

pub give_spelled-requires-clause-spelling : goal.give_spelled-requires-clause-spelling
give_spelled-requires-clause-spelling c =
    let o = joined_letters c.as_slice.result.now (value_at (meaning_of c.args.self.now.arena) c.arg-list.result) in
    let was = was_joined o c.join.new.joined (subst (IsJoined o c.join.new.joined) c.if-not-join.false c.join.ensures) in
    record { letters = was.letters; hold = was.short; is = c.spelling.ensures ∙ was.is }

pub returns : goal.returns
returns c code g is_of l m u v at h refs =
    let r = c.args.self.now in
    let s = meaning_of r.arena in
    let o = joined_letters c.as_slice.result.now (value_at s c.arg-list.result) in
    let world = worked (whole_looks (registers_of m) u) (world_of [] m) in
    let letters = list_letters c.as_slice.result.now g.program s m c.arg-list.result u (c.as_slice.ensures ∙ is_of.words) h.0.state_is (c.arg-list.ensures (u ∷ v ∷ []) refs) in
    let was = was_joined o c.join.new.joined (subst (IsJoined o c.join.new.joined) c.if-not-join.false c.join.ensures) in
    let new = c.give_spelled.new.self in
    let now = c.give_spelled.result in
    let made = spelled_value g.program.words was.letters in
    subst (λ x. Stands code l new now (done (setting g code l) (joins g x v (registers_of m) world) m)) (sym was.are ∙ letters)
    (subst (λ x. Stands code l new now (done (setting g code l) (gives v (spelled_value x was.letters) (registers_of m) (spelled g (length was.letters) made world)) m)) is_of.words
    (c.give_spelled.ensures code was.letters was.short (c.spelling.ensures ∙ was.is) g l m v (spelled g (length was.letters) made world) at h (c.arg-into.ensures (u ∷ v ∷ []) refs)))
