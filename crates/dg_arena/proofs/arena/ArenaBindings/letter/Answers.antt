use Rattle.std.proofs.Common.{rules, arith, sym, false}
use Rattle.dg_arena.specs.Held.{fields_of}
use Rattle.dg_unify.proofs.Reading.{letter_none, letter_place, letter_some, not_word}
use Rattle.dg_arena.proofs.arena.ArenaBindings.letter.Goals as goal

pub returns-then-at-count : goal.returns-then-at-count
returns-then-at-count c = λ spelling h. sym (letter_none (fields_of c.args.self.now) c.args.self.now.sound false c.args.word spelling h c.index.result.now c.index.ensures c.in-Unknown.count c.in-Unknown.is c.args.at (omega arith))

pub letter_at-requires : goal.letter_at-requires
letter_at-requires c = omega (arith, letter_place (fields_of c.args.self.now) c.args.self.now.sound false c.args.word c.requires.0 c.requires.1 c.index.result.now c.index.ensures c.in-Unknown.count c.in-Unknown.is c.args.at (omega arith), c.deref.ensures.len)

pub returns-else-at-count : goal.returns-else-at-count
returns-else-at-count c = λ spelling h. letter_some (fields_of c.args.self.now) c.args.self.now.sound false c.args.word spelling h c.index.result.now c.index.ensures c.in-Unknown.count c.in-Unknown.is c.args.at (omega arith) c.letter_at.result (search rules)

pub returns-in_default : goal.returns-in_default
returns-in_default c = λ spelling h. absurd (not_word (fields_of c.args.self.now) c.args.self.now.sound false c.args.word spelling h c.index.result.now c.index.ensures c.in_default.not-Unknown)
