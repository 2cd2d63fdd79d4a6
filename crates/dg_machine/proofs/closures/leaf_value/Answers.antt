use Rattle.std.proofs.Common.{sym, subst}
use Rattle.std.specs.Prelude.{MatchResult}
use Rattle.dg_meaning.specs.Values.{value_of}
use Rattle.dg_unify.specs.Store.{Made}
use Rattle.dg_arena.specs.Held.{meaning_of}
use Rattle.dg_machine.specs.inside.Writing.{cells_of, Overflows}
use Rattle.dg_machine.proofs.TableLemmas.{leaf_plain}
use Rattle.dg_machine.proofs.WriteSteps.{plain_made}
use Rattle.dg_machine.proofs.closures.leaf_value.Goals as goal

pub returns-in-Closure-clause-made : goal.returns-in-Closure-clause-made
returns-in-Closure-clause-made c p vs is at =
    let old = meaning_of c.args.arena.now in
    let new = meaning_of c.closure_value.new.arena in
    subst (λ x. MatchResult c.closure_value.result (λ r. Made (cells_of p x) old new r (value_of p vs x)) (λ _. Overflows (cells_of p x) old)) (sym c.in-Closure.is) (c.closure_value.ensures.made p vs is at)

pub plain_value-requires : goal.plain_value-requires
plain_value-requires c = record { plain = leaf_plain c.args.term.now c.requires.leaf c.in_default.not-Closure; row = c.requires.row }

pub returns-in_default-clause-made : goal.returns-in_default-clause-made
returns-in_default-clause-made c p vs is at =
    let plain = leaf_plain c.args.term.now c.requires.leaf c.in_default.not-Closure in
    plain_made p c.args.term.now (meaning_of c.args.arena.now) (meaning_of c.plain_value.new.arena) c.plain_value.result (value_of p vs c.args.term.now) plain c.args.arena.now.sound.heap_fits c.plain_value.ensures.stays.state (c.plain_value.ensures.value p vs at)
