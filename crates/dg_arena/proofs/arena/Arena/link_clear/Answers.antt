use Rattle.std.proofs.Common.{sym, ◌∙◌, Some, None}
use Rattle.std.specs.Prelude.{eqb}
use Rattle.std.proofs.lemmas.Bool.{eqb-false, not-true}
use Rattle.dg_meaning.specs.Values.{Var}
use Rattle.dg_unify.proofs.Reading.{leads}
use Rattle.dg_unify.proofs.StoreLemmas.{holds_some}
use Rattle.dg_arena.specs.Held.{fields_of, meaning_of}
use Rattle.dg_arena.proofs.Joining.{other_absent, lead_absent}
use Rattle.dg_arena.proofs.arena.Arena.link_clear.Goals as goal

pub part_clear-requires : goal.part_clear-requires
part_clear-requires c =
    let s = c.args.self.now in
    (leads (fields_of s) s.sound c.requires.some.0 (holds_some (meaning_of s) c.requires.some.0 (Var c.args.other) c.requires.some.1) c.args.other c.requires.some.1 (Some c.in-Some.next) (sym c.in-Some.is ∙ c.to.ensures)).told

pub returns-in-None : goal.returns-in-None
returns-in-None c = λ at value yes.
    let s = c.args.self.now in
    other_absent (fields_of s) s.sound at c.args.other c.args.number value
    (leads (fields_of s) s.sound at (holds_some (meaning_of s) at (Var c.args.other) value) c.args.other value None (sym c.in-None.is ∙ c.to.ensures)) (eqb-false c.args.other c.args.number (not-true (eqb c.args.other c.args.number) yes))

pub returns-in-Some : goal.returns-in-Some
returns-in-Some c = λ at value yes.
    let s = c.args.self.now in
    lead_absent (fields_of s) s.sound at c.in-Some.next
    (leads (fields_of s) s.sound at (holds_some (meaning_of s) at (Var c.args.other) value) c.args.other value (Some c.in-Some.next) (sym c.in-Some.is ∙ c.to.ensures)) c.args.number (c.part_clear.ensures yes)
