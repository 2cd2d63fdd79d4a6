use Rattle.std.proofs.Common.{ℕ, List, [], ◌∷◌, false, refl, subst}
use Rattle.dg_base.specs.declared.program.Goal.TheVariants.{Ask}
use Rattle.dg_base.specs.declared.run.Outcome.{Outcome}
use Rattle.dg_base.specs.declared.run.RunFault.{RunFault}
use Rattle.dg_meaning.specs.Engines.{game, left_told}
use Rattle.dg_meaning.specs.inside.Engines.{ForTyped}
use Rattle.dg_meaning.proofs.Engines.{as_told, for_typed}
use Rattle.dg_watch.specs.Seen.{HasSeen, HasSeenFault}
use Rattle.dg_interp.specs.inside.Engine.{StartsOn}
use Rattle.dg_interp.proofs.Turns.{has_none, entry_starts}
use Rattle.dg_interp.proofs.Whole.{if_ok_map, if_err_map}
use Rattle.dg_interp.proofs.interpreter.show_within.Goals as goal

pub returns-in-Err-clause-shows : goal.returns-in-Err-clause-shows
returns-in-Err-clause-shows g c =
    let i = g.S.Source.view c.args.source.now in
    let told = i.left in
    let P : Outcome → List ℕ → Type 0 = λ outcome typed. HasSeen g.A.Showing.watching (game c.args.program.now c.args.dice.now) typed c.args.limits.now outcome (left_told i i) (c.args.showing.now, c.args.sink.now) (c.show_lack.new.showing, c.show_lack.new.sink) in
    if_ok_map c.show_lack.result _ (λ outcome. ForTyped told (P outcome)) (λ outcome h. for_typed told (P outcome) (λ typed is. h typed (left_told i i) (as_told i i typed is))) c.show_lack.ensures.shows

pub returns-in-Err-clause-err : goal.returns-in-Err-clause-err
returns-in-Err-clause-err g c =
    let i = g.S.Source.view c.args.source.now in
    let told = i.left in
    let P : RunFault → List ℕ → Type 0 = λ fault typed. HasSeenFault g.A.Showing.watching fault (game c.args.program.now c.args.dice.now) typed c.args.limits.now i i (c.args.showing.now, c.args.sink.now) (c.show_lack.new.showing, c.show_lack.new.sink) in
    if_err_map c.show_lack.result _ (λ fault. ForTyped told (P fault)) (λ fault h. for_typed told (P fault) (λ typed is. h typed i is)) c.show_lack.ensures.err

pub new-engine-requires-clause-runnable : goal.new-engine-requires-clause-runnable
new-engine-requires-clause-runnable g c = c.programs_are_runnable.ensures c.args.program.now c.requires.sound

pub show_from-requires-clause-starts : goal.show_from-requires-clause-starts
show_from-requires-clause-starts g c =
    let program = c.args.program.now in
    let limits = c.args.limits.now in
    entry_starts program limits c.args.dice.now c.new-engine.result
    (subst (λ terms. StartsOn program (Ask program.entry terms false ∷ []) 0 limits c.args.dice.now c.new-engine.result) c.new-in-Ok.ensures
    (c.new-engine.ensures.starts 0 limits c.args.dice.now refl (has_none limits.heap limits.trail c.new-store.result c.new-refs.result.items c.new-store.ensures.means c.new-refs.ensures.items) c.in-Ok.ensures.starts))
