use Rattle.std.proofs.Common.{refl, reverse, true}
use Rattle.std.specs.Prelude.{Ok, Err}
use Rattle.dg_unify.specs.Linked.{log_of, vars_of}
use Rattle.dg_unify.specs.inside.Ends.{told_in}
use Rattle.dg_unify.specs.Laws.{slots_younger}
use Rattle.dg_unify.proofs.Meets.{follows_bound, follows_full}
use Rattle.dg_arena.specs.Held.{fields_of, meaning_of}
use Rattle.dg_arena.proofs.Joining.{joins_link, joins}
use Rattle.dg_arena.proofs.arena.Arena.join_unbound.Goals as goal

pub link_fenced-requires-clause-may : goal.link_fenced-requires-clause-may
link_fenced-requires-clause-may c = joins_link (fields_of c.args.self.now) c.args.self.now.sound c.args.to c.args.var c.end_of-end.result c.args.number c.requires.free c.end_of-end.ensures (c.if-not-is_before.ensures.before refl c.args.var c.requires.free)

pub returns-in-Ok-clause-joined : goal.returns-in-Ok-clause-joined
returns-in-Ok-clause-joined c =
    let s = c.args.self.now in
    let f = fields_of s in
    let new = meaning_of c.link_fenced.new.self in
    let end = c.end_of-end.result in
    let before = c.if-not-is_before.ensures.before refl c.args.var c.requires.free in
    let may = joins_link f s.sound c.args.to c.args.var end c.args.number c.requires.free c.end_of-end.ensures before in
    joins f s.sound c.args.to c.args.var end c.args.number c.requires.free c.end_of-end.ensures before new (slots_younger s.cells.items (reverse (log_of s.links)) (vars_of s.links) s.sound.fits) (Ok true)
    (follows_bound (meaning_of s) new c.args.number (told_in f end) s.sound.fits.sound may.fits c.in-Ok.ensures.made)

pub returns-in-Err-clause-joined : goal.returns-in-Err-clause-joined
returns-in-Err-clause-joined c =
    let s = c.args.self.now in
    let f = fields_of s in
    let new = meaning_of c.link_fenced.new.self in
    let end = c.end_of-end.result in
    let before = c.if-not-is_before.ensures.before refl c.args.var c.requires.free in
    let may = joins_link f s.sound c.args.to c.args.var end c.args.number c.requires.free c.end_of-end.ensures before in
    joins f s.sound c.args.to c.args.var end c.args.number c.requires.free c.end_of-end.ensures before new (slots_younger s.cells.items (reverse (log_of s.links)) (vars_of s.links) s.sound.fits) (Err c.in-Err.full)
    (follows_full (meaning_of s) new c.args.number (told_in f end) c.in-Err.full s.sound.fits.sound may.fits c.in-Err.ensures.made)
