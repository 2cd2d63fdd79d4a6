use Rattle.std.proofs.Common.{true, refl, reverse}
use Rattle.std.specs.Prelude.{Ok, Err}
use Rattle.dg_unify.specs.Linked.{log_of, vars_of}
use Rattle.dg_unify.specs.inside.Ends.{told_in}
use Rattle.dg_unify.specs.Laws.{slots_younger}
use Rattle.dg_unify.proofs.Meets.{follows_bound, follows_full}
use Rattle.dg_arena.specs.Held.{fields_of, meaning_of}
use Rattle.dg_arena.proofs.Joining.{joins_link, joins_left}
use Rattle.dg_arena.proofs.Settling.{settled}
use Rattle.dg_arena.proofs.arena.Arena.join_known.Goals as goal

pub returns-in-Some-same_ends-clause-joined : goal.returns-in-Some-same_ends-clause-joined
returns-in-Some-same_ends-clause-joined c =
    settled (fields_of c.args.self.now) c.args.self.now.sound c.args.to c.args.from c.end_of-end.result c.end_of-value.result c.requires.to_in c.requires.from_in c.end_of-end.ensures c.end_of-value.ensures c.in-Some-same_ends.same c.in-Some-same_ends.ensures

pub link_fenced-requires-clause-may : goal.link_fenced-requires-clause-may
link_fenced-requires-clause-may c = joins_link (fields_of c.args.self.now) c.args.self.now.sound c.args.from c.end_of-end.result c.end_of-value.result c.in-Some.number c.in-Some.ensures c.end_of-value.ensures (c.if-not-is_before.ensures.before refl c.end_of-end.result c.in-Some.ensures)

pub returns-in-Ok-clause-joined : goal.returns-in-Ok-clause-joined
returns-in-Ok-clause-joined c =
    let s = c.args.self.now in
    let f = fields_of s in
    let new = meaning_of c.link_fenced.new.self in
    let end = c.end_of-end.result in
    let value = c.end_of-value.result in
    let before = c.if-not-is_before.ensures.before refl c.end_of-end.result c.in-Some.ensures in
    let may = joins_link f s.sound c.args.from end value c.in-Some.number c.in-Some.ensures c.end_of-value.ensures before in
    joins_left f s.sound c.args.to c.args.from end value c.in-Some.number c.in-Some.ensures c.end_of-end.ensures c.end_of-value.ensures before new (slots_younger s.cells.items (reverse (log_of s.links)) (vars_of s.links) s.sound.fits) (Ok true)
    (follows_bound (meaning_of s) new c.in-Some.number (told_in f value) s.sound.fits.sound may.fits c.in-Ok.ensures.made)

pub returns-in-Err-clause-joined : goal.returns-in-Err-clause-joined
returns-in-Err-clause-joined c =
    let s = c.args.self.now in
    let f = fields_of s in
    let new = meaning_of c.link_fenced.new.self in
    let end = c.end_of-end.result in
    let value = c.end_of-value.result in
    let before = c.if-not-is_before.ensures.before refl c.end_of-end.result c.in-Some.ensures in
    let may = joins_link f s.sound c.args.from end value c.in-Some.number c.in-Some.ensures c.end_of-value.ensures before in
    joins_left f s.sound c.args.to c.args.from end value c.in-Some.number c.in-Some.ensures c.end_of-end.ensures c.end_of-value.ensures before new (slots_younger s.cells.items (reverse (log_of s.links)) (vars_of s.links) s.sound.fits) (Err c.in-Err.full)
    (follows_full (meaning_of s) new c.in-Some.number (told_in f value) c.in-Err.full s.sound.fits.sound may.fits c.in-Err.ensures.made)
