use Rattle.std.proofs.Common.{true}
use Rattle.std.proofs.lemmas.Bool.{not-false}
use Rattle.std.specs.Prelude.{Ok, Err}
use Rattle.dg_unify.specs.inside.Ends.{told_in}
use Rattle.dg_unify.proofs.Meets.{follows_bound, follows_full}
use Rattle.dg_arena.specs.Held.{fields_of, meaning_of}
use Rattle.dg_arena.proofs.Joining.{pair_link, pair_joins}
use Rattle.dg_arena.proofs.arena.Arena.join_pair.Goals as goal

pub link_below-requires-clause-may : goal.link_below-requires-clause-may
link_below-requires-clause-may c =
    pair_link (fields_of c.args.self.now) c.args.self.now.sound c.args.var c.args.whole c.args.head c.args.tail c.in-Var.number c.index.result.now c.index.ensures c.in-Var.is c.requires.var_in c.requires.head_in c.requires.tail_in c.requires.whole_in
    (c.glance-first.ensures.clear (not-false c.glance-first.result.clear c.if-not-first.false)) (c.glance-second.ensures.clear (not-false c.glance-second.result.clear c.if-not-second.false))

pub returns-in-Ok-clause-joined : goal.returns-in-Ok-clause-joined
returns-in-Ok-clause-joined c =
    let s = c.args.self.now in
    let f = fields_of s in
    let new = meaning_of c.link_below.new.self in
    let may = pair_link f s.sound c.args.var c.args.whole c.args.head c.args.tail c.in-Var.number c.index.result.now c.index.ensures c.in-Var.is c.requires.var_in c.requires.head_in c.requires.tail_in c.requires.whole_in (c.glance-first.ensures.clear (not-false c.glance-first.result.clear c.if-not-first.false)) (c.glance-second.ensures.clear (not-false c.glance-second.result.clear c.if-not-second.false)) in
    pair_joins f s.sound c.args.var c.args.whole c.args.head c.args.tail c.in-Var.number c.index.result.now c.index.ensures c.in-Var.is c.requires.var_in c.requires.head_in c.requires.tail_in c.requires.whole_in (c.glance-first.ensures.clear (not-false c.glance-first.result.clear c.if-not-first.false)) (c.glance-second.ensures.clear (not-false c.glance-second.result.clear c.if-not-second.false)) new (Ok true)
    (follows_bound (meaning_of s) new c.in-Var.number (told_in f c.args.whole) s.sound.fits.sound may.fits c.in-Ok.ensures.made)

pub returns-in-Err-clause-joined : goal.returns-in-Err-clause-joined
returns-in-Err-clause-joined c =
    let s = c.args.self.now in
    let f = fields_of s in
    let new = meaning_of c.link_below.new.self in
    let may = pair_link f s.sound c.args.var c.args.whole c.args.head c.args.tail c.in-Var.number c.index.result.now c.index.ensures c.in-Var.is c.requires.var_in c.requires.head_in c.requires.tail_in c.requires.whole_in (c.glance-first.ensures.clear (not-false c.glance-first.result.clear c.if-not-first.false)) (c.glance-second.ensures.clear (not-false c.glance-second.result.clear c.if-not-second.false)) in
    pair_joins f s.sound c.args.var c.args.whole c.args.head c.args.tail c.in-Var.number c.index.result.now c.index.ensures c.in-Var.is c.requires.var_in c.requires.head_in c.requires.tail_in c.requires.whole_in (c.glance-first.ensures.clear (not-false c.glance-first.result.clear c.if-not-first.false)) (c.glance-second.ensures.clear (not-false c.glance-second.result.clear c.if-not-second.false)) new (Err c.in-Err.full)
    (follows_full (meaning_of s) new c.in-Var.number (told_in f c.args.whole) c.in-Err.full s.sound.fits.sound may.fits c.in-Err.ensures.made)
