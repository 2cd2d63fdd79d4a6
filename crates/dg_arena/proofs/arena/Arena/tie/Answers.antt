use Rattle.std.proofs.Common.{true, reverse}
use Rattle.std.specs.Prelude.{Ok, Err}
use Rattle.dg_unify.specs.Linked.{log_of, vars_of}
use Rattle.dg_unify.specs.inside.Ends.{told_in}
use Rattle.dg_unify.specs.Laws.{slots_younger}
use Rattle.dg_unify.proofs.Meets.{follows_bound, follows_full}
use Rattle.dg_arena.specs.Held.{fields_of, meaning_of}
use Rattle.dg_arena.proofs.Joining.{tie_link, tie_top, tied_left, tied_right}
use Rattle.dg_arena.proofs.arena.Arena.tie.Goals as goal

pub link_below-requires-clause-may : goal.link_below-requires-clause-may
link_below-requires-clause-may c =
    tie_link (fields_of c.args.self.now) c.args.self.now.sound c.args.var c.args.to c.args.number c.args.other c.requires.var_free c.requires.to_free c.requires.older

pub link_below-requires-clause-below : goal.link_below-requires-clause-below
link_below-requires-clause-below c =
    tie_top (fields_of c.args.self.now) c.args.self.now.sound c.args.var c.args.to c.args.number c.args.other c.requires.var_free c.requires.to_free c.requires.older

pub returns-in-Ok-clause-left : goal.returns-in-Ok-clause-left
returns-in-Ok-clause-left c = λ a b ea eb.
    let s = c.args.self.now in
    let f = fields_of s in
    let new = meaning_of c.link_below.new.self in
    let may = tie_link f s.sound c.args.var c.args.to c.args.number c.args.other c.requires.var_free c.requires.to_free c.requires.older in
    tied_left f s.sound c.args.var c.args.to c.args.number c.args.other c.requires.var_free c.requires.to_free c.requires.older new (slots_younger s.cells.items (reverse (log_of s.links)) (vars_of s.links) s.sound.fits) (Ok true)
    (follows_bound (meaning_of s) new c.args.number (told_in f c.args.to) s.sound.fits.sound may.fits c.in-Ok.ensures.made) a b ea eb

pub returns-in-Ok-clause-right : goal.returns-in-Ok-clause-right
returns-in-Ok-clause-right c = λ a b ea eb.
    let s = c.args.self.now in
    let f = fields_of s in
    let new = meaning_of c.link_below.new.self in
    let may = tie_link f s.sound c.args.var c.args.to c.args.number c.args.other c.requires.var_free c.requires.to_free c.requires.older in
    tied_right f s.sound c.args.var c.args.to c.args.number c.args.other c.requires.var_free c.requires.to_free c.requires.older new (slots_younger s.cells.items (reverse (log_of s.links)) (vars_of s.links) s.sound.fits) (Ok true)
    (follows_bound (meaning_of s) new c.args.number (told_in f c.args.to) s.sound.fits.sound may.fits c.in-Ok.ensures.made) a b ea eb

pub returns-in-Err-clause-left : goal.returns-in-Err-clause-left
returns-in-Err-clause-left c = λ a b ea eb.
    let s = c.args.self.now in
    let f = fields_of s in
    let new = meaning_of c.link_below.new.self in
    let may = tie_link f s.sound c.args.var c.args.to c.args.number c.args.other c.requires.var_free c.requires.to_free c.requires.older in
    tied_left f s.sound c.args.var c.args.to c.args.number c.args.other c.requires.var_free c.requires.to_free c.requires.older new (slots_younger s.cells.items (reverse (log_of s.links)) (vars_of s.links) s.sound.fits) (Err c.in-Err.full)
    (follows_full (meaning_of s) new c.args.number (told_in f c.args.to) c.in-Err.full s.sound.fits.sound may.fits c.in-Err.ensures.made) a b ea eb

pub returns-in-Err-clause-right : goal.returns-in-Err-clause-right
returns-in-Err-clause-right c = λ a b ea eb.
    let s = c.args.self.now in
    let f = fields_of s in
    let new = meaning_of c.link_below.new.self in
    let may = tie_link f s.sound c.args.var c.args.to c.args.number c.args.other c.requires.var_free c.requires.to_free c.requires.older in
    tied_right f s.sound c.args.var c.args.to c.args.number c.args.other c.requires.var_free c.requires.to_free c.requires.older new (slots_younger s.cells.items (reverse (log_of s.links)) (vars_of s.links) s.sound.fits) (Err c.in-Err.full)
    (follows_full (meaning_of s) new c.args.number (told_in f c.args.to) c.in-Err.full s.sound.fits.sound may.fits c.in-Err.ensures.made) a b ea eb
