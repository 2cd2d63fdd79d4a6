use Rattle.std.proofs.Common.{refl}
use Rattle.dg_unify.specs.inside.Ends.{told_in}
use Rattle.dg_unify.proofs.Meets.{follows_bound, follows_full}
use Rattle.dg_arena.specs.Held.{fields_of, meaning_of}
use Rattle.dg_arena.proofs.Joining.{free_link}
use Rattle.dg_arena.proofs.arena.Arena.point.Goals as goal

pub link-requires : goal.link-requires
link-requires c =
    free_link (fields_of c.args.self.now) c.args.self.now.sound c.requires.free.0 c.args.to c.args.number c.requires.free.1 c.requires.told c.requires.end (c.if-not-list_clear.ensures refl)

pub returns-in-Ok-clause-points : goal.returns-in-Ok-clause-points
returns-in-Ok-clause-points c =
    let s = c.args.self.now in
    let may = free_link (fields_of s) s.sound c.requires.free.0 c.args.to c.args.number c.requires.free.1 c.requires.told c.requires.end (c.if-not-list_clear.ensures refl) in
    record {
      node = c.if-not-is_node.ensures refl;
      absent = c.if-not-list_clear.ensures refl;
      turn = follows_bound (meaning_of s) (meaning_of c.link.new.self) c.args.number (told_in (fields_of s) c.args.to) s.sound.fits.sound may.fits c.in-Ok.ensures.made;
    }

pub returns-in-Err-clause-points : goal.returns-in-Err-clause-points
returns-in-Err-clause-points c =
    let s = c.args.self.now in
    let may = free_link (fields_of s) s.sound c.requires.free.0 c.args.to c.args.number c.requires.free.1 c.requires.told c.requires.end (c.if-not-list_clear.ensures refl) in
    record {
      node = c.if-not-is_node.ensures refl;
      absent = c.if-not-list_clear.ensures refl;
      turn = follows_full (meaning_of s) (meaning_of c.link.new.self) c.args.number (told_in (fields_of s) c.args.to) c.in-Err.full s.sound.fits.sound may.fits c.in-Err.ensures.made;
    }
