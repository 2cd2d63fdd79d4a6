use Rattle.dg_unify.proofs.Meets.{unbound_at}
use Rattle.dg_arena.specs.Held.{meaning_of}
use Rattle.dg_machine.proofs.terms.join_pair.Goals as goal

pub join_pair-requires-clause-var_in : goal.join_pair-requires-clause-var_in
join_pair-requires-clause-var_in c = unbound_at (meaning_of c.args.arena.now) c.args.arena.now.sound.fits.sound c.args.a c.args.var c.requires.shows
