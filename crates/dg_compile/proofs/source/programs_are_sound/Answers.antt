use Rattle.dg_compile.proofs.GivenLemmas.{compiled_made}
use Rattle.dg_compile.proofs.source.programs_are_sound.Goals as goal

pub returns : goal.returns
returns c = compiled_made (record {
  given = c.trees_are_given.ensures.given;
  room = c.trees_are_given.ensures.room;
  narrow = c.trees_are_given.ensures.narrow;
  sound = c.core_is_sound.ensures;
  asks = c.core_holds_few.ensures.asks;
  heads = c.core_holds_few.ensures.heads;
  holds = c.goals_hold_few.ensures;
})
