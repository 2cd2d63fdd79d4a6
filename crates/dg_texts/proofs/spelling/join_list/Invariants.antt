use Rattle.dg_meaning.specs.Unify.{size}
use Rattle.dg_unify.specs.Store.{Holds}
use Rattle.dg_texts.specs.Printing.{value_at}
use Rattle.dg_texts.proofs.SpellLemmas.{Joining}
use Rattle.dg_texts.proofs.spelling.join_list.Given as goal

abbrev pub invariant-words : goal.invariant-words
invariant-words g l = record {
  rest : Holds (g.B.Bindings.meaning l.store) l.rest;
  joining : Joining l.words (value_at (g.B.Bindings.meaning l.store) l.fn.list) (value_at (g.B.Bindings.meaning l.store) l.rest) l.joined;
}

abbrev pub decreases-words : goal.decreases-words
decreases-words g l = size (value_at (g.B.Bindings.meaning l.store) l.rest)
