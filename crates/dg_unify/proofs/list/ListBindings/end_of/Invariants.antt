use Rattle.std.proofs.Common.{◌≡◌}
use Rattle.dg_meaning.specs.Substitutions.{walk, links}
use Rattle.dg_unify.specs.inside.Ends.{subst_in, TellsOf, told_in}
use Rattle.dg_unify.specs.Listed.{fields_of}
use Rattle.dg_unify.proofs.list.ListBindings.end_of.Given as goal

abbrev pub invariant-links : goal.invariant-links
invariant-links l = record {
  told : TellsOf (fields_of l.self) l.at;
  same : walk (subst_in (fields_of l.self)) (told_in (fields_of l.self) l.fn.at) ≡ walk (subst_in (fields_of l.self)) (told_in (fields_of l.self) l.at);
}

abbrev pub decreases-links : goal.decreases-links
decreases-links l = links (subst_in (fields_of l.self)) (told_in (fields_of l.self) l.at)
