use Rattle.std.proofs.Common.{◌≡◌, ◌-◌, Option}
use Rattle.dg_base.specs.declared.refusal.Kind.{Kind}
use Rattle.dg_lower.specs.Starts.{Starts, starts_from}
use Rattle.dg_lower.specs.inside.Adding.{Adds}
use Rattle.dg_lower.proofs.searches.ask_all.Given as goal

abbrev pub invariant-loop-object : goal.invariant-loop-object
invariant-loop-object l = record {
  asker : l.asker ≡ l.program;
  starts : (fault : Option Kind) (new : Starts) → Adds (starts_from l.program l.kind l.pred l.object (l.count - l.object)) l.starts fault new →
      Adds (starts_from l.program l.kind l.pred 0 l.count) l.initial.starts fault new;
}
