use Rattle.std.proofs.Common.{ℕ, ◌-◌, List}
use Rattle.dg_unify.specs.Store.{IsUnknownAt}
use Rattle.dg_unify.proofs.Tops.{SameTo}
use Rattle.dg_unify.proofs.unifying.same_letters.Given as goal

abbrev pub invariant-letters : goal.invariant-letters
invariant-letters g l = record {
  same : (xs ys : List ℕ) → IsUnknownAt (g.B.Bindings.meaning l.store) l.a xs → IsUnknownAt (g.B.Bindings.meaning l.store) l.b ys → SameTo l.at xs ys;
}

abbrev pub decreases-letters : goal.decreases-letters
decreases-letters g l = 65536 - l.at
