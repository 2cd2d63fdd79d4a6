use Rattle.std.proofs.Common.{ℕ, ◌-◌, ◌≤◌, List, length}
use Rattle.dg_unify.specs.Store.{IsUnknownAt}
use Rattle.dg_lists.proofs.writing.letters_of.Given as goal

abbrev pub invariant-letters : goal.invariant-letters
invariant-letters g l = (spelling : List ℕ) → IsUnknownAt (g.B.Bindings.meaning l.store) l.word spelling → l.count ≤ length spelling

abbrev pub decreases-letters : goal.decreases-letters
decreases-letters g l = 65536 - l.count
