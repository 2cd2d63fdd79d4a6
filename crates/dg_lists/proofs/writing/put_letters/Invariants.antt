use Rattle.std.proofs.Common.{ℕ, ◌-◌, List}
use Rattle.dg_unify.specs.Store.{IsUnknownAt}
use Rattle.dg_lists.proofs.WriteLemmas.{LettersPut}
use Rattle.dg_lists.proofs.writing.put_letters.Given as goal

abbrev pub invariant-letters : goal.invariant-letters
invariant-letters g l = (spelling : List ℕ) → IsUnknownAt (g.B.Bindings.meaning l.store) l.word spelling → LettersPut spelling l.fn.row l.fn.filled l.row l.at l.end

abbrev pub decreases-letters : goal.decreases-letters
decreases-letters g l = 65536 - l.at
