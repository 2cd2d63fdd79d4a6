use Rattle.std.proofs.Common.{◌-◌, ℕ, List}
use Rattle.dg_unify.specs.Store.{IsUnknownAt}
use Rattle.dg_texts.proofs.SpellLemmas.{LettersTo}
use Rattle.dg_texts.proofs.spelling.letters_into.Given as goal

abbrev pub invariant-letters : goal.invariant-letters
invariant-letters g l = record { text : (spelling : List ℕ) → IsUnknownAt (g.B.Bindings.meaning l.store) l.word spelling → LettersTo spelling l.letters l.at }

abbrev pub decreases-letters : goal.decreases-letters
decreases-letters g l = 65536 - l.at
