use Rattle.std.proofs.Common.{◌≡◌, ℕ, ◌-◌, List, length}
use Rattle.dg_unify.specs.Store.{IsUnknownAt}
use Rattle.dg_texts.proofs.PrintLemmas.{TextTo}
use Rattle.dg_texts.proofs.printing.text_into.Given as goal

abbrev pub invariant-letters : goal.invariant-letters
invariant-letters g l = record {
  text : (spelling : List ℕ) → IsUnknownAt (g.B.Bindings.meaning l.store) l.word spelling → TextTo spelling l.buffer l.at l.len;
  room : length l.buffer ≡ 800;
}

abbrev pub decreases-letters : goal.decreases-letters
decreases-letters g l = 65536 - l.at
