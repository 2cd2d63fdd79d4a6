-- What comes of a copy that is made with a stack of what is left. The proofs alone rest on it.
use Rattle.std.specs.Prelude.{List, [], ◌∷◌}
use Rattle.dg_base.specs.declared.program.Term.{Term}
use Rattle.dg_base.specs.declared.program.Term.TheVariants as term
use Rattle.dg_mid.specs.declared.terms.CopyWork.{CopyWork}
use Rattle.dg_mid.specs.declared.terms.CopyWork.TheVariants as work

-- The last two terms as a pair.
abbrev pub paired : List Term → List Term
paired [] = []
paired (tail ∷ []) = []
paired (tail ∷ first ∷ ts) = term.Pair first tail ∷ ts

-- The terms behind one part of what is left, the last first.
abbrev pub behind_work : CopyWork → List Term → List Term
behind_work (work.Term t) ts = t.now ∷ ts
behind_work work.Pair ts = paired ts

-- The terms behind all that is left, the last of it first.
abbrev pub behind_all : List CopyWork → List Term → List Term
behind_all [] ts = ts
behind_all (w ∷ ws) ts = behind_all ws (behind_work w ts)

-- The last term, and the empty list where there is none.
abbrev pub last_term : List Term → Term
last_term [] = term.Nil
last_term (t ∷ ts) = t
