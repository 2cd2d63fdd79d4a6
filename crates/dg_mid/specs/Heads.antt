-- Heads whose terms are lists of terms without parts, or such terms alone.
use Rattle.std.specs.Prelude.{ℕ, zero, suc, ◌*◌, ◌≡◌, ◌≤◌, List, [], ◌∷◌}
use Rattle.dg_base.specs.declared.program.Term.{Term, out-Term}
use Rattle.dg_base.specs.declared.program.Term.TheOpen as term
use Rattle.dg_base.specs.declared.program.CoreProgram.{CoreProgram}
use Rattle.dg_meaning.specs.Cells.{cells}

-- A term without parts that reads nothing of the program.
abbrev pub IsPlain : term.Term-F Term → Type 0
IsPlain (term.Pair head tail) = ⊥
IsPlain (term.Closure c) = ⊥
IsPlain other = Unit {0}

-- How many pairs a list has at most that is matched as it is read.
abbrev pub most_pairs : ℕ
most_pairs = 12

-- A pair whose head is plain (it has no parts and reads nothing of the program), and of whose tail this holds.
abbrev pub IsFlatPair : (Term → Type 0) → term.Term-F Term → Type 0
IsFlatPair Rest (term.Pair head tail) = IsPlain (out-Term head) × Rest tail
IsFlatPair Rest other = ⊥

-- A list of so many plain terms, whose end is plain.
abbrev pub IsList : ℕ → Term → Type 0
IsList zero t = IsPlain (out-Term t)
IsList (suc n) t = IsFlatPair (IsList n) (out-Term t)

-- A term is flat: a list of plain terms, not too long, or a plain term alone.
pub record Flat (t : Term) : Type 0 where
  pub pairs : ℕ
  pub few : pairs ≤ most_pairs
  pub is : IsList pairs t

-- A term is flat, and takes so many cells in each program.
pub record FlatTerm (t : Term) (n : ℕ) : Type 0 where
  pub flat : Flat t
  pub few : n ≤ 3 * most_pairs
  pub takes : (p : CoreProgram) → cells p (t ∷ []) ≡ n

-- Each of some terms is flat.
abbrev pub AreFlat : List Term → Type 0
AreFlat [] = Unit {0}
AreFlat (t ∷ ts) = Flat t × AreFlat ts

-- Terms are flat, and take so many cells in each program.
pub record FlatTerms (ts : List Term) (n : ℕ) : Type 0 where
  pub flat : AreFlat ts
  pub takes : (p : CoreProgram) → cells p ts ≡ n
