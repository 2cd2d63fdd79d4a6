-- The list of what letters spell, each by itself; and letters in the order from the last one on.
use Rattle.std.proofs.Common.{◌≡◌, ℕ, suc, ◌+◌, ◌≤◌, List, [], ◌∷◌, ◌++◌, length, refl, ◌∙◌, subst, arith, append-nil}
use Rattle.dg_meaning.specs.Copies.{vars_in, copy_cells}
use Rattle.dg_meaning.specs.Values.{Value}
use Rattle.dg_meaning.specs.Words.{each_alone, spelled_list}
use Rattle.dg_rt.specs.Copies.{Row}
use Rattle.dg_rt.specs.Laying.{Formed}
use Rattle.dg_rt.specs.Shapes.{ArePrinted}
use Rattle.dg_rt.proofs.LineValues.{one_value}

-- ## Letters from the last one on

-- Letters in front of others, where they are given from the last one on.
abbrev pub onto : List ℕ → List ℕ → List ℕ
onto [] ys = ys
onto (x ∷ xs) ys = onto xs (x ∷ ys)

onto_onto : (xs ys zs : List ℕ) → onto (onto xs ys) zs ≡ onto ys (xs ++ zs)
onto_onto [] ys zs = refl
onto_onto (x ∷ xs) ys zs = onto_onto xs (x ∷ ys) zs

pub turned_back : (xs : List ℕ) → onto (onto xs []) [] ≡ xs
turned_back xs = onto_onto xs [] [] ∙ append-nil xs

pub onto_length : (xs ys : List ℕ) → length (onto xs ys) ≡ length xs + length ys
onto_length [] ys = omega arith
onto_length (x ∷ xs) ys = onto_length xs (x ∷ ys) ∙ omega arith

-- ## The list

abbrev pub alone : List (List ℕ) → List ℕ → Value
alone words ls = spelled_list words (each_alone ls)

pub alone_onto : (words : List (List ℕ)) (xs ys : List ℕ) → copy_cells (alone words ys) ≤ copy_cells (alone words (onto xs ys))
alone_onto words [] ys = omega arith
alone_onto words (x ∷ xs) ys = let e = alone_onto words xs (x ∷ ys) in omega arith

pub alone_behind : (words : List (List ℕ)) (xs ys : List ℕ) → copy_cells (alone words ys) ≤ copy_cells (alone words (xs ++ ys))
alone_behind words [] ys = omega arith
alone_behind words (x ∷ xs) ys = let e = alone_behind words xs ys in omega arith

module _ (captures : ℕ → ℕ) (words : List (List ℕ)) (few : length words ≤ 8192) where
  pub alone_formed : (ls : List ℕ) → ArePrinted ls → Formed captures (alone words ls)
  alone_formed [] fine = (tt, tt)
  alone_formed (c ∷ cs) fine = (tt, ((one_value captures words few (c ∷ []) (fine.0, tt)).formed, (alone_formed cs fine.1, tt)))

  pub alone_free : (ls : List ℕ) → ArePrinted ls → vars_in (alone words ls) ≡ 0
  alone_free [] fine = refl
  alone_free (c ∷ cs) fine =
      let a = (one_value captures words few (c ∷ []) (fine.0, tt)).free in
      let b = alone_free cs fine.1 in
      omega arith

pub printed_onto : (xs ys : List ℕ) → ArePrinted xs → ArePrinted ys → ArePrinted (onto xs ys)
printed_onto [] ys fine fine' = fine'
printed_onto (x ∷ xs) ys fine fine' = printed_onto xs (x ∷ ys) fine.1 (fine.0, fine')

-- ## Where they stand

-- Letters that are given from the last one on stand in a row from a place on.
abbrev pub Below : (ℕ → ℕ) → ℕ → List ℕ → Type 0
Below at j [] = Unit {0}
Below at j (c ∷ cs) = (at (j + length cs) ≡ c) × Below at j cs

pub below_row : (at : ℕ → ℕ) (j : ℕ) (xs ys : List ℕ) → Row at j (onto xs ys) → Below at j xs × Row at (j + length xs) ys
below_row at j [] ys h = let e : j ≡ j + 0 = omega arith in (tt, subst (λ (i : ℕ). Row at i ys) e h)
below_row at j (x ∷ xs) ys h =
    let r = below_row at j xs (x ∷ ys) h in
    let e : suc (j + length xs) ≡ j + length (x ∷ xs) = omega arith in
    ((r.1.0, r.0), subst (λ (i : ℕ). Row at i ys) e r.1.1)
