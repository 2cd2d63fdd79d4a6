-- What stands for a value stands for it in a grown shape.
use Rattle.std.proofs.Common.{ℕ, suc, ◌+◌, List, [], ◌∷◌, ◌∙◌, subst, arith, sym}
use Rattle.dg_meaning.specs.Values.{Value, Var, Values}
use Rattle.dg_rt.specs.Shapes.{Shape, Cell, Letters, Shows, number, dict, object, nil, variable, boxed, Filled, pair_in, closure_in, word_in, AllShow, no_more, one_more}
use Rattle.dg_rt.specs.Back.{Grown}

pub grown_cell : {sh sh' : Shape} → Grown sh sh' → {k x : ℕ} → Cell sh k x → Cell sh' k x
grown_cell g {k} c = record { fixed = g.others k c.fixed; is = g.fixed k c.fixed ∙ c.is }

grown_letters : {sh sh' : Shape} → Grown sh sh' → (k : ℕ) (xs : List ℕ) → Letters sh k xs → Letters sh' k xs
grown_letters g k [] h = tt
grown_letters g k (x ∷ xs) h = (grown_cell g h.0, grown_letters g (suc k) xs h.1)

mutual
  pub grown_shows : {sh sh' : Shape} → Grown sh sh' → {x : ℕ} {v : Value} → Shows sh x v → Shows sh' x v
  grown_shows g (number n lt) = number n lt
  grown_shows g (dict n lt) = dict n lt
  grown_shows g (object n lt) = object n lt
  grown_shows g nil = nil
  grown_shows {sh} {sh'} g (variable n lt) = let le = g.vars in subst (λ (k : ℕ). Shows sh' (32768 + k) (Var n)) (g.places n lt) (variable n (omega arith))
  grown_shows g (boxed k header lt box at inside) = boxed k header lt (g.boxes k _ box) (grown_cell g at) (grown_filled g inside)

  grown_filled : {sh sh' : Shape} → Grown sh sh' → {k header : ℕ} {v : Value} → Filled sh k header v → Filled sh' k header v
  grown_filled g (pair_in k x y one two s q) = pair_in k x y (grown_cell g one) (grown_cell g two) (grown_shows g s) (grown_shows g q)
  grown_filled g (closure_in k place small told captured one all) = let e = g.told place in closure_in k place small (told ∙ sym e) (omega arith) (grown_cell g one) (grown_all g all)
  grown_filled g (word_in {letters = xs} k fine all) = word_in k fine (grown_letters g (k + 3) xs all)

  pub grown_all : {sh sh' : Shape} → Grown sh sh' → {k : ℕ} {vs : Values} → AllShow sh k vs → AllShow sh' k vs
  grown_all g (no_more k) = no_more k
  grown_all g (one_more k x at s a) = one_more k x (grown_cell g at) (grown_shows g s) (grown_all g a)
