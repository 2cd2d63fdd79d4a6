-- What holds of goals at every depth.
use Rattle.std.proofs.Common.{◌≡◌, List, [], ◌∷◌, ◌++◌, sym, subst}
use Rattle.std.specs.List.{flat_map}
use Rattle.dg_base.specs.declared.program.Goal.{Goal, Goal-F, out-Goal}
use Rattle.dg_base.specs.Goals.{goals_within, all_goals_of}
use Rattle.dg_base.proofs.NodeLemmas.{inside, within_out}

module _ (P : Goal → Type 0) where
  -- it holds of each of some goals
  abbrev pub Each : List Goal → Type 0
  Each [] = Unit {0}
  Each (x ∷ xs) = P x × Each xs

  -- it holds of goals at every depth
  abbrev pub Deep : List Goal → Type 0
  Deep gs = Each (all_goals_of gs)

  -- so it does in each of some lists
  abbrev pub DeepIn : List (List Goal) → Type 0
  DeepIn [] = Unit {0}
  DeepIn (gs ∷ lists) = Deep gs × DeepIn lists

  front : (xs ys : List Goal) → Each (xs ++ ys) → Each xs
  front [] ys h = tt
  front (x ∷ xs) ys h = (h.0, front xs ys h.1)

  back : (xs ys : List Goal) → Each (xs ++ ys) → Each ys
  back [] ys h = h
  back (x ∷ xs) ys h = back xs ys h.1

  together : (xs ys : List Goal) → Each xs → Each ys → Each (xs ++ ys)
  together [] ys h k = k
  together (x ∷ xs) ys h k = (h.0, together xs ys h.1 k)

  -- a goal with what is inside it
  within : (x : Goal) (gs : List Goal) → Deep (x ∷ gs) → Each (x ∷ inside (out-Goal x))
  within x gs h = subst Each (within_out x) (front (goals_within x) (all_goals_of gs) h)

  pub first_deep : (x : Goal) (gs : List Goal) → Deep (x ∷ gs) → P x
  first_deep x gs h = (within x gs h).0

  pub rest_deep : (x : Goal) (gs : List Goal) → Deep (x ∷ gs) → Deep gs
  rest_deep x gs h = back (goals_within x) (all_goals_of gs) h

  pub inside_deep : (x : Goal) (gs : List Goal) (layer : Goal-F Goal) → out-Goal x ≡ layer → Deep (x ∷ gs) → Each (inside layer)
  inside_deep x gs layer is h = subst (λ l. Each (inside l)) is (within x gs h).1

  pub made_deep : (x : Goal) (gs : List Goal) → P x → Each (inside (out-Goal x)) → Deep gs → Deep (x ∷ gs)
  made_deep x gs h i k = together (goals_within x) (all_goals_of gs) (subst Each (sym (within_out x)) (h, i)) k

  pub append_deep : (xs ys : List Goal) → Deep xs → Deep ys → Deep (xs ++ ys)
  append_deep [] ys h k = k
  append_deep (x ∷ xs) ys h k = together (goals_within x) (all_goals_of (xs ++ ys)) (front (goals_within x) (all_goals_of xs) h) (append_deep xs ys (back (goals_within x) (all_goals_of xs) h) k)

  pub lists_deep : (lists : List (List Goal)) → Each (flat_map all_goals_of lists) → DeepIn lists
  lists_deep [] h = tt
  lists_deep (gs ∷ lists) h = (front (all_goals_of gs) (flat_map all_goals_of lists) h, lists_deep lists (back (all_goals_of gs) (flat_map all_goals_of lists) h))

  -- the parts of a condition
  pub three_deep : (a b c : List Goal) → Each (all_goals_of a ++ all_goals_of b ++ all_goals_of c) → Deep a × Deep b × Deep c
  three_deep a b c h =
      let both = front (all_goals_of a ++ all_goals_of b) (all_goals_of c) h in
      (front (all_goals_of a) (all_goals_of b) both, back (all_goals_of a) (all_goals_of b) both, back (all_goals_of a ++ all_goals_of b) (all_goals_of c) h)
