-- What is left while items are looked at: of each predicate the rules that stand in the items left, and what judges them. The proofs alone rest on it.
use Rattle.std.specs.Prelude.{◌≡◌, ◌&&◌, ℕ, zero, suc, List, [], ◌∷◌, ◌++◌, Bool, true, false, not, Option, Some, None, drop, map, position, take, if◌then◌else◌}
use Rattle.std.specs.Borrow.{Bor}
use Rattle.std.specs.Str.{bytes_eq}
use Rattle.dg_base.specs.Tree.{Said, Item}
use Rattle.dg_base.specs.declared.program.Rule.{Rule}
use Rattle.dg_meaning.specs.Quiet.{have_quiet_bodies}
use Rattle.dg_core.specs.Core.{Before, behind_item, rules_of_item, rules_from}
use Rattle.dg_core.specs.Goals.{Scope}
use Rattle.dg_core.specs.Places.{is_among}
use Rattle.dg_lower.specs.Lowered.{Sight, is_bad_item, first_bad}

-- Rules that are lent.
abbrev pub rules_view : List (Bor (List Rule)) → List (List Rule)
rules_view rows = map (λ (rules : Bor (List Rule)). rules.now) rows

-- The rules of each predicate in an item and those behind it, and in these items.
abbrev pub rules_at : Scope → Before → Said → List Item → List (List Rule)
rules_at around n said is = map (λ name. rules_of_item around n name said ++ rules_from around (behind_item n said) name is) around.names.preds

abbrev pub rules_left : Scope → Before → List Item → List (List Rule)
rules_left around n is = map (λ name. rules_from around n name is) around.names.preds

-- The next rule of the predicate of this number, as a list of one.
abbrev pub next_at : ℕ → List (List Rule) → List Rule
next_at k [] = []
next_at zero (rules ∷ rows) = take 1 rules
next_at (suc k) (rules ∷ rows) = next_at k rows

-- The rules that are left behind it.
abbrev pub taken_at : ℕ → List (List Rule) → List (List Rule)
taken_at k [] = []
taken_at zero (rules ∷ rows) = drop 1 rules ∷ rows
taken_at (suc k) (rules ∷ rows) = rules ∷ taken_at k rows

-- The same for a predicate that may not be there.
abbrev pub next_of : Option ℕ → List (List Rule) → List Rule
next_of None rows = []
next_of (Some k) rows = next_at k rows

abbrev pub taken_of : Option ℕ → List (List Rule) → List (List Rule)
taken_of None rows = rows
taken_of (Some k) rows = taken_at k rows

-- A rule of the predicate of this name was judged, which is the next of its rules: whether it gives no initial value, though it should.
pub record IsJudged (s : Sight) (name : List ℕ) (old : List (List Rule)) (is : Bool) (new : List (List Rule)) : Type 0 where
  pub bad : is ≡ (if is_among name s.declared then true
      else is_among name s.placed && not (have_quiet_bodies s.quiet (next_of (position (bytes_eq name) s.around.names.preds) old)))
  pub left : is ≡ false → new ≡ taken_of (position (bytes_eq name) s.around.names.preds) old

-- An item was looked at, these names being declared before it.
pub record IsLookedAt (s : Sight) (said : Said) (declared : List (List ℕ)) (old : List (List Rule)) (is : Bool) (new : List (List Rule)) : Type 0 where
  pub bad : (n : Before) (others : List Item) → old ≡ rules_at s.around n said others → is ≡ is_bad_item s n declared said
  pub left : (n : Before) (others : List Item) → old ≡ rules_at s.around n said others → is ≡ false → new ≡ rules_left s.around (behind_item n said) others

-- These items are left, and the first bad one of them is this.
pub record Stands (s : Sight) (declared : List (List ℕ)) (rows : List (List Rule)) (is : List Item) (line : Option ℕ) : Type 0 where
  pub before : Before
  pub left : rows ≡ rules_left s.around before is
  pub first : first_bad s before declared is ≡ line
