-- Arguments and what stands around a place.
use Rattle.std.proofs.Common.{◌≡◌, ◌<◌, ℕ, zero, suc, get_or, List, [], ◌∷◌, Bool, true, false, Option, Some, None, map, drop, refl, sym, ◌∙◌, ap, length, nat_lt, ◌≤◌, arith}
use Rattle.std.specs.Prelude.{if◌then◌else◌}
use Rattle.std.specs.Borrow.{Bor}
use Rattle.std.specs.Option.{option_map}
use Rattle.std.specs.Str.{bytes_eq}
use Rattle.std.proofs.Math.ListN.{drop_of_length-le}
use Rattle.dg_base.specs.TreeView.{part_view}
use Rattle.dg_base.specs.Tree as tree
use Rattle.dg_base.specs.declared.tree.Part.{Part as CodePart}
use Rattle.dg_base.specs.Tree.{Part, Value, parts_of}
use Rattle.dg_scopes.specs.Counts.{times, is_unnamed}
use Rattle.dg_put.specs.Put.{Access, Argument, Spot, Level, copy_mark, marked, own_name, change_access, parameter_of, with_argument, argument_of, given_by, argument_for, put_value}
use Rattle.dg_put.specs.inside.Putting.{Around, around_in, outer_view, outer_step, place_step, value_in, argument_or, argument_in}
use Rattle.dg_put.specs.declared.place.Outer.{Outer, fold-roll-Outer}
use Rattle.dg_put.specs.declared.place.Outer.TheOpen.{Outer-F}
use Rattle.dg_put.specs.declared.place.Outer.TheVariants as outers
use Rattle.dg_put.specs.declared.place.Outer
use Rattle.dg_put.specs.declared.place.Place.{Place as CodePlace, fold-roll-Place}

pub outer_within : (rules' : List Access) (mark : ℕ) (p : Bor CodePlace) → outer_view rules' mark (Outer.Within p) ≡ Some (around_in rules' mark p.now)
outer_within rules' mark p =
    ap (outer_view rules' mark) (sym (outers.rolls-Within p))
    ∙ fold-roll-Outer (Option Around) Around outer_step (place_step rules' mark) (Outer-F.Within p)
    ∙ ap (λ (a : Around). Some a) (fold-roll-Place (Option Around) Around outer_step (place_step rules' mark) (record {
      outer = p.now.outer;
      params = p.now.params;
      args = p.now.args;
      depth = p.now.depth;
      use_number = p.now.use_number;
      copy_number = p.now.copy_number;
      names = p.now.names;
      moved = p.now.moved;
      closed = p.now.closed;
    }))

-- ---- arguments

either : (l : Level) (p : Spot) (b : Bool) (v : Value) (x : Option Argument) (rest : Option Value) → x ≡ option_map (λ (u : Value) (n : ℕ). put_value l p n u) rest → (if b then Some (λ (n : ℕ). put_value l p n v) else x) ≡ option_map (λ (u : Value) (n : ℕ). put_value l p n u) (if b then Some v else rest)
either l p true v x rest e = refl
either l p false v x rest e = e

one_given : (l : Level) (p : Spot) (w : List ℕ) (m : Option (List ℕ)) (q : Part) (given : List (List ℕ × Argument)) (rest : Option Value) → argument_for given w ≡ option_map (λ (u : Value) (n : ℕ). put_value l p n u) rest → argument_for (with_argument m (argument_of l p q) given) w ≡ option_map (λ (u : Value) (n : ℕ). put_value l p n u) (argument_or m (value_in q) w rest)
one_given l p w None (tree.part_word x) given rest e = e
one_given l p w None (tree.part_value v) given rest e = e
one_given l p w (Some m) (tree.part_word x) given rest e = e
one_given l p w (Some m) (tree.part_value v) given rest e = either l p (bytes_eq m w) v (argument_for given w) rest e

pub given_in : (l : Level) (p : Spot) (w : List ℕ) (hs qs : List Part) → argument_for (given_by l p (parts_of hs) (parts_of qs)) w ≡ option_map (λ (u : Value) (n : ℕ). put_value l p n u) (argument_in hs qs w)
given_in l p w [] [] = refl
given_in l p w [] (q ∷ qs) = refl
given_in l p w (h ∷ hs) [] = refl
given_in l p w (h ∷ hs) (q ∷ qs) = one_given l p w (parameter_of h) q (given_by l p (parts_of hs) (parts_of qs)) (argument_in hs qs w) (given_in l p w hs qs)

pub no_arguments : (hs : List Part) (w : List ℕ) → argument_in hs [] w ≡ None
no_arguments [] w = refl
no_arguments (h ∷ hs) w = refl

-- a part that gives nothing
pub passed : (m : Option (List ℕ)) (v : Option Value) (w : List ℕ) (rest : Option Value) → argument_or m v w None ≡ None → argument_or m v w rest ≡ rest
passed None v w rest e = refl
passed (Some m) None w rest e = refl
passed (Some m) (Some v) w rest e = by (bytes_eq m w) e
  where
    by : (b : Bool) → (if b then Some v else None) ≡ None → (if b then Some v else rest) ≡ rest
    by true h = cc
    by false h = refl

-- the arguments from a number on
abbrev from : List CodePart → List CodePart → List ℕ → ℕ → Option Value
from hs qs name i = argument_in (map part_view (drop i hs)) (map part_view (drop i qs)) name

same_passed : (x y h q : CodePart) (name : List ℕ) (rest : Option Value) → h ≡ x → q ≡ y → argument_or (parameter_of (part_view h)) (value_in (part_view q)) name None ≡ None → rest ≡ argument_or (parameter_of (part_view x)) (value_in (part_view y)) name rest
same_passed x y h q name rest e f none =
    sym (ap (λ (p : CodePart). argument_or (parameter_of (part_view p)) (value_in (part_view y)) name rest) (sym e)
    ∙ ap (λ (p : CodePart). argument_or (parameter_of (part_view h)) (value_in (part_view p)) name rest) (sym f)
    ∙ passed (parameter_of (part_view h)) (value_in (part_view q)) name rest none)

pub stepped_over : (hs qs : List CodePart) (i : ℕ) (h q : CodePart) (name : List ℕ) → i < length hs → i < length qs → h ≡ get_or hs i h → q ≡ get_or qs i q → argument_or (parameter_of (part_view h)) (value_in (part_view q)) name None ≡ None → from hs qs name (suc i) ≡ from hs qs name i
stepped_over [] qs i h q name below under e f none = absurd (omega arith)
stepped_over (x ∷ hs) [] i h q name below under e f none = absurd (omega arith)
stepped_over (x ∷ hs) (y ∷ qs) zero h q name below under e f none = same_passed x y h q name (from hs qs name 0) e f none
stepped_over (x ∷ hs) (y ∷ qs) (suc i) h q name below under e f none = stepped_over hs qs i h q name (omega arith) (omega arith) e f none

pub ended : (hs qs : List CodePart) (i : ℕ) (name : List ℕ) → length qs ≤ i → from hs qs name (suc i) ≡ from hs qs name i
ended hs qs i name le =
    ap (λ (l : List CodePart). argument_in (map part_view (drop (suc i) hs)) (map part_view l) name) (drop_of_length-le qs {i = suc i} (omega arith))
    ∙ no_arguments (map part_view (drop (suc i) hs)) name
    ∙ sym (ap (λ (l : List CodePart). argument_in (map part_view (drop i hs)) (map part_view l) name) (drop_of_length-le qs le) ∙ no_arguments (map part_view (drop i hs)) name)

pub changing_some : (set : Bool) (m : Option Access) (r : Access) → change_access set m ≡ Some r → (x : Access) × (m ≡ Some x)
changing_some set None r e = cc
changing_some set (Some x) r e = (x, refl)

-- ---- names

pub unnamed_name : (mark : ℕ) (p : Spot) (w : List ℕ) → is_unnamed w ≡ true → own_name mark p w ≡ marked copy_mark (if nat_lt 1 (times w p.names) then p.use_number else p.copy_number) w
unnamed_name mark p w e = rw e refl
