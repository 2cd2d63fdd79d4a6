-- Worked values: what small programs with changes, gatherings, selects, words and closures come to, by computation from the definitions.
use Rattle.std.proofs.Common.{◌≡◌, ℕ, List, [], ◌∷◌, ◌++◌, Some, None, true, false, refl}
use Rattle.std.specs.Prelude.{codes}
use Rattle.std.specs.Str.{chars}
use Rattle.std.specs.Char.{encode_utf8}
use Rattle.std.specs.Fmt.{digits}
use Rattle.dg_base.specs.Units.{unit_at, units_behind}
use Rattle.dg_base.specs.Typed.{place_from}
use Rattle.dg_base.specs.declared.program.Goal as form
use Rattle.dg_base.specs.declared.program.Goal.TheBlock.{shown-the_row-Goal-0, shown-the_row-Goal-Either-0-1-1}
use Rattle.dg_base.specs.declared.program.Term.TheBlock.{hidden-the_row-Term-0}
use Rattle.dg_base.specs.declared.program.Goal.{Goal}
use Rattle.dg_base.specs.declared.program.Term as place
use Rattle.dg_base.specs.declared.program.Term.{Term}
use Rattle.dg_base.specs.declared.program.Goal.TheVariants.{Text, Print, GapN, Equal, Ask, Holds, Now, Query, Either, If, Just, Fail, Collect, Accumulate, Select, Arith, Random, IsObject, Input, SplitWord, JoinWords}
use Rattle.dg_base.specs.declared.program.Term.TheVariants.{Num, Word, Object, Nil, Var, Pair, Closure}
use Rattle.dg_base.specs.declared.program.Mode.{Mode}
use Rattle.dg_base.specs.declared.program.Mode.TheVariants.{Stopping, AtRandom}
use Rattle.dg_base.specs.declared.program.ArithOp.TheVariants.{Plus, Divide}
use Rattle.dg_base.specs.declared.program.PlaceKind.{PlaceKind}
use Rattle.dg_base.specs.declared.program.PlaceKind.TheVariants.{ObjectFlag, Parent, Global}
use Rattle.dg_base.specs.declared.program.Place.{Place}
use Rattle.dg_base.specs.declared.program.ClosureBody.{ClosureBody}
use Rattle.dg_base.specs.declared.program.Rule.{Rule}
use Rattle.dg_base.specs.declared.program.Pred.{Pred}
use Rattle.dg_meaning.specs.World.{Game}
use Rattle.dg_meaning.specs.Unify.{solve}
use Rattle.dg_meaning.specs.Search.{search}
use Rattle.dg_meaning.specs.Render.{render}
use Rattle.dg_meaning.specs.Transcript.{run, transcript}

abbrev rule : ℕ → List Term → List Goal → Rule
rule vars head body = record { vars = vars; head = head; body = body }

abbrev pred : List Rule → Pred
pred rules = record { name = codes "(p)"; from_source = true; rules = rules }

abbrev place_of : PlaceKind → List (ℕ × Term) → Place
place_of kind start = record { kind = kind; start = start }

-- the entry point is the predicate 0; the objects are #a and #b, the words @a, @b and @ab
abbrev game_of : List Pred → List ClosureBody → List Place → List ℕ → Game
game_of preds closures places dice = record {
  program = record { preds = preds; closures = closures; places = places; objects = codes "a" ∷ codes "b" ∷ []; words = codes "a" ∷ codes "b" ∷ codes "ab" ∷ []; sites = 1; entry = 0 };
  dice = dice;
}

-- a program of an entry point alone, with so many variables and these places
abbrev alone : ℕ → List Place → List Goal → Game
alone vars places body = game_of (pred (rule vars [] body ∷ []) ∷ []) [] places (7 ∷ [])

-- ## The world

-- ($X is open) of #b and #a at the start, and the entry point (now) ~(#b is open) *($X is open) $X (fail)
abbrev opened : Game
opened = alone 1 (place_of ObjectFlag ((1, Nil) ∷ (0, Nil) ∷ []) ∷ []) (Now 0 (Object 1 ∷ []) false ∷ Holds 0 (Var 0 ∷ []) true ∷ Print (Var 0) ∷ Fail ∷ [])

one_is_open : transcript opened [] 20 ≡ codes "#a" ++ 10 ∷ codes "[Failed]" ++ 10 ∷ []
unfolding run search render solve form.out-Goal place.out-Term digits hidden-the_row-Term-0 shown-the_row-Goal-0 shown-the_row-Goal-Either-0-1-1 denote.Hole.Carrier.out denote.Hole.Carrier.shown denote.Hole.Carrier.hidden
one_is_open = refl

-- 7 cells for the entry point, and 11 in the branch of each object but the last
open_heap : (run opened [] 20).world.meters.heap ≡ 18
unfolding run search solve form.out-Goal place.out-Term digits hidden-the_row-Term-0 shown-the_row-Goal-0 shown-the_row-Goal-Either-0-1-1 denote.Hole.Carrier.out denote.Hole.Carrier.shown denote.Hole.Carrier.hidden
open_heap = refl

-- a change of what is no object fails: (if) (now) (5 is open) (then) y (else) n (endif)
no_object : transcript (alone 0 (place_of ObjectFlag [] ∷ []) (If (Now 0 (Num 5 ∷ []) true ∷ []) (Text (codes "y") ∷ []) (Text (codes "n") ∷ []) ∷ [])) [] 20 ≡ codes "n" ++ 10 ∷ []
unfolding run search render solve form.out-Goal place.out-Term digits hidden-the_row-Term-0 shown-the_row-Goal-0 shown-the_row-Goal-Either-0-1-1 denote.Hole.Carrier.out denote.Hole.Carrier.shown denote.Hole.Carrier.hidden
no_object = refl

-- an object is tested where its branch begins: *($X is open) (now) ~(#b is open) $X (fail)
abbrev closing : Game
closing = alone 1 (place_of ObjectFlag ((0, Nil) ∷ (1, Nil) ∷ []) ∷ []) (Holds 0 (Var 0 ∷ []) true ∷ Now 0 (Object 1 ∷ []) false ∷ Print (Var 0) ∷ Fail ∷ [])

closed_by_then : transcript closing [] 20 ≡ codes "#a" ++ 10 ∷ codes "[Failed]" ++ 10 ∷ []
unfolding run search render solve form.out-Goal place.out-Term digits hidden-the_row-Term-0 shown-the_row-Goal-0 shown-the_row-Goal-Either-0-1-1 denote.Hole.Carrier.out denote.Hole.Carrier.shown denote.Hole.Carrier.hidden
closed_by_then = refl

-- (global variable (l [1])), and the entry point (l $L) (now) (l [@a | $L]) (l $M) $M
abbrev longer : Game
longer = alone 2 (place_of Global ((0, Pair (Num 1) Nil) ∷ []) ∷ []) (Holds 0 (Var 0 ∷ []) false ∷ Now 0 (Pair (Word 0) (Var 0) ∷ []) true ∷ Holds 0 (Var 1 ∷ []) false ∷ Print (Var 1) ∷ [])

longer_list : transcript longer [] 20 ≡ codes "[a 1]" ++ 10 ∷ []
unfolding run search render solve form.out-Goal place.out-Term digits hidden-the_row-Term-0 shown-the_row-Goal-0 shown-the_row-Goal-Either-0-1-1 denote.Hole.Carrier.out denote.Hole.Carrier.shown denote.Hole.Carrier.hidden
longer_list = refl

-- Five cells are kept, and three were at the start. On the heap are 8 for the entry point, 3 for what is read first, 3 for a pair, and 6 for what is read then.
longer_keep : (run longer [] 20).world.meters.keep ≡ 5
unfolding run search solve form.out-Goal place.out-Term digits hidden-the_row-Term-0 shown-the_row-Goal-0 shown-the_row-Goal-Either-0-1-1 denote.Hole.Carrier.out denote.Hole.Carrier.shown denote.Hole.Carrier.hidden
longer_keep = refl

keep_at_start : (run longer [] 0).world.meters.keep ≡ 3
unfolding run search hidden-the_row-Term-0 place.out-Term denote.Hole.Carrier.hidden denote.Hole.Carrier.out
keep_at_start = refl

longer_heap : (run longer [] 20).world.meters.heap ≡ 20
unfolding run search solve form.out-Goal place.out-Term digits hidden-the_row-Term-0 shown-the_row-Goal-0 shown-the_row-Goal-Either-0-1-1 denote.Hole.Carrier.out denote.Hole.Carrier.shown denote.Hole.Carrier.hidden
longer_heap = refl

-- a clear with an unbound object clears all: (now) ~($ has parent $) (if) (#a has parent $) (then) y (else) n (endif)
all_cleared : transcript (alone 3 (place_of Parent ((0, Object 1) ∷ []) ∷ []) (Now 0 (Var 0 ∷ Var 1 ∷ []) false ∷ If (Holds 0 (Object 0 ∷ Var 2 ∷ []) false ∷ []) (Text (codes "y") ∷ []) (Text (codes "n") ∷ []) ∷ [])) [] 20 ≡ codes "n" ++ 10 ∷ []
unfolding run search render solve form.out-Goal place.out-Term digits hidden-the_row-Term-0 shown-the_row-Goal-0 shown-the_row-Goal-Either-0-1-1 denote.Hole.Carrier.out denote.Hole.Carrier.shown denote.Hole.Carrier.hidden
all_cleared = refl

-- the objects and their parents in order: *($X has parent $Y) $X $Y (fail)
parents : transcript (alone 2 (place_of Parent ((1, Object 0) ∷ (0, Object 1) ∷ []) ∷ []) (Holds 0 (Var 0 ∷ Var 1 ∷ []) true ∷ Print (Var 0) ∷ Print (Var 1) ∷ Fail ∷ [])) [] 30 ≡ codes "#a #b #b #a" ++ 10 ∷ codes "[Failed]" ++ 10 ∷ []
unfolding run search render solve form.out-Goal place.out-Term digits hidden-the_row-Term-0 shown-the_row-Goal-0 shown-the_row-Goal-Either-0-1-1 denote.Hole.Carrier.out denote.Hole.Carrier.shown denote.Hole.Carrier.hidden
parents = refl

-- (object $X) takes the first, *(object $X) all
first_object : transcript (alone 1 [] (Either ((IsObject (Var 0) false ∷ Print (Var 0) ∷ Fail ∷ []) ∷ (IsObject (Var 0) true ∷ Print (Var 0) ∷ Fail ∷ []) ∷ []) ∷ [])) [] 30 ≡ codes "#a #a #b" ++ 10 ∷ codes "[Failed]" ++ 10 ∷ []
unfolding run search render solve form.out-Goal place.out-Term digits hidden-the_row-Term-0 shown-the_row-Goal-0 shown-the_row-Goal-Either-0-1-1 denote.Hole.Carrier.out denote.Hole.Carrier.shown denote.Hole.Carrier.hidden
first_object = refl

-- ## Gathering

-- (p 1), (p 2), (a) (collect $X) *(p $X) (just) (fail) (into $), (a) no, and the entry point (collect $Y) { ($Y = 5) (or) (a) ($Y = 6) } (into $L) $L
abbrev cut_short : Game
cut_short =
    game_of
    (pred (rule 2 [] (Collect (Var 0) (Either ((Equal (Var 0) (Num 5) ∷ []) ∷ (Ask 2 [] false ∷ Equal (Var 0) (Num 6) ∷ []) ∷ []) ∷ []) (Var 1) ∷ Print (Var 1) ∷ []) ∷ [])
    ∷ pred (rule 0 (Num 1 ∷ []) [] ∷ rule 0 (Num 2 ∷ []) [] ∷ [])
    ∷ pred (rule 2 [] (Collect (Var 0) (Ask 1 (Var 0 ∷ []) true ∷ Just ∷ Fail ∷ []) (Var 1) ∷ []) ∷ rule 0 [] (Text (codes "no") ∷ []) ∷ [])
    ∷ [])
    [] [] (7 ∷ [])

-- the gathering that the cut leaves is dropped
five_alone : transcript cut_short [] 50 ≡ codes "[5]" ++ 10 ∷ []
unfolding run search render solve form.out-Goal place.out-Term digits hidden-the_row-Term-0 shown-the_row-Goal-0 shown-the_row-Goal-Either-0-1-1 denote.Hole.Carrier.out denote.Hole.Carrier.shown denote.Hole.Carrier.hidden
five_alone = refl

-- two gatherings are open, and a value is in the outer one
two_open : (run cut_short [] 50).world.meters.aux ≡ 5
unfolding run search solve form.out-Goal place.out-Term digits hidden-the_row-Term-0 shown-the_row-Goal-0 shown-the_row-Goal-Either-0-1-1 denote.Hole.Carrier.out denote.Hole.Carrier.shown denote.Hole.Carrier.hidden
two_open = refl

-- (p 16383), (p 1), and the entry point (if) (accumulate $X) *(p $X) (into $N) (then) $N (else) large (endif)
abbrev summed : ℕ → Game
summed n = game_of (pred (rule 2 [] (If (Accumulate (Var 0) (Ask 1 (Var 0 ∷ []) true ∷ []) (Var 1) ∷ []) (Print (Var 1) ∷ []) (Text (codes "large") ∷ []) ∷ []) ∷ []) ∷ pred (rule 0 (Num n ∷ []) [] ∷ rule 0 (Num 1 ∷ []) [] ∷ []) ∷ []) [] [] (7 ∷ [])

too_large : transcript (summed 16383) [] 50 ≡ codes "large" ++ 10 ∷ []
unfolding run search render solve form.out-Goal place.out-Term digits hidden-the_row-Term-0 shown-the_row-Goal-0 shown-the_row-Goal-Either-0-1-1 denote.Hole.Carrier.out denote.Hole.Carrier.shown denote.Hole.Carrier.hidden
too_large = refl

sum_is : transcript (summed 6) [] 50 ≡ codes "7" ++ 10 ∷ []
unfolding run search render solve form.out-Goal place.out-Term digits hidden-the_row-Term-0 shown-the_row-Goal-0 shown-the_row-Goal-Either-0-1-1 denote.Hole.Carrier.out denote.Hole.Carrier.shown denote.Hole.Carrier.hidden
sum_is = refl

-- each variable of what was gathered is a new one: (collect $X) { ($Y = 1) (or) ($X = [$X2 $X2]) } gives two different ones
fresh_ones : transcript (alone 4 [] (Collect (Var 0) (Equal (Var 0) (Pair (Var 1) (Pair (Var 1) Nil)) ∷ []) (Pair (Pair (Var 2) (Pair (Var 3) Nil)) Nil) ∷ Equal (Var 2) (Num 1) ∷ Print (Var 3) ∷ [])) [] 20 ≡ codes "$" ++ 10 ∷ []
unfolding run search render solve form.out-Goal place.out-Term digits hidden-the_row-Term-0 shown-the_row-Goal-0 shown-the_row-Goal-Either-0-1-1 denote.Hole.Carrier.out denote.Hole.Carrier.shown denote.Hole.Carrier.hidden
fresh_ones = refl

-- ## Choosing

-- (s) (select) A (or) B (or) C with a mode, and the entry point (s) (s) (s) (s)
abbrev four_times : Mode → List ℕ → Game
four_times mode dice = game_of (pred (rule 0 [] (Ask 1 [] false ∷ Ask 1 [] false ∷ Ask 1 [] false ∷ Ask 1 [] false ∷ []) ∷ []) ∷ pred (rule 0 [] (Select 0 mode ((Text (codes "A") ∷ []) ∷ (Text (codes "B") ∷ []) ∷ (Text (codes "C") ∷ []) ∷ []) ∷ []) ∷ []) ∷ []) [] [] dice

in_order : transcript (four_times Stopping (7 ∷ [])) [] 50 ≡ codes "A B C C" ++ 10 ∷ []
unfolding run search render solve form.out-Goal place.out-Term digits hidden-the_row-Term-0 shown-the_row-Goal-0 shown-the_row-Goal-Either-0-1-1 denote.Hole.Carrier.out denote.Hole.Carrier.shown denote.Hole.Carrier.hidden
in_order = refl

-- 4 mod 3 is B, then 4 mod 2 the first of A and C, then B again, and then the first of A and C
by_dice : transcript (four_times AtRandom (4 ∷ [])) [] 50 ≡ codes "B A B A" ++ 10 ∷ []
unfolding run search render solve form.out-Goal place.out-Term digits hidden-the_row-Term-0 shown-the_row-Goal-0 shown-the_row-Goal-Either-0-1-1 denote.Hole.Carrier.out denote.Hole.Carrier.shown denote.Hole.Carrier.hidden
by_dice = refl

-- ## Numbers and words

-- (7 divided by 2 into $Q) (random from 3 to 5 into $R) $Q $R with the die 7
numbers : transcript (alone 2 [] (Arith Divide (Num 7) (Num 2) (Var 0) ∷ Random (Num 3) (Num 5) (Var 1) ∷ Print (Var 0) ∷ Print (Var 1) ∷ [])) [] 20 ≡ codes "3 4" ++ 10 ∷ []
unfolding run search render solve form.out-Goal place.out-Term digits hidden-the_row-Term-0 shown-the_row-Goal-0 shown-the_row-Goal-Either-0-1-1 denote.Hole.Carrier.out denote.Hole.Carrier.shown denote.Hole.Carrier.hidden
numbers = refl

-- nothing is drawn where the bounds are the wrong way round
no_throw : (run (alone 1 [] (Random (Num 5) (Num 3) (Var 0) ∷ [])) [] 20).world.dice ≡ 0
unfolding run search solve form.out-Goal place.out-Term digits hidden-the_row-Term-0 shown-the_row-Goal-0 shown-the_row-Goal-Either-0-1-1 denote.Hole.Carrier.out denote.Hole.Carrier.shown denote.Hole.Carrier.hidden
no_throw = refl

-- (16383 plus 1 into $) fails
no_sum : transcript (alone 1 [] (Arith Plus (Num 16383) (Num 1) (Var 0) ∷ [])) [] 20 ≡ codes "[Failed]" ++ 10 ∷ []
unfolding run search render solve form.out-Goal place.out-Term digits hidden-the_row-Term-0 shown-the_row-Goal-0 shown-the_row-Goal-Either-0-1-1 denote.Hole.Carrier.out denote.Hole.Carrier.shown denote.Hole.Carrier.hidden
no_sum = refl

-- (split word @ab into $L) (join words [@a 12] into $W) (join words [@a @b] into $V) $L $W $V
split_and_joined : transcript (alone 3 [] (SplitWord (Word 2) (Var 0) ∷ JoinWords (Pair (Word 0) (Pair (Num 12) Nil)) (Var 1) ∷ JoinWords (Pair (Word 0) (Pair (Word 1) Nil)) (Var 2) ∷ Equal (Var 2) (Word 2) ∷ Print (Var 0) ∷ Print (Var 1) ∷ Print (Var 2) ∷ [])) [] 20 ≡ codes "[a b] a12 ab" ++ 10 ∷ []
unfolding run search render solve chars encode_utf8 unit_at units_behind place_from form.out-Goal place.out-Term digits hidden-the_row-Term-0 shown-the_row-Goal-0 shown-the_row-Goal-Either-0-1-1 denote.Hole.Carrier.out denote.Hole.Carrier.shown denote.Hole.Carrier.hidden
split_and_joined = refl

-- (get input $W) $W, with a line that has a capital, a number and a comma; then no line is left
read_line : transcript (alone 2 [] (Input (Var 0) ∷ Print (Var 0) ∷ Input (Var 1) ∷ [])) (codes "A Q,007" ++ 13 ∷ 10 ∷ []) 20 ≡ codes "[a q, 7]" ++ 10 ∷ codes "[End of input]" ++ 10 ∷ []
unfolding run search render solve chars encode_utf8 unit_at units_behind place_from form.out-Goal place.out-Term digits hidden-the_row-Term-0 shown-the_row-Goal-0 shown-the_row-Goal-Either-0-1-1 denote.Hole.Carrier.out denote.Hole.Carrier.shown denote.Hole.Carrier.hidden
read_line = refl

-- a letter past ASCII is kept, and a byte that is no character is a question mark
read_letters : transcript (alone 1 [] (Input (Var 0) ∷ Print (Var 0) ∷ [])) (195 ∷ 137 ∷ 228 ∷ []) 20 ≡ codes "[" ++ 195 ∷ 169 ∷ codes "?]" ++ 10 ∷ []
unfolding run search render solve chars encode_utf8 unit_at units_behind place_from form.out-Goal place.out-Term digits hidden-the_row-Term-0 shown-the_row-Goal-0 shown-the_row-Goal-Either-0-1-1 denote.Hole.Carrier.out denote.Hole.Carrier.shown denote.Hole.Carrier.hidden
read_letters = refl

-- a (space 2) x
spaced : transcript (alone 0 [] (Text (codes "a") ∷ GapN (Num 2) ∷ Text (codes "x") ∷ [])) [] 20 ≡ codes "a  x" ++ 10 ∷ []
unfolding run search render solve form.out-Goal place.out-Term digits hidden-the_row-Term-0 shown-the_row-Goal-0 shown-the_row-Goal-Either-0-1-1 denote.Hole.Carrier.out denote.Hole.Carrier.shown denote.Hole.Carrier.hidden
spaced = refl

-- ## Closures

-- ($X = 3) ($C = { $X $_ }) (query $C 4)
abbrev asked : Game
asked =
    game_of (pred (rule 2 [] (Equal (Var 0) (Num 3) ∷ Equal (Var 1) (Closure 0) ∷ Query (Var 1) (Some (Num 4)) false ∷ []) ∷ []) ∷ [])
    (record { captured = 0 ∷ []; own = 1; body = Print (Var 0) ∷ Print (Var 1) ∷ [] } ∷ []) [] (7 ∷ [])

closure_runs : transcript asked [] 20 ≡ codes "3 4" ++ 10 ∷ []
unfolding run search render solve form.out-Goal place.out-Term digits hidden-the_row-Term-0 shown-the_row-Goal-0 shown-the_row-Goal-Either-0-1-1 denote.Hole.Carrier.out denote.Hole.Carrier.shown denote.Hole.Carrier.hidden
closure_runs = refl

-- 8 cells for the entry point, 4 for the closure, and 7 where it is entered; its parameter isn't put on the trail.
closure_heap : (run asked [] 20).world.meters.heap ≡ 19
unfolding run search solve form.out-Goal place.out-Term digits hidden-the_row-Term-0 shown-the_row-Goal-0 shown-the_row-Goal-Either-0-1-1 denote.Hole.Carrier.out denote.Hole.Carrier.shown denote.Hole.Carrier.hidden
closure_heap = refl

closure_trail : (run asked [] 20).world.meters.trail ≡ 2
unfolding run search solve form.out-Goal place.out-Term digits hidden-the_row-Term-0 shown-the_row-Goal-0 shown-the_row-Goal-Either-0-1-1 denote.Hole.Carrier.out denote.Hole.Carrier.shown denote.Hole.Carrier.hidden
closure_trail = refl

-- (query 5) fails
no_closure : transcript (alone 0 [] (Query (Num 5) None false ∷ Text (codes "x") ∷ [])) [] 20 ≡ codes "[Failed]" ++ 10 ∷ []
unfolding run search render solve form.out-Goal place.out-Term digits hidden-the_row-Term-0 shown-the_row-Goal-0 shown-the_row-Goal-Either-0-1-1 denote.Hole.Carrier.out denote.Hole.Carrier.shown denote.Hole.Carrier.hidden
no_closure = refl
