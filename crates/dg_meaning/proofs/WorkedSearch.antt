-- Worked values: what small programs with variables come to, by computation from the definitions.
use Rattle.std.proofs.Common.{◌≡◌, ℕ, List, [], ◌∷◌, ◌++◌, Bool, true, false, refl}
use Rattle.std.specs.Prelude.{codes}
use Rattle.std.specs.Fmt.{digits}
use Rattle.dg_base.specs.declared.program.Goal as form
use Rattle.dg_base.specs.declared.program.Goal.TheBlock.{shown-the_row-Goal-0, shown-the_row-Goal-Either-0-1-1}
use Rattle.dg_base.specs.declared.program.Term.TheBlock.{hidden-the_row-Term-0}
use Rattle.dg_base.specs.declared.program.Goal.{Goal}
use Rattle.dg_base.specs.declared.program.Term as place
use Rattle.dg_base.specs.declared.program.Term.{Term}
use Rattle.dg_base.specs.declared.program.Goal.TheVariants.{Text, Print, Equal, Ask, Either, Not, If, Just, Fail, Stop, Stoppable, Test}
use Rattle.dg_base.specs.declared.program.Term.TheVariants.{Num, Word, Object, Nil, Var, Pair}
use Rattle.dg_base.specs.declared.program.TestKind.TheVariants.{FullyBound}
use Rattle.dg_base.specs.declared.program.Rule.{Rule}
use Rattle.dg_base.specs.declared.program.Pred.{Pred}
use Rattle.dg_meaning.specs.World.{Game}
use Rattle.dg_meaning.specs.Unify.{solve}
use Rattle.dg_meaning.specs.Search.{search}
use Rattle.dg_meaning.specs.Render.{render}
use Rattle.dg_meaning.specs.Transcript.{run, transcript}

abbrev rule : ℕ → List Term → List Goal → Rule
rule vars head body = record { vars = vars; head = head; body = body }

abbrev pred : List Rule → Pred
pred rules = record { name = codes "(p)"; from_source = true; rules = rules }

-- the entry point is the predicate 0
abbrev game_of : List Pred → Game
game_of preds = record {
  program = record { preds = preds; closures = []; places = []; objects = codes "o" ∷ []; words = codes "a" ∷ []; sites = 0; entry = 0 };
  dice = 0 ∷ [];
}

-- a program of an entry point alone, with so many variables
abbrev alone : ℕ → List Goal → Game
alone vars body = game_of (pred (rule vars [] body ∷ []) ∷ [])

-- ## Rules with parameters

-- (p 1), (p 2), and the entry point *(p $X) $X (fail)
abbrev both : Game
both = game_of (pred (rule 1 [] (Ask 1 (Var 0 ∷ []) true ∷ Print (Var 0) ∷ Fail ∷ []) ∷ []) ∷ pred (rule 0 (Num 1 ∷ []) [] ∷ rule 0 (Num 2 ∷ []) [] ∷ []) ∷ [])

both_answers : transcript both [] 9 ≡ codes "1 2" ++ 10 ∷ codes "[Failed]" ++ 10 ∷ []
unfolding run search render solve form.out-Goal place.out-Term digits hidden-the_row-Term-0 shown-the_row-Goal-0 shown-the_row-Goal-Either-0-1-1 denote.Hole.Carrier.out denote.Hole.Carrier.shown denote.Hole.Carrier.hidden
both_answers = refl

-- 7 cells for the entry point, 11 for the choice and 6 for the first rule; one binding is on the trail at a time.
both_heap : (run both [] 9).world.meters.heap ≡ 24
unfolding run search solve form.out-Goal place.out-Term digits hidden-the_row-Term-0 shown-the_row-Goal-0 shown-the_row-Goal-Either-0-1-1 denote.Hole.Carrier.out denote.Hole.Carrier.shown denote.Hole.Carrier.hidden
both_heap = refl

both_trail : (run both [] 9).world.meters.trail ≡ 1
unfolding run search solve form.out-Goal place.out-Term digits hidden-the_row-Term-0 shown-the_row-Goal-0 shown-the_row-Goal-Either-0-1-1 denote.Hole.Carrier.out denote.Hole.Carrier.shown denote.Hole.Carrier.hidden
both_trail = refl

-- (p 1), (p 2), and the entry point { *(p $X) $X (fail) (or) done }, or with (p $X) there
abbrev either : Bool → Game
either many = game_of (pred (rule 1 [] (Either ((Ask 1 (Var 0 ∷ []) many ∷ Print (Var 0) ∷ Fail ∷ []) ∷ (Text (codes "done") ∷ []) ∷ []) ∷ []) ∷ []) ∷ pred (rule 0 (Num 1 ∷ []) [] ∷ rule 0 (Num 2 ∷ []) [] ∷ []) ∷ [])

all_and_done : transcript (either true) [] 20 ≡ codes "1 2 done" ++ 10 ∷ []
unfolding run search render solve form.out-Goal place.out-Term digits hidden-the_row-Term-0 shown-the_row-Goal-0 shown-the_row-Goal-Either-0-1-1 denote.Hole.Carrier.out denote.Hole.Carrier.shown denote.Hole.Carrier.hidden
all_and_done = refl

one_and_done : transcript (either false) [] 20 ≡ codes "1 done" ++ 10 ∷ []
unfolding run search render solve form.out-Goal place.out-Term digits hidden-the_row-Term-0 shown-the_row-Goal-0 shown-the_row-Goal-Either-0-1-1 denote.Hole.Carrier.out denote.Hole.Carrier.shown denote.Hole.Carrier.hidden
one_and_done = refl

-- (p $X) x (p [@a | $X]), and the entry point (p []): 6 cells for the entry point, 7 for each rule that is entered, and 3 for each pair
abbrev growing : Game
growing = game_of (pred (rule 0 [] (Ask 1 (Nil ∷ []) false ∷ []) ∷ []) ∷ pred (rule 1 (Var 0 ∷ []) (Text (codes "x") ∷ Ask 1 (Pair (Word 0) (Var 0) ∷ []) false ∷ []) ∷ []) ∷ [])

third_word : transcript growing [] 7 ≡ codes "x x x" ++ 10 ∷ codes "[Step limit]" ++ 10 ∷ []
unfolding run search render solve form.out-Goal place.out-Term digits hidden-the_row-Term-0 shown-the_row-Goal-0 shown-the_row-Goal-Either-0-1-1 denote.Hole.Carrier.out denote.Hole.Carrier.shown denote.Hole.Carrier.hidden
third_word = refl

third_heap : (run growing [] 7).world.meters.heap ≡ 33
unfolding run search solve form.out-Goal place.out-Term digits hidden-the_row-Term-0 shown-the_row-Goal-0 shown-the_row-Goal-Either-0-1-1 denote.Hole.Carrier.out denote.Hole.Carrier.shown denote.Hole.Carrier.hidden
third_heap = refl

-- (p $A $A), and the entry point (p 1 2): the variable of the rule isn't put on the trail, and the second argument clashes.
abbrev twice : Game
twice = game_of (pred (rule 0 [] (Ask 1 (Num 1 ∷ Num 2 ∷ []) false ∷ Text (codes "x") ∷ []) ∷ []) ∷ pred (rule 1 (Var 0 ∷ Var 0 ∷ []) [] ∷ []) ∷ [])

twice_fails : transcript twice [] 9 ≡ codes "[Failed]" ++ 10 ∷ []
unfolding run search render solve form.out-Goal place.out-Term digits hidden-the_row-Term-0 shown-the_row-Goal-0 shown-the_row-Goal-Either-0-1-1 denote.Hole.Carrier.out denote.Hole.Carrier.shown denote.Hole.Carrier.hidden
twice_fails = refl

twice_heap : (run twice [] 9).world.meters.heap ≡ 13
unfolding run search solve form.out-Goal place.out-Term digits hidden-the_row-Term-0 shown-the_row-Goal-0 shown-the_row-Goal-Either-0-1-1 denote.Hole.Carrier.out denote.Hole.Carrier.shown denote.Hole.Carrier.hidden
twice_heap = refl

twice_trail : (run twice [] 9).world.meters.trail ≡ 0
unfolding run search solve form.out-Goal place.out-Term digits hidden-the_row-Term-0 shown-the_row-Goal-0 shown-the_row-Goal-Either-0-1-1 denote.Hole.Carrier.out denote.Hole.Carrier.shown denote.Hole.Carrier.hidden
twice_trail = refl

-- ## Values

-- ($X = [@a | $X]): it would contain itself
abbrev endless : Game
endless = alone 1 (Equal (Var 0) (Pair (Word 0) (Var 0)) ∷ [])

endless_fails : transcript endless [] 9 ≡ codes "[Failed]" ++ 10 ∷ []
unfolding run search render solve form.out-Goal place.out-Term digits hidden-the_row-Term-0 shown-the_row-Goal-0 shown-the_row-Goal-Either-0-1-1 denote.Hole.Carrier.out denote.Hole.Carrier.shown denote.Hole.Carrier.hidden
endless_fails = refl

endless_heap : (run endless [] 9).world.meters.heap ≡ 10
unfolding run search solve form.out-Goal place.out-Term digits hidden-the_row-Term-0 shown-the_row-Goal-0 shown-the_row-Goal-Either-0-1-1 denote.Hole.Carrier.out denote.Hole.Carrier.shown denote.Hole.Carrier.hidden
endless_heap = refl

-- ([$A 2] = [1 $B]) $A $B
lists : transcript (alone 2 (Equal (Pair (Var 0) (Pair (Num 2) Nil)) (Pair (Num 1) (Pair (Var 1) Nil)) ∷ Print (Var 0) ∷ Print (Var 1) ∷ [])) [] 9 ≡ codes "1 2" ++ 10 ∷ []
unfolding run search render solve form.out-Goal place.out-Term digits hidden-the_row-Term-0 shown-the_row-Goal-0 shown-the_row-Goal-Either-0-1-1 denote.Hole.Carrier.out denote.Hole.Carrier.shown denote.Hole.Carrier.hidden
lists = refl

-- ($X = [@a #o]) [12 $X $Y | $Z]
printed : transcript (alone 3 (Equal (Var 0) (Pair (Word 0) (Pair (Object 0) Nil)) ∷ Print (Pair (Num 12) (Pair (Var 0) (Pair (Var 1) (Var 2)))) ∷ [])) [] 9 ≡ codes "[12 [a #o] $ | $]" ++ 10 ∷ []
unfolding run search render solve form.out-Goal place.out-Term digits hidden-the_row-Term-0 shown-the_row-Goal-0 shown-the_row-Goal-Either-0-1-1 denote.Hole.Carrier.out denote.Hole.Carrier.shown denote.Hole.Carrier.hidden
printed = refl

-- ([1 $Y] = $X) (fully bound $X) x
not_full : transcript (alone 2 (Equal (Pair (Num 1) (Pair (Var 1) Nil)) (Var 0) ∷ Test FullyBound (Var 0) ∷ Text (codes "x") ∷ [])) [] 9 ≡ codes "[Failed]" ++ 10 ∷ []
unfolding run search render solve form.out-Goal place.out-Term digits hidden-the_row-Term-0 shown-the_row-Goal-0 shown-the_row-Goal-Either-0-1-1 denote.Hole.Carrier.out denote.Hole.Carrier.shown denote.Hole.Carrier.hidden
not_full = refl

-- ## Control

-- (p) (if) (just) (fail) (then) a (else) b (endif), (p) c, and the entry point (p)
just_in_a_condition : transcript (game_of (pred (rule 0 [] (Ask 1 [] false ∷ []) ∷ []) ∷ pred (rule 0 [] (If (Just ∷ Fail ∷ []) (Text (codes "a") ∷ []) (Text (codes "b") ∷ []) ∷ []) ∷ rule 0 [] (Text (codes "c") ∷ []) ∷ []) ∷ [])) [] 9 ≡ codes "[Failed]" ++ 10 ∷ []
unfolding run search render solve form.out-Goal place.out-Term digits hidden-the_row-Term-0 shown-the_row-Goal-0 shown-the_row-Goal-Either-0-1-1 denote.Hole.Carrier.out denote.Hole.Carrier.shown denote.Hole.Carrier.hidden
just_in_a_condition = refl

-- (p) *(q $X) (just) $X (fail), (p) second, (q 1), (q 2), and the entry point (if) (p) (then) yes (else) no (endif)
just_in_a_rule : transcript (game_of (pred (rule 0 [] (If (Ask 1 [] false ∷ []) (Text (codes "yes") ∷ []) (Text (codes "no") ∷ []) ∷ []) ∷ []) ∷ pred (rule 1 [] (Ask 2 (Var 0 ∷ []) true ∷ Just ∷ Print (Var 0) ∷ Fail ∷ []) ∷ rule 0 [] (Text (codes "second") ∷ []) ∷ []) ∷ pred (rule 0 (Num 1 ∷ []) [] ∷ rule 0 (Num 2 ∷ []) [] ∷ []) ∷ [])) [] 20 ≡ codes "1 no" ++ 10 ∷ []
unfolding run search render solve form.out-Goal place.out-Term digits hidden-the_row-Term-0 shown-the_row-Goal-0 shown-the_row-Goal-Either-0-1-1 denote.Hole.Carrier.out denote.Hole.Carrier.shown denote.Hole.Carrier.hidden
just_in_a_rule = refl

-- (stoppable) { ($X = 1) one (stop) two } $X: the binding is undone, and the binding of a part that succeeds stays
stopped_part : transcript (alone 1 (Stoppable (Equal (Var 0) (Num 1) ∷ Text (codes "one") ∷ Stop ∷ Text (codes "two") ∷ []) ∷ Print (Var 0) ∷ [])) [] 20 ≡ codes "one $" ++ 10 ∷ []
unfolding run search render solve form.out-Goal place.out-Term digits hidden-the_row-Term-0 shown-the_row-Goal-0 shown-the_row-Goal-Either-0-1-1 denote.Hole.Carrier.out denote.Hole.Carrier.shown denote.Hole.Carrier.hidden
stopped_part = refl

part_done : transcript (alone 1 (Stoppable (Equal (Var 0) (Num 1) ∷ Text (codes "one") ∷ []) ∷ Print (Var 0) ∷ [])) [] 20 ≡ codes "one 1" ++ 10 ∷ []
unfolding run search render solve form.out-Goal place.out-Term digits hidden-the_row-Term-0 shown-the_row-Goal-0 shown-the_row-Goal-Either-0-1-1 denote.Hole.Carrier.out denote.Hole.Carrier.shown denote.Hole.Carrier.hidden
part_done = refl

-- ~{ ($X = 1) (fail) } $X
negated : transcript (alone 1 (Not (Equal (Var 0) (Num 1) ∷ Fail ∷ []) ∷ Print (Var 0) ∷ [])) [] 20 ≡ codes "$" ++ 10 ∷ []
unfolding run search render solve form.out-Goal place.out-Term digits hidden-the_row-Term-0 shown-the_row-Goal-0 shown-the_row-Goal-Either-0-1-1 denote.Hole.Carrier.out denote.Hole.Carrier.shown denote.Hole.Carrier.hidden
negated = refl
