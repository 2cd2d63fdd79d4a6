-- A worked program and its code: the code stands for the program, is tidy, and runs as it should, by computation from the definitions.
use Rattle.std.proofs.Common.{◌≡◌, ℕ, zero, suc, ◌<◌, List, [], ◌∷◌, true, false, refl}
use Rattle.std.specs.Prelude.{codes, slice_get}
use Rattle.std.specs.Fmt.{digits}
use Rattle.dg_base.specs.declared.program.Goal as form
use Rattle.dg_base.specs.declared.program.Term.TheBlock.{hidden-the_row-Term-0}
use Rattle.dg_base.specs.declared.program.Term as place
use Rattle.dg_base.specs.declared.program.Goal.TheVariants as goal
use Rattle.dg_base.specs.declared.program.Term.TheVariants.{Num, Var}
use Rattle.dg_base.specs.declared.run.Ending.TheVariants as ending
use Rattle.dg_meaning.specs.World.{Game, Piece}
use Rattle.dg_meaning.specs.Unify.{solve}
use Rattle.dg_meaning.specs.Moves.{rules_of}
use Rattle.dg_base.specs.declared.run.Limits.{Limits}
use Rattle.dg_mid.specs.declared.code.Op.{Op}
use Rattle.dg_mid.specs.declared.code.Op.TheVariants as op
use Rattle.dg_mid.specs.declared.code.Action.TheVariants as action
use Rattle.dg_mid.specs.declared.code.Key.TheVariants as key
use Rattle.dg_mid.specs.declared.code.Block.{Block}
use Rattle.dg_mid.specs.declared.code.Code.{Code}
use Rattle.dg_mid.specs.Code.{block_at, rules_at}
use Rattle.dg_mid.specs.State.{Ended}
use Rattle.dg_mid.specs.Step.{setting}
use Rattle.dg_mid.specs.Codes.{Codes, RulesStand, returns, finishes, acts, ask}
use Rattle.dg_mid.specs.Runs.{after}
use Rattle.dg_mid.specs.Potential.{Tidy, begins_goto, OpsTidy}

-- (p 1), (p 2), and the entry point *(p $X) $X (fail)
abbrev game : Game
game = record {
  program = record {
    preds = record { name = codes "(e)"; from_source = true; rules = record { vars = 1; head = []; body = goal.Ask 1 (Var 0 ∷ []) true ∷ goal.Print (Var 0) ∷ goal.Fail ∷ [] } ∷ [] }
        ∷ record { name = codes "(p)"; from_source = true; rules = record { vars = 0; head = Num 1 ∷ []; body = [] } ∷ record { vars = 0; head = Num 2 ∷ []; body = [] } ∷ [] } ∷ [];
    closures = [];
    places = [];
    objects = [];
    words = [];
    sites = 0;
    entry = 0;
  };
  dice = 0 ∷ [];
}

abbrev block : List Op → Block
block ops = record { ops = ops }

abbrev code : Code
code = record {
  blocks = block (op.Return ∷ [])
      ∷ block (op.Ask 0 [] false 2 ∷ [])
      ∷ block (op.Done ∷ [])
      ∷ block (op.Enter 1 [] ∷ op.Ask 1 (Var 0 ∷ []) true 4 ∷ [])
      ∷ block (op.Do (action.Print (Var 0)) ∷ op.Do action.Fail ∷ op.Return ∷ [])
      ∷ block (op.Enter 0 (Num 1 ∷ []) ∷ op.Return ∷ [])
      ∷ block (op.Enter 0 (Num 2 ∷ []) ∷ op.Return ∷ []) ∷ [];
  preds = (record { key = key.Any; block = 3 } ∷ []) ∷ (record { key = key.Num 1; block = 5 } ∷ record { key = key.Num 2; block = 6 } ∷ []) ∷ [];
  closures = [];
}

stands : Codes game.program code
unfolding place.out-Term denote.Hole.Carrier.out
stands = record { rules = rules; bodies = λ n. tt; answers = refl; starts = ask 0 [] false 2 [] [] _ (finishes []) } where
  rules : (pred : ℕ) → RulesStand code (rules_at code pred) (rules_of (slice_get game.program.preds pred))
  rules zero = (record { ops = _; block = refl; body = ask 1 (Var 0 ∷ []) true 4 [] (goal.Print (Var 0) ∷ goal.Fail ∷ []) _ (acts (action.Print (Var 0)) _ _ _ (acts action.Fail _ _ _ (returns []))); key_is = refl }, tt)
  rules (suc zero) = (record { ops = _; block = refl; body = returns []; key_is = refl }, (record { ops = _; block = refl; body = returns []; key_is = refl }, tt))
  rules (suc (suc pred)) = tt

is_tidy : Tidy code
is_tidy = record { no_jumps = jumps; blocks = blocks; earlier = earlier } where
  jumps : (b : ℕ) → begins_goto (block_at code b) ≡ false
  jumps zero = refl
  jumps (suc zero) = refl
  jumps (suc (suc zero)) = refl
  jumps (suc (suc (suc zero))) = refl
  jumps (suc (suc (suc (suc zero)))) = refl
  jumps (suc (suc (suc (suc (suc zero))))) = refl
  jumps (suc (suc (suc (suc (suc (suc zero)))))) = refl
  jumps (suc (suc (suc (suc (suc (suc (suc b))))))) = refl

  blocks : (b : ℕ) → OpsTidy code (block_at code b)
  blocks zero = (tt, tt)
  blocks (suc zero) = (refl, tt)
  blocks (suc (suc zero)) = (tt, tt)
  blocks (suc (suc (suc zero))) = (tt, (refl, tt))
  blocks (suc (suc (suc (suc zero)))) = (tt, (tt, (tt, tt)))
  blocks (suc (suc (suc (suc (suc zero))))) = (tt, (tt, tt))
  blocks (suc (suc (suc (suc (suc (suc zero)))))) = (tt, (tt, tt))
  blocks (suc (suc (suc (suc (suc (suc (suc b))))))) = tt

  earlier : (b alt : ℕ) (ops : List Op) → block_at code b ≡ op.Retry alt ∷ ops → alt < b
  earlier zero alt ops e = absurd (cc (e))
  earlier (suc zero) alt ops e = absurd (cc (e))
  earlier (suc (suc zero)) alt ops e = absurd (cc (e))
  earlier (suc (suc (suc zero))) alt ops e = absurd (cc (e))
  earlier (suc (suc (suc (suc zero)))) alt ops e = absurd (cc (e))
  earlier (suc (suc (suc (suc (suc zero))))) alt ops e = absurd (cc (e))
  earlier (suc (suc (suc (suc (suc (suc zero)))))) alt ops e = absurd (cc (e))
  earlier (suc (suc (suc (suc (suc (suc (suc b))))))) alt ops e = absurd (cc (e))

abbrev limits : Limits
limits = record { steps = 100; heap = 1000; trail = 100; aux = 10; keep = 10 }

-- it fails behind 6 goals
ends : (after (setting game code limits) [] 14).now ≡ Ended ending.Failed
unfolding solve place.out-Term digits hidden-the_row-Term-0 denote.Hole.Carrier.out denote.Hole.Carrier.shown denote.Hole.Carrier.hidden form.out-Goal
ends = refl

goals_taken : (after (setting game code limits) [] 14).goals ≡ 6
unfolding solve place.out-Term digits hidden-the_row-Term-0 denote.Hole.Carrier.out denote.Hole.Carrier.shown denote.Hole.Carrier.hidden form.out-Goal
goals_taken = refl

-- it prints both answers
prints_both : (after (setting game code limits) [] 14).prints ≡ Piece (codes "1") ∷ Piece (codes "2") ∷ []
unfolding solve place.out-Term digits hidden-the_row-Term-0 denote.Hole.Carrier.out denote.Hole.Carrier.shown denote.Hole.Carrier.hidden form.out-Goal
prints_both = refl

-- with 7 cells for the entry point's rule, 11 for the choice and 6 for the first rule, a limit of 23 is met where that rule is entered
abbrev few : Limits
few = record { steps = 100; heap = 23; trail = 100; aux = 10; keep = 10 }

meets_limit : (after (setting game code few) [] 4).now ≡ Ended ending.HeapLimit
unfolding solve place.out-Term digits hidden-the_row-Term-0 denote.Hole.Carrier.out denote.Hole.Carrier.shown denote.Hole.Carrier.hidden form.out-Goal
meets_limit = refl
