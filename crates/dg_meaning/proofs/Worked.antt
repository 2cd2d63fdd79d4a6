-- Worked values: what small programs come to, by computation from the definitions.
use Rattle.std.proofs.Common.{◌≡◌, ℕ, List, [], ◌∷◌, ◌++◌, true, false, refl}
use Rattle.std.specs.Prelude.{codes}
use Rattle.dg_base.specs.declared.program.Goal as form
use Rattle.dg_base.specs.declared.program.Goal.{Goal}
use Rattle.dg_base.specs.declared.program.GapKind.TheVariants.{NoSpace, Line, Par}
use Rattle.dg_base.specs.declared.program.Goal.TheVariants.{Text, Gap, Ask, Fail, Stop, Forever}
use Rattle.dg_base.specs.declared.program.Rule.{Rule}
use Rattle.dg_base.specs.declared.program.Pred.{Pred}
use Rattle.dg_meaning.specs.World.{Game, Prints, Piece, Asked, Answered, Retried, HasFailed}
use Rattle.dg_meaning.specs.Unify.{solve}
use Rattle.dg_meaning.specs.Letters.{compared}
use Rattle.dg_meaning.specs.Search.{search}
use Rattle.dg_meaning.specs.Render.{render}
use Rattle.dg_meaning.specs.Transcript.{run, transcript}

abbrev rule : List Goal → Rule
rule body = record { vars = 0; head = []; body = body }

abbrev pred : List Rule → Pred
pred rules = record { name = codes "(p)"; from_source = true; rules = rules }

abbrev word : ℕ → Goal
word letter = Text (letter ∷ [])

abbrev query : ℕ → Goal
query q = Ask q [] false

abbrev game_of : List Pred → ℕ → Game
game_of preds entry = record {
  program = record { preds = preds; closures = []; places = []; objects = []; words = []; sites = 0; entry = entry };
  dice = 0 ∷ [];
}

-- a program of an entry point alone
abbrev alone : List Goal → Game
alone body = game_of (pred (rule body ∷ []) ∷ []) 0

-- ## Queries

-- (a) x (b), (a) y, (b) (c), and the entry point (a) z; their numbers are 0, 1, 2 and 3
abbrev game : Game
game =
    game_of (pred (rule (word 120 ∷ query 1 ∷ []) ∷ rule (word 121 ∷ []) ∷ []) ∷ pred (rule (query 2 ∷ []) ∷ []) ∷ pred [] ∷ pred (rule (query 0 ∷ word 122 ∷ []) ∷ []) ∷ []) 3

-- With goals to spare, it is done after seven goals.
all_of_it : transcript game [] 9 ≡ codes "x y z" ++ 10 ∷ []
unfolding run search solve render form.out-Goal denote.Hole.Carrier.out
all_of_it = refl

goals_left : (run game [] 9).left ≡ 2
unfolding run search solve form.out-Goal denote.Hole.Carrier.out
goals_left = refl

-- Just enough goals.
at_seven : transcript game [] 7 ≡ codes "x y z" ++ 10 ∷ []
unfolding run search solve render form.out-Goal denote.Hole.Carrier.out
at_seven = refl

-- Stopped before the last word.
at_six : transcript game [] 6 ≡ codes "x y" ++ 10 ∷ codes "[Step limit]" ++ 10 ∷ []
unfolding run search solve render form.out-Goal denote.Hole.Carrier.out
at_six = refl

-- Stopped within the query that fails.
at_four : transcript game [] 4 ≡ codes "x" ++ 10 ∷ codes "[Step limit]" ++ 10 ∷ []
unfolding run search solve render form.out-Goal denote.Hole.Carrier.out
at_four = refl

-- What happens, in order.
events : (run game [] 9).world.events
    ≡ Asked 3 ∷ Asked 0 ∷ Prints (Piece (120 ∷ [])) ∷ Asked 1 ∷ Asked 2 ∷ HasFailed 2 ∷ HasFailed 1 ∷ Retried 0 ∷ Prints (Piece (121 ∷ [])) ∷ Answered 0 ∷ Prints (Piece (122 ∷ [])) ∷ Answered 3 ∷ []
unfolding run search solve form.out-Goal denote.Hole.Carrier.out
events = refl

-- Six cells for each rule that is entered, ten more for a choice with another rule; each goal, each rule entered and each character is work.
heap : (run game [] 9).world.meters.heap ≡ 28
unfolding run search solve form.out-Goal denote.Hole.Carrier.out
heap = refl

work : (run game [] 9).world.meters.work ≡ 16
unfolding run search solve compared form.out-Goal denote.Hole.Carrier.out
work = refl

-- ## Control

-- (repeat forever) x (fail): each turn is three goals.
forever : transcript (alone (Forever ∷ word 120 ∷ Fail ∷ [])) [] 7 ≡ codes "x x" ++ 10 ∷ codes "[Step limit]" ++ 10 ∷ []
unfolding run search solve render form.out-Goal denote.Hole.Carrier.out
forever = refl

-- Up to its third word the work is fifteen: five for each.
forever_work : (run (alone (Forever ∷ word 120 ∷ Fail ∷ [])) [] 9).world.meters.work ≡ 15
unfolding run search solve compared form.out-Goal denote.Hole.Carrier.out
forever_work = refl

-- A stop with no stoppable part around it ends the run.
stopped : transcript (alone (word 49 ∷ Stop ∷ [])) [] 50 ≡ codes "1" ++ 10 ∷ codes "[Stopped]" ++ 10 ∷ []
unfolding run search solve render form.out-Goal denote.Hole.Carrier.out
stopped = refl

has_failed : transcript (alone (Fail ∷ [])) [] 50 ≡ codes "[Failed]" ++ 10 ∷ []
unfolding run search solve render form.out-Goal denote.Hole.Carrier.out
has_failed = refl

-- ## Spacing

-- Well , (no space) done . (par) Next (line) (line) end
gaps : transcript (alone (Text (codes "Well") ∷ Text (codes ",") ∷ Gap NoSpace ∷ Text (codes "done") ∷ Text (codes ".") ∷ Gap Par ∷ Text (codes "Next") ∷ Gap Line ∷ Gap Line ∷ Text (codes "end") ∷ [])) [] 50 ≡ codes "Well,done." ++ 10 ∷ 10 ∷ codes "Next" ++ 10 ∷ codes "end" ++ 10 ∷ []
unfolding run search solve render form.out-Goal denote.Hole.Carrier.out
gaps = refl
