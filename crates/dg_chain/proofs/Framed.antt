-- Code that runs behind no rule: it asks the entry, goes on behind it, and ends the run.
use Rattle.std.proofs.Common.{◌≡◌, ℕ, List, [], ◌∷◌, Bool, false, refl, sym, subst}
use Rattle.dg_base.specs.declared.program.CoreProgram.{CoreProgram}
use Rattle.dg_base.specs.declared.program.Goal.{Goal, out-Goal}
use Rattle.dg_base.specs.declared.program.Goal.TheOpen as form
use Rattle.dg_base.specs.declared.program.Goal.TheVariants as goal
use Rattle.dg_base.specs.declared.program.Term.{Term}
use Rattle.dg_mid.specs.declared.code.Action.{Action}
use Rattle.dg_mid.specs.declared.code.Action.TheVariants as action
use Rattle.dg_mid.specs.declared.code.Code.{Code}
use Rattle.dg_mid.specs.declared.code.Op.{Op}
use Rattle.dg_mid.specs.declared.code.Op.TheVariants as op
use Rattle.dg_mid.specs.Actions.{form_of}
use Rattle.dg_mid.specs.Code.{block_at}
use Rattle.dg_mid.specs.Codes.{End, Finishes, Codes, Stands, jumps, returns, commits, refuses, backs, leaves, keeps, finishes, acts, ask, last_ask, query, last_query, holds, objects, only, either, selects, once, negates, branch, exhausts, shields, collects, accumulates, forever}
use Rattle.dg_mid.proofs.Acts.{outs}

-- Code that goes on at a block, asks a query and goes on behind it, or ends the run.
pub data Top (code : Code) : List Op → Type 0 where
  goes : (b : ℕ) (ops : List Op) → Top code (block_at code b) → Top code (op.Goto b ∷ ops)
  asks : (pred : ℕ) (terms : List Term) (many : Bool) (next : ℕ) (ops : List Op) → Top code (block_at code next) → Top code (op.Ask pred terms many next ∷ ops)
  ends : (ops : List Op) → Top code (op.Done ∷ ops)

-- What comes behind its first instruction.
abbrev pub Behind : Code → List Op → Type 0
Behind code (op.Goto b ∷ ops) = Top code (block_at code b)
Behind code (op.Ask pred terms many next ∷ ops) = Top code (block_at code next)
Behind code (op.Done ∷ ops) = Unit {0}
Behind code ops = ⊥

pub behind : {code : Code} {ops : List Op} → Top code ops → Behind code ops
behind (goes b ops h) = h
behind (asks pred terms many next ops h) = h
behind (ends ops) = tt

-- Goals that are queries of predicates.
abbrev IsAsk : form.Goal-F Goal → Type 0
IsAsk (form.Ask pred args many) = Unit {0}
IsAsk other = ⊥

abbrev AreAsks : List Goal → Type 0
AreAsks [] = Unit {0}
AreAsks (x ∷ xs) = IsAsk (out-Goal x) × AreAsks xs

act_asks_none : (a : Action) → IsAsk (form_of a) → ⊥
act_asks_none (action.Text name) h = h
act_asks_none (action.Print t) h = h
act_asks_none (action.Gap kind) h = h
act_asks_none (action.GapN t) h = h
act_asks_none (action.Equal a b) h = h
act_asks_none (action.Test kind t) h = h
act_asks_none (action.Now place args sets) h = h
act_asks_none (action.Arith f a b c) h = h
act_asks_none (action.Compare f a b) h = h
act_asks_none (action.Random a b c) h = h
act_asks_none (action.Input t) h = h
act_asks_none (action.SplitWord a b) h = h
act_asks_none (action.JoinWords a b) h = h
act_asks_none action.Just h = h
act_asks_none action.Fail h = h
act_asks_none action.Stop h = h
act_asks_none action.Quit h = h

top_of : {code : Code} {ops : List Op} {goals : List Goal} {end : End} → Stands code ops goals end → end ≡ Finishes → AreAsks goals → Top code ops
top_of (jumps b ops goals end s) e a = goes b ops (top_of s e a)
top_of (returns ops) e a = absurd (cc)
top_of (commits ops goals end s) e a = absurd (cc)
top_of (refuses ops) e a = absurd (cc)
top_of (backs ops) e a = absurd (cc)
top_of (leaves ops goals end s) e a = absurd (cc)
top_of (keeps term ops) e a = absurd (cc)
top_of (finishes ops) e a = ends ops
top_of (acts x ops goals end s) e a = absurd (act_asks_none x (subst IsAsk (outs x) a.0))
top_of (ask pred terms many next ops goals end s) e a = asks pred terms many next ops (top_of s e a.1)
top_of (last_ask pred terms many ops) e a = absurd (cc)
top_of (query x y many next ops goals end s) e a = absurd (subst IsAsk (goal.outs-Query x y many) a.0)
top_of (last_query x y many ops) e a = absurd (cc)
top_of (holds place terms many next ops goals end s u) e a = absurd (subst IsAsk (goal.outs-Holds place terms many) a.0)
top_of (objects term many next ops goals end s u) e a = absurd (subst IsAsk (goal.outs-IsObject term many) a.0)
top_of (only list ops goals end s) e a = absurd (subst IsAsk (goal.outs-Either (list ∷ [])) a.0)
top_of (either alt list second lists ops goals end s u) e a = absurd (subst IsAsk (goal.outs-Either (list ∷ second ∷ lists)) a.0)
top_of (selects site mode blocks lists behind ops goals end s u) e a = absurd (subst IsAsk (goal.outs-Select site mode lists) a.0)
top_of (once inner ops goals end s) e a = absurd (subst IsAsk (goal.outs-Once inner) a.0)
top_of (negates alt inner ops goals end s u) e a = absurd (subst IsAsk (goal.outs-Not inner) a.0)
top_of (branch alt test first other ops goals end s u) e a = absurd (subst IsAsk (goal.outs-If test first other) a.0)
top_of (exhausts alt inner ops goals end s u) e a = absurd (subst IsAsk (goal.outs-Exhaust inner) a.0)
top_of (shields alt inner ops goals end s u) e a = absurd (subst IsAsk (goal.outs-Stoppable inner) a.0)
top_of (collects term into alt inner ops others goals end s q u) e a = absurd (subst IsAsk (goal.outs-Collect term inner into) a.0)
top_of (accumulates term into alt inner ops others goals end s q u) e a = absurd (subst IsAsk (goal.outs-Accumulate term inner into) a.0)
top_of (forever b ops goals end q s) e a = absurd (subst IsAsk goal.outs-Forever a.0)

-- So begins the code of a program.
pub starts_top : (program : CoreProgram) (code : Code) → Codes program code → Top code (block_at code 1)
starts_top program code codes = top_of codes.starts refl (subst IsAsk (sym (goal.outs-Ask program.entry [] false)) tt, tt)
