-- Code that is written grows at its front, and stays tidy.
use Rattle.std.proofs.Common.{◌≡◌, ℕ, ◌<◌, List, [], ◌∷◌, ◌++◌, Bool, false, Option, Some, None, refl, sym, ap, ◌∙◌, subst, length, append_assoc, length-append, arith, inl, inr}
use Rattle.std.specs.Prelude.{reverse, Result, Ok, Err, IfOk, IsTrue}
use Rattle.std.specs.List.{slice_get}
use Rattle.std.proofs.lemmas.Bool.{cases_lt}
use Rattle.std.proofs.lemmas.List.{reverse-append, reverse-reverse}
use Rattle.dg_base.specs.declared.program.Goal.{Goal}
use Rattle.dg_base.specs.declared.program.Goal.TheVariants as goal
use Rattle.dg_base.specs.declared.program.Term.{Term}
use Rattle.dg_base.specs.Begins.{Begins}
use Rattle.dg_meaning.proofs.OneRun.{begins_on}
use Rattle.dg_mid.specs.declared.code.Op.{Op}
use Rattle.dg_mid.specs.declared.code.Op.TheVariants as op
use Rattle.dg_mid.specs.declared.code.Action.{Action}
use Rattle.dg_mid.specs.declared.code.Block.{Block}
use Rattle.dg_mid.specs.declared.code.Code.{Code}
use Rattle.dg_mid.specs.Code.{block_at, ops_of}
use Rattle.dg_mid.specs.Actions.{goal_of}
use Rattle.dg_mid.specs.Codes.{End, Returns, Stands, returns, acts, ask, last_ask, query, last_query}
use Rattle.dg_mid.specs.declared.writing.Level.{Level}
use Rattle.dg_mid.specs.declared.writing.Level.TheVariants as level
use Rattle.dg_mid.specs.Potential.{begins_goto, begins_return}
use Rattle.dg_mid.specs.Tidying.{OpNeat, OpsNeat, BlocksTidy, DoesMore, FirstTidy, Neat, IsPlain, TailTidy, IsThere, LevelTidy, LevelsTidy, LandsTidy}
use Rattle.dg_mid.proofs.Weights.{ops_reverse, op_added, op_alone, body_one, weight_ask, weight_query, action_light}
use Rattle.dg_mid.specs.Writing.{PutsFirst, Lands, tail_ops}

-- ## Lists

pub reverse_put : (ops : List Op) (x : Op) → reverse (ops ++ x ∷ []) ≡ x ∷ reverse ops
reverse_put ops x = reverse-append ops (x ∷ [])

get_behind : {A : Type 0} (xs ys : List A) (x : A) → slice_get (xs ++ x ∷ ys) (length xs) ≡ Some x
get_behind [] ys x = refl
get_behind (z ∷ xs) ys x = get_behind xs ys x

-- a block that was just made
pub block_made : (blocks now : List Block) (ops : List Op) (b : ℕ) (code : Code) → now ≡ blocks ++ record { ops = ops } ∷ [] → b ≡ length blocks → Begins now code.blocks → block_at code b ≡ ops
block_made blocks now ops b code made is begins =
    let new : Block = record { ops = ops } in
    let there : code.blocks ≡ blocks ++ new ∷ begins.behind = begins.is ∙ ap (λ l. l ++ begins.behind) made ∙ append_assoc blocks (new ∷ []) begins.behind in
    ap (block_at code) is ∙ ap (λ l. ops_of (slice_get l (length blocks))) there ∙ ap ops_of (get_behind blocks begins.behind new)

pub made_begins : (blocks now : List Block) (block : Block) → now ≡ blocks ++ block ∷ [] → Begins blocks now
made_begins blocks now block is = record { behind = block ∷ []; is = is }

-- ## Tidy code

pub there_later : (old new : List Block) → Begins old new → (b : ℕ) → b < length old → b < length new
there_later old new on b lt = omega (arith, ap length on.is, length-append old on.behind)

more_later : (old new : List Block) → Begins old new → (b : ℕ) → DoesMore old b → DoesMore new b
more_later old new on b h = record { there = there_later old new on b h.there; more = λ code begins. h.more code (begins_on old new code.blocks on begins) }

pub tail_neat_later : (old new : List Block) → Begins old new → (tail : Option ℕ) → TailTidy old tail → TailTidy new tail
tail_neat_later old new on None h = h
tail_neat_later old new on (Some b) h = more_later old new on b h

is_there_later : (old new : List Block) → Begins old new → (alt : Option ℕ) → IsThere old alt → IsThere new alt
is_there_later old new on None h = h
is_there_later old new on (Some b) h = there_later old new on b h

level_later : (old new : List Block) → Begins old new → (l : Level) → LevelTidy old l → LevelTidy new l
level_later old new on (level.Inner x others) h = h
level_later old new on (level.Other test first tail others) h = tail_neat_later old new on tail h
level_later old new on (level.Lists left alt tail others) h = (is_there_later old new on alt h.0, tail_neat_later old new on tail h.1)
level_later old new on (level.Branches s others) h = tail_neat_later old new on s.tail h

pub levels_later : (old new : List Block) → Begins old new → (levels : List Level) → LevelsTidy old levels → LevelsTidy new levels
levels_later old new on [] h = h
levels_later old new on (l ∷ levels) h = (level_later old new on l h.0, levels_later old new on levels h.1)

pub plain_first : (blocks : List Block) (x : Op) (ops : List Op) → IsPlain x → FirstTidy blocks (x ∷ ops)
plain_first blocks (op.Goto b) ops h = elim h [ ]
plain_first blocks op.Return ops h = elim h [ ]
plain_first blocks (op.Retry alt) ops h = elim h [ ]
plain_first blocks (op.Ask pred terms many next) ops h = elim h [ ]
plain_first blocks (op.Query a b many next) ops h = elim h [ ]
plain_first blocks x ops h = tt

pub plain_query : (code : Code) (x : Op) → IsPlain x → OpNeat code x
plain_query code (op.Ask pred terms many next) h = elim h [ ]
plain_query code (op.Query a b many next) h = elim h [ ]
plain_query code (op.Find place terms many next) h = elim h [ ]
plain_query code x h = tt

plain_goto : (x : Op) (ops : List Op) → IsPlain x → begins_goto (x ∷ ops) ≡ false
plain_goto (op.Goto b) ops h = elim h [ ]
plain_goto x ops h = refl

pub plain_return : (x : Op) (ops : List Op) → IsPlain x → begins_return (x ∷ ops) ≡ false
plain_return op.Return ops h = elim h [ ]
plain_return x ops h = refl

-- one more instruction in front
pub neat_put : (blocks : List Block) (ops put : List Op) (x : Op) → put ≡ ops ++ x ∷ [] → IsPlain x → Neat blocks (reverse ops) → Neat blocks (reverse put)
neat_put blocks ops put x e plain h = subst (Neat blocks) (sym (ap reverse e ∙ reverse_put ops x)) (record {
  blocks_are = h.blocks_are;
  first = plain_first blocks x (reverse ops) plain;
  queries = λ code begins. (plain_query code x plain, h.queries code begins);
})

-- an instruction alone
pub neat_alone : (blocks : List Block) (ops : List Op) (x : Op) → ops ≡ x ∷ [] → IsPlain x → BlocksTidy blocks → Neat blocks (reverse ops)
neat_alone blocks ops x e plain h = subst (λ l. Neat blocks (reverse l)) (sym e) (record {
  blocks_are = h;
  first = plain_first blocks x [] plain;
  queries = λ code begins. (plain_query code x plain, tt);
})

-- what a way ends with
pub neat_tail : (blocks : List Block) (tail : Option ℕ) (ops : List Op) → ops ≡ tail_ops tail → BlocksTidy blocks → TailTidy blocks tail → Neat blocks (reverse ops)
neat_tail blocks None ops e h t = subst (λ l. Neat blocks (reverse l)) (sym e) (record { blocks_are = h; first = refl; queries = λ code begins. (tt, tt) })
neat_tail blocks (Some b) ops e h t = subst (λ l. Neat blocks (reverse l)) (sym e) (record { blocks_are = h; first = (refl, t); queries = λ code begins. (tt, tt) })

no_retry : (blocks : List Block) (ops : List Op) → FirstTidy blocks ops → (alt : ℕ) (rest : List Op) → ops ≡ op.Retry alt ∷ rest → ⊥
no_retry blocks ops h alt rest e = subst (FirstTidy blocks) e h

no_goto : (blocks : List Block) (ops : List Op) → ((c : ℕ) → ops ≡ op.Goto c ∷ [] → ⊥) → FirstTidy blocks ops → begins_goto ops ≡ false
no_goto blocks (op.Goto b ∷ ops) not h = absurd (not b (ap (λ l. op.Goto b ∷ l) h.0))
no_goto blocks ops not h = refl

no_answer : (blocks : List Block) (ops : List Op) → (ops ≡ op.Return ∷ [] → ⊥) → FirstTidy blocks ops → begins_return ops ≡ false
no_answer blocks (op.Return ∷ ops) not h = absurd (not (ap (λ l. op.Return ∷ l) h))
no_answer blocks ops not h = refl

alone_back : (ops : List Op) (x : Op) → reverse ops ≡ x ∷ [] → ops ≡ x ∷ []
alone_back ops x e = sym (reverse-reverse ops) ∙ ap reverse e

pub no_answer_back : (blocks : List Block) (ops : List Op) → (ops ≡ op.Return ∷ [] → ⊥) → FirstTidy blocks (reverse ops) → begins_return (reverse ops) ≡ false
no_answer_back blocks ops not h = no_answer blocks (reverse ops) (λ e. not (alone_back ops op.Return e)) h

-- a block that was just made
pub blocks_put : (old now : List Block) (ops : List Op) → now ≡ old ++ record { ops = ops } ∷ [] → begins_goto ops ≡ false → ((code : Code) → Begins old code.blocks → OpsNeat code ops) →
    ((alt : ℕ) (rest : List Op) → ops ≡ op.Retry alt ∷ rest → alt < length old) → BlocksTidy old → BlocksTidy now
blocks_put old now ops made goto queries early h code begins b lt =
    let new : Block = record { ops = ops } in
    let before : Begins old code.blocks = begins_on old now code.blocks (made_begins old now new made) begins in
    elim (cases_lt b (length old)) [
      | inl within ↦ h code before b within
      | inr past ↦
          let is : b ≡ length old = omega (arith, ap length made, length-append old (new ∷ [])) in
          let at : block_at code b ≡ ops = block_made old now ops b code made is begins in
          record {
            no_jump = ap begins_goto at ∙ goto;
            queries = subst (OpsNeat code) (sym at) (queries code before);
            earlier = λ alt rest e. let x : alt < length old = early alt rest (sym at ∙ e) in omega (arith, x, is);
          }
    ]

pub there_put : (old now : List Block) (ops : List Op) (b : ℕ) → now ≡ old ++ record { ops = ops } ∷ [] → b ≡ length old → b < length now
there_put old now ops b made is = let new : Block = record { ops = ops } in omega (arith, ap length made, length-append old (new ∷ []))

pub more_put : (old now : List Block) (ops : List Op) (b : ℕ) → now ≡ old ++ record { ops = ops } ∷ [] → b ≡ length old → begins_return ops ≡ false → DoesMore now b
more_put old now ops b made is ret = record { there = there_put old now ops b made is; more = λ code begins. ap begins_return (block_made old now ops b code made is begins) ∙ ret }

-- a block of instructions that aren't a jump alone
pub lands_neat : (old now : List Block) (ops : List Op) (b : ℕ) → now ≡ old ++ record { ops = reverse ops } ∷ [] → b ≡ length old → ((c : ℕ) → ops ≡ op.Goto c ∷ [] → ⊥) → Neat old (reverse ops) →
    LandsTidy now (reverse ops) b
lands_neat old now ops b made is not h = record {
  blocks_are = blocks_put old now (reverse ops) made (no_goto old (reverse ops) (λ c e. not c (alone_back ops (op.Goto c) e)) h.first) h.queries
      (λ alt rest e. absurd (no_retry old (reverse ops) h.first alt rest e)) h.blocks_are;
  there = there_put old now (reverse ops) b made is;
  more = λ ret. more_put old now (reverse ops) b made is ret;
}

-- a jump that stands alone
pub jump_neat : (blocks : List Block) (ops : List Op) (b : ℕ) → ops ≡ op.Goto b ∷ [] → Neat blocks (reverse ops) → LandsTidy blocks (reverse ops) b
jump_neat blocks ops b e h =
    let first : FirstTidy blocks (op.Goto b ∷ []) = subst (λ l. FirstTidy blocks (reverse l)) e h.first in
    record { blocks_are = h.blocks_are; there = first.1.there; more = λ ret. first.1 }

-- a block with one more instruction in front
pub block_neat : (old now : List Block) (ops put : List Op) (x : Op) → put ≡ ops ++ x ∷ [] → now ≡ old ++ record { ops = reverse put } ∷ [] → IsPlain x → Neat old (reverse ops) → BlocksTidy now
block_neat old now ops put x e made plain h =
    let n : Neat old (reverse put) = neat_put old ops put x e plain h in
    let front : reverse put ≡ x ∷ reverse ops = ap reverse e ∙ reverse_put ops x in
    blocks_put old now (reverse put) made (ap begins_goto front ∙ plain_goto x (reverse ops) plain) n.queries (λ alt rest e'. absurd (no_retry old (reverse put) n.first alt rest e')) n.blocks_are

pub untrue : IsTrue false → ⊥
untrue h = cc

-- ## Goals

pub puts_act : (blocks : List Block) (x : Action) (ops new : List Op) → new ≡ ops ++ op.Do x ∷ [] → PutsFirst (goal_of x ∷ []) blocks blocks (reverse ops) (reverse new)
puts_act blocks x ops new e = record {
  stands = λ rest end s code begins. subst (λ l. Stands code l (goal_of x ∷ rest) end) (sym (ap reverse e ∙ reverse_put ops (op.Do x))) (acts x (reverse ops) rest end (s code begins));
  neat = λ h. neat_put blocks ops new (op.Do x) e tt h;
  light = λ w. omega (arith, ops_reverse w ops, ops_reverse w new, op_added w ops new (op.Do x) e, action_light w x, body_one w (goal_of x));
}

pub puts_ask : (old now : List Block) (pred : ℕ) (terms : List Term) (many : Bool) (ops new : List Op) (next : ℕ) → Lands old now (reverse ops) next → (ops ≡ op.Return ∷ [] → ⊥) → new ≡ op.Ask pred terms many next ∷ [] →
    PutsFirst (goal.Ask pred terms many ∷ []) old now (reverse ops) (reverse new)
puts_ask old now pred terms many ops new next lands not e = record {
  stands = λ rest end s code begins. subst (λ l. Stands code (reverse l) (goal.Ask pred terms many ∷ rest) end) (sym e) (ask pred terms many next [] rest end (lands.stands rest end s code begins));
  neat = λ h.
      let l : LandsTidy now (reverse ops) next = lands.neat h in
      let m : DoesMore now next = l.more (no_answer_back old ops not h.first) in
      subst (λ k. Neat now (reverse k)) (sym e) (record { blocks_are = l.blocks_are; first = tt; queries = λ code begins. (m.more code begins, tt) });
  light = λ w.
      let l = lands.light w in
      omega (arith, ops_reverse w ops, ops_reverse w new, op_alone w new (op.Ask pred terms many next) e, body_one w (goal.Ask pred terms many), weight_ask w pred terms many);
}

pub if_ok_map : {A E : Type 0} (r : Result A E) (P Q : A → Type 0) → ((x : A) → P x → Q x) → IfOk r P → IfOk r Q
if_ok_map (Ok x) P Q f h = f x h
if_ok_map (Err e) P Q f h = h

pub if_ok_both : {A E : Type 0} (r : Result A E) (P Q R : A → Type 0) → ((x : A) → P x → Q x → R x) → IfOk r P → IfOk r Q → IfOk r R
if_ok_both (Ok x) P Q R f h k = f x h k
if_ok_both (Err e) P Q R f h k = h

-- an answer alone stands for no goal
only_returns : (code : Code) (rest : List Goal) (end : End) → Stands code (op.Return ∷ []) rest end → (rest ≡ []) × (end ≡ Returns)
only_returns code rest end (returns ops) = (refl, refl)

pub puts_last : (old : List Block) (pred : ℕ) (terms : List Term) (many : Bool) (ops new : List Op) → ops ≡ op.Return ∷ [] → new ≡ op.LastAsk pred terms many ∷ [] → PutsFirst (goal.Ask pred terms many ∷ []) old old (reverse ops) (reverse new)
puts_last old pred terms many ops new e e' = record {
  stands = λ rest end s code begins.
      let none = only_returns code rest end (subst (λ l. Stands code (reverse l) rest end) e (s code begins)) in
      subst (λ l. Stands code (reverse l) (goal.Ask pred terms many ∷ rest) end) (sym e')
      (subst (λ l. Stands code (op.LastAsk pred terms many ∷ []) (goal.Ask pred terms many ∷ l) end) (sym none.0)
      (subst (Stands code (op.LastAsk pred terms many ∷ []) (goal.Ask pred terms many ∷ [])) (sym none.1) (last_ask pred terms many [])));
  neat = λ h. neat_alone old new (op.LastAsk pred terms many) e' tt h.blocks_are;
  light = λ w. omega (arith, ops_reverse w ops, ops_reverse w new, op_alone w new (op.LastAsk pred terms many) e', body_one w (goal.Ask pred terms many), weight_ask w pred terms many);
}

-- ## Closures

pub puts_query : (old now : List Block) (a : Term) (b : Option Term) (many : Bool) (ops new : List Op) (next : ℕ) → Lands old now (reverse ops) next → (ops ≡ op.Return ∷ [] → ⊥) → new ≡ op.Query a b many next ∷ [] → PutsFirst (goal.Query a b many ∷ []) old now (reverse ops) (reverse new)
puts_query old now a b many ops new next lands not e = record {
  stands = λ rest end s code begins. subst (λ l. Stands code (reverse l) (goal.Query a b many ∷ rest) end) (sym e) (query a b many next [] rest end (lands.stands rest end s code begins));
  neat = λ h.
      let l : LandsTidy now (reverse ops) next = lands.neat h in
      let m : DoesMore now next = l.more (no_answer_back old ops not h.first) in
      subst (λ k. Neat now (reverse k)) (sym e) (record { blocks_are = l.blocks_are; first = tt; queries = λ code begins. (m.more code begins, tt) });
  light = λ w.
      let l = lands.light w in
      omega (arith, ops_reverse w ops, ops_reverse w new, op_alone w new (op.Query a b many next) e, body_one w (goal.Query a b many), weight_query w a b many);
}

pub puts_last_query : (old : List Block) (a : Term) (b : Option Term) (many : Bool) (ops new : List Op) → ops ≡ op.Return ∷ [] → new ≡ op.LastQuery a b many ∷ [] → PutsFirst (goal.Query a b many ∷ []) old old (reverse ops) (reverse new)
puts_last_query old a b many ops new e e' = record {
  stands = λ rest end s code begins.
      let none = only_returns code rest end (subst (λ l. Stands code (reverse l) rest end) e (s code begins)) in
      subst (λ l. Stands code (reverse l) (goal.Query a b many ∷ rest) end) (sym e')
      (subst (λ l. Stands code (op.LastQuery a b many ∷ []) (goal.Query a b many ∷ l) end) (sym none.0)
      (subst (Stands code (op.LastQuery a b many ∷ []) (goal.Query a b many ∷ [])) (sym none.1) (last_query a b many [])));
  neat = λ h. neat_alone old new (op.LastQuery a b many) e' tt h.blocks_are;
  light = λ w. omega (arith, ops_reverse w ops, ops_reverse w new, op_alone w new (op.LastQuery a b many) e', body_one w (goal.Query a b many), weight_query w a b many);
}
