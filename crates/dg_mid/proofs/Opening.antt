-- What is open while code is written.
use Rattle.std.proofs.Common.{◌≡◌, ℕ, ◌+◌, ◌<◌, ◌≤◌, arith, List, [], ◌∷◌, ◌++◌, refl, sym, ap, ◌∙◌, subst, length, append_assoc}
use Rattle.std.specs.Prelude.{reverse, Option, Some, None, Bool, true, false}
use Rattle.std.proofs.lemmas.List.{append-nil, reverse-append}
use Rattle.dg_base.specs.declared.program.Goal.{Goal}
use Rattle.dg_base.specs.declared.program.Goal.TheVariants as goal
use Rattle.dg_base.specs.declared.program.Term.{Term}
use Rattle.dg_base.specs.Begins.{Begins}
use Rattle.dg_meaning.proofs.OneRun.{begins_on}
use Rattle.dg_mid.specs.declared.code.Op.{Op}
use Rattle.dg_mid.specs.declared.code.Op.TheVariants as op
use Rattle.dg_mid.specs.declared.code.Gathered.{Gathered}
use Rattle.dg_mid.specs.declared.code.Gathered.TheVariants as gathered
use Rattle.dg_mid.specs.declared.code.Block.{Block}
use Rattle.dg_mid.specs.declared.code.Code.{Code}
use Rattle.dg_mid.specs.declared.writing.Level.{Level}
use Rattle.dg_mid.specs.declared.writing.Level.TheVariants as level
use Rattle.dg_mid.specs.declared.writing.Work.{Work}
use Rattle.dg_mid.specs.Code.{block_at}
use Rattle.dg_mid.specs.Codes.{End, Refuses, Backs, Commits, Leaves, Keeps, Stands, found_goals, found_end, jumps, commits, refuses, backs, leaves, keeps, collects, accumulates, once, negates, branch, exhausts, shields, forever, only, either, Others, last_list, more_lists}
use Rattle.dg_mid.specs.Tidying.{OpsNeat, BlocksTidy, DoesMore, Neat, IsPlain, TailTidy, LevelTidy, LevelsTidy, WorkTidy, LandsTidy}
use Rattle.dg_mid.specs.Writing.{StandsFor, BlockFor, FoundAt, PutsFirst, Lands, Wraps, Leads, ComesTo, Moves, TailFor, Shares, OthersFor, ListLands, after_list, tail_ops, with_goal, with_level, gathers}
use Rattle.dg_mid.specs.Weights.{Weights, found_form, terms_weight, op_weight, ops_weight, blocks_weight, body_weight, lists_weight, whole_weight, level_weight, levels_weight, work_weight}
use Rattle.dg_mid.proofs.Weights.{ops_reverse, block_added, op_added, op_alone, body_one, goal_added, lists_append, level_added, weight_if, weight_either, weight_forever, asking_weight}
use Rattle.dg_mid.specs.Potential.{begins_return, begins_goto}
use Rattle.dg_mid.specs.Seeking.{begins_commit}
use Rattle.dg_mid.proofs.WritingLemmas.{reverse_put, block_made, made_begins, tail_neat_later, levels_later, neat_put, neat_tail, plain_return, no_answer_back, blocks_put, there_put, more_put, lands_neat, jump_neat, block_neat}

-- ## Blocks

pub begins_here : (blocks : List Block) → Begins blocks blocks
begins_here blocks = record { behind = []; is = sym (append-nil blocks) }

pub block_stands : (old now : List Block) (ops : List Op) (b : ℕ) → now ≡ old ++ record { ops = ops } ∷ [] → b ≡ length old → (rest : List Goal) (end : End) → StandsFor old ops rest end → BlockFor now b rest end
block_stands old now ops b made is rest end s code begins =
    subst (λ l. Stands code l rest end) (sym (block_made old now ops b code made is begins)) (s code (begins_on old now code.blocks (made_begins old now _ made) begins))

pub lands_block : (old now : List Block) (ops : List Op) (b : ℕ) → now ≡ old ++ record { ops = reverse ops } ∷ [] → b ≡ length old → ((c : ℕ) → ops ≡ op.Goto c ∷ [] → ⊥) → Lands old now (reverse ops) b
lands_block old now ops b made is not = record { stands = block_stands old now (reverse ops) b made is; neat = lands_neat old now ops b made is not; light = λ w. omega (arith, block_added w old now ops made, ops_reverse w ops) }

of_jump : (code : Code) (b : ℕ) (rest : List Goal) (end : End) → Stands code (op.Goto b ∷ []) rest end → Stands code (block_at code b) rest end
of_jump code b rest end (jumps c ops goals e h) = h

pub lands_jump : (blocks : List Block) (ops : List Op) (b : ℕ) → ops ≡ op.Goto b ∷ [] → Lands blocks blocks (reverse ops) b
lands_jump blocks ops b e = record {
  stands = λ rest end s code begins. of_jump code b rest end (subst (λ l. Stands code (reverse l) rest end) e (s code begins));
  neat = jump_neat blocks ops b e;
  light = λ w. omega arith;
}

pub tail_later : (old new : List Block) → Begins old new → (tail : Option ℕ) (rest : List Goal) (end : End) → TailFor old tail rest end → TailFor new tail rest end
tail_later old new on None rest end h = λ code begins. h code (begins_on old new code.blocks on begins)
tail_later old new on (Some b) rest end h = λ code begins. h code (begins_on old new code.blocks on begins)

others_later : (old new : List Block) → Begins old new → (alt : Option ℕ) (lists : List (List Goal)) (rest : List Goal) (end : End) → OthersFor old alt lists rest end → OthersFor new alt lists rest end
others_later old new on None lists rest end h = h
others_later old new on (Some b) lists rest end h = λ code begins. h code (begins_on old new code.blocks on begins)

-- what a way ends with, once more
pub tail_stands : (blocks : List Block) (tail : Option ℕ) (ops : List Op) (rest : List Goal) (end : End) → ops ≡ tail_ops tail → TailFor blocks tail rest end → StandsFor blocks (reverse ops) rest end
tail_stands blocks None ops rest end e h = λ code begins. subst (λ l. Stands code (reverse l) rest end) (sym e) (h code begins)
tail_stands blocks (Some b) ops rest end e h = λ code begins. subst (λ l. Stands code (reverse l) rest end) (sym e) (jumps b [] rest end (h code begins))

-- what a way ends with is one instruction
pub tail_weight : (w : Weights) (tail : Option ℕ) (ops : List Op) → ops ≡ tail_ops tail → ops_weight w ops ≡ w.small
tail_weight w None ops e = omega (arith, ap (ops_weight w) e)
tail_weight w (Some b) ops e = omega (arith, ap (ops_weight w) e)

pub shares_return : (blocks : List Block) (ops : List Op) → ops ≡ op.Return ∷ [] → Shares blocks blocks (reverse ops) None
shares_return blocks ops e = record { stands = λ rest end s code begins. subst (λ l. Stands code (reverse l) rest end) e (s code begins); neat = λ h. (h.blocks_are, tt); light = λ w. omega arith }

pub shares_block : (old new : List Block) (ops : List Op) (b : ℕ) → Lands old new (reverse ops) b → (ops ≡ op.Return ∷ [] → ⊥) → Shares old new (reverse ops) (Some b)
shares_block old new ops b lands not = record {
  stands = lands.stands;
  neat = λ h. let l : LandsTidy new (reverse ops) b = lands.neat h in (l.blocks_are, l.more (no_answer_back old ops not h.first));
  light = lands.light;
}

-- ## Levels

pub leads_later : (old new : List Block) → Begins old new → (levels : List Level) (goals : List Goal) (end : End) (wanted : List Goal) (last : End) →
    Leads old levels goals end wanted last → Leads new levels goals end wanted last
leads_later old new on [] goals end wanted last h = h
leads_later old new on (level.Inner x others ∷ levels) goals end wanted last h =
    (h.0, h.1, λ code begins. h.2 code (begins_on old new code.blocks on begins), leads_later old new on levels (others ++ h.0) h.1 wanted last h.3)
leads_later old new on (level.Other test first tail others ∷ levels) goals end wanted last h =
    (h.0, h.1, h.2, tail_later old new on tail h.1 end h.3, leads_later old new on levels (others ++ goal.If test first h.0 ∷ h.1) end wanted last h.4)
leads_later old new on (level.Branches s others ∷ levels) goals end wanted last h = (
  h.0,
  h.1,
  h.2,
  h.3,
  λ code begins. h.4 code (begins_on old new code.blocks on begins),
  tail_later old new on s.tail h.1 end h.5,
  λ code begins. h.6 code (begins_on old new code.blocks on begins),
  leads_later old new on levels (others ++ goal.Select s.site s.mode (s.left ++ h.0 ∷ h.2) ∷ h.1) end wanted last h.7,
)
leads_later old new on (level.Lists left alt tail others ∷ levels) goals end wanted last h =
    (h.0, h.1, h.2, h.3, others_later old new on alt h.2 h.1 end h.4, tail_later old new on tail h.1 end h.5, leads_later old new on levels (others ++ goal.Either (left ++ h.0 ∷ h.2) ∷ h.1) end wanted last h.6)

-- what is open stays so where one goal goes in front
pub with_leads : (old new : List Block) (before : Work) (g : Goal) (rest : List Goal) (end : End) (wanted : List Goal) (last : End) → Begins old new →
    Leads old (reverse before.levels) ((before.goals ++ g ∷ []) ++ rest) end wanted last → Leads new (reverse before.levels) (before.goals ++ g ∷ rest) end wanted last
with_leads old new before g rest end wanted last on h =
    leads_later old new on (reverse before.levels) (before.goals ++ g ∷ rest) end wanted last
    (subst (λ l. Leads old (reverse before.levels) l end wanted last) (append_assoc before.goals (g ∷ []) rest) h)

pub puts_moves : (old new : List Block) (before after : Work) (g : Goal) → after.goals ≡ before.goals → after.levels ≡ before.levels → Begins old new →
    PutsFirst (g ∷ []) old new (reverse before.ops.items) (reverse after.ops.items) → Moves old (with_goal g before) new after
puts_moves old new before after g same still on put = record {
  blocks = on;
  neat = λ h. record { neat = put.neat h.neat; levels = subst (λ l. LevelsTidy new (reverse l)) (sym still) (levels_later old new on (reverse before.levels) h.levels) };
  light = λ w.
      let l = put.light w in
      omega (arith, ops_reverse w before.ops.items, ops_reverse w after.ops.items, ap (body_weight w) same, ap (levels_weight w) still, goal_added w before.goals g, body_one w g);
  comes = λ wanted last h. record {
    rest = g ∷ h.rest;
    end = h.end;
    stands = put.stands h.rest h.end h.stands;
    leads = subst (λ l. Leads new (reverse l) (after.goals ++ g ∷ h.rest) h.end wanted last) (sym still)
        (subst (λ l. Leads new (reverse before.levels) (l ++ g ∷ h.rest) h.end wanted last) (sym same) (with_leads old new before g h.rest h.end wanted last on h.leads));
  };
}

-- What is inside a construct, and the instruction in front of it, stand for the construct.
pub record Opened (new : List Block) (ops : List Op) (x : Op) (inner : List Goal) (g : Goal) (rest : List Goal) (end : End) : Type 0 where
  pub goals : List Goal
  pub behind : End
  pub stands : StandsFor new ops goals behind
  pub wraps : Wraps new x (inner ++ goals) behind (g ∷ rest) end

pub opens : (old new : List Block) (before after : Work) (ops : List Op) (g : Goal) (x : Op) (inner : List Goal) → Begins old new → after.ops.items ≡ ops → after.goals ≡ inner →
    after.levels ≡ before.levels ++ level.Inner x before.goals ∷ [] → IsPlain x → (Neat old (reverse before.ops.items) → Neat new (reverse ops)) →
    ((w : Weights) → blocks_weight w new + ops_weight w ops + op_weight w x + body_weight w inner ≤ blocks_weight w old + ops_weight w before.ops.items + whole_weight w g) →
    ((rest : List Goal) (end : End) → StandsFor old (reverse before.ops.items) rest end → Opened new (reverse ops) x inner g rest end) → Moves old (with_goal g before) new after
opens old new before after ops g x inner on ops_are goals_are levels_are plain good light opened = record {
  blocks = on;
  light = λ w. let l = light w in omega (arith, ap (ops_weight w) ops_are, ap (body_weight w) goals_are, level_added w before.levels after.levels (level.Inner x before.goals) levels_are, goal_added w before.goals g);
  neat = λ h. record {
    neat = subst (λ l. Neat new (reverse l)) (sym ops_are) (good h.neat);
    levels = subst (LevelsTidy new) (sym (ap reverse levels_are ∙ reverse-append before.levels (level.Inner x before.goals ∷ []))) (plain, levels_later old new on (reverse before.levels) h.levels);
  };
  comes = λ wanted last h.
      let o = opened h.rest h.end h.stands in
      record {
        rest = o.goals;
        end = o.behind;
        stands = subst (λ l. StandsFor new (reverse l) o.goals o.behind) (sym ops_are) o.stands;
        leads = subst (λ l. Leads new l (after.goals ++ o.goals) o.behind wanted last) (sym (ap reverse levels_are ∙ reverse-append before.levels (level.Inner x before.goals ∷ [])))
            (subst (λ l. Leads new (level.Inner x before.goals ∷ reverse before.levels) (l ++ o.goals) o.behind wanted last) (sym goals_are)
            (g ∷ h.rest, h.end, o.wraps, with_leads old new before g h.rest h.end wanted last on h.leads));
      };
}

pub closes : (blocks : List Block) (before after : Work) (x : Op) (others : List Goal) → before.goals ≡ [] → after.ops.items ≡ before.ops.items ++ x ∷ [] → after.goals ≡ others → after.levels ≡ before.levels →
    Moves blocks (with_level (level.Inner x others) before) blocks after
closes blocks before after x others none ops_are goals_are levels_are = record {
  blocks = begins_here blocks;
  light = λ w. omega (
    arith,
    op_added w before.ops.items after.ops.items x ops_are,
    ap (body_weight w) goals_are,
    ap (body_weight w) none,
    ap (levels_weight w) levels_are,
    level_added w before.levels (before.levels ++ level.Inner x others ∷ []) (level.Inner x others) refl,
  );
  neat = λ h.
      let l : LevelsTidy blocks (level.Inner x others ∷ reverse before.levels) = subst (LevelsTidy blocks) (reverse-append before.levels (level.Inner x others ∷ [])) h.levels in
      record { neat = neat_put blocks before.ops.items after.ops.items x ops_are l.0 h.neat; levels = subst (λ k. LevelsTidy blocks (reverse k)) (sym levels_are) l.1 };
  comes = λ wanted last h.
      let closed : Leads blocks (level.Inner x others ∷ reverse before.levels) h.rest h.end wanted last =
      subst (λ l. Leads blocks l h.rest h.end wanted last) (reverse-append before.levels (level.Inner x others ∷ []))
      (subst (λ l. Leads blocks (reverse (before.levels ++ level.Inner x others ∷ [])) (l ++ h.rest) h.end wanted last) none h.leads) in
      record {
        rest = closed.0;
        end = closed.1;
        stands = λ code begins. subst (λ l. Stands code l closed.0 closed.1) (sym (ap reverse ops_are ∙ reverse_put before.ops.items x)) (closed.2 code begins (reverse before.ops.items) (h.stands code begins));
        leads = subst (λ l. Leads blocks (reverse l) (after.goals ++ closed.0) closed.1 wanted last) (sym levels_are)
            (subst (λ l. Leads blocks (reverse before.levels) (l ++ closed.0) closed.1 wanted last) (sym goals_are) closed.3);
      };
}

-- ## Constructs

pub open_not : (old new : List Block) (ops alone : List Op) (inner : List Goal) (alt : ℕ) → Lands old new (reverse ops) alt → alone ≡ op.Refuse ∷ [] →
    (rest : List Goal) (end : End) → StandsFor old (reverse ops) rest end → Opened new (reverse alone) (op.Try alt) inner (goal.Not inner) rest end
open_not old new ops alone inner alt lands e rest end h = record {
  goals = [];
  behind = Refuses;
  stands = λ code begins. subst (λ l. Stands code (reverse l) [] Refuses) (sym e) (refuses []);
  wraps = λ code begins xs s. negates alt inner xs rest end (subst (λ l. Stands code xs l Refuses) (append-nil inner) s) (lands.stands rest end h code begins);
}

pub open_exhaust : (old new : List Block) (ops alone : List Op) (inner : List Goal) (alt : ℕ) → Lands old new (reverse ops) alt → alone ≡ op.Back ∷ [] →
    (rest : List Goal) (end : End) → StandsFor old (reverse ops) rest end → Opened new (reverse alone) (op.Try alt) inner (goal.Exhaust inner) rest end
open_exhaust old new ops alone inner alt lands e rest end h = record {
  goals = [];
  behind = Backs;
  stands = λ code begins. subst (λ l. Stands code (reverse l) [] Backs) (sym e) (backs []);
  wraps = λ code begins xs s. exhausts alt inner xs rest end (subst (λ l. Stands code xs l Backs) (append-nil inner) s) (lands.stands rest end h code begins);
}

pub open_once : (blocks : List Block) (ops put : List Op) (inner : List Goal) → put ≡ ops ++ op.Commit ∷ [] →
    (rest : List Goal) (end : End) → StandsFor blocks (reverse ops) rest end → Opened blocks (reverse put) op.Once inner (goal.Once inner) rest end
open_once blocks ops put inner e rest end h = record {
  goals = [];
  behind = Commits rest end;
  stands = λ code begins. subst (λ l. Stands code l [] (Commits rest end)) (sym (ap reverse e ∙ reverse_put ops op.Commit)) (commits (reverse ops) rest end (h code begins));
  wraps = λ code begins xs s. once inner xs rest end (subst (λ l. Stands code xs l (Commits rest end)) (append-nil inner) s);
}

pub open_stoppable : (old new : List Block) (ops jump put : List Op) (inner : List Goal) (alt : ℕ) → Lands old new (reverse ops) alt → jump ≡ op.Goto alt ∷ [] → put ≡ jump ++ op.Leave ∷ [] →
    (rest : List Goal) (end : End) → StandsFor old (reverse ops) rest end → Opened new (reverse put) (op.Shield alt) inner (goal.Stoppable inner) rest end
open_stoppable old new ops jump put inner alt lands e e' rest end h = record {
  goals = [];
  behind = Leaves rest end;
  stands = λ code begins. subst (λ l. Stands code l [] (Leaves rest end)) (sym (ap reverse (e' ∙ ap (λ l. l ++ op.Leave ∷ []) e))) (leaves (op.Goto alt ∷ []) rest end (jumps alt [] rest end (lands.stands rest end h code begins)));
  wraps = λ code begins xs s. shields alt inner xs rest end (subst (λ l. Stands code xs l (Leaves rest end)) (append-nil inner) s) (lands.stands rest end h code begins);
}

pub neat_leave : (new : List Block) (jump put : List Op) (alt : ℕ) → jump ≡ op.Goto alt ∷ [] → put ≡ jump ++ op.Leave ∷ [] → BlocksTidy new → Neat new (reverse put)
neat_leave new jump put alt e e' h = subst (λ l. Neat new (reverse l)) (sym (e' ∙ ap (λ l. l ++ op.Leave ∷ []) e)) (record { blocks_are = h; first = tt; queries = λ code begins. (tt, (tt, tt)) })

stands_gathering : (code : Code) (whole : Gathered) (term into : Term) (alt : ℕ) (inner : List Goal) (xs others : List Op) (goals : List Goal) (end : End) →
    Stands code xs inner (Keeps term) → block_at code alt ≡ op.TakeOut whole into ∷ others → Stands code others goals end →
    Stands code (op.Collect term into alt ∷ xs) (gathers whole term inner into ∷ goals) end
stands_gathering code gathered.List term into alt inner xs others goals end s at h = collects term into alt inner xs others goals end s at h
stands_gathering code gathered.Sum term into alt inner xs others goals end s at h = accumulates term into alt inner xs others goals end s at h

pub open_gathering : (old new : List Block) (ops put alone : List Op) (whole : Gathered) (term kept into taken : Term) (inner : List Goal) (alt : ℕ) → kept ≡ term → taken ≡ into →
    put ≡ ops ++ op.TakeOut whole taken ∷ [] → new ≡ old ++ record { ops = reverse put } ∷ [] → alt ≡ length old → alone ≡ op.Keep kept ∷ [] →
    (rest : List Goal) (end : End) → StandsFor old (reverse ops) rest end → Opened new (reverse alone) (op.Collect term into alt) inner (gathers whole term inner into) rest end
open_gathering old new ops put alone whole term kept into taken inner alt same same' e made is e' rest end h = record {
  goals = [];
  behind = Keeps term;
  stands = λ code begins. subst (λ l. Stands code (reverse l) [] (Keeps term)) (sym (e' ∙ ap (λ t. op.Keep t ∷ []) same)) (keeps term []);
  wraps = λ code begins xs s.
      let there : block_at code alt ≡ op.TakeOut whole into ∷ reverse ops =
      block_made old new (reverse put) alt code made is begins ∙ ap reverse e ∙ reverse_put ops (op.TakeOut whole taken) ∙ ap (λ t. op.TakeOut whole t ∷ reverse ops) same' in
      stands_gathering code whole term into alt inner xs (reverse ops) rest end (subst (λ l. Stands code xs l (Keeps term)) (append-nil inner) s) there
      (h code (begins_on old new code.blocks (made_begins old new _ made) begins));
}

pub puts_forever : (old new : List Block) (ops put jump : List Op) (n b : ℕ) → n ≡ b → put ≡ ops ++ op.Branch n ∷ [] → new ≡ old ++ record { ops = reverse put } ∷ [] → b ≡ length old → jump ≡ op.Goto b ∷ [] →
    PutsFirst (goal.Forever ∷ []) old new (reverse ops) (reverse jump)
puts_forever old new ops put jump n b same e made is e' = record {
  stands = λ rest end h code begins.
      let there : block_at code b ≡ op.Branch b ∷ reverse ops = block_made old new (reverse put) b code made is begins ∙ ap reverse e ∙ reverse_put ops (op.Branch n) ∙ ap (λ k. op.Branch k ∷ reverse ops) same in
      let behind : Stands code (reverse ops) rest end = h code (begins_on old new code.blocks (made_begins old new _ made) begins) in
      subst (λ l. Stands code (reverse l) (goal.Forever ∷ rest) end) (sym e')
      (jumps b [] (goal.Forever ∷ rest) end (subst (λ l. Stands code l (goal.Forever ∷ rest) end) (sym there) (forever b (reverse ops) rest end there behind)));
  neat = λ h.
      let more : DoesMore new b = more_put old new (reverse put) b made is (ap begins_return (ap reverse e ∙ reverse_put ops (op.Branch n)) ∙ plain_return (op.Branch n) (reverse ops) tt) in
      neat_tail new (Some b) jump e' (block_neat old new ops put (op.Branch n) e made tt h) more;
  light = λ w. omega (arith, block_added w old new put made, op_added w ops put (op.Branch n) e, op_alone w jump (op.Goto b) e', ops_reverse w ops, ops_reverse w jump, body_one w goal.Forever, weight_forever w);
}

-- ## Objects

no_retry_here : (ops : List Op) (alt : ℕ) (rest : List Op) → op.Commit ∷ ops ≡ op.Retry alt ∷ rest → ⊥
no_retry_here ops alt rest e = cc

pub found_here : (blocks : List Block) (b : ℕ) → FoundAt blocks blocks true b b
found_here blocks b = record { blocks = begins_here blocks; stands = λ rest end h. h; leaves = λ code begins. tt; neat = λ h. h; light = λ w. omega arith }

pub found_once : (old new : List Block) (jump put : List Op) (behind b : ℕ) → jump ≡ op.Goto behind ∷ [] → put ≡ jump ++ op.Commit ∷ [] → new ≡ old ++ record { ops = reverse put } ∷ [] → b ≡ length old → FoundAt old new false behind b
found_once old new jump put behind b e e' made is =
    let front : reverse put ≡ op.Commit ∷ op.Goto behind ∷ [] = ap reverse (e' ∙ ap (λ l. l ++ op.Commit ∷ []) e) in
    record {
      blocks = made_begins old new _ made;
      stands = λ rest end h code begins. subst (λ l. Stands code l [] (Commits rest end)) (sym (block_made old new (reverse put) b code made is begins ∙ front))
          (commits (op.Goto behind ∷ []) rest end (jumps behind [] rest end (h code (begins_on old new code.blocks (made_begins old new _ made) begins))));
      leaves = λ code begins. ap begins_commit (block_made old new (reverse put) b code made is begins ∙ front);
      neat = λ h. blocks_put old new (reverse put) made (ap begins_goto front) (λ code begins. subst (OpsNeat code) (sym front) (tt, (tt, tt)))
          (λ alt rest e''. absurd (no_retry_here (op.Goto behind ∷ []) alt rest (sym front ∙ e''))) h;
      light = λ w. omega (arith, block_added w old new put made, op_added w jump put op.Commit e', op_alone w jump (op.Goto behind) e);
    }

pub puts_find : (old mid new : List Block) (ops jump put : List Op) (place : Option ℕ) (terms : List Term) (g : Goal) (behind b : ℕ) (many : Bool) →
    ((code : Code) (xs : List Op) (goals : List Goal) (end : End) → Stands code xs goals end → Stands code (block_at code b) (found_goals many goals) (found_end many goals end) → Stands code (op.Find place terms many b ∷ xs) (g ∷ goals) end) →
    ((w : Weights) → whole_weight w g ≡ asking_weight w (found_form place terms many) + terms_weight w terms) →
    Lands old mid (reverse ops) behind → FoundAt mid new many behind b → jump ≡ op.Goto behind ∷ [] → put ≡ jump ++ op.Find place terms many b ∷ [] → PutsFirst (g ∷ []) old new (reverse ops) (reverse put)
puts_find old mid new ops jump put place terms g behind b many wraps weighs lands found e e' =
    let x : Op = op.Find place terms many b in
    let front : reverse put ≡ x ∷ op.Goto behind ∷ [] = ap reverse (e' ∙ ap (λ l. l ++ x ∷ []) e) in
    record {
      stands = λ rest end h code begins.
          let there = lands.stands rest end h in
          subst (λ l. Stands code l (g ∷ rest) end) (sym front)
          (wraps code (op.Goto behind ∷ []) rest end (jumps behind [] rest end (there code (begins_on mid new code.blocks found.blocks begins))) (found.stands rest end there code begins));
      neat = λ h. subst (Neat new) (sym front) (record {
        blocks_are = found.neat (lands.neat h).blocks_are;
        first = tt;
        queries = λ code begins. (found.leaves code begins, (tt, tt));
      });
      light = λ w.
          let l = lands.light w in
          let f = found.light w in
          omega (arith, ops_reverse w ops, ops_reverse w put, op_added w jump put x e', op_alone w jump (op.Goto behind) e, weighs w, body_one w g);
    }

-- ## Conditions

pub opens_if : (old new : List Block) (before after : Work) (ops : List Op) (test first other : List Goal) (tail : Option ℕ) → Begins old new → Shares old new (reverse before.ops.items) tail → ops ≡ tail_ops tail →
    after.ops.items ≡ ops → after.goals ≡ other → after.levels ≡ before.levels ++ level.Other test first tail before.goals ∷ [] → Moves old (with_goal (goal.If test first other) before) new after
opens_if old new before after ops test first other tail on shares e ops_are goals_are levels_are = record {
  blocks = on;
  light = λ w.
      let l = shares.light w in
      omega (
        arith,
        ops_reverse w before.ops.items,
        ap (ops_weight w) ops_are,
        tail_weight w tail ops e,
        ap (body_weight w) goals_are,
        level_added w before.levels after.levels (level.Other test first tail before.goals) levels_are,
        goal_added w before.goals (goal.If test first other),
        weight_if w test first other,
      );
  neat = λ h.
      let s : BlocksTidy new × TailTidy new tail = shares.neat h.neat in
      record {
        neat = neat_tail new tail after.ops.items (ops_are ∙ e) s.0 s.1;
        levels = subst (LevelsTidy new) (sym (ap reverse levels_are ∙ reverse-append before.levels (level.Other test first tail before.goals ∷ []))) (s.1, levels_later old new on (reverse before.levels) h.levels);
      };
  comes = λ wanted last h.
      let t : TailFor new tail h.rest h.end = shares.stands h.rest h.end h.stands in
      record {
        rest = h.rest;
        end = h.end;
        stands = tail_stands new tail after.ops.items h.rest h.end (ops_are ∙ e) t;
        leads = subst (λ l. Leads new l (after.goals ++ h.rest) h.end wanted last) (sym (ap reverse levels_are ∙ reverse-append before.levels (level.Other test first tail before.goals ∷ [])))
            (subst (λ l. Leads new (level.Other test first tail before.goals ∷ reverse before.levels) (l ++ h.rest) h.end wanted last) (sym goals_are)
            (other, h.rest, refl, t, with_leads old new before (goal.If test first other) h.rest h.end wanted last on h.leads));
      };
}

pub closes_other : (old new : List Block) (before after : Work) (ops : List Op) (test first others : List Goal) (tail : Option ℕ) (alt : ℕ) → before.goals ≡ [] → Begins old new → Lands old new (reverse before.ops.items) alt → ops ≡ tail_ops tail →
    after.ops.items ≡ ops → after.goals ≡ first → after.levels ≡ (before.levels ++ level.Inner (op.Try alt) others ∷ []) ++ level.Inner op.Commit test ∷ [] → Moves old (with_level (level.Other test first tail others) before) new after
closes_other old new before after ops test first others tail alt none on lands e ops_are goals_are levels_are = record {
  blocks = on;
  light = λ w.
      let l = lands.light w in
      let once = before.levels ++ level.Inner (op.Try alt) others ∷ [] in
      omega (
        arith,
        ops_reverse w before.ops.items,
        ap (ops_weight w) ops_are,
        tail_weight w tail ops e,
        ap (body_weight w) goals_are,
        ap (body_weight w) none,
        level_added w once after.levels (level.Inner op.Commit test) levels_are,
        level_added w before.levels once (level.Inner (op.Try alt) others) refl,
        level_added w before.levels (before.levels ++ level.Other test first tail others ∷ []) (level.Other test first tail others) refl,
      );
  neat = λ h.
      let l : LevelsTidy old (level.Other test first tail others ∷ reverse before.levels) = subst (LevelsTidy old) (reverse-append before.levels (level.Other test first tail others ∷ [])) h.levels in
      let levels : reverse after.levels ≡ level.Inner op.Commit test ∷ level.Inner (op.Try alt) others ∷ reverse before.levels =
      ap reverse levels_are ∙ reverse-append (before.levels ++ level.Inner (op.Try alt) others ∷ []) (level.Inner op.Commit test ∷ [])
      ∙ ap (λ k. level.Inner op.Commit test ∷ k) (reverse-append before.levels (level.Inner (op.Try alt) others ∷ [])) in
      record {
        neat = neat_tail new tail after.ops.items (ops_are ∙ e) (lands.neat h.neat).blocks_are (tail_neat_later old new on tail l.0);
        levels = subst (LevelsTidy new) (sym levels) (tt, (tt, levels_later old new on (reverse before.levels) l.1));
      };
  comes = λ wanted last h.
      let closed : Leads old (level.Other test first tail others ∷ reverse before.levels) h.rest h.end wanted last =
      subst (λ l. Leads old l h.rest h.end wanted last) (reverse-append before.levels (level.Other test first tail others ∷ []))
      (subst (λ l. Leads old (reverse (before.levels ++ level.Other test first tail others ∷ [])) (l ++ h.rest) h.end wanted last) none h.leads) in
      let rest : List Goal = closed.1 in
      let there = lands.stands h.rest h.end h.stands in
      let levels : reverse after.levels ≡ level.Inner op.Commit test ∷ level.Inner (op.Try alt) others ∷ reverse before.levels =
      ap reverse levels_are ∙ reverse-append (before.levels ++ level.Inner (op.Try alt) others ∷ []) (level.Inner op.Commit test ∷ [])
      ∙ ap (λ l. level.Inner op.Commit test ∷ l) (reverse-append before.levels (level.Inner (op.Try alt) others ∷ [])) in
      record {
        rest = rest;
        end = h.end;
        stands = tail_stands new tail after.ops.items rest h.end (ops_are ∙ e) (tail_later old new on tail rest h.end closed.3);
        leads = subst (λ l. Leads new l (after.goals ++ rest) h.end wanted last) (sym levels)
            (subst (λ l. Leads new (level.Inner op.Commit test ∷ level.Inner (op.Try alt) others ∷ reverse before.levels) (l ++ rest) h.end wanted last) (sym goals_are) (
              [],
              Commits (first ++ rest) h.end,
              λ code begins xs s. commits xs (first ++ rest) h.end s,
              (
                goal.If test first closed.0 ∷ rest,
                h.end,
                λ code begins xs s. branch alt test first closed.0 xs rest h.end (subst (λ l. Stands code xs l (Commits (first ++ rest) h.end)) (append-nil test) s)
                    (subst (λ l. Stands code (block_at code alt) l h.end) closed.2 (there code begins)),
                leads_later old new on (reverse before.levels) (others ++ goal.If test first closed.0 ∷ rest) h.end wanted last closed.4,
              ),
            ));
      };
}

-- ## Lists of a choice

pub open_only : (blocks : List Block) (ops : List Op) (list : List Goal) (rest : List Goal) (end : End) → StandsFor blocks (reverse ops) rest end → Opened blocks (reverse ops) op.Take list (goal.Either (list ∷ [])) rest end
open_only blocks ops list rest end h = record {
  goals = rest;
  behind = end;
  stands = h;
  wraps = λ code begins xs s. only list xs rest end s;
}

pub opens_lists : (old new : List Block) (before after : Work) (ops : List Op) (left : List (List Goal)) (list : List Goal) (tail : Option ℕ) → Begins old new → Shares old new (reverse before.ops.items) tail → ops ≡ tail_ops tail →
    after.ops.items ≡ ops → after.goals ≡ list → after.levels ≡ before.levels ++ level.Lists left None tail before.goals ∷ [] → Moves old (with_goal (goal.Either (left ++ list ∷ [])) before) new after
opens_lists old new before after ops left list tail on shares e ops_are goals_are levels_are = record {
  blocks = on;
  light = λ w.
      let l = shares.light w in
      omega (
        arith,
        ops_reverse w before.ops.items,
        ap (ops_weight w) ops_are,
        tail_weight w tail ops e,
        ap (body_weight w) goals_are,
        level_added w before.levels after.levels (level.Lists left None tail before.goals) levels_are,
        goal_added w before.goals (goal.Either (left ++ list ∷ [])),
        weight_either w (left ++ list ∷ []),
        lists_append w left (list ∷ []),
      );
  neat = λ h.
      let s : BlocksTidy new × TailTidy new tail = shares.neat h.neat in
      record {
        neat = neat_tail new tail after.ops.items (ops_are ∙ e) s.0 s.1;
        levels = subst (LevelsTidy new) (sym (ap reverse levels_are ∙ reverse-append before.levels (level.Lists left None tail before.goals ∷ []))) ((tt, s.1), levels_later old new on (reverse before.levels) h.levels);
      };
  comes = λ wanted last h.
      let t : TailFor new tail h.rest h.end = shares.stands h.rest h.end h.stands in
      record {
        rest = h.rest;
        end = h.end;
        stands = tail_stands new tail after.ops.items h.rest h.end (ops_are ∙ e) t;
        leads = subst (λ l. Leads new l (after.goals ++ h.rest) h.end wanted last) (sym (ap reverse levels_are ∙ reverse-append before.levels (level.Lists left None tail before.goals ∷ [])))
            (subst (λ l. Leads new (level.Lists left None tail before.goals ∷ reverse before.levels) (l ++ h.rest) h.end wanted last) (sym goals_are)
            (list, h.rest, [], refl, refl, t, with_leads old new before (goal.Either (left ++ list ∷ [])) h.rest h.end wanted last on h.leads));
      };
}

either_of : (code : Code) (b : ℕ) (list : List Goal) (lists : List (List Goal)) (xs : List Op) (rest : List Goal) (end : End) → Stands code xs (list ++ rest) end → Others code b lists rest end → Stands code (op.Branch b ∷ xs) (goal.Either (list ∷ lists) ∷ rest) end
either_of code b list lists xs rest end s (last_list c l goals e h) = either b list l [] xs rest end s (last_list b l rest end h)
either_of code b list lists xs rest end s (more_lists c alt ops l second more goals e at h k) = either b list l (second ∷ more) xs rest end s (more_lists b alt ops l second more rest end at h k)

more_of : (code : Code) (b alt : ℕ) (xs : List Op) (list : List Goal) (lists : List (List Goal)) (rest : List Goal) (end : End) → block_at code b ≡ op.Retry alt ∷ xs → Stands code xs (list ++ rest) end → Others code alt lists rest end → Others code b (list ∷ lists) rest end
more_of code b alt xs list lists rest end at s (last_list c l goals e h) = more_lists b alt xs list l [] rest end at s (last_list alt l rest end h)
more_of code b alt xs list lists rest end at s (more_lists c next ops l second more goals e there h k) = more_lists b alt xs list l (second ∷ more) rest end at s (more_lists alt next ops l second more rest end there h k)

pub last_lands : (old new : List Block) (ops : List Op) (b : ℕ) → Lands old new ops b → ListLands old new ops None b
last_lands old new ops b lands = record {
  stands = λ list lists rest end h none code begins. subst (λ l. Others code b (list ∷ l) rest end) (sym none) (last_list b list rest end (lands.stands (list ++ rest) end h code begins));
  neat = λ h _. let l : LandsTidy new ops b = lands.neat h in (l.blocks_are, l.there);
  light = λ w. let l = lands.light w in omega arith;
}

retried : (next alt : ℕ) (ops rest : List Op) (n : ℕ) → op.Retry next ∷ ops ≡ op.Retry alt ∷ rest → next < n → alt < n
retried next alt ops rest n e lt = let same : next ≡ alt = cc in omega arith

pub retry_lands : (old new : List Block) (ops put : List Op) (next b : ℕ) → put ≡ ops ++ op.Retry next ∷ [] → new ≡ old ++ record { ops = reverse put } ∷ [] → b ≡ length old → ListLands old new (reverse ops) (Some next) b
retry_lands old new ops put next b e made is = record {
  stands = λ list lists rest end h o code begins.
      let before = begins_on old new code.blocks (made_begins old new _ made) begins in
      more_of code b next (reverse ops) list lists rest end (block_made old new (reverse put) b code made is begins ∙ ap reverse e ∙ reverse_put ops (op.Retry next)) (h code before) (o code before);
  neat = λ h t. (
    let front : reverse put ≡ op.Retry next ∷ reverse ops = ap reverse e ∙ reverse_put ops (op.Retry next) in
        blocks_put old new (reverse put) made (ap begins_goto front) (λ code begins. subst (OpsNeat code) (sym front) (tt, h.queries code begins))
        (λ alt rest e'. retried next alt (reverse ops) rest (length old) (sym front ∙ e') t) h.blocks_are,
    there_put old new (reverse put) b made is,
  );
  light = λ w. omega (arith, block_added w old new put made, op_added w ops put (op.Retry next) e, ops_reverse w ops);
}

pub after_first : (left : List (List Goal)) (b : ℕ) (tail : Option ℕ) (others : List Goal) → left ≡ [] → after_list left b tail others ≡ level.Inner (op.Branch b) others
after_first left b tail others e = ap (λ l. after_list l b tail others) e

pub after_others : (left : List (List Goal)) (b : ℕ) (tail : Option ℕ) (others : List Goal) → (left ≡ [] → ⊥) → after_list left b tail others ≡ level.Lists left (Some b) tail others
after_others [] b tail others some = absurd (some refl)
after_others (list ∷ lists) b tail others some = refl

after_leads : (new : List Block) (left : List (List Goal)) (list : List Goal) (b : ℕ) (tail : Option ℕ) (others : List Goal) (levels : List Level) (lists : List (List Goal)) (rest : List Goal) (end : End) (wanted : List Goal) (last : End) →
    OthersFor new (Some b) lists rest end → TailFor new tail rest end → Leads new levels (others ++ goal.Either (left ++ list ∷ lists) ∷ rest) end wanted last →
    Leads new (after_list left b tail others ∷ levels) (list ++ rest) end wanted last
after_leads new [] list b tail others levels lists rest end wanted last o t l =
    (goal.Either (list ∷ lists) ∷ rest, end, λ code begins xs s. either_of code b list lists xs rest end s (o code begins), l)
after_leads new (p ∷ ps) list b tail others levels lists rest end wanted last o t l = (list, rest, lists, refl, o, t, l)

after_neat : (new : List Block) (left : List (List Goal)) (b : ℕ) (tail : Option ℕ) (others : List Goal) → b < length new → TailTidy new tail → LevelTidy new (after_list left b tail others)
after_neat new [] b tail others there t = tt
after_neat new (p ∷ ps) b tail others there t = (there, t)

after_light : (w : Weights) (left : List (List Goal)) (b : ℕ) (tail : Option ℕ) (others : List Goal) →
    level_weight w (after_list left b tail others) ≤ w.opening + w.block + lists_weight w left + body_weight w others
after_light w [] b tail others = omega arith
after_light w (list ∷ lists) b tail others = omega arith

pub closes_list : (old new : List Block) (before after : Work) (ops : List Op) (left popped : List (List Goal)) (list : List Goal) (alt tail : Option ℕ) (others : List Goal) (b : ℕ) → before.goals ≡ [] → left ≡ popped ++ list ∷ [] → Begins old new →
    ListLands old new (reverse before.ops.items) alt b → ops ≡ tail_ops tail → after.ops.items ≡ ops → after.goals ≡ list → after.levels ≡ before.levels ++ after_list popped b tail others ∷ [] → Moves old (with_level (level.Lists left alt tail others) before) new after
closes_list old new before after ops left popped list alt tail others b none split on lands e ops_are goals_are levels_are = record {
  blocks = on;
  light = λ w.
      let l = lands.light w in
      omega (
        arith,
        ops_reverse w before.ops.items,
        ap (ops_weight w) ops_are,
        tail_weight w tail ops e,
        ap (body_weight w) goals_are,
        ap (body_weight w) none,
        level_added w before.levels after.levels (after_list popped b tail others) levels_are,
        after_light w popped b tail others,
        level_added w before.levels (before.levels ++ level.Lists left alt tail others ∷ []) (level.Lists left alt tail others) refl,
        ap (lists_weight w) split,
        lists_append w popped (list ∷ []),
      );
  neat = λ h.
      let l : LevelsTidy old (level.Lists left alt tail others ∷ reverse before.levels) = subst (LevelsTidy old) (reverse-append before.levels (level.Lists left alt tail others ∷ [])) h.levels in
      let made : BlocksTidy new × (b < length new) = lands.neat h.neat l.0.0 in
      let t : TailTidy new tail = tail_neat_later old new on tail l.0.1 in
      record {
        neat = neat_tail new tail after.ops.items (ops_are ∙ e) made.0 t;
        levels = subst (LevelsTidy new) (sym (ap reverse levels_are ∙ reverse-append before.levels (after_list popped b tail others ∷ [])))
            (after_neat new popped b tail others made.1 t, levels_later old new on (reverse before.levels) l.1);
      };
  comes = λ wanted last h.
      let closed : Leads old (level.Lists left alt tail others ∷ reverse before.levels) h.rest h.end wanted last =
      subst (λ l. Leads old l h.rest h.end wanted last) (reverse-append before.levels (level.Lists left alt tail others ∷ []))
      (subst (λ l. Leads old (reverse (before.levels ++ level.Lists left alt tail others ∷ [])) (l ++ h.rest) h.end wanted last) none h.leads) in
      let rest : List Goal = closed.1 in
      let lists : List (List Goal) = closed.0 ∷ closed.2 in
      let o : OthersFor new (Some b) lists rest h.end = lands.stands closed.0 closed.2 rest h.end (subst (λ l. StandsFor old (reverse before.ops.items) l h.end) closed.3 h.stands) closed.4 in
      let t : TailFor new tail rest h.end = tail_later old new on tail rest h.end closed.5 in
      let l : Leads new (reverse before.levels) (others ++ goal.Either (popped ++ list ∷ lists) ∷ rest) h.end wanted last =
      subst (λ k. Leads new (reverse before.levels) (others ++ goal.Either k ∷ rest) h.end wanted last) (ap (λ k. k ++ lists) split ∙ append_assoc popped (list ∷ []) lists)
      (leads_later old new on (reverse before.levels) (others ++ goal.Either (left ++ lists) ∷ rest) h.end wanted last closed.6) in
      record {
        rest = rest;
        end = h.end;
        stands = tail_stands new tail after.ops.items rest h.end (ops_are ∙ e) t;
        leads = subst (λ k. Leads new k (after.goals ++ rest) h.end wanted last) (sym (ap reverse levels_are ∙ reverse-append before.levels (after_list popped b tail others ∷ [])))
            (subst (λ k. Leads new (after_list popped b tail others ∷ reverse before.levels) (k ++ rest) h.end wanted last) (sym goals_are)
            (after_leads new popped list b tail others (reverse before.levels) lists rest h.end wanted last o t l));
      };
}

-- ## Turns

-- So much is kept from turn to turn: blocks are only added, and what is being written comes to the goals and stays tidy.
abbrev pub Carries : List Block → List Op → List Goal → List Block → Work → Type 0
Carries first ops goals now work =
    Begins first now × ((rest : List Goal) (end : End) → StandsFor first (reverse ops) rest end → ComesTo now work (goals ++ rest) end)
    × (Neat first (reverse ops) → WorkTidy now work)
    × ((w : Weights) → blocks_weight w now + work_weight w work ≤ blocks_weight w first + ops_weight w ops + body_weight w goals)

pub carries_on : (first : List Block) (ops : List Op) (goals : List Goal) (old new : List Block) (work before after : Work) → Carries first ops goals old work → work ≡ before → Moves old before new after →
    Carries first ops goals new after
carries_on first ops goals old new work before after h e m =
    (begins_on first old new h.0 m.blocks, λ rest end s. m.comes (goals ++ rest) end (subst (λ w. ComesTo old w (goals ++ rest) end) e (h.1 rest end s)), λ n. m.neat (subst (WorkTidy old) e (h.2 n)), λ w. (let l = m.light w in omega (arith, ap (work_weight w) e, h.3 w)))

pub carries_to : (first : List Block) (ops : List Op) (goals : List Goal) (new now : List Block) (after work : Work) → Carries first ops goals new after → now ≡ new → work ≡ after → Carries first ops goals now work
carries_to first ops goals new now after work h e e' = subst (λ b. Carries first ops goals b work) (sym e) (subst (Carries first ops goals new) (sym e') h)

pub carries_first : (blocks : List Block) (work : Work) → work.levels ≡ [] → Carries blocks work.ops.items work.goals blocks work
carries_first blocks work none = (
  begins_here blocks,
  λ rest end s. record {
    rest = rest;
    end = end;
    stands = s;
    leads = subst (λ l. Leads blocks (reverse l) (work.goals ++ rest) end (work.goals ++ rest) end) (sym none) (refl, refl);
  },
  λ n. record { neat = n; levels = subst (λ l. LevelsTidy blocks (reverse l)) (sym none) tt },
  λ w. omega (arith, ap (levels_weight w) none),
)

pub ends_written : (blocks : List Block) (work : Work) (wanted : List Goal) (last : End) → work.goals ≡ [] → work.levels ≡ [] → ComesTo blocks work wanted last → StandsFor blocks (reverse work.ops.items) wanted last
ends_written blocks work wanted last none no_levels h =
    let is : (h.rest ≡ wanted) × (h.end ≡ last) =
    subst (λ l. Leads blocks (reverse l) h.rest h.end wanted last) no_levels (subst (λ l. Leads blocks (reverse work.levels) (l ++ h.rest) h.end wanted last) none h.leads) in
    subst (λ l. StandsFor blocks (reverse work.ops.items) l last) is.0 (subst (λ e. StandsFor blocks (reverse work.ops.items) h.rest e) is.1 h.stands)
