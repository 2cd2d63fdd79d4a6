-- The branches of a select, written from the last to the first.
use Rattle.std.proofs.Common.{◌≡◌, ◌+◌, ◌≤◌, arith, ℕ, List, [], ◌∷◌, ◌++◌, length, refl, sym, ap, ◌∙◌, subst, append_assoc, length-append}
use Rattle.std.specs.Prelude.{reverse, Some, None}
use Rattle.std.proofs.lemmas.List.{append-nil, reverse-append, length-reverse}
use Rattle.dg_base.specs.declared.program.Goal.{Goal}
use Rattle.dg_base.specs.declared.program.Goal.TheVariants as goal
use Rattle.dg_base.specs.declared.program.Mode.{Mode}
use Rattle.dg_base.specs.Begins.{Begins}
use Rattle.dg_meaning.proofs.OneRun.{begins_on}
use Rattle.dg_mid.specs.declared.code.Op.{Op}
use Rattle.dg_mid.specs.declared.code.Op.TheVariants as op
use Rattle.dg_mid.specs.declared.code.Block.{Block}
use Rattle.dg_mid.specs.declared.writing.Level.{Level}
use Rattle.dg_mid.specs.declared.writing.Level.TheVariants as level
use Rattle.dg_mid.specs.declared.writing.Work.{Work}
use Rattle.dg_mid.specs.declared.branches.Branching.{Branching}
use Rattle.dg_mid.specs.Potential.{begins_goto}
use Rattle.dg_mid.specs.Codes.{End, Stands, selects, Branches, no_branch, a_branch}
use Rattle.dg_mid.specs.Tidying.{OpsNeat, BlocksTidy, TailTidy, LevelsTidy, WorkTidy, LandsTidy}
use Rattle.dg_mid.specs.Writing.{Lands, Leads, ComesTo, Moves, TailFor, BlockFor, Shares, EndsAt, AtBranch, tail_ops, with_goal, with_level}
use Rattle.dg_mid.specs.Weights.{Weights, branches_of, chooses, body_weight, lists_weight, levels_weight, work_weight}
use Rattle.dg_mid.proofs.Weights.{ops_reverse, block_added, op_alone, goal_added, lists_append, level_added, weight_select}
use Rattle.dg_mid.proofs.WritingLemmas.{tail_neat_later, levels_later, neat_alone, neat_tail, blocks_put}
use Rattle.dg_mid.proofs.Opening.{tail_weight, tail_stands, tail_later, leads_later, with_leads, block_stands}

-- a select weighs by how many branches it has
as_many : (w : Weights) (site : ℕ) (mode : Mode) {m n : ℕ} → m ≡ n → w.own (chooses site mode m) ≡ w.own (chooses site mode n)
as_many w site mode e = ap (λ n. w.own (chooses site mode n)) e

branches_end : (s : Branching) → s.left ≡ [] → length (reverse s.blocks.items) ≡ branches_of s
branches_end s none = omega (arith, ap length none, length-reverse s.blocks.items)

branches_begin : (s : Branching) → s.blocks.items ≡ [] → branches_of s ≡ length s.left
branches_begin s none = omega (arith, ap length none)

branches_next : (s t : Branching) (popped : List (List Goal)) (list : List Goal) → s.left ≡ popped ++ list ∷ [] → t.left ≡ popped → length t.blocks.items ≡ length s.blocks.items → branches_of t + 1 ≡ branches_of s
branches_next s t popped list split same many = omega (arith, ap length split, length-append popped (list ∷ []), ap length same, many)

branches_closed : (s t : Branching) (b : ℕ) → t.blocks.items ≡ s.blocks.items ++ b ∷ [] → branches_of (record s { blocks = t.blocks }) ≡ branches_of s + 1
branches_closed s t b put = omega (arith, ap length put, length-append s.blocks.items (b ∷ []))

pub at_next : (blocks : List Block) (s : Branching) (popped : List (List Goal)) (list others : List Goal) (levels : List Level) (after : Work) → s.left ≡ popped ++ list ∷ [] →
    after.ops.items ≡ tail_ops s.tail → after.goals ≡ list → after.levels ≡ levels ++ level.Branches (record s { left = popped }) others ∷ [] →
    (wanted : List Goal) (last : End) → AtBranch blocks s others (reverse levels) wanted last → ComesTo blocks after wanted last
at_next blocks s popped list others levels after split ops_are goals_are levels_are wanted last h =
    let t : Branching = record s { left = popped } in
    record {
      rest = h.rest;
      end = h.end;
      stands = tail_stands blocks s.tail after.ops.items h.rest h.end ops_are h.tail;
      leads = subst (λ l. Leads blocks l (after.goals ++ h.rest) h.end wanted last) (sym (ap reverse levels_are ∙ reverse-append levels (level.Branches t others ∷ [])))
          (subst (λ l. Leads blocks (level.Branches t others ∷ reverse levels) (l ++ h.rest) h.end wanted last) (sym goals_are) (
            list,
            h.rest,
            h.lists,
            refl,
            h.branches,
            h.tail,
            h.behind,
            subst (λ l. Leads blocks (reverse levels) (others ++ goal.Select s.site s.mode l ∷ h.rest) h.end wanted last) (ap (λ l. l ++ h.lists) split ∙ append_assoc popped (list ∷ []) h.lists) h.leads,
          ));
    }

pub at_end : (blocks : List Block) (s : Branching) (others : List Goal) (levels : List Level) (after : Work) → s.left ≡ [] →
    after.ops.items ≡ op.Select s.site s.mode (reverse s.blocks.items) s.behind ∷ [] → after.goals ≡ others → after.levels ≡ levels →
    (wanted : List Goal) (last : End) → AtBranch blocks s others (reverse levels) wanted last → ComesTo blocks after wanted last
at_end blocks s others levels after none ops_are goals_are levels_are wanted last h =
    let rest : List Goal = goal.Select s.site s.mode h.lists ∷ h.rest in
    record {
      rest = rest;
      end = h.end;
      stands = λ code begins. subst (λ l. Stands code (reverse l) rest h.end) (sym ops_are)
          (selects s.site s.mode (reverse s.blocks.items) h.lists s.behind [] h.rest h.end (h.branches code begins) (h.behind code begins));
      leads = subst (λ l. Leads blocks (reverse l) (after.goals ++ rest) h.end wanted last) (sym levels_are)
          (subst (λ l. Leads blocks (reverse levels) (l ++ rest) h.end wanted last) (sym goals_are)
          (subst (λ l. Leads blocks (reverse levels) (others ++ goal.Select s.site s.mode (l ++ h.lists) ∷ h.rest) h.end wanted last) none h.leads));
    }

no_retry_here : (alt : ℕ) (rest : List Op) → op.Return ∷ [] ≡ op.Retry alt ∷ rest → ⊥
no_retry_here alt rest e = cc

pub tail_lands : (old new : List Block) (ops : List Op) (b : ℕ) → ops ≡ op.Return ∷ [] → new ≡ old ++ record { ops = reverse ops } ∷ [] → b ≡ length old → EndsAt old new None b
tail_lands old new ops b e made is = record {
  stands = λ rest end h. block_stands old new (reverse ops) b made is rest end (λ code begins. subst (λ l. Stands code (reverse l) rest end) (sym e) (h code begins));
  neat = λ h. blocks_put old new (reverse ops) made (ap (λ l. begins_goto (reverse l)) e) (λ code begins. subst (λ l. OpsNeat code (reverse l)) (sym e) (tt, tt))
      (λ alt rest e'. absurd (no_retry_here alt rest (sym (ap reverse e) ∙ e'))) h;
  light = λ w. omega (arith, block_added w old new ops made, op_alone w ops op.Return e);
}

pub tail_is : (blocks : List Block) (b : ℕ) → EndsAt blocks blocks (Some b) b
tail_is blocks b = record { stands = λ rest end h. h; neat = λ h. h; light = λ w. omega arith }

-- tidy where a branch is next, and where all are written
pub neat_next : (blocks : List Block) (s t : Branching) (others : List Goal) (levels : List Level) (after : Work) → t.tail ≡ s.tail → after.ops.items ≡ tail_ops s.tail → after.levels ≡ levels ++ level.Branches t others ∷ [] →
    BlocksTidy blocks → TailTidy blocks s.tail → LevelsTidy blocks (reverse levels) → WorkTidy blocks after
neat_next blocks s t others levels after same ops_are levels_are h tail l = record {
  neat = neat_tail blocks s.tail after.ops.items ops_are h tail;
  levels = subst (LevelsTidy blocks) (sym (ap reverse levels_are ∙ reverse-append levels (level.Branches t others ∷ []))) (subst (TailTidy blocks) (sym same) tail, l);
}

pub neat_end : (blocks : List Block) (s : Branching) (levels : List Level) (after : Work) → after.ops.items ≡ op.Select s.site s.mode (reverse s.blocks.items) s.behind ∷ [] → after.levels ≡ levels →
    BlocksTidy blocks → LevelsTidy blocks (reverse levels) → WorkTidy blocks after
neat_end blocks s levels after ops_are levels_are h l = record {
  neat = neat_alone blocks after.ops.items (op.Select s.site s.mode (reverse s.blocks.items) s.behind) ops_are tt h;
  levels = subst (λ k. LevelsTidy blocks (reverse k)) (sym levels_are) l;
}

pub opens_select : (old mid new : List Block) (before after : Work) (s : Branching) → s.blocks.items ≡ [] → Begins old mid → Begins mid new → Shares old mid (reverse before.ops.items) s.tail →
    EndsAt mid new s.tail s.behind →
    ((wanted : List Goal) (last : End) → AtBranch new s before.goals (reverse before.levels) wanted last → ComesTo new after wanted last) →
    (BlocksTidy new → TailTidy new s.tail → LevelsTidy new (reverse before.levels) → WorkTidy new after) →
    ((w : Weights) → work_weight w after ≤ w.own (chooses s.site s.mode (branches_of s)) + lists_weight w s.left + body_weight w before.goals + levels_weight w before.levels) →
    Moves old (with_goal (goal.Select s.site s.mode s.left) before) new after
opens_select old mid new before after s none on on' shares ends comes good light =
    let begins : Begins old new = begins_on old mid new on on' in
    record {
      blocks = begins;
      light = λ w.
          let l = shares.light w in
          let m = ends.light w in
          let n = light w in
          omega (arith, ops_reverse w before.ops.items, goal_added w before.goals (goal.Select s.site s.mode s.left), weight_select w s.site s.mode s.left, as_many w s.site s.mode (branches_begin s none));
      neat = λ h.
          let n : BlocksTidy mid × TailTidy mid s.tail = shares.neat h.neat in
          good (ends.neat n.0) (tail_neat_later mid new on' s.tail n.1) (levels_later old new begins (reverse before.levels) h.levels);
      comes = λ wanted last h.
          let t : TailFor mid s.tail h.rest h.end = shares.stands h.rest h.end h.stands in
          comes wanted last (record {
            lists = [];
            rest = h.rest;
            end = h.end;
            branches = λ code begun. subst (λ l. Branches code (reverse l) [] h.rest h.end) (sym none) (no_branch h.rest h.end);
            tail = tail_later mid new on' s.tail h.rest h.end t;
            behind = ends.stands h.rest h.end t;
            leads = subst (λ l. Leads new (reverse before.levels) (before.goals ++ goal.Select s.site s.mode l ∷ h.rest) h.end wanted last) (sym (append-nil s.left))
                (with_leads old new before (goal.Select s.site s.mode s.left) h.rest h.end wanted last begins h.leads);
          });
    }

pub closes_branch : (old new : List Block) (before after : Work) (s t : Branching) (others : List Goal) (b : ℕ) → before.goals ≡ [] → Begins old new → Lands old new (reverse before.ops.items) b →
    t.blocks.items ≡ s.blocks.items ++ b ∷ [] →
    ((wanted : List Goal) (last : End) → AtBranch new (record s { blocks = t.blocks }) others (reverse before.levels) wanted last → ComesTo new after wanted last) →
    (BlocksTidy new → TailTidy new s.tail → LevelsTidy new (reverse before.levels) → WorkTidy new after) →
    ((w : Weights) → work_weight w after ≤ w.own (chooses s.site s.mode (branches_of (record s { blocks = t.blocks }))) + lists_weight w s.left + body_weight w others + levels_weight w before.levels) →
    Moves old (with_level (level.Branches s others) before) new after
closes_branch old new before after s t others b none on lands put comes good light = record {
  blocks = on;
  light = λ w.
      let l = lands.light w in
      let n = light w in
      omega (arith, ops_reverse w before.ops.items, ap (body_weight w) none, level_added w before.levels (before.levels ++ level.Branches s others ∷ []) (level.Branches s others) refl, as_many w s.site s.mode (branches_closed s t b put));
  neat = λ h.
      let l : LevelsTidy old (level.Branches s others ∷ reverse before.levels) = subst (LevelsTidy old) (reverse-append before.levels (level.Branches s others ∷ [])) h.levels in
      let made : LandsTidy new (reverse before.ops.items) b = lands.neat h.neat in
      good made.blocks_are (tail_neat_later old new on s.tail l.0) (levels_later old new on (reverse before.levels) l.1);
  comes = λ wanted last h.
      let closed : Leads old (level.Branches s others ∷ reverse before.levels) h.rest h.end wanted last =
      subst (λ l. Leads old l h.rest h.end wanted last) (reverse-append before.levels (level.Branches s others ∷ []))
      (subst (λ l. Leads old (reverse (before.levels ++ level.Branches s others ∷ [])) (l ++ h.rest) h.end wanted last) none h.leads) in
      let list : List Goal = closed.0 in
      let rest : List Goal = closed.1 in
      let lists : List (List Goal) = closed.2 in
      let there : BlockFor new b (list ++ rest) h.end = subst (λ l. BlockFor new b l h.end) closed.3 (lands.stands h.rest h.end h.stands) in
      comes wanted last (record {
        lists = list ∷ lists;
        rest = rest;
        end = h.end;
        branches = λ code begins. subst (λ l. Branches code l (list ∷ lists) rest h.end) (sym (ap reverse put ∙ reverse-append s.blocks.items (b ∷ [])))
            (a_branch b (reverse s.blocks.items) list lists rest h.end (there code begins) (closed.4 code (begins_on old new code.blocks on begins)));
        tail = tail_later old new on s.tail rest h.end closed.5;
        behind = λ code begins. closed.6 code (begins_on old new code.blocks on begins);
        leads = leads_later old new on (reverse before.levels) (others ++ goal.Select s.site s.mode (s.left ++ list ∷ lists) ∷ rest) h.end wanted last closed.7;
      });
}

-- what is next weighs no more than the branches that are left
pub light_next : (w : Weights) (s t : Branching) (popped : List (List Goal)) (list others : List Goal) (levels : List Level) (after : Work) → s.left ≡ popped ++ list ∷ [] → t.left ≡ popped →
    t.site ≡ s.site → t.mode ≡ s.mode → length t.blocks.items ≡ length s.blocks.items → after.ops.items ≡ tail_ops s.tail → after.goals ≡ list → after.levels ≡ levels ++ level.Branches t others ∷ [] →
    work_weight w after ≤ w.own (chooses s.site s.mode (branches_of s)) + lists_weight w s.left + body_weight w others + levels_weight w levels
light_next w s t popped list others levels after split same site mode many ops_are goals_are levels_are =
    omega (
      arith,
      ap (lists_weight w) split,
      lists_append w popped (list ∷ []),
      ap (lists_weight w) same,
      ap (λ n. w.own (chooses n t.mode (branches_of t + 1))) site,
      ap (λ m. w.own (chooses s.site m (branches_of t + 1))) mode,
      as_many w s.site s.mode (branches_next s t popped list split same many),
      tail_weight w s.tail after.ops.items ops_are,
      ap (body_weight w) goals_are,
      level_added w levels after.levels (level.Branches t others) levels_are,
    )

pub light_end : (w : Weights) (s : Branching) (others : List Goal) (levels : List Level) (after : Work) → s.left ≡ [] → after.ops.items ≡ op.Select s.site s.mode (reverse s.blocks.items) s.behind ∷ [] → after.goals ≡ others → after.levels ≡ levels →
    work_weight w after ≤ w.own (chooses s.site s.mode (branches_of s)) + lists_weight w s.left + body_weight w others + levels_weight w levels
light_end w s others levels after none ops_are goals_are levels_are =
    omega (arith, op_alone w after.ops.items (op.Select s.site s.mode (reverse s.blocks.items) s.behind) ops_are, as_many w s.site s.mode (branches_end s none), ap (body_weight w) goals_are, ap (levels_weight w) levels_are)
