-- The acts that write nodes leave them written.
use Rattle.std.proofs.Common.{◌≡◌, ℕ, suc, ◌+◌, ◌-◌, ◌*◌, ◌<◌, ◌≤◌, inl, inr, List, [], ◌∷◌, ◌++◌, length, Option, Some, None, refl, sym, ap, ◌∙◌, subst, arith, append_assoc}
use Rattle.std.specs.List.{slice_get}
use Rattle.dg_base.specs.declared.program.ClosureBody.{ClosureBody}
use Rattle.dg_base.specs.declared.program.CoreProgram.{CoreProgram}
use Rattle.dg_base.specs.declared.program.Term.{Term, out-Term}
use Rattle.dg_base.specs.declared.program.Term.TheOpen as term
use Rattle.dg_meaning.specs.Cells.{captured_count, node_cells, cells as cells_of}
use Rattle.dg_meaning.specs.Values.{Value}
use Rattle.dg_mid.specs.State.{Mid, vars_of}
use Rattle.z_lang.specs.declared.act.Act.{Act}
use Rattle.z_lang.specs.declared.act.Atom.TheVariants as atoms
use Rattle.z_lang.specs.State.{State}
use Rattle.z_lang.specs.Runs.{ActsRun, ActsOutcome}
use Rattle.dg_rt.specs.inside.Walks.{steps}
use Rattle.dg_rt.specs.Cells.{with_cell, replaced}
use Rattle.dg_rt.specs.Areas.{heap_at, state}
use Rattle.dg_rt.specs.Shapes.{Shape}
use Rattle.dg_rt.specs.RunTime.{HasRunTime}
use Rattle.dg_rt.specs.Frames.{HoldVars}
use Rattle.dg_rt.proofs.Cells.{holds_with, other_cell, same_cell}
use Rattle.dg_rt.proofs.Following.{word as word_is, register}
use Rattle.dg_rt.proofs.UnifySteps.{steps_are}
use Rattle.dg_turn.specs.Told.{Telling, count_told}
use Rattle.dg_turn.specs.Lies.{MidIn}
use Rattle.dg_turn.specs.Terms.{word_act, words_acts, cell_act, captured_of, node_acts, nodes_acts, IsTerm, IsNode, AreNodes, capturing, all_capturing}
use Rattle.std.proofs.lemmas.Bool.{cases_lt}
use Rattle.dg_turn.proofs.Staying.{IsKept}
use Rattle.dg_turn.proofs.Kept.{KeptBut, kept_then, kept_wider}
use Rattle.dg_turn.proofs.Steps.{steps_both}
use Rattle.dg_turn.proofs.Writing.{WordOf, Begun, put_word, put_cell, begun_word}
use Rattle.dg_turn.proofs.Closures.{closure, hold_same}

-- ## Nodes at their places

-- What holds of each of some nodes, whose cells are behind those of the ones before.
abbrev pub AllAt : CoreProgram → (ℕ → Term → Type 0) → ℕ → List Term → Type 0
AllAt program P o [] = Unit {0}
AllAt program P o (x ∷ xs) = P o x × AllAt program P (o + node_cells program (out-Term x)) xs

-- The cells of nodes.
abbrev pub size : CoreProgram → List Term → ℕ
size program [] = 0
size program (x ∷ xs) = node_cells program (out-Term x) + size program xs

-- A pair's words stand in its second and third cell, and 0 in the first; a closure's header and count in its first two, and behind a cell what it has
-- captured.
abbrev pub Written : CoreProgram → Shape → List Value → (ℕ → ℕ) → ℕ → term.Term-F Term → Type 0
Written program sh env c o (term.Pair head tail) =
    WordOf program sh env (o + 3) (c (heap_at + (sh.top + o + 1))) (out-Term head) × WordOf program sh env (o + 3 + cells_of program (head ∷ [])) (c (heap_at + (sh.top + o + 2))) (out-Term tail) × (c (heap_at + (sh.top + o + 0)) ≡ 0)
Written program sh env c o (term.Closure place) =
    let vs = captured_of (slice_get program.closures place) in
    (c (heap_at + (sh.top + o + 0)) ≡ 1 + place) × (c (heap_at + (sh.top + o + 1)) ≡ length vs) × HoldVars sh c (sh.top + o + 3) env vs
Written program sh env c o other = Unit {0}

-- as many as are captured
pub count_is : (o : Option ClosureBody) → captured_count o ≡ length (captured_of o)
count_is None = refl
count_is (Some body) = refl

-- as many as a story tells, where it is there
pub told_is : (o : Option ClosureBody) → count_told o < 256 → count_told o ≡ captured_count o
told_is None few = absurd (omega arith)
told_is (Some body) few = refl

pub written_same : (program : CoreProgram) (sh : Shape) (env : List Value) (c c' : ℕ → ℕ) (o : ℕ) (x : term.Term-F Term) → ((i : ℕ) → i < node_cells program x → c' (heap_at + (sh.top + o + i)) ≡ c (heap_at + (sh.top + o + i))) → Written program sh env c o x → Written program sh env c' o x
written_same program sh env c c' o (term.Pair head tail) same w = (
  subst (λ (y : ℕ). WordOf program sh env (o + 3) y (out-Term head)) (sym (same 1 (omega arith))) w.0,
  subst (λ (y : ℕ). WordOf program sh env (o + 3 + cells_of program (head ∷ [])) y (out-Term tail)) (sym (same 2 (omega arith))) w.1,
  same 0 (omega arith) ∙ w.2,
)
written_same program sh env c c' o (term.Closure place) same w =
    let vs = captured_of (slice_get program.closures place) in
    let n = count_is (slice_get program.closures place) in
    let three : sh.top + o + 3 ≡ sh.top + o + 3 + 0 = omega arith in (
      same 0 (omega arith) ∙ w.0,
      same 1 (omega arith) ∙ w.1,
      hold_same sh c c' (sh.top + o + 3) env vs (λ i low lt. (let at : sh.top + o + (i - (sh.top + o)) ≡ i = omega arith in subst (λ (k : ℕ). c' (heap_at + k) ≡ c (heap_at + k)) at (same (i - (sh.top + o)) (omega arith)))) w.2,
    )
written_same program sh env c c' o other same w = tt

-- Registers in a row hold the words of terms.
abbrev pub AreWords : CoreProgram → Shape → List Value → (ℕ → ℕ) → ℕ → ℕ → List Term → Type 0
AreWords program sh env c k o [] = Unit {0}
AreWords program sh env c k o (x ∷ xs) = WordOf program sh env o (c k) (out-Term x) × AreWords program sh env c (suc k) (o + cells_of program (x ∷ [])) xs

-- Each of some terms is one, and has cells only where there are any.
abbrev pub AreTerms : CoreProgram → ℕ → List Term → Type 0
AreTerms program total [] = Unit {0}
AreTerms program total (x ∷ xs) = IsTerm (out-Term x) × (0 < node_cells program (out-Term x) → 0 < total) × AreTerms program total xs

-- How many of some nodes are pairs.
abbrev pub pair_count : term.Term-F Term → ℕ
pair_count (term.Pair head tail) = 1
pair_count other = 0

abbrev pub pairs : List Term → ℕ
pairs [] = 0
pairs (x ∷ xs) = pair_count (out-Term x) + pairs xs

-- ## The acts

module _ (t : Telling) {outer : ℕ → ℕ} (has : HasRunTime t.p) (f w : ℕ) (frames_left : 0 < f) (words_left : 8 ≤ w) (sh : Shape) (typed output : List ℕ) (drawn : ℕ) (trail : List ℕ) (m : Mid) (start : ℕ → ℕ) (mid : MidIn t outer sh start trail m) (total : ℕ) (room : sh.top + total ≤ 10000) where
  abbrev now : List ℕ → State
  now memory = state memory [] typed drawn output

  abbrev env : List Value
  env = vars_of m.frames

  abbrev Here : List ℕ → (ℕ → ℕ) → Type 0
  Here = Begun t has f w frames_left words_left sh typed output drawn trail m start mid total room

  -- ## One node

  pub record Node (body rest : List Act) (o : ℕ) (x : term.Term-F Term) (memory : List ℕ) (c : ℕ → ℕ) : Type 0 where
    pub memory' : List ℕ
    pub cells' : ℕ → ℕ
    pub begun : Here memory' cells'
    pub kept : KeptBut (sh.top + o) (node_cells t.program x + 5) c cells'
    pub written : Written t.program sh env cells' o x
    pub count : ℕ
    pub few : count ≤ 35 * pair_count x + capturing t.program x
    pub runs : (out : ActsOutcome) (s' : State) (n : ℕ) → ActsRun t.p f w body rest (now memory') out s' n → ActsRun t.p f w body (node_acts t.program o x ++ rest) (now memory) out s' (steps count n)

  no_node : (body rest : List Act) (o : ℕ) (x : term.Term-F Term) (memory : List ℕ) (c : ℕ → ℕ) → Here memory c → Written t.program sh env c o x → node_acts t.program o x ≡ [] → Node body rest o x memory c
  no_node body rest o x memory c b is none = record { memory' = memory; cells' = c; begun = b; kept = λ k ne far. refl; written = is; count = 0; few = omega arith; runs = λ out s' n r. subst (λ (l : List Act). ActsRun t.p f w body (l ++ rest) (now memory) out s' n) (sym none) r }

  pub node : (body rest : List Act) (o : ℕ) (x : term.Term-F Term) (memory : List ℕ) (c : ℕ → ℕ) → Here memory c → o + node_cells t.program x ≤ total → IsNode t.program x → Node body rest o x memory c
  node body rest o (term.Num n) memory c b le is = no_node body rest o (term.Num n) memory c b tt refl
  node body rest o (term.Word n) memory c b le is = no_node body rest o (term.Word n) memory c b tt refl
  node body rest o (term.Object n) memory c b le is = no_node body rest o (term.Object n) memory c b tt refl
  node body rest o term.Nil memory c b le is = no_node body rest o term.Nil memory c b tt refl
  node body rest o (term.Var n) memory c b le is = no_node body rest o (term.Var n) memory c b tt refl
  node body rest o (term.Closure place) memory c b le is =
      let vs = captured_of (slice_get t.program.closures place) in
      let n = count_is (slice_get t.program.closures place) in
      let r = closure t has f w frames_left words_left sh typed output drawn trail m start mid total room body rest o place vs memory c b (omega arith) is.0 is.1 is.2 in
      let few = r.few in
      record {
        memory' = r.memory';
        cells' = r.cells';
        begun = r.begun;
        kept = kept_wider (sh.top + o) (3 + length vs + 5) (sh.top + o) (3 + captured_count (slice_get t.program.closures place) + 5) c r.cells' (omega arith) (omega arith) r.kept;
        written = r.written;
        count = r.count;
        few = omega arith;
        runs = r.runs;
      }
  node body rest o (term.Pair head tail) memory c b le is =
      let high = has.mapped.room in
      let o1 = o + 3 in
      let o2 = o + 3 + cells_of t.program (head ∷ []) in
      let k0 = heap_at + (sh.top + o) in
      let k1 = heap_at + (sh.top + (o + 1)) in
      let k2 = heap_at + (sh.top + (o + 2)) in
      let four = cell_act (o + 2) (atoms.Var 52) ∷ rest in
      let three = word_act 52 o2 (out-Term tail) ∷ four in
      let two = cell_act (o + 1) (atoms.Var 52) ∷ three in
      let one = word_act 52 o1 (out-Term head) ∷ two in
      let m1 = with_cell memory k0 0 in
      let c1 = replaced c k0 0 in
      let zero_cell = put_cell t has f w frames_left words_left sh typed output drawn trail m start mid total room body one o (atoms.Num 0) 0 memory c b (omega arith) (omega arith) refl in
      let x1 = put_word t has f w frames_left words_left sh typed output drawn trail m start mid total room body two 52 o1 (out-Term head) m1 c1 zero_cell.begun (omega arith) (omega arith) (λ q. (omega arith)) is.0 in
      let m2 = with_cell m1 36 x1.word in
      let c2 = replaced c1 36 x1.word in
      let b2 = begun_word t has f w frames_left words_left sh typed output drawn trail m start mid total room m1 c1 x1.word zero_cell.begun x1.small in
      let first = put_cell t has f w frames_left words_left sh typed output drawn trail m start mid total room body three (o + 1) (atoms.Var 52) x1.word m2 c2 b2 (omega arith) x1.small (register t.p (now m2) c2 52 b2.holds (omega arith) (omega arith) (omega arith) ∙ ap word_is (same_cell c1 36 x1.word)) in
      let m3 = with_cell m2 k1 x1.word in
      let c3 = replaced c2 k1 x1.word in
      let x2 = put_word t has f w frames_left words_left sh typed output drawn trail m start mid total room body four 52 o2 (out-Term tail) m3 c3 first.begun (omega arith) (omega arith) (λ q. (omega arith)) is.1 in
      let m4 = with_cell m3 36 x2.word in
      let c4 = replaced c3 36 x2.word in
      let b4 = begun_word t has f w frames_left words_left sh typed output drawn trail m start mid total room m3 c3 x2.word first.begun x2.small in
      let second = put_cell t has f w frames_left words_left sh typed output drawn trail m start mid total room body rest (o + 2) (atoms.Var 52) x2.word m4 c4 b4 (omega arith) x2.small (register t.p (now m4) c4 52 b4.holds (omega arith) (omega arith) (omega arith) ∙ ap word_is (same_cell c3 36 x2.word)) in
      let c5 = replaced c4 k2 x2.word in
      let at1 : sh.top + o + 1 ≡ sh.top + (o + 1) = omega arith in
      let at2 : sh.top + o + 2 ≡ sh.top + (o + 2) = omega arith in
      let head_there : c5 k1 ≡ x1.word = other_cell c4 k2 x2.word k1 (λ e. (omega arith)) ∙ other_cell c3 36 x2.word k1 (λ e. (omega arith)) ∙ same_cell c2 k1 x1.word in
      let tail_there : c5 k2 ≡ x2.word = same_cell c4 k2 x2.word in
      let at0 : sh.top + o + 0 ≡ sh.top + o = omega arith in
      let header_there : c5 k0 ≡ 0 = other_cell c4 k2 x2.word k0 (λ e. (omega arith)) ∙ other_cell c3 36 x2.word k0 (λ e. (omega arith)) ∙ other_cell c2 k1 x1.word k0 (λ e. (omega arith)) ∙ other_cell c1 36 x1.word k0 (λ e. (omega arith)) ∙ same_cell c k0 0 in
      let few1 = x1.few in
      let few2 = x2.few in
      record {
        memory' = with_cell m4 k2 x2.word;
        cells' = c5;
        begun = second.begun;
        kept = λ k ne far.
            other_cell c4 k2 x2.word k (λ (e : k ≡ k2). (let q : heap_at + (sh.top + o + (3 + 5)) ≤ k = far (omega arith) in omega arith)) ∙ other_cell c3 36 x2.word k ne
            ∙ other_cell c2 k1 x1.word k (λ (e : k ≡ k1). (let q : heap_at + (sh.top + o + (3 + 5)) ≤ k = far (omega arith) in omega arith)) ∙ other_cell c1 36 x1.word k ne
            ∙ other_cell c k0 0 k (λ (e : k ≡ k0). (let q : heap_at + (sh.top + o + (3 + 5)) ≤ k = far (omega arith) in omega arith));
        written = (
          subst (λ (i : ℕ). WordOf t.program sh env o1 (c5 (heap_at + i)) (out-Term head)) (sym at1) (subst (λ (y : ℕ). WordOf t.program sh env o1 y (out-Term head)) (sym head_there) x1.is),
          subst (λ (i : ℕ). WordOf t.program sh env o2 (c5 (heap_at + i)) (out-Term tail)) (sym at2) (subst (λ (y : ℕ). WordOf t.program sh env o2 y (out-Term tail)) (sym tail_there) x2.is),
          subst (λ (i : ℕ). c5 (heap_at + i) ≡ 0) (sym at0) header_there,
        );
        count = suc (x1.count + suc (x2.count + 1));
        few = omega arith;
        runs = λ out s' n r.
            let last = second.runs out s' n r in
            let tail_put = x2.runs out s' (suc n) last in
            let first_put = first.runs out s' (steps x2.count (suc n)) tail_put in
            let head_put = x1.runs out s' (suc (steps x2.count (suc n))) first_put in
            let all = zero_cell.runs out s' (steps x1.count (suc (steps x2.count (suc n)))) head_put in
            let a = steps_are x2.count (suc n) in
            let b' = steps_are x1.count (suc (steps x2.count (suc n))) in
            let d = steps_are (suc (x1.count + suc (x2.count + 1))) n in
            let sum : suc (steps x1.count (suc (steps x2.count (suc n)))) ≡ steps (suc (x1.count + suc (x2.count + 1))) n = omega arith in
            subst (ActsRun t.p f w body (node_acts t.program o (term.Pair head tail) ++ rest) (now memory) out s') sum all;
      }

  -- ## All of them

  pub record Nodes (body rest : List Act) (o : ℕ) (xs : List Term) (memory : List ℕ) (c : ℕ → ℕ) : Type 0 where
    pub memory' : List ℕ
    pub cells' : ℕ → ℕ
    pub begun : Here memory' cells'
    pub kept : KeptBut (sh.top + o) (size t.program xs + 5) c cells'
    pub written : AllAt t.program (λ i x. Written t.program sh env cells' i (out-Term x)) o xs
    pub count : ℕ
    pub few : count ≤ 35 * pairs xs + all_capturing t.program xs
    pub runs : (out : ActsOutcome) (s' : State) (n : ℕ) → ActsRun t.p f w body rest (now memory') out s' n → ActsRun t.p f w body (nodes_acts t.program o xs ++ rest) (now memory) out s' (steps count n)

  pub nodes : (body rest : List Act) (o : ℕ) (xs : List Term) (memory : List ℕ) (c : ℕ → ℕ) → Here memory c → o + size t.program xs ≤ total → AreNodes t.program xs → Nodes body rest o xs memory c
  nodes body rest o [] memory c b le are = record { memory' = memory; cells' = c; begun = b; kept = λ k ne far. refl; written = tt; count = 0; few = omega arith; runs = λ out s' n r. r }
  nodes body rest o (x ∷ xs) memory c b le are =
      let n = node_cells t.program (out-Term x) in
      let more = nodes_acts t.program (o + n) xs in
      let first = node body (more ++ rest) o (out-Term x) memory c b (omega arith) are.0 in
      let others = nodes body rest (o + n) xs first.memory' first.cells' first.begun (omega arith) are.1 in
      let few = first.few in
      let few' = others.few in
      record {
        memory' = others.memory';
        cells' = others.cells';
        begun = others.begun;
        kept = kept_then (sh.top + o) (n + size t.program xs + 5) c first.cells' others.cells' (kept_wider (sh.top + o) (n + 5) (sh.top + o) (n + size t.program xs + 5) c first.cells' (omega arith) (omega arith) first.kept)
            (kept_wider (sh.top + (o + n)) (size t.program xs + 5) (sh.top + o) (n + size t.program xs + 5) first.cells' others.cells' (omega arith) (omega arith) others.kept);
        written = (
          written_same t.program sh env first.cells' others.cells' o (out-Term x) (λ i lt. others.kept (heap_at + (sh.top + o + i)) (λ e. (omega arith)) (λ le'. (omega arith))) first.written,
          others.written,
        );
        count = first.count + others.count;
        few = omega arith;
        runs = λ out s' k r. subst (λ (l : List Act). ActsRun t.p f w body l (now memory) out s' (steps (first.count + others.count) k)) (sym (append_assoc (node_acts t.program o (out-Term x)) more rest))
            (subst (ActsRun t.p f w body (node_acts t.program o (out-Term x) ++ (more ++ rest)) (now memory) out s') (steps_both first.count others.count k) (first.runs out s' (steps others.count k) (others.runs out s' k r)));
      }

  -- ## Their words

  -- Words that differ in so many registers from one on alone.
  abbrev pub Before : (ℕ → ℕ) → (ℕ → ℕ) → ℕ → ℕ → Type 0
  Before c c' v n = (k : ℕ) → (v ≤ k + 16 → v + n ≤ k + 16) → c' k ≡ c k

  pub record Words (body rest : List Act) (v o : ℕ) (xs : List Term) (memory : List ℕ) (c : ℕ → ℕ) : Type 0 where
    pub memory' : List ℕ
    pub cells' : ℕ → ℕ
    pub begun : Here memory' cells'
    pub before : Before c cells' v (length xs)
    pub are : AreWords t.program sh env cells' (v - 16) o xs
    pub count : ℕ
    pub few : count ≤ 16 * length xs
    pub runs : (out : ActsOutcome) (s' : State) (n : ℕ) → ActsRun t.p f w body rest (now memory') out s' n → ActsRun t.p f w body (words_acts t.program v o xs ++ rest) (now memory) out s' (steps count n)

  -- a register that may be written
  not_kept : (v : ℕ) → 31 ≤ v → v < 240 → (43 < v → 52 ≤ v) → (k : ℕ) → k ≡ v - 16 → IsKept k → ⊥
  not_kept v le lt apart k e kept = elim (cases_lt 43 v) [
    | inl far ↦ (let a = apart far in let q = kept.1 (omega arith) in omega arith)
    | inr low ↦ (let q = kept.0 (omega arith) in omega arith)
  ]

  -- it is given a word
  begun_put : (memory : List ℕ) (c : ℕ → ℕ) (v x : ℕ) → 31 ≤ v → v < 240 → (43 < v → 52 ≤ v) → Here memory c → x < 65536 → Here (with_cell memory (v - 16) x) (replaced c (v - 16) x)
  begun_put memory c v x le lt apart b small = let high = has.mapped.room in record {
    holds = holds_with t.p.world.layout memory c (v - 16) x b.holds (omega arith) small;
    beyond = λ k n0 n3 mid' far. other_cell c (v - 16) x k (λ (e : k ≡ v - 16). not_kept v le lt apart k e mid') ∙ b.beyond k n0 n3 mid' far;
    at = λ some. other_cell c (v - 16) x 14 (λ e. (omega arith)) ∙ b.at some;
  }

  pub words : (body rest : List Act) (v o : ℕ) (xs : List Term) (memory : List ℕ) (c : ℕ → ℕ) → Here memory c → 31 ≤ v → v + length xs ≤ 240 → (44 < v + length xs → 52 ≤ v) → AreTerms t.program total xs → Words body rest v o xs memory c
  words body rest v o [] memory c b le lt apart are = record { memory' = memory; cells' = c; begun = b; before = λ k far. refl; are = tt; count = 0; few = omega arith; runs = λ out s' n r. r }
  words body rest v o (x ∷ xs) memory c b le lt apart are =
      let o' = o + cells_of t.program (x ∷ []) in
      let more = words_acts t.program (suc v) o' xs in
      let first = put_word t has f w frames_left words_left sh typed output drawn trail m start mid total room body (more ++ rest) v o (out-Term x) memory c b (omega arith) (omega arith) are.1 are.0 in
      let others = words body rest (suc v) o' xs (with_cell memory (v - 16) first.word) (replaced c (v - 16) first.word) (begun_put memory c v first.word le (omega arith) (λ q. apart (omega arith)) b first.small) (omega arith) (omega arith) (λ q. (let y = apart (omega arith) in omega arith)) are.2 in
      let here : others.cells' (v - 16) ≡ first.word = others.before (v - 16) (λ q. (omega arith)) ∙ same_cell c (v - 16) first.word in
      let next : suc v - 16 ≡ suc (v - 16) = omega arith in
      let few = first.few in
      let few' = others.few in
      record {
        memory' = others.memory';
        cells' = others.cells';
        begun = others.begun;
        before = λ k far. others.before k (λ q. (let y : v + suc (length xs) ≤ k + 16 = far (omega arith) in omega arith)) ∙ other_cell c (v - 16) first.word k (λ (e : k ≡ v - 16). (let q : v + suc (length xs) ≤ k + 16 = far (omega arith) in omega arith));
        are = (subst (λ (y : ℕ). WordOf t.program sh env o y (out-Term x)) (sym here) first.is, subst (λ (k : ℕ). AreWords t.program sh env others.cells' k o' xs) next others.are);
        count = first.count + others.count;
        few = omega arith;
        runs = λ out s' n r. subst (ActsRun t.p f w body (word_act v o (out-Term x) ∷ (more ++ rest)) (now memory) out s') (steps_both first.count others.count n) (first.runs out s' (steps others.count n) (others.runs out s' n r));
      }
