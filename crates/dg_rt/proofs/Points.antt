-- Pieces that are printed one after another, from one point of a routine to the next.
use Rattle.std.proofs.Common.{◌≡◌, ℕ, suc, ◌+◌, ◌*◌, ◌<◌, ◌≤◌, List, [], ◌∷◌, ◌++◌, Some, None, refl, sym, ap, ◌∙◌, subst, arith, append_assoc}
use Rattle.std.proofs.lemmas.List.{append-nil, map-append}
use Rattle.dg_meaning.specs.Substitutions.{Substitution}
use Rattle.dg_meaning.specs.World.{Piece}
use Rattle.dg_meaning.specs.Render.{Met, met_from, render_from, written, characters}
use Rattle.z_lang.specs.declared.act.Act.{Act}
use Rattle.z_lang.specs.declared.act.Act.TheVariants as acts
use Rattle.z_lang.specs.declared.act.Args.{Args}
use Rattle.z_lang.specs.declared.act.Atom.{Atom}
use Rattle.z_lang.specs.declared.act.Atom.TheVariants as atoms
use Rattle.z_lang.specs.declared.act.Routine.{Routine}
use Rattle.z_lang.specs.State.{State, Program, value}
use Rattle.z_lang.specs.Acts.{arguments}
use Rattle.z_lang.specs.Runs.{ActsRun as Runs, ActsOutcome as Outcome, Returns, calls, returns, routine_entered}
use Rattle.z_lang.specs.Standing.{IsKept}
use Rattle.dg_rt.specs.Cells.{Holds}
use Rattle.dg_rt.specs.Areas.{heap_at, state}
use Rattle.dg_rt.specs.Shapes.{Shape, Shows, Stands}
use Rattle.dg_rt.specs.Gaps.{Meets}
use Rattle.dg_rt.specs.Pieces.{PrintsPiece}
use Rattle.dg_rt.specs.Prints.{all_pieces, PrintsPieces}
use Rattle.dg_rt.proofs.Counted.{characters_on, written_counted, met_on, render_on}
use Rattle.dg_rt.proofs.Static.{runs_keep}

-- what is written in front of the heap changes nothing in it
pub stands_still : {sh : Shape} {S : Substitution} (cells cells' : ℕ → ℕ) → ((k : ℕ) → heap_at ≤ k → cells' k ≡ cells k) → Stands sh cells S → Stands sh cells' S
stands_still {sh} cells cells' same st = record {
  sound = st.sound;
  fixed = λ k lt f. same (heap_at + k) (omega arith) ∙ st.fixed k lt f;
  unbound = λ n lt e. same (heap_at + sh.place n) (omega arith) ∙ st.unbound n lt e;
  bound = λ n v lt e. subst (λ (x : ℕ). Shows sh x v) (sym (same (heap_at + sh.place n) (omega arith))) (st.bound n v lt e);
}

-- A piece alone.
pub one_piece : {p : Program} {f w : ℕ} {acts : List Act} {memory locals typed output : List ℕ} {drawn : ℕ} {cells : ℕ → ℕ} {m : Met} {most : ℕ} (bytes : List ℕ) (most' : ℕ) → most ≤ 20 * characters bytes + most' →
    PrintsPiece p f w acts memory locals typed output drawn cells m bytes most → PrintsPieces p f w acts acts memory locals typed output drawn cells m (bytes ∷ []) most'
one_piece {p} {f} {w} {acts} {memory} {locals} {typed} {output} {drawn} {cells} {m} bytes most' le r =
    let few = r.few in
    let all = written_counted m bytes in
    let one : render_from m (all_pieces (bytes ∷ [])) ≡ written m (Piece bytes) = append-nil (written m (Piece bytes)) in
    let same = ap characters one in
    record {
      memory' = r.memory';
      cells' = r.cells';
      locals' = r.locals';
      holds = r.holds;
      meets = r.meets;
      others = r.others;
      count = r.count;
      few = omega arith;
      runs = subst (λ (o : List ℕ). Runs p f w acts acts (state memory locals typed drawn output) (Returns 0) (state r.memory' r.locals' typed drawn (output ++ o)) r.count) (sym one) r.runs;
    }

-- What stays while pieces are printed: the program and its story, what lies in the heap, the substitution, and the outside but for what was printed.
pub record Story : Type 0 where
  pub p : Program
  pub story : List ℕ
  pub room : 600 ≤ p.world.layout.base
  pub sh : Shape
  pub S : Substitution
  pub typed : List ℕ
  pub drawn : ℕ

-- Memory and the text at a point.
pub record Point (g : Story) : Type 0 where
  pub memory : List ℕ
  pub cells : ℕ → ℕ
  pub holds : Holds g.p.world.layout memory cells
  pub kept : IsKept g.p.world.layout.base g.story memory
  pub stands : Stands g.sh cells g.S
  pub met : Met
  pub meets : Meets cells met
  pub output : List ℕ

module _ (g : Story) where
  -- The state of a routine there.
  abbrev pub at : Point g → List ℕ → State
  at q locals = state q.memory locals g.typed g.drawn q.output

  -- Pieces are printed from there on.
  abbrev pub Prints : ℕ → ℕ → List Act → List Act → Point g → List ℕ → List (List ℕ) → ℕ → Type 0
  Prints f w body acts q locals ps most = PrintsPieces g.p f w body acts q.memory locals g.typed q.output g.drawn q.cells q.met ps most

  -- The point behind them.
  pub behind : {f w : ℕ} {body acts : List Act} {locals : List ℕ} {ps : List (List ℕ)} {most : ℕ} (q : Point g) → Prints f w body acts q locals ps most → Point g
  behind {ps = ps} q r = record {
    memory = r.memory';
    cells = r.cells';
    holds = r.holds;
    kept = runs_keep g.p g.story q.holds.globals g.room r.runs q.kept;
    stands = stands_still q.cells r.cells' (λ k le. r.others k (λ e. (omega arith)) (λ e. (omega arith)) (λ e. (omega arith)) (λ e. (omega arith)) (λ e. (omega arith))) q.stands;
    met = met_from q.met (all_pieces ps);
    meets = r.meets;
    output = q.output ++ render_from q.met (all_pieces ps);
  }

  -- Nothing more is printed.
  pub ends : (f w : ℕ) (body more : List Act) (q : Point g) (locals : List ℕ) → Prints f w body (acts.Return (atoms.Num 0) ∷ more) q locals [] 1
  ends f w body more q locals = record {
    memory' = q.memory;
    cells' = q.cells;
    locals' = locals;
    holds = q.holds;
    meets = q.meets;
    others = λ k n28 n30 n31 n32 n33. refl;
    count = 1;
    few = omega arith;
    runs = subst (λ (o : List ℕ). Runs g.p f w body (acts.Return (atoms.Num 0) ∷ more) (at q locals) (Returns 0) (state q.memory locals g.typed g.drawn o) 1) (sym (append-nil q.output)) (returns refl);
  }

  -- A routine is called that prints pieces, and others are printed behind them.
  pub prints_then : {f w f' w' : ℕ} {body : List Act} (rest : List Act) (q : Point g) (locals : List ℕ) (atom : Atom) (given : Args) (x : ℕ) (xs : ℕ × ℕ × ℕ) (r : Routine) (ps qs : List (List ℕ)) (most most' total : ℕ) →
      value g.p (at q locals) atom ≡ Some x → arguments g.p (at q locals) given ≡ Some xs → g.p.routine_at x ≡ Some r → f' < f → r.locals + w' ≤ w → most + most' + 1 ≤ total →
      (k : Prints f' w' r.body r.body q (routine_entered (at q locals) r.locals xs).locals ps most) → Prints f w body rest (behind q k) locals qs most' →
      Prints f w body (acts.Call None atom given ∷ rest) q locals (ps ++ qs) total
  unfolding behind
  prints_then {f} {w} {f'} {w'} {body} rest q locals atom given x xs r ps qs most most' total e1 e2 e3 lt le enough k later =
      let few = k.few in
      let few' = later.few in
      let both : all_pieces (ps ++ qs) ≡ all_pieces ps ++ all_pieces qs = map-append Piece ps qs in
      let first = render_from q.met (all_pieces ps) in
      let second = render_from (met_from q.met (all_pieces ps)) (all_pieces qs) in
      let rendered : render_from q.met (all_pieces (ps ++ qs)) ≡ first ++ second = ap (render_from q.met) both ∙ render_on q.met (all_pieces ps) (all_pieces qs) in
      let met_is : met_from q.met (all_pieces (ps ++ qs)) ≡ met_from (met_from q.met (all_pieces ps)) (all_pieces qs) = ap (met_from q.met) both ∙ met_on q.met (all_pieces ps) (all_pieces qs) in
      let many = ap characters rendered ∙ characters_on first second in
      let printed : (q.output ++ first) ++ second ≡ q.output ++ render_from q.met (all_pieces (ps ++ qs)) = append_assoc q.output first second ∙ ap (λ (l : List ℕ). q.output ++ l) (sym rendered) in
      record {
        memory' = later.memory';
        cells' = later.cells';
        locals' = later.locals';
        holds = later.holds;
        meets = subst (Meets later.cells') (sym met_is) later.meets;
        others = λ i n28 n30 n31 n32 n33. later.others i n28 n30 n31 n32 n33 ∙ k.others i n28 n30 n31 n32 n33;
        count = suc k.count + later.count;
        few = omega arith;
        runs = subst (λ (o : List ℕ). Runs g.p f w body (acts.Call None atom given ∷ rest) (at q locals) (Returns 0) (state later.memory' later.locals' g.typed g.drawn o) (suc k.count + later.count)) printed
            (calls {f' = f'} {w' = w'} {n = k.count} {n' = later.count} {xs = xs} {s1 = state k.memory' k.locals' g.typed g.drawn (q.output ++ first)} {s2 = at (behind q k) locals} e1 e2 e3 lt le k.runs refl later.runs);
      }

  -- Acts in front of them print nothing.
  pub prints_behind : {f w : ℕ} {body acts' : List Act} {locals' : List ℕ} (q : Point g) (acts : List Act) (locals : List ℕ) (ps : List (List ℕ)) (total : ℕ → ℕ) (n most most' : ℕ) →
      ((k : ℕ) → total k ≤ n + k) → n + most ≤ most' → ((o : Outcome) (s' : State) (k : ℕ) → Runs g.p f w body acts (at q locals) o s' k → Runs g.p f w body acts' (at q locals') o s' (total k)) →
      Prints f w body acts q locals ps most → Prints f w body acts' q locals' ps most'
  prints_behind q acts locals ps total n most most' bound le front r =
      let few = r.few in
      let more = bound r.count in
      record {
        memory' = r.memory';
        cells' = r.cells';
        locals' = r.locals';
        holds = r.holds;
        meets = r.meets;
        others = r.others;
        count = total r.count;
        few = omega arith;
        runs = front (Returns 0) (state r.memory' r.locals' g.typed g.drawn (q.output ++ render_from q.met (all_pieces ps))) r.count r.runs;
      }

  -- A routine is called that prints a piece, which is the last.
  pub prints_last : {f w f' w' : ℕ} {body : List Act} (more : List Act) (q : Point g) (locals : List ℕ) (atom : Atom) (given : Args) (x : ℕ) (xs : ℕ × ℕ × ℕ) (r : Routine) (bytes : List ℕ) (most total : ℕ) →
      value g.p (at q locals) atom ≡ Some x → arguments g.p (at q locals) given ≡ Some xs → g.p.routine_at x ≡ Some r → f' < f → r.locals + w' ≤ w → most + 2 ≤ total →
      (k : Prints f' w' r.body r.body q (routine_entered (at q locals) r.locals xs).locals (bytes ∷ []) most) →
      Prints f w body (acts.Call None atom given ∷ acts.Return (atoms.Num 0) ∷ more) q locals (bytes ∷ []) total
  prints_last {f} {w} {f'} {w'} {body} more q locals atom given x xs r bytes most total e1 e2 e3 lt le enough k =
      prints_then (acts.Return (atoms.Num 0) ∷ more) q locals atom given x xs r (bytes ∷ []) [] most 1 total e1 e2 e3 lt le (omega arith) k (ends f w body more (behind q k) locals)
