-- A gap is asked for: one turn of the story.
use Rattle.std.proofs.Common.{◌≡◌, ◌≢◌, ℕ, ◌<◌, ◌≤◌, inl, inr, Bool, true, false, List, [], ◌∷◌, ◌++◌, Some, None, refl, sym, ap, ◌∙◌, subst, arith}
use Rattle.std.specs.List.{list_any}
use Rattle.std.proofs.lemmas.Bool.{cases_eq, eq-eqb, ne_eqb}
use Rattle.std.proofs.lemmas.List.{append-nil}
use Rattle.dg_base.specs.declared.program.GapKind.{GapKind}
use Rattle.dg_base.specs.declared.program.GapKind.TheVariants as kinds
use Rattle.dg_meaning.specs.World.{Print, GapOf}
use Rattle.dg_meaning.specs.Render.{is_upper, spaces_from, last_asked, Met, met_behind, written}
use Rattle.dg_mid.specs.State.{Mid}
use Rattle.z_model.specs.Run.{ZState}
use Rattle.z_lang.specs.declared.act.Act.{Act}
use Rattle.z_lang.specs.declared.act.Atom.TheVariants as atoms
use Rattle.z_lang.specs.declared.act.Comparison.TheVariants as comparisons
use Rattle.z_lang.specs.State.{State}
use Rattle.z_lang.specs.Acts.{answer_of}
use Rattle.z_lang.specs.Runs.{ActsRun, Returns, at_label, taken, passed, done, returns, behind_label}
use Rattle.dg_rt.specs.Cells.{compared, bit, with_cell, replaced, Holds}
use Rattle.dg_rt.specs.Areas.{state}
use Rattle.dg_rt.specs.Gaps.{break_word, asked_word, Meets}
use Rattle.dg_rt.proofs.Cells.{other_cell, same_cell}
use Rattle.dg_rt.proofs.Following.{IsPut, tested, copies, register, puts}
use Rattle.dg_turn.specs.Told.{Telling}
use Rattle.dg_turn.specs.Plays.{Playing, Outside, Represented, Comes}
use Rattle.dg_turn.specs.Texts.{gap_routine, printed, GapTurns}
use Rattle.dg_turn.proofs.GapLaws.{spaces_on, asked_on, break_same, break_par, upper_same, upper_more, line_none, line_some}
use Rattle.dg_turn.proofs.Meeting.{meets_here, mid_met}
use Rattle.dg_turn.proofs.Moving.{moves_to}

-- Nothing is written.
pub unwritten : (output : List ℕ) (m : Met) (e : Print) → written m e ≡ [] → output ≡ output ++ written m e
unwritten output m e none = sym (append-nil output) ∙ ap (λ (l : List ℕ). output ++ l) (sym none)

module _ (t : Telling) (plays : Playing t) (out : Outside) (x behind : ℕ) (m : Mid) (z : ZState) (met : Met) (meets : Meets out.words met) (r : Represented t out x m z) where
  abbrev now : List ℕ → State
  now memory = state memory [] out.typed out.drawn out.output

  here : Meets r.cells met
  here = meets_here out.words r.cells met r.mid.rest.outside meets

  module _ (kind : GapKind) (there : t.p.routine_at x ≡ Some (gap_routine kind behind)) where
    abbrev body : List Act
    body = (gap_routine kind behind).body

    abbrev later : Met
    later = met_behind met (GapOf kind)

    -- where its acts lead
    finishes : (n : ℕ) (memory' : List ℕ) (cells' : ℕ → ℕ) → n ≤ 4 → Holds t.p.world.layout memory' cells' → ((k : ℕ) → k ≢ 30 → k ≢ 31 → k ≢ 32 → k ≢ 33 → cells' k ≡ r.cells k) → Meets cells' later → ActsRun t.p 3500 19000 body body (now r.memory) (Returns (t.p.names.routine behind)) (now memory') n → Comes t (printed met (GapOf kind) out) (t.p.names.routine behind) m 6 z
    finishes n memory' cells' few holds others now_meets runs =
        let mid = mid_met t r.sh r.cells cells' r.trail m later (λ k n0 n28 n30 n31 n32 n33 kept. others k n30 n31 n32 n33) now_meets r.mid in
        moves_to t plays out x m z r (gap_routine kind behind) there (omega arith) (printed met (GapOf kind) out) (t.p.names.routine behind) n 6 memory' [] cells' r.sh r.trail m
        (subst (λ (o : List ℕ). ActsRun t.p 3500 19000 body body (now r.memory) (Returns (t.p.names.routine behind)) (state memory' [] out.typed out.drawn o) n) (unwritten out.output met (GapOf kind) refl) runs)
        holds (plays.words behind) mid (omega arith)

  -- a register is written
  sets : (memory : List ℕ) (cells : ℕ → ℕ) → Holds t.p.world.layout memory cells → (v y : ℕ) → 16 ≤ v → v < 240 → y < 65536 → IsPut t.p (now memory) cells v y
  sets memory cells h v y low lt small = let high = plays.has.mapped.room in puts t.p (now memory) cells v y h (omega arith) low lt small

  abbrev Turns : GapKind → Type 0
  Turns kind = t.p.routine_at x ≡ Some (gap_routine kind behind) → Comes t (printed met (GapOf kind) out) (t.p.names.routine behind) m 6 z

  no_space : Turns kinds.NoSpace
  no_space there =
      let put = sets r.memory r.cells r.holds 48 1 (omega arith) (omega arith) (omega arith) in
      let c1 = replaced r.cells 32 1 in
      let m1 = with_cell r.memory 32 1 in
      let far : (k : ℕ) → k ≢ 32 → c1 k ≡ r.cells k = λ k ne. other_cell r.cells 32 1 k ne in
      let e = GapOf kinds.NoSpace in
      finishes kinds.NoSpace there 2 m1 c1 (omega arith) put.holds (λ k n30 n31 n32 n33. far k n32)
      (record {
        last = far 28 (λ q. (omega arith)) ∙ here.last;
        lines = far 30 (λ q. (omega arith)) ∙ here.lines ∙ sym (break_same met.gap e refl refl);
        spaces = far 31 (λ q. (omega arith)) ∙ here.spaces ∙ sym (spaces_on 0 met.gap e);
        asked = same_cell r.cells 32 1 ∙ ap asked_word (sym (asked_on None met.gap e));
        upper = far 33 (λ q. (omega arith)) ∙ here.upper ∙ sym (upper_same met.gap e refl);
      })
      (done (copies t.p (now r.memory) (now m1) 48 (atoms.Num 1) 1 refl put.put_is) (returns refl))

  a_space : Turns kinds.Space
  a_space there =
      let put = sets r.memory r.cells r.holds 48 2 (omega arith) (omega arith) (omega arith) in
      let c1 = replaced r.cells 32 2 in
      let m1 = with_cell r.memory 32 2 in
      let far : (k : ℕ) → k ≢ 32 → c1 k ≡ r.cells k = λ k ne. other_cell r.cells 32 2 k ne in
      let e = GapOf kinds.Space in
      finishes kinds.Space there 2 m1 c1 (omega arith) put.holds (λ k n30 n31 n32 n33. far k n32)
      (record {
        last = far 28 (λ q. (omega arith)) ∙ here.last;
        lines = far 30 (λ q. (omega arith)) ∙ here.lines ∙ sym (break_same met.gap e refl refl);
        spaces = far 31 (λ q. (omega arith)) ∙ here.spaces ∙ sym (spaces_on 0 met.gap e);
        asked = same_cell r.cells 32 2 ∙ ap asked_word (sym (asked_on None met.gap e));
        upper = far 33 (λ q. (omega arith)) ∙ here.upper ∙ sym (upper_same met.gap e refl);
      })
      (done (copies t.p (now r.memory) (now m1) 48 (atoms.Num 2) 2 refl put.put_is) (returns refl))

  a_capital : Turns kinds.Upper
  a_capital there =
      let put = sets r.memory r.cells r.holds 49 1 (omega arith) (omega arith) (omega arith) in
      let c1 = replaced r.cells 33 1 in
      let m1 = with_cell r.memory 33 1 in
      let far : (k : ℕ) → k ≢ 33 → c1 k ≡ r.cells k = λ k ne. other_cell r.cells 33 1 k ne in
      let e = GapOf kinds.Upper in
      finishes kinds.Upper there 2 m1 c1 (omega arith) put.holds (λ k n30 n31 n32 n33. far k n33)
      (record {
        last = far 28 (λ q. (omega arith)) ∙ here.last;
        lines = far 30 (λ q. (omega arith)) ∙ here.lines ∙ sym (break_same met.gap e refl refl);
        spaces = far 31 (λ q. (omega arith)) ∙ here.spaces ∙ sym (spaces_on 0 met.gap e);
        asked = far 32 (λ q. (omega arith)) ∙ here.asked ∙ ap asked_word (sym (asked_on None met.gap e));
        upper = same_cell r.cells 33 1 ∙ sym (upper_more met.gap);
      })
      (done (copies t.p (now r.memory) (now m1) 49 (atoms.Num 1) 1 refl put.put_is) (returns refl))

  -- the spaces that were counted are dropped, and what breaks the text is this
  broken : (kind : GapKind) (cells : ℕ → ℕ) → ((k : ℕ) → k ≢ 30 → cells k ≡ r.cells k) → cells 30 ≡ break_word (met.gap ++ GapOf kind ∷ []) → spaces_from 0 (met.gap ++ GapOf kind ∷ []) ≡ 0 → last_asked None (met.gap ++ GapOf kind ∷ []) ≡ last_asked None met.gap → bit (list_any is_upper (met.gap ++ GapOf kind ∷ [])) ≡ bit (list_any is_upper met.gap) → Meets (replaced cells 31 0) (met_behind met (GapOf kind))
  broken kind cells far lines spaces asked up = record {
    last = other_cell cells 31 0 28 (λ q. (omega arith)) ∙ far 28 (λ q. (omega arith)) ∙ here.last;
    lines = other_cell cells 31 0 30 (λ q. (omega arith)) ∙ lines;
    spaces = same_cell cells 31 0 ∙ sym spaces;
    asked = other_cell cells 31 0 32 (λ q. (omega arith)) ∙ far 32 (λ q. (omega arith)) ∙ here.asked ∙ ap asked_word (sym asked);
    upper = other_cell cells 31 0 33 (λ q. (omega arith)) ∙ far 33 (λ q. (omega arith)) ∙ here.upper ∙ sym up;
  }

  a_paragraph : Turns kinds.Par
  a_paragraph there =
      let put = sets r.memory r.cells r.holds 46 2 (omega arith) (omega arith) (omega arith) in
      let c1 = replaced r.cells 30 2 in
      let m1 = with_cell r.memory 30 2 in
      let put' = sets m1 c1 put.holds 47 0 (omega arith) (omega arith) (omega arith) in
      let e = GapOf kinds.Par in
      finishes kinds.Par there 3 (with_cell m1 31 0) (replaced c1 31 0) (omega arith) put'.holds (λ k n30 n31 n32 n33. other_cell c1 31 0 k n31 ∙ other_cell r.cells 30 2 k n30)
      (broken kinds.Par c1 (λ k ne. other_cell r.cells 30 2 k ne) (same_cell r.cells 30 2 ∙ sym (break_par met.gap)) (spaces_on 0 met.gap e) (asked_on None met.gap e) (upper_same met.gap e refl))
      (done (copies t.p (now r.memory) (now m1) 46 (atoms.Num 2) 2 refl put.put_is) (done (copies t.p (now m1) (now (with_cell m1 31 0)) 47 (atoms.Num 0) 0 refl put'.put_is) (returns refl)))

  -- whether something breaks the text already
  asks_break : (b : Bool) → compared comparisons.Equal (r.cells 30) 0 ≡ b → answer_of t.p (now r.memory) (record { comparison = comparisons.Equal; first = atoms.Var 46; second = atoms.Num 0; answer = false }) ≡ Some b
  asks_break b e = let high = plays.has.mapped.room in tested t.p (now r.memory) comparisons.Equal (atoms.Var 46) (atoms.Num 0) false (r.cells 30) 0 b (register t.p (now r.memory) r.cells 46 r.holds (omega arith) (omega arith) (omega arith)) refl e

  first_line : r.cells 30 ≡ 0 → Turns kinds.Line
  first_line none there =
      let put = sets r.memory r.cells r.holds 46 1 (omega arith) (omega arith) (omega arith) in
      let c1 = replaced r.cells 30 1 in
      let m1 = with_cell r.memory 30 1 in
      let put' = sets m1 c1 put.holds 47 0 (omega arith) (omega arith) (omega arith) in
      let e = GapOf kinds.Line in
      finishes kinds.Line there 4 (with_cell m1 31 0) (replaced c1 31 0) (omega arith) put'.holds (λ k n30 n31 n32 n33. other_cell c1 31 0 k n31 ∙ other_cell r.cells 30 1 k n30)
      (broken kinds.Line c1 (λ k ne. other_cell r.cells 30 1 k ne) (same_cell r.cells 30 1 ∙ sym (line_none met.gap (sym here.lines ∙ none))) (spaces_on 0 met.gap e) (asked_on None met.gap e) (upper_same met.gap e refl))
      (passed (asks_break true (eq-eqb (r.cells 30) 0 none)) (done (copies t.p (now r.memory) (now m1) 46 (atoms.Num 1) 1 refl put.put_is) (at_label (done (copies t.p (now m1) (now (with_cell m1 31 0)) 47 (atoms.Num 0) 0 refl put'.put_is) (returns refl)))))

  more_lines : r.cells 30 ≢ 0 → Turns kinds.Line
  unfolding behind_label
  more_lines some there =
      let put = sets r.memory r.cells r.holds 47 0 (omega arith) (omega arith) (omega arith) in
      let m1 = with_cell r.memory 31 0 in
      let e = GapOf kinds.Line in
      finishes kinds.Line there 3 m1 (replaced r.cells 31 0) (omega arith) put.holds (λ k n30 n31 n32 n33. other_cell r.cells 31 0 k n31)
      (broken kinds.Line r.cells (λ k ne. refl) (here.lines ∙ sym (line_some met.gap (λ q. some (here.lines ∙ q)))) (spaces_on 0 met.gap e) (asked_on None met.gap e) (upper_same met.gap e refl))
      (taken (asks_break false (ne_eqb (r.cells 30) 0 some)) refl (done (copies t.p (now r.memory) (now m1) 47 (atoms.Num 0) 0 refl put.put_is) (returns refl)))

  a_line : Turns kinds.Line
  a_line there = elim (cases_eq (r.cells 30) 0) [ inl e ↦ first_line e there | inr ne ↦ more_lines ne there ]

pub gap_turns : GapTurns
gap_turns t plays out x behind m z met kinds.NoSpace there meets r = no_space t plays out x behind m z met meets r there
gap_turns t plays out x behind m z met kinds.Space there meets r = a_space t plays out x behind m z met meets r there
gap_turns t plays out x behind m z met kinds.Line there meets r = a_line t plays out x behind m z met meets r there
gap_turns t plays out x behind m z met kinds.Par there meets r = a_paragraph t plays out x behind m z met meets r there
gap_turns t plays out x behind m z met kinds.Upper there meets r = a_capital t plays out x behind m z met meets r there
