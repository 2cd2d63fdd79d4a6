-- A text is printed: one turn of the story.
use Rattle.std.proofs.Common.{◌≡◌, ℕ, ◌+◌, ◌*◌, List, [], ◌∷◌, ◌++◌, length, Some, refl, arith}
use Rattle.std.specs.Prelude.{All, encode_utf8_all}
use Rattle.dg_base.specs.Sound.{IsPrintable}
use Rattle.dg_meaning.specs.World.{Piece}
use Rattle.dg_meaning.specs.Render.{spaces_from, Met, met_behind, written}
use Rattle.dg_mid.specs.State.{Mid}
use Rattle.z_model.specs.Run.{ZState}
use Rattle.z_lang.specs.declared.act.Act.{Act}
use Rattle.z_lang.specs.declared.act.Act.TheVariants as acts
use Rattle.z_lang.specs.declared.act.Atom.TheVariants as atoms
use Rattle.z_lang.specs.Runs.{Returns, returns}
use Rattle.dg_rt.specs.Areas.{state}
use Rattle.dg_rt.specs.Gaps.{Meets}
use Rattle.dg_turn.specs.Told.{Telling}
use Rattle.dg_turn.specs.Plays.{Playing, Outside, Represented, Comes}
use Rattle.dg_turn.specs.Texts.{text_routine, printed, TextTurns}
use Rattle.dg_turn.proofs.Meeting.{meets_here, mid_met}
use Rattle.dg_turn.proofs.Moving.{moves_to}
use Rattle.dg_turn.proofs.TextPrinted.{TextSaid, text_said}

module _ (t : Telling) (plays : Playing t) (out : Outside) (x behind : ℕ) (m : Mid) (z : ZState) (met : Met) (c : ℕ) (cs : List ℕ) (there : t.p.routine_at x ≡ Some (text_routine (c ∷ cs) behind)) (all : All IsPrintable (c ∷ cs)) (meets : Meets out.words met) (r : Represented t out x m z) where
  abbrev text : List ℕ
  text = encode_utf8_all (c ∷ cs)

  abbrev body : List Act
  body = (text_routine (c ∷ cs) behind).body

  abbrev rest : List Act
  rest = acts.Return (atoms.Routine behind) ∷ []

  comes_by : TextSaid t.p 3500 19000 body rest r.memory [] out.typed out.output out.drawn r.cells met (c ∷ cs) → Comes t (printed met (Piece text) out) (t.p.names.routine behind) m (3 * spaces_from 0 met.gap + length (c ∷ cs) + 30) z
  comes_by k =
      let few = k.few 1 in
      let mid = mid_met t r.sh r.cells k.cells' r.trail m (met_behind met (Piece text)) (λ i n0 n28 n30 n31 n32 n33 kept. k.others i n28 n30 n31 n32 n33) k.meets r.mid in
      moves_to t plays out x m z r (text_routine (c ∷ cs) behind) there (omega arith) (printed met (Piece text) out) (t.p.names.routine behind) (k.total 1) (3 * spaces_from 0 met.gap + length (c ∷ cs) + 30) k.memory' [] k.cells' r.sh r.trail m
      (k.runs (Returns (t.p.names.routine behind)) (state k.memory' [] out.typed out.drawn (out.output ++ written met (Piece text))) 1 (returns refl))
      k.holds (plays.words behind) mid (omega arith)

  comes : Comes t (printed met (Piece text) out) (t.p.names.routine behind) m (3 * spaces_from 0 met.gap + length (c ∷ cs) + 30) z
  comes = comes_by (text_said t.p plays.has 3500 19000 (omega arith) (omega arith) body rest r.memory [] out.typed out.output out.drawn r.cells r.holds met (meets_here out.words r.cells met r.mid.rest.outside meets) c cs all)

pub text_turns : TextTurns
text_turns t plays out x behind m z met [] there some all meets r = absurd (some refl)
text_turns t plays out x behind m z met (c ∷ cs) there some all meets r = comes t plays out x behind m z met c cs there all meets r
