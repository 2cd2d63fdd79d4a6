-- A story whose starts keep too much writes the line of that limit, and its run is over.
use Rattle.std.proofs.Common.{◌≡◌, ℕ, suc, ◌<◌, false, List, [], inr, refl, sym, ap, subst, arith}
use Rattle.std.proofs.lemmas.Bool.{leb-false}
use Rattle.dg_base.specs.declared.program.CoreProgram.{CoreProgram}
use Rattle.dg_base.specs.declared.run.Ending.TheVariants as endings
use Rattle.dg_meaning.specs.World.{Game}
use Rattle.dg_meaning.specs.Facts.{kinds_of, kept_size, start_facts}
use Rattle.dg_meaning.specs.Render.{render}
use Rattle.dg_meaning.specs.Transcript.{run, start_world, start_path, closed, line_of}
use Rattle.dg_meaning.specs.Peaks.{Keep, peak, limit_ending}
use Rattle.dg_meaning.proofs.Keeps.{starts as stands_at_start, stands_happened}
use Rattle.dg_mid.specs.declared.code.Code.{Code}
use Rattle.z_model.specs.declared.end.ZEnd.{ZEnd}
use Rattle.z_model.specs.declared.end.ZEnd.TheVariants as ends
use Rattle.z_model.specs.declared.end.Halt.TheVariants.{AtQuit}
use Rattle.z_model.specs.Run.{ZState, zrun}
use Rattle.z_model.specs.Story.{start_state, memory_of}
use Rattle.z_lang.specs.State.{State, Program}
use Rattle.z_lang.specs.Acts.{with_output}
use Rattle.z_lang.specs.Runs.{Stops}
use Rattle.z_lang.specs.Leads.{Ends}
use Rattle.z_lang.specs.Turns.{Turn, Over, Turning, here}
use Rattle.z_lang.specs.WholeRuns.{IsTurn}
use Rattle.z_lang.proofs.Stretches.{ends_step}
use Rattle.dg_rt.specs.declared.closings.TheConstants.{KEEP_LIMIT_ACTS}
use Rattle.dg_rt.specs.Areas.{state}
use Rattle.dg_rt.specs.Closings.{Closes}
use Rattle.dg_rt.proofs.Closing.{closings_work}
use Rattle.dg_chain.specs.Agrees.{Fits, EndsWhole, IsLimitText, by_limit, of_limit}
use Rattle.dg_chain.specs.inside.Tells.{Tells, over}
use Rattle.dg_chain.proofs.FitsBy.{fits}
use Rattle.dg_story.specs.Built.{site_words, story_parts, keeps_within, IsStoryOf}
use Rattle.dg_story.proofs.Mapped.{p, has}
use Rattle.dg_story.proofs.Opening as opening
use Rattle.dg_story.proofs.Memory.{starts_holding}
use Rattle.dg_story.proofs.Rows.{start_words, StartsFit}

module _ (program : CoreProgram) (starts : StartsFit program) (code : Code) (story : List ℕ) (is : IsStoryOf (story_parts program code false) story) (typed dice : List ℕ) (much : keeps_within program ≡ false) where
  abbrev g : Game
  g = record { program = program; dice = dice }

  abbrev q : Program
  q = p program code false story is dice

  abbrev line : List ℕ
  line = closed [] (line_of (limit_ending Keep))

  keeps_most : (n : ℕ) → 500 < peak Keep g typed n
  keeps_most n =
      let over = leb-false (kept_size (kinds_of program) (start_facts program.places)) 500 much in
      let later = (stands_happened g [] [] (start_path g) n (start_world g typed) (run g typed n) (stands_at_start g typed n)).meters.keep in
      omega arith

  limited : IsLimitText g typed Keep line
  limited = record {
    goals = 0;
    passed = keeps_most 0;
    part = [];
    until = record { behind = _; is = refl };
    text = refl;
    covers = λ n within. absurd (let most = keeps_most n in let few = within Keep in omega arith);
  }

  -- One turn, with which the run is over.
  abbrev closing : Turning ZEnd ℕ
  closing = record { next = λ k. Over ends.Quit line; out = λ k. []; cost = λ k. 40 }

  abbrev from : State
  from = state (memory_of story) [] typed 0 []

  closes : Closes q KEEP_LIMIT_ACTS from 0 endings.KeepLimit
  closes = closings_work.keep q (has program code false story is dice) (memory_of story) typed [] 0 (start_words program (site_words code)) (starts_holding program starts code false story is dice)

  turns_over : (k : ℕ) (z : ZState) → z ≡ start_state story typed → IsTurn q.world (λ e. e) closing (λ a y. y ≡ start_state story typed) k z
  unfolding render
  turns_over k z e =
      let few = closes.few in
      let n = closes.count in
      let f = (opening.first_follows program starts code false story is dice typed 1 0 n (omega arith) (omega arith) (Stops AtQuit) (with_output from line) closes.runs).comes in
      let all = ends_step q.world n (start_state story typed) (opening.at_first program starts code false story is dice typed) (record { end = ends.Quit; state = f.0 }) (opening.first_step program starts code false story is dice typed) f.2 in
      record {
        printed = ap (λ (z : ZState). z.output) e;
        count = suc n;
        some = omega arith;
        most = omega arith;
        does = (f.0, f.1, subst (λ (y : ZState). Ends q.world (suc n) y (record { end = ends.Quit; state = f.0 })) (sym e) all);
      }

  whole_over : (end : ZEnd) (bytes : List ℕ) → ◌≡◌ {A = Turn ZEnd ℕ} (Over ends.Quit line) (Over end bytes) → EndsWhole g typed end bytes
  whole_over end bytes e =
      let same : ends.Quit ≡ end = cc in
      let text : line ≡ bytes = cc in
      subst (λ (x : ZEnd). EndsWhole g typed x bytes) same (subst (EndsWhole g typed ends.Quit) text (by_limit Keep limited))

  tells_over : Tells g typed closing 0
  tells_over = record {
    between = λ {b} {spent} r bytes low high. of_limit Keep line limited high;
    whole = λ {b} {spent} r end bytes next. whole_over end bytes next;
    in_time = λ n. over here refl (omega arith) (inr (record { area = Keep; passed = keeps_most n; text = limited; quit = refl }));
  }

  -- It fits, for every number of instructions.
  pub fits_over : (steps : ℕ) → Fits g typed steps (zrun q.world steps (start_state story typed)).state.output (zrun q.world steps (start_state story typed)).end
  fits_over steps = fits q.world closing (λ a y. y ≡ start_state story typed) turns_over g typed 0 tells_over (start_state story typed) refl steps
