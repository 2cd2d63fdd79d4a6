-- What a select comes to.
use Rattle.std.proofs.Common.{◌≡◌, ℕ, zero, suc, ◌+◌, List, [], ◌∷◌, ◌++◌, refl, sym, ap, ◌∙◌, subst, arith, length, get_or, Bor}
use Rattle.std.specs.List.{All}
use Rattle.dg_base.specs.declared.program.Goal.{Goal, out-Goal}
use Rattle.dg_base.specs.declared.program.Goal.TheVariants.{Select, outs-Select}
use Rattle.dg_base.specs.declared.program.Goal.TheOpen as part
use Rattle.dg_base.specs.declared.program.Mode.{Mode}
use Rattle.dg_base.specs.Goals.{terms_held}
use Rattle.dg_meaning.specs.Values.{Value}
use Rattle.dg_meaning.specs.World.{Game, World}
use Rattle.dg_meaning.specs.Cells.{writing}
use Rattle.dg_meaning.specs.Choosing.{Choice}
use Rattle.dg_meaning.specs.Path.{Registers}
use Rattle.dg_meaning.specs.Moves.{goals_at, outcome, path_of, selects, selected}
use Rattle.dg_meaning.specs.Transcript.{Run}
use Rattle.dg_meaning.specs.inside.Keeps.{After, Stands}
use Rattle.dg_interp.specs.Runnable.{AreRunnable}
use Rattle.dg_interp.proofs.RunnableLemmas.{runnable_inside, lists_runnable, all_none}
use Rattle.dg_lists.specs.Gathered.{Gathered}
use Rattle.dg_world.specs.declared.world.World.{World as FactsWorld}
use Rattle.dg_lasting.specs.declared.lasting.Lasting.{Lasting}
use Rattle.dg_interp.specs.declared.engine.Engine.{Engine}
use Rattle.dg_lasting.specs.Lasting.{picks_in, MayPick, PicksOne}
use Rattle.dg_interp.specs.inside.Engine.{steps_of, IsReady, TakesAt, WentOn}
use Rattle.dg_interp.proofs.Takes.{behind, taken_in, comes_of, adds_taken, agrees_here, peak_here}
use Rattle.dg_interp.proofs.Controls.{values_of, behind_all, then_frame, then_is}

pub select_runnable : (site : ℕ) (mode : Mode) (lists : List (List Goal)) → AreRunnable (Select site mode lists ∷ []) → All AreRunnable lists
select_runnable site mode lists h = lists_runnable lists (runnable_inside (Select site mode lists) [] (part.Select site mode lists) (outs-Select site mode lists) h)

-- one of some runnable lists
pub one_runnable : (lists : List (List Goal)) (at : ℕ) → All AreRunnable lists → AreRunnable (get_or lists at [])
one_runnable [] at h = all_none _
one_runnable (goals ∷ lists) zero h = h 0 goals (omega arith)
one_runnable (goals ∷ lists) (suc at) h = one_runnable lists at (λ k d lt. h (suc k) d (omega (arith, lt)))

-- the engine behind a pick, with all frames behind the list that was picked
module _ (site : ℕ) (mode : Mode) (lists : List (List Goal)) (old : Engine) (out : Lasting) (branch : ℕ) (goals : Bor (List Goal)) (ready : IsReady old) (all : behind_all old ≡ steps_of old)
    (may : MayPick (old.left + 1) (picks_in old.lasting)) (one : PicksOne site mode (length lists) branch old.lasting out) (is : goals.now ≡ get_or lists branch []) (runnable : AreRunnable goals.now) where
  abbrev x : Goal
  x = Select site mode lists

  abbrev pub picked_on : Engine
  picked_on = record old { lasting = out; here = then_frame goals old }

  abbrev env : List Value
  env = values_of old old.here.env

  held_none : terms_held (out-Goal x) ≡ []
  held_none = ap terms_held (outs-Select site mode lists)

  steps_now : steps_of picked_on ≡ goals_at env old.here.tag goals.now ++ steps_of old
  steps_now = ap (λ l. goals_at env old.here.tag goals.now ++ l) all

  picked_ready : IsReady picked_on
  picked_ready = record {
    sound = record {
      base = ready.sound.base;
      room = ready.sound.room;
      picks = one.may old.left may;
    };
    here = then_is goals old ready runnable;
  }

  module _ (g : Game) (n : ℕ) (w : World) (run : Run) (st : TakesAt x old g n w run) where
    abbrev v : World
    v = taken_in x old g n w run st

    abbrev r : Registers
    r = behind x old g n w run st

    abbrev chosen : Choice
    chosen = selects g site mode (length lists) v

    branch_is : branch ≡ chosen.branch
    branch_is = one.chosen g v st.at.inside.world

    stands : Stands g st.at.inside.lives st.at.ways (path_of (steps_of picked_on) r) n (selected site chosen v) run
    stands =
        let went : Stands g st.at.inside.lives st.at.ways (path_of (goals_at env old.here.tag (get_or lists chosen.branch []) ++ steps_of old) r) n (selected site chosen v) run =
        subst (λ f. After g st.at.inside.lives st.at.ways n (outcome g f env old.here.tag (steps_of old) r v) run) (outs-Select site mode lists) (comes_of x old g n w run st) in
        subst (λ l. Stands g st.at.inside.lives st.at.ways (path_of l r) n (selected site chosen v) run)
        (ap (λ b. goals_at env old.here.tag (get_or lists b []) ++ steps_of old) (sym branch_is) ∙ ap (λ l. goals_at env old.here.tag l ++ steps_of old) (sym is) ∙ sym steps_now) went

  pub select_goes : WentOn (TakesAt x old) old picked_on
  select_goes = record {
    ready = picked_ready;
    left = refl;
    limits = record { heap = refl; trail = refl; aux = ap (λ (o : Gathered). o.aux) one.gathered; keep = ap (λ (o : FactsWorld). o.area.keep) one.world; calls = []; told = refl };
    leads = λ g n w run st.
        let a = adds_taken (r g n w run st) (writing (terms_held (out-Goal x))) w in
        record {
          world = selected site (chosen g n w run st) (v g n w run st);
          adds = record { events_are = a.events_are; typed = refl };
          holds = record {
            at = record {
              inside = record {
                program = st.at.inside.program;
                entries = st.at.inside.entries;
                lives = st.at.inside.lives;
                lives_are = st.at.inside.lives_are;
                saved = st.at.inside.saved;
                keeps = st.at.inside.keeps;
                choices = st.at.inside.choices;
                world = one.stands g (v g n w run st) st.at.inside.world;
                peak = peak_here x old held_none g n w run st;
              };
              ways = st.at.ways;
              ways_are = st.at.ways_are;
              registers = r g n w run st;
              agrees = agrees_here x old held_none g n w run st;
              tag = st.at.tag;
              stop = st.at.stop;
            };
            stands = stands g n w run st;
          };
        };
  }
