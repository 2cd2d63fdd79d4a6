-- What the goals without terms come to.
use Rattle.std.proofs.Common.{◌≡◌, ℕ, ◌+◌, List, [], ◌∷◌, refl, sym, ap, ◌∙◌, subst}
use Rattle.std.specs.Prelude.{reverse}
use Rattle.std.specs.declared.vec.Vec.{Vec}
use Rattle.std.specs.declared.alloc.Global.{Global}
use Rattle.dg_base.specs.declared.program.Goal.TheVariants.{Text, Gap, Just, Fail, Quit, outs-Text, outs-Gap, outs-Just, outs-Fail, outs-Quit}
use Rattle.dg_base.specs.declared.program.Goal.{Goal, out-Goal}
use Rattle.dg_base.specs.declared.program.GapKind.{GapKind}
use Rattle.dg_meaning.specs.Values.{Value}
use Rattle.dg_base.specs.declared.run.Ending.TheVariants.{Quit as Quit-Ending}
use Rattle.dg_meaning.specs.World.{Game, World, Print, Piece, GapOf, Prints}
use Rattle.dg_meaning.specs.Path.{Step, Registers, End, Moves, GoesOn}
use Rattle.dg_meaning.specs.Moves.{printed, outcome, path_of}
use Rattle.dg_meaning.specs.Transcript.{Run}
use Rattle.dg_meaning.specs.inside.Keeps.{After, Finished}
use Rattle.dg_meaning.proofs.Keeps.{passes_cut}
use Rattle.dg_meaning.specs.Cells.{cells}
use Rattle.dg_base.specs.Goals.{terms_held}
use Rattle.dg_choices.specs.declared.frames.Choice.{Choice}
use Rattle.dg_interp.specs.declared.engine.Engine.{Engine}
use Rattle.dg_interp.specs.inside.Frames.{values_in}
use Rattle.dg_interp.specs.inside.Engine.{store_in, steps_of, IsReady, TakesAt, StandsAt, FailsAt, Then, Leads, WentOn}
use Rattle.dg_choices.specs.inside.Cutting.{Cuts}
use Rattle.dg_interp.proofs.Places.{inside_in, cut_base, cut_inside, ways_left}
use Rattle.dg_interp.proofs.Takes.{behind, taken_in, comes_of, adds_taken, agrees_here, peak_here}

pub fails_taken : (old : Engine) → Leads (TakesAt Fail old) (FailsAt old)
fails_taken old g n w run st = record {
  world = taken_in Fail old g n w run st;
  adds = adds_taken (behind Fail old g n w run st) _ w;
  holds = record {
    inside = inside_in _ st.at.inside.world (peak_here Fail old (ap terms_held outs-Fail) g n w run st) st.at.inside;
    failed = subst (λ f. After g st.at.inside.lives st.at.ways n (outcome g f (values_in (store_in old.store) old.refs.items old.here.env) old.here.tag (steps_of old) (behind Fail old g n w run st) (taken_in Fail old g n w run st)) run) outs-Fail (comes_of Fail old g n w run st);
  };
}

module _ (old : Engine) (choices : Vec Choice Global) (ready : IsReady old) (cuts : Cuts old.here.tag old.choices.items choices.items) where
  abbrev t : ℕ
  t = old.here.tag

  abbrev os : List Choice
  os = reverse old.choices.items

  abbrev new : Engine
  new = record old { choices = choices }

  pub just_cut : WentOn (TakesAt Just old) old new
  just_cut = record {
    ready = record {
      sound = record { base = cut_base t old.program.now old.lasting old.store old.refs.items old.frames.items os (reverse choices.items) cuts old.newest ready.sound.base; room = ready.sound.room; picks = ready.sound.picks };
      here = ready.here;
    };
    left = refl;
    limits = record { heap = refl; trail = refl; aux = refl; keep = refl; calls = []; told = refl };
    leads = λ g n w run st.
        let r = behind Just old g n w run st in
        let v = taken_in Just old g n w run st in
        let none : terms_held (out-Goal Just) ≡ [] = ap terms_held outs-Just in
        record {
          world = v;
          adds = adds_taken r _ w;
          holds = record {
            at = record {
              inside = cut_inside t old.program.now old.lasting old.store old.refs.items old.frames.items os (reverse choices.items) cuts g w v st.at.inside.world (peak_here Just old none g n w run st) st.at.inside;
              ways = st.at.ways;
              ways_are = st.at.ways_are ∙ sym (ways_left t old.program.now old.lasting old.store old.refs.items old.frames.items os (reverse choices.items) cuts g w st.at.inside);
              registers = r;
              agrees = agrees_here Just old none g n w run st;
              tag = st.at.tag;
              stop = st.at.stop;
            };
            stands = passes_cut g st.at.inside.lives st.at.ways t (steps_of old) r n v run
                (subst (λ f. After g st.at.inside.lives st.at.ways n (outcome g f (values_in (store_in old.store) old.refs.items old.here.env) t (steps_of old) r v) run) outs-Just (comes_of Just old g n w run st));
          };
        };
  }

-- ## A word, and the end

-- a goal without terms that prints one thing
pub prints_one : (x : Goal) (e : Print) (old : Engine) → terms_held (out-Goal x) ≡ [] → ((g : Game) (env : List Value) (t : ℕ) (steps : List Step) (r : Registers) (w : World) → outcome g (out-Goal x) env t steps r w ≡ Moves (GoesOn (path_of steps r) (printed e w))) →
    (g : Game) (n : ℕ) (w : World) (run : Run) → TakesAt x old g n w run → Then (Prints e ∷ []) w (λ v. StandsAt old g n v run)
prints_one x e old none is g n w run st =
    let r = behind x old g n w run st in
    let v = taken_in x old g n w run st in
    record {
      world = printed e v;
      adds = record { events_are = refl; typed = refl };
      holds = record {
        at = record {
          inside = inside_in _ st.at.inside.world (peak_here x old none g n w run st) st.at.inside;
          ways = st.at.ways;
          ways_are = st.at.ways_are;
          registers = r;
          agrees = agrees_here x old none g n w run st;
          tag = st.at.tag;
          stop = st.at.stop;
        };
        stands = subst (λ m. After g st.at.inside.lives st.at.ways n m run) (is g (values_in (store_in old.store) old.refs.items old.here.env) old.here.tag (steps_of old) r v) (comes_of x old g n w run st);
      };
    }

pub prints_word : (name : List ℕ) (old : Engine) (g : Game) (n : ℕ) (w : World) (run : Run) → TakesAt (Text name) old g n w run → Then (Prints (Piece name) ∷ []) w (λ v. StandsAt old g n v run)
prints_word name old = prints_one (Text name) (Piece name) old (ap terms_held (outs-Text name)) (λ g env t steps r w. ap (λ f. outcome g f env t steps r w) (outs-Text name))

pub prints_gap : (kind : GapKind) (old : Engine) (g : Game) (n : ℕ) (w : World) (run : Run) → TakesAt (Gap kind) old g n w run → Then (Prints (GapOf kind) ∷ []) w (λ v. StandsAt old g n v run)
prints_gap kind old = prints_one (Gap kind) (GapOf kind) old (ap terms_held (outs-Gap kind)) (λ g env t steps r w. ap (λ f. outcome g f env t steps r w) (outs-Gap kind))

pub quits : (e : Engine) → Leads (TakesAt Quit e) (λ g n v run. Finished n v (End Quit-Ending) run)
quits e g n w run st = record {
  world = taken_in Quit e g n w run st;
  adds = adds_taken (behind Quit e g n w run st) _ w;
  holds = subst (λ f. After g st.at.inside.lives st.at.ways n (outcome g f (values_in (store_in e.store) e.refs.items e.here.env) e.here.tag (steps_of e) (behind Quit e g n w run st) (taken_in Quit e g n w run st)) run) outs-Quit (comes_of Quit e g n w run st);
}
