-- A goal whose terms are written has done something to what lasts.
use Rattle.std.proofs.Common.{◌≡◌, ℕ, ◌+◌, List, [], refl, sym, subst, arith}
use Rattle.std.specs.declared.vec.Vec.{Vec}
use Rattle.std.specs.declared.alloc.Global.{Global}
use Rattle.dg_base.specs.declared.program.Goal.{Goal, out-Goal}
use Rattle.dg_base.specs.declared.program.Term.{Term}
use Rattle.dg_base.specs.declared.program.CoreProgram.{CoreProgram}
use Rattle.dg_base.specs.Goals.{terms_held}
use Rattle.dg_meaning.specs.World.{Game, World}
use Rattle.dg_meaning.specs.Cells.{cells}
use Rattle.dg_meaning.specs.Path.{Registers, GoesOn, FailsAt as FailsAtMove}
use Rattle.dg_meaning.specs.Moves.{path_of}
use Rattle.dg_meaning.specs.Transcript.{Run}
use Rattle.dg_meaning.specs.inside.Keeps.{Stands, Went}
use Rattle.dg_unify.specs.Store.{Saved, Kept}
use Rattle.dg_unify.specs.declared.bindings.Ref.{Ref}
use Rattle.dg_unify.specs.declared.list.ListBindings.{ListBindings}
use Rattle.dg_interp.specs.declared.engine.Engine.{Engine}
use Rattle.dg_lasting.specs.declared.lasting.Lasting.{Lasting}
use Rattle.dg_lasting.specs.Lasting.{picks_in, InWorld, MayPick}
use Rattle.dg_interp.specs.inside.Engine.{store_in, KeepsPlaces, steps_of, There, IsReady, TakesAt, StandsAt, FailsAt, Adds, Then, Silent}
use Rattle.dg_interp.proofs.Takes.{behind, taken_in, store_ready}
use Rattle.dg_interp.proofs.Giving.{steps_kept, written_agrees, written_peak}

module _ (x : Goal) (ts : List Term) (held : terms_held (out-Goal x) ≡ ts) (old : Engine) (out : Lasting) (store : ListBindings) (stack : Vec Ref Global) (ready : IsReady old) (k : Kept (store_in old.store) (store_in store)) (saved : (ms : List Saved) → KeepsPlaces old.store ms → KeepsPlaces store ms)
    (grew : (program : CoreProgram) → old.program.now ≡ program → (store_in store).state ≡ record (store_in old.store).state { heap = (store_in old.store).state.heap + cells program ts }) where
  abbrev pub acted_to : Engine
  acted_to = record old { lasting = out; store = store; made = stack }

  pub acted_ready : picks_in out ≡ picks_in old.lasting → IsReady acted_to
  acted_ready picks =
      let r = store_ready old store stack k saved ready in
      record {
        sound = record { base = r.sound.base; room = r.sound.room; picks = subst (MayPick old.left) (sym picks) ready.sound.picks };
        here = r.here;
      }

  pub acted_limits : out.gathered.aux ≡ old.lasting.gathered.aux → out.world.area.keep ≡ old.lasting.world.area.keep → Silent old acted_to
  acted_limits aux keep = record { heap = k.heap_limit; trail = k.trail_limit; aux = aux; keep = keep; told = refl }

  module _ (g : Game) (n : ℕ) (w : World) (run : Run) (st : TakesAt x old g n w run) where
    abbrev pub r : Registers
    r = behind x old g n w run st

    abbrev pub v : World
    v = taken_in x old g n w run st

    abbrev there : (u : World) → InWorld out g u → u.meters.heap ≡ v.meters.heap → There acted_to (old.newest + 1) g u
    there u world reached = record {
      inside = record {
        program = st.at.inside.program;
        entries = st.at.inside.entries;
        lives = st.at.inside.lives;
        lives_are = st.at.inside.lives_are;
        saved = st.at.inside.saved;
        keeps = saved st.at.inside.saved st.at.inside.keeps;
        choices = st.at.inside.choices;
        world = world;
        peak = omega (arith, reached, written_peak x ts held old store stack ready k saved grew g n w run st);
      };
      ways = st.at.ways;
      ways_are = st.at.ways_are;
      registers = r;
      agrees = written_agrees x ts held old store stack ready k saved grew g n w run st;
      tag = st.at.tag;
      stop = st.at.stop;
    }

    adds_to : (u : World) → u.events ≡ v.events → u.typed ≡ w.typed → Adds [] w u
    adds_to u same typed = record { events_are = same; typed = typed }

    -- it goes on behind itself, in another world
    pub acted_on : (u : World) → u.events ≡ v.events → u.typed ≡ w.typed → InWorld out g u → u.meters.heap ≡ v.meters.heap → Went g st.at.inside.lives st.at.ways n (GoesOn (path_of (steps_of old) r) u) run → Then [] w (λ z. StandsAt acted_to g n z run)
    acted_on u same typed world reached went = record {
      world = u;
      adds = adds_to u same typed;
      holds = record { at = there u world reached; stands = subst (λ s. Stands g st.at.inside.lives st.at.ways (path_of s r) n u run) (sym (steps_kept old store stack ready k saved)) went };
    }

    -- it fails
    pub acted_not : (u : World) → u.events ≡ v.events → u.typed ≡ w.typed → InWorld out g u → u.meters.heap ≡ v.meters.heap → Went g st.at.inside.lives st.at.ways n (FailsAtMove u) run → Then [] w (λ z. FailsAt acted_to g n z run)
    acted_not u same typed world reached went = record {
      world = u;
      adds = adds_to u same typed;
      holds = record { inside = (there u world reached).inside; failed = went };
    }
