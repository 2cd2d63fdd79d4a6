-- What waits in its store makes no difference to where an engine is.
use Rattle.std.proofs.Common.{◌≤◌, ◌≡◌, ℕ, List, sym, ap, subst}
use Rattle.std.specs.Prelude.{map, reverse}
use Rattle.std.specs.List.{All}
use Rattle.dg_base.specs.declared.program.Term.{Term}
use Rattle.dg_meaning.specs.World.{Prints, Game, World, Piece}
use Rattle.dg_meaning.specs.Pieces.{pieces}
use Rattle.dg_meaning.specs.Substitutions.{resolved}
use Rattle.dg_meaning.specs.Moves.{path_of}
use Rattle.dg_meaning.specs.Transcript.{Run}
use Rattle.dg_meaning.specs.inside.Keeps.{Stands}
use Rattle.dg_unify.specs.Store.{Saved, Holds, told}
use Rattle.dg_unify.specs.inside.Engines.{Agrees}
use Rattle.dg_unify.specs.declared.bindings.Ref.{Ref}
use Rattle.dg_unify.specs.declared.list.ListBindings.{ListBindings}
use Rattle.dg_interp.specs.declared.engine.Engine.{Engine}
use Rattle.dg_interp.specs.inside.Frames.{values_in, steps_at, GoBackTo}
use Rattle.dg_interp.proofs.Places.{inside_kept}
use Rattle.dg_interp.specs.inside.Engine.{store_in, KeepsPlaces, IsReady, StandsAt, Adds, StaysBut, WrotePrinted, pieces_at}

module _ (mid : Engine) (store : ListBindings) (same : store_in store ≡ store_in mid.store) (places : (ms : List Saved) → KeepsPlaces mid.store ms → KeepsPlaces store ms) where
  abbrev new : Engine
  new = record mid { store = store }

  ready_here : IsReady mid → IsReady new
  ready_here r = record {
    sound = record {
      base = record {
        program = r.sound.base.program;
        sound = r.sound.base.sound;
        hold = subst (λ t. All (Holds t) mid.refs.items) (sym same) r.sound.base.hold;
        frames = r.sound.base.frames;
        choices = r.sound.base.choices;
        places = record {
          saved = r.sound.base.places.saved;
          keeps = places r.sound.base.places.saved r.sound.base.places.keeps;
          back_to = subst (λ t. GoBackTo mid.refs.items t.heap_limit t.trail_limit (reverse mid.choices.items) r.sound.base.places.saved) (sym same) r.sound.base.places.back_to;
        };
      };
      room = r.sound.room;
      picks = r.sound.picks;
    };
    here = r.here;
  }

  stands_here : (g : Game) (n : ℕ) (w : World) (run : Run) → StandsAt mid g n w run → StandsAt new g n w run
  stands_here g n w run st = record {
    at = record {
      inside = inside_kept _ _ places st.at.inside.world (subst (λ t. w.meters.heap ≤ t.heap_limit) (sym same) st.at.inside.peak) st.at.inside;
      ways = st.at.ways;
      ways_are = st.at.ways_are;
      registers = st.at.registers;
      agrees = subst (λ t. Agrees t st.at.registers) (sym same) st.at.agrees;
      tag = st.at.tag;
      stop = st.at.stop;
    };
    stands = subst (λ t. Stands g st.at.inside.lives st.at.ways (path_of (steps_at (values_in t mid.refs.items) mid.frames.items mid.here) st.at.registers) n w run) (sym same) st.stands;
  }

  wrote_here : (term : Term) (value : Ref) (old : Engine) → WrotePrinted term value old mid → WrotePrinted term value old new
  wrote_here term value old h = record {
    ready = ready_here h.ready;
    left = h.left;
    limits = record {
      heap = subst (λ t. t.heap_limit ≡ (store_in old.store).heap_limit) (sym same) h.limits.heap;
      trail = subst (λ t. t.trail_limit ≡ (store_in old.store).trail_limit) (sym same) h.limits.trail;
      aux = h.limits.aux;
      keep = h.limits.keep;
      told = h.limits.told;
    };
    holds = subst (λ t. Holds t value) (sym same) h.holds;
    leads = λ g n w run st.
        let t = h.leads g n w run st in
        record {
          world = t.world;
          adds = subst (λ u. Adds (map (λ piece. Prints (Piece piece)) (pieces mid.program.now (resolved u.state.subst (told u value)))) w t.world) (sym same) t.adds;
          holds = stands_here g n t.world run t.holds;
        };
  }

pub wrote_still : (mid new : Engine) → StaysBut mid new → (term : Term) (value : Ref) (old : Engine) → WrotePrinted term value old mid → WrotePrinted term value old new
wrote_still mid new stays term value old h = subst (WrotePrinted term value old) (sym stays.same) (wrote_here mid new.store stays.store stays.places term value old h)

pub pieces_still : (mid new : Engine) → StaysBut mid new → (value : Ref) → pieces_at mid value ≡ pieces_at new value
pieces_still mid new stays value =
    let e = record mid { store = new.store } in
    let here : pieces_at mid value ≡ pieces_at e value = ap (λ u. pieces mid.program.now (resolved u.state.subst (told u value))) (sym stays.store) in
    subst (λ v. pieces_at mid value ≡ pieces_at v value) (sym stays.same) here
