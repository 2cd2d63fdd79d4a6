-- What a random number comes to.
use Rattle.std.proofs.Common.{◌≡◌, ℕ, ◌+◌, List, [], ◌∷◌, Option, Some, None, refl, sym, ap, ◌∙◌, subst, arith}
use Rattle.std.specs.declared.vec.Vec.{Vec}
use Rattle.std.specs.declared.alloc.Global.{Global}
use Rattle.dg_base.specs.declared.program.Goal.{Goal, out-Goal}
use Rattle.dg_base.specs.declared.program.Goal.TheVariants.{Random, outs-Random}
use Rattle.dg_base.specs.declared.program.Term.{Term}
use Rattle.dg_base.specs.declared.program.CoreProgram.{CoreProgram}
use Rattle.dg_base.specs.Goals.{terms_held}
use Rattle.dg_meaning.specs.Values.{Value, value_of}
use Rattle.dg_meaning.specs.Substitutions.{walk}
use Rattle.dg_meaning.specs.Numbers.{of_numbers, thrown}
use Rattle.dg_meaning.specs.Choosing.{die}
use Rattle.dg_meaning.specs.World.{Game, World, worked, drew}
use Rattle.dg_meaning.specs.Cells.{writing}
use Rattle.dg_meaning.specs.Path.{Registers, Moves}
use Rattle.dg_meaning.specs.Moves.{looked_up, outcome, move_of, gives_number, throws}
use Rattle.dg_meaning.specs.Transcript.{Run}
use Rattle.dg_meaning.specs.inside.Keeps.{After, Went}
use Rattle.dg_unify.specs.Store.{Store, Saved, Kept, told}
use Rattle.dg_unify.specs.declared.bindings.Ref.{Ref}
use Rattle.dg_unify.specs.declared.list.ListBindings.{ListBindings}
use Rattle.dg_choose.specs.Dice.{HasDrawn}
use Rattle.dg_choose.specs.declared.dice.Dice.{Dice}
use Rattle.dg_interp.specs.declared.engine.Engine.{Engine}
use Rattle.dg_lasting.specs.Lasting.{InWorld}
use Rattle.dg_terms.specs.Terms.{ThreeMade}
use Rattle.dg_interp.specs.inside.Frames.{values_in}
use Rattle.dg_interp.specs.inside.Engine.{store_in, KeepsPlaces, steps_of, There, IsReady, Silent, TakesAt, Leads, Then}
use Rattle.dg_interp.specs.inside.Giving.{GivesAt}
use Rattle.dg_terms.specs.Throwing.{Throws}
use Rattle.dg_interp.proofs.Takes.{behind, taken_in, comes_of, adds_taken, store_ready}
use Rattle.dg_interp.proofs.Giving.{steps_kept, written_agrees, written_peak}

pub random_held : (a b c : Term) → terms_held (out-Goal (Random a b c)) ≡ a ∷ b ∷ c ∷ []
random_held a b c = ap terms_held (outs-Random a b c)

-- ## The goal

module _ (a b c : Term) (old : Engine) (store : ListBindings) (stack : Vec Ref Global) (dice : Dice) (ra rb rc : Ref) (ready : IsReady old) (k : Kept (store_in old.store) (store_in store)) (saved : (ms : List Saved) → KeepsPlaces old.store ms → KeepsPlaces store ms)
    (made : (program : CoreProgram) → old.program.now ≡ program → ThreeMade program a b c (values_in (store_in old.store) old.refs.items old.here.env) (store_in old.store) (store_in store) (ra, rb, rc)) where
  abbrev x : Goal
  x = Random a b c

  abbrev s : Store
  s = store_in store

  abbrev pub thrown_to : Engine
  thrown_to = record old { lasting = record old.lasting { dice = dice }; store = store; made = stack }

  pub thrown_ready : IsReady thrown_to
  thrown_ready =
      let r = store_ready old store stack k saved ready in
      record { sound = record { base = r.sound.base; room = r.sound.room; picks = r.sound.picks }; here = r.here }

  pub thrown_limits : Silent old thrown_to
  thrown_limits = record { heap = k.heap_limit; trail = k.trail_limit; aux = refl; keep = refl; told = refl }

  abbrev meant : Game → ℕ → Option ℕ
  meant g drawn = of_numbers (thrown (die g.dice drawn)) (walk s.state.subst (told s ra)) (walk s.state.subst (told s rb))

  module _ (g : Game) (m : ℕ) (w : World) (run : Run) (st : TakesAt x old g m w run) where
    abbrev env : List Value
    env = values_in (store_in old.store) old.refs.items old.here.env

    abbrev r : Registers
    r = behind x old g m w run st

    abbrev v : World
    v = worked (looked_up r (value_of g.program env a) + looked_up r (value_of g.program env b)) (taken_in x old g m w run st)

    abbrev there : (u : World) → InWorld thrown_to.lasting g u → u.meters.heap ≡ v.meters.heap → There thrown_to (old.newest + 1) g u
    there u world reached = record {
      inside = record {
        program = st.at.inside.program;
        entries = st.at.inside.entries;
        lives = st.at.inside.lives;
        lives_are = st.at.inside.lives_are;
        saved = st.at.inside.saved;
        keeps = saved st.at.inside.saved st.at.inside.keeps;
        choices = st.at.inside.choices;
        world = world;
        peak = omega (arith, reached, written_peak x (a ∷ b ∷ c ∷ []) (random_held a b c) old store stack ready k saved (λ program e. (made program e).state) g m w run st);
      };
      ways = st.at.ways;
      ways_are = st.at.ways_are;
      registers = r;
      agrees = written_agrees x (a ∷ b ∷ c ∷ []) (random_held a b c) old store stack ready k saved (λ program e. (made program e).state) g m w run st;
      tag = st.at.tag;
      stop = st.at.stop;
    }

    comes : Went g st.at.inside.lives st.at.ways m (move_of (steps_of old) r (throws (meant g w.dice) (told s rc) r v)) run
    comes =
        let here = made g.program st.at.inside.program in
        let va = value_of g.program env a in
        let vb = value_of g.program env b in
        let vc = value_of g.program env c in
        let bound = (written_agrees x (a ∷ b ∷ c ∷ []) (random_held a b c) old store stack ready k saved (λ program e. (made program e).state) g m w run st).bound in
        let f = thrown (die g.dice w.dice) in
        let same : of_numbers f (walk r.bound va) (walk r.bound vb) ≡ meant g w.dice =
        ap (λ S. of_numbers f (walk S va) (walk S vb)) bound
        ∙ ap (λ y. of_numbers f (walk s.state.subst y) (walk s.state.subst vb)) (sym here.first_is)
        ∙ ap (λ y. of_numbers f (walk s.state.subst (told s ra)) (walk s.state.subst y)) (sym here.second_is) in
        subst (λ o. After g st.at.inside.lives st.at.ways m o run)
        (ap (λ y. outcome g y env old.here.tag (steps_of old) r (taken_in x old g m w run st)) (outs-Random a b c)
        ∙ ap (λ o. Moves (move_of (steps_of old) r (throws o vc r v))) same
        ∙ ap (λ y. Moves (move_of (steps_of old) r (throws (meant g w.dice) y r v))) (sym here.third_is)) (comes_of x old g m w run st)

    gives : (came o : Option ℕ) → Throws o g.dice w.dice came dice → Went g st.at.inside.lives st.at.ways m (move_of (steps_of old) r (throws o (told s rc) r v)) run → Then [] w (λ u. GivesAt came rc thrown_to g m u run)
    gives came None h went =
        let q = adds_taken r (writing (terms_held (out-Goal x))) w in
        let is = st.at.inside.world in
        record {
          world = v;
          adds = record { events_are = q.events_are; typed = refl };
          holds = record {
            at = there v (is.0, is.1, h.0, is.3) refl;
            went = subst (λ o. Went g st.at.inside.lives st.at.ways m (move_of (steps_of thrown_to) r (gives_number o (told s rc) r v)) run) (sym h.1)
                (subst (λ l. Went g st.at.inside.lives st.at.ways m (move_of l r (gives_number None (told s rc) r v)) run) (sym (steps_kept old store stack ready k saved)) went);
          };
        }
    gives came (Some n) h went =
        let q = adds_taken r (writing (terms_held (out-Goal x))) w in
        let is = st.at.inside.world in
        record {
          world = drew 1 v;
          adds = record { events_are = q.events_are; typed = refl };
          holds = record {
            at = there (drew 1 v) (is.0, is.1, h.0, is.3) refl;
            went = subst (λ o. Went g st.at.inside.lives st.at.ways m (move_of (steps_of thrown_to) r (gives_number o (told s rc) r (drew 1 v))) run) (sym h.1)
                (subst (λ l. Went g st.at.inside.lives st.at.ways m (move_of l r (gives_number (Some n) (told s rc) r (drew 1 v))) run) (sym (steps_kept old store stack ready k saved)) went);
          };
        }

  pub random_leads : (came : Option ℕ) → ((words : List ℕ) (drawn : ℕ) → HasDrawn old.lasting.dice words drawn → Throws (of_numbers (thrown (die words drawn)) (walk s.state.subst (told s ra)) (walk s.state.subst (told s rb))) words drawn came dice) → Leads (TakesAt x old) (GivesAt came rc thrown_to)
  random_leads came h g m w run st = gives g m w run st came (meant g w.dice) (h g.dice w.dice st.at.inside.world.2) (comes g m w run st)
