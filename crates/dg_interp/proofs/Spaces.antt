-- What a goal that prints spaces comes to.
use Rattle.std.proofs.Common.{◌≡◌, ℕ, suc, List, [], ◌∷◌, ◌++◌, Option, Some, None, refl, sym, ap, ◌∙◌, subst}
use Rattle.std.specs.declared.vec.Vec.{Vec}
use Rattle.std.specs.declared.alloc.Global.{Global}
use Rattle.dg_base.specs.declared.program.Goal.{Goal, out-Goal}
use Rattle.dg_base.specs.declared.program.Goal.TheVariants.{GapN, outs-GapN}
use Rattle.dg_base.specs.declared.program.Term.{Term}
use Rattle.dg_base.specs.declared.program.CoreProgram.{CoreProgram}
use Rattle.dg_base.specs.Goals.{terms_held}
use Rattle.dg_meaning.specs.Values.{Num, Value, Node, value_of}
use Rattle.dg_meaning.specs.Substitutions.{walk}
use Rattle.dg_meaning.specs.World.{Game, World, Print, Prints, SpacesOf, worked}
use Rattle.dg_meaning.specs.Cells.{cells}
use Rattle.dg_meaning.specs.Path.{Step, Act, Goes, Fails, Moves}
use Rattle.dg_meaning.specs.Moves.{looked_up, outcome, move_of, path_of, printed, spaces}
use Rattle.dg_meaning.specs.Transcript.{Run}
use Rattle.dg_meaning.specs.inside.Keeps.{Stands}
use Rattle.dg_unify.specs.Store.{Saved, Kept, Made, told, or_nil}
use Rattle.dg_unify.specs.declared.bindings.Ref.{Ref}
use Rattle.dg_unify.specs.declared.list.ListBindings.{ListBindings}
use Rattle.dg_interp.specs.declared.engine.Engine.{Engine}
use Rattle.dg_interp.specs.inside.Frames.{values_in}
use Rattle.dg_interp.specs.inside.Engine.{store_in, KeepsPlaces, steps_of, IsReady, TakesAt, StandsAt, Taken, Leads, Then, WentWrong}
use Rattle.dg_terms.specs.Throwing.{number_in}
use Rattle.dg_interp.specs.inside.Giving.{ActsAt, PrintsOne, TellsSpaces}
use Rattle.dg_interp.proofs.Takes.{store_sound, store_ready}
use Rattle.dg_interp.proofs.Places.{silent, inside_in}
use Rattle.dg_interp.proofs.Giving.{with_store, steps_kept, kept_limits, written_acts}

pub spaces_held : (term : Term) → terms_held (out-Goal (GapN term)) ≡ term ∷ []
spaces_held term = ap terms_held (outs-GapN term)

-- what is done where a number of spaces is told
abbrev act_for : Option ℕ → List Step → World → Act
act_for None steps w = Fails w
act_for (Some n) steps w = Goes steps (printed (SpacesOf n) w)

spaces_are : (v : Value) (steps : List Step) (w : World) → spaces v steps w ≡ act_for (number_in v) steps w
spaces_are (Node (Num n) vs) steps w = refl
spaces_are v steps w = refl

module _ (term : Term) (old : Engine) (store : ListBindings) (stack : Vec Ref Global) (value : Ref) (ready : IsReady old) (k : Kept (store_in old.store) (store_in store)) (saved : (ms : List Saved) → KeepsPlaces old.store ms → KeepsPlaces store ms)
    (written : (program : CoreProgram) → old.program.now ≡ program → Made (cells program (term ∷ [])) (store_in old.store) (store_in store) value (value_of program (values_in (store_in old.store) old.refs.items old.here.env) term)) where
  abbrev new : Engine
  new = with_store old store stack ready k saved

  acts : (count : Option ℕ) → count ≡ number_in (walk (store_in store).state.subst (told (store_in store) value)) → Leads (TakesAt (GapN term) old) (ActsAt (λ r w. act_for count (steps_of old) w) new)
  acts count is =
      let s = store_in store in
      let env = values_in (store_in old.store) old.refs.items old.here.env in
      let steps = steps_of old in
      written_acts (GapN term) (term ∷ []) (spaces_held term) old store stack ready k saved (λ program e. (written program e).charged.state)
      (λ r w. act_for count steps w) (λ g r. looked_up r (value_of g.program env term))
      (λ g r v there bound.
      let here = value_of g.program env term in
      let w = worked (looked_up r here) v in
      let same : number_in (walk r.bound here) ≡ count =
      ap (λ S. number_in (walk S here)) bound ∙ ap (λ o. number_in (walk s.state.subst (or_nil o))) (sym (written g.program there).value) ∙ sym is in
      ap (λ f. outcome g f env old.here.tag steps r v) (outs-GapN term)
      ∙ ap (λ a. Moves (move_of steps r a)) (spaces_are (walk r.bound here) steps w)
      ∙ ap (λ o. Moves (move_of steps r (act_for o steps w))) same)

  spaces_fail : None ≡ number_in (walk (store_in store).state.subst (told (store_in store) value)) → WentWrong (TakesAt (GapN term) old) old new
  spaces_fail is = record {
    sound = store_sound old store stack k saved ready.sound;
    left = refl;
    limits = silent (kept_limits old store stack ready k saved);
    leads = λ g n w run st.
        let t = acts None is g n w run st in
        record { world = t.world; adds = t.adds; holds = record { inside = t.holds.at.inside; failed = t.holds.went } };
  }

  spaces_print : (count : ℕ) → Some count ≡ number_in (walk (store_in store).state.subst (told (store_in store) value)) → PrintsOne (SpacesOf count) (GapN term) old new
  spaces_print count is = record {
    ready = store_ready old store stack k saved ready;
    left = refl;
    limits = kept_limits old store stack ready k saved;
    leads = λ g n w run st.
        let t = acts (Some count) is g n w run st in
        let at = t.holds.at in
        record {
          world = printed (SpacesOf count) t.world;
          adds = record {
            events_are = ap (λ l. l ++ Prints (SpacesOf count) ∷ []) t.adds.events_are;
            typed = t.adds.typed;
          };
          holds = record {
            at = record { inside = inside_in _ at.inside.world at.inside.peak at.inside; ways = at.ways; ways_are = at.ways_are; registers = at.registers; agrees = at.agrees; tag = at.tag; stop = at.stop };
            stands = subst (λ s. Stands g at.inside.lives at.ways (path_of s at.registers) n (printed (SpacesOf count) t.world) run) (sym (steps_kept old store stack ready k saved)) t.holds.went;
          };
        };
  }

  pub spaces_told : (count : Option ℕ) → count ≡ number_in (walk (store_in store).state.subst (told (store_in store) value)) → TellsSpaces term count old new
  spaces_told None is = spaces_fail is
  spaces_told (Some count) is = spaces_print count is

-- ## Printing them

pub spaces_then : (x : Goal) (e : Print) (old mid after : Engine) → Taken x old mid → PrintsOne e x mid after → (g : Game) (n : ℕ) (w : World) (run : Run) → StandsAt old g (suc n) w run → Then (Prints e ∷ []) w (λ u. StandsAt after g n u run)
spaces_then x e old mid after taken wrote g n w run st = wrote.leads g n w run (taken.takes g n w run st)
