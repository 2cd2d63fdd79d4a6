-- The newest choice is tried again.
use Rattle.std.proofs.Common.{◌≡◌, ℕ, ◌+◌, ◌<◌, ◌≤◌, List, [], ◌∷◌, ◌++◌, Bool, true, false, Some, None, refl, sym, ap, ◌∙◌, subst, arith, length, take, length-take}
use Rattle.std.specs.Prelude.{reverse, Result as Answer, Ok, Err, IfOk, IfErr, OnOk, MatchResult}
use Rattle.std.specs.List.{All}
use Rattle.std.specs.declared.vec.Vec.{Vec}
use Rattle.std.specs.declared.alloc.Global.{Global}
use Rattle.dg_base.specs.declared.program.Rule.{Rule}
use Rattle.dg_choices.specs.declared.frames.Query.{Query}
use Rattle.dg_meaning.specs.Values.{Value}
use Rattle.dg_meaning.specs.Moves.{rule_branches}
use Rattle.dg_meaning.specs.World.{Game, World}
use Rattle.dg_meaning.specs.Path.{Step, Result, Failing, Branch, ChoiceKind, Plain, Rules as RulesOf, Shield, Gathers}
use Rattle.dg_meaning.specs.Transcript.{Run}
use Rattle.dg_meaning.specs.inside.Context.{Live, Drops}
use Rattle.dg_meaning.specs.inside.Keeps.{Failed, Finished, FailsTo, GoesBack as ComesBack, Resumed, Tried, open_at, tried_in}
use Rattle.dg_meaning.proofs.Keeps.{failed, tries, takes_newest}
use Rattle.dg_unify.specs.Store.{Store, State, Saved, Holds, Back}
use Rattle.dg_unify.specs.inside.Engines.{Agrees}
use Rattle.dg_unify.specs.Laws.{saves_drops}
use Rattle.dg_unify.specs.Listed.{fields_of}
use Rattle.dg_unify.specs.declared.bindings.Ref.{Ref}
use Rattle.dg_unify.specs.declared.bindings.Full.{Full}
use Rattle.dg_unify.specs.declared.bindings.Full.TheVariants as full
use Rattle.dg_unify.specs.declared.bindings.Mark.{Mark as Place}
use Rattle.dg_unify.specs.declared.list.ListBindings.{ListBindings}
use Rattle.dg_choices.specs.declared.frames.Frame.{Frame}
use Rattle.dg_choices.specs.declared.frames.Choice.{Choice}
use Rattle.dg_interp.specs.declared.engine.Engine.{Engine}
use Rattle.dg_watch.specs.declared.watch.CallEvent.{CallEvent}
use Rattle.dg_interp.specs.inside.Frames.{values_in, steps_behind, kind_of, branches_of, cut_if, lives_of, ways_of, IsChoice, AreChoices, AreFrames, IsLeft, IsNoted, StandOn, GoBackTo, TakesNewest, left_in, stays_with, all_left}
use Rattle.dg_choices.specs.inside.Cutting.{cut_of, Cuts}
use Rattle.dg_choices.specs.declared.frames.Left.{Left}
use Rattle.dg_choices.specs.declared.frames.Left.TheVariants.{Rules, Lists, Ways, Way as OneWay, Behind, TakeOut, Things}
use Rattle.dg_lasting.specs.declared.lasting.Lasting.{Lasting}
use Rattle.dg_lasting.specs.Lasting.{InWorld, MayPick, Closes, picks_in}
use Rattle.dg_interp.specs.inside.Engine.{store_in, KeepsPlaces, open_in, HasPlaces, Sound, Within, HasPlace, IsPlace, Retries, Point, IsSound, StandsAt, FailsAt, BeginsAt, events_of, again_rules, again, Adds, Then, LeadsBy, Leads, FullAt, SameLimits, Silent, Tells, WentOn, WentWrong, EndsAt, HasEndedSo, AtGoal, Branches, GoesBack, Tries, branches_left}
use Rattle.dg_interp.proofs.Links.{SameBy, same_take, branches_same, frames_take, stand_raise, stand_same, choices_same, back_same, cut_gone, cut_fewer}
use Rattle.dg_unify.proofs.StoreLemmas.{all_hold}
use Rattle.dg_interp.proofs.Stores.{values_kept, take_all}
use Rattle.dg_interp.proofs.Kept.{back_limits, tried_inside}
use Rattle.dg_interp.proofs.Places.{peak_drops, peak_tried, went_further, went_wrong, cut_base, cut_inside, adds_nothing, open_still, world_tried, adds_on, adds_drops, tried_events, adds_tried, leads_by, leads_then, silent_on, tells_on}
use Rattle.dg_interp.proofs.Turns.{reverse_pop}

-- ## What a choice takes out

-- it is the same where the choice is tried
takes_it : (left : Left) (t : ℕ) (k : ChoiceKind) (bs : List Branch) (v : World) → TakesNewest left t v → TakesNewest left t (tried_in k bs v)
takes_it (TakeOut whole into frame) t k [] v h = h
takes_it (TakeOut whole into frame) t (RulesOf q) (b ∷ bs) v h = h
takes_it (TakeOut whole into frame) t Plain (b ∷ bs) v h = h
takes_it (TakeOut whole into frame) t Shield (b ∷ bs) v h = h
takes_it (TakeOut whole into frame) t Gathers (b ∷ bs) v h = h
takes_it (Rules query args rules) t k bs v h = tt
takes_it (Lists env tag lists) t k bs v h = tt
takes_it (Ways first other) t k bs v h = tt
takes_it (OneWay frame) t k bs v h = tt
takes_it (Behind frame cut) t k bs v h = tt
takes_it (Things trial args) t k bs v h = tt

-- ## The store to which a choice goes back

-- a store that was kept at a place
abbrev pub KeptAt : ListBindings → Place → Type 0
KeptAt store place = (s : Store) × (ms : List Saved) × KeepsPlaces store (record { mark = place; store = s } ∷ ms)

same_saved : (store : ListBindings) (place : Place) (m : Saved) (ms : List Saved) → m.mark ≡ place → KeepsPlaces store (m ∷ ms) → KeepsPlaces store (record { mark = place; store = m.store } ∷ ms)
same_saved store place m ms e h = subst (λ p. KeepsPlaces store (record { mark = p; store = m.store } ∷ ms)) e h

kept_at : (store : ListBindings) (xs : List Ref) (heap trail : ℕ) (o : Choice) (os : List Choice) (ms : List Saved) → GoBackTo xs heap trail (o ∷ os) ms → KeepsPlaces store ms → KeptAt store o.place
kept_at store xs heap trail o os [] b h = absurd b
kept_at store xs heap trail o os (m ∷ ms) b h = (m.store, ms, same_saved store o.place m ms b.0 h)

module _ (old : Engine) (o : Choice) (choices : Vec Choice Global) (sound : IsSound old) (popped : old.choices.items ≡ choices.items ++ o ∷ []) where
  abbrev fs : List Frame
  fs = old.frames.items

  abbrev xs : List Ref
  xs = old.refs.items

  abbrev os : List Choice
  os = reverse choices.items

  was : reverse old.choices.items ≡ o ∷ os
  was = reverse_pop old.choices.items choices.items o popped

  pub back_to : GoBackTo xs (store_in old.store).heap_limit (store_in old.store).trail_limit (o ∷ os) sound.base.places.saved
  back_to = subst (λ l. GoBackTo xs (store_in old.store).heap_limit (store_in old.store).trail_limit l sound.base.places.saved) was sound.base.places.back_to

  pub may_undo : KeptAt old.store o.place
  may_undo = kept_at old.store xs _ _ o os sound.base.places.saved back_to sound.base.places.keeps

  pub stand : StandOn fs (length fs) (length xs) old.newest (o ∷ os)
  stand = subst (StandOn fs (length fs) (length xs) old.newest) was sound.base.choices

  pub fewer_left : all_left (reverse old.choices.items) ≡ 1 + left_in o.left + all_left os
  fewer_left = ap all_left was

  -- ## A stoppable part in which a cut waits

  popped_of : (ms : List Saved) → GoBackTo xs (store_in old.store).heap_limit (store_in old.store).trail_limit (o ∷ os) ms → KeepsPlaces old.store ms → HasPlaces old.store xs os
  popped_of [] b h = absurd b
  popped_of (m ∷ ms) b h = record { saved = ms; keeps = saves_drops true (fields_of old.store) m ms h; back_to = b.4 }

  pub popped_base : Sound old.program.now old.store xs fs os old.newest
  popped_base = record {
    program = sound.base.program;
    sound = sound.base.sound;
    hold = sound.base.hold;
    frames = sound.base.frames;
    choices = stand_raise fs o.height (length fs) o.refs (length xs) o.tag old.newest os stand.0 stand.1 stand.2 stand.5;
    places = popped_of sound.base.places.saved back_to sound.base.places.keeps;
  }

  module _ (t : ℕ) (rest : Vec Choice Global) (waits : Some t ≡ cut_of o.left) (cuts : Cuts t choices.items rest.items) where
    abbrev dropped : Engine
    dropped = record old { choices = rest }

    from_part : (g : Game) (n : ℕ) (w : World) (run : Run) (program : old.program.now ≡ g.program) (world : InWorld old.lasting g w) (peak : w.meters.heap ≤ (store_in old.store).heap_limit) (ms : List Saved) (es : List Live) (ls : List Live) → KeepsPlaces old.store ms → AreChoices g xs fs (o ∷ os) ms es → ls ≡ lives_of (o ∷ os) es → Failed g ls n w run → FailsAt dropped g n w run
    from_part g n w run program world peak ms [] ls k h e f = absurd (no_lives g ms h) where
      no_lives : (g : Game) (ms : List Saved) → AreChoices g xs fs (o ∷ os) ms [] → ⊥
      no_lives g [] h = h
      no_lives g (m ∷ ms) h = h
    from_part g n w run program world peak [] (c ∷ cs) ls k h e f = absurd h
    from_part g n w run program world peak (m ∷ ms) (c ∷ cs) ls k h e f =
        let before : Within old.program.now old.lasting old.store xs fs os g w = record {
          program = program;
          entries = cs;
          lives = lives_of os cs;
          lives_are = refl;
          saved = ms;
          keeps = saves_drops true (fields_of old.store) m ms k;
          choices = h.1;
          world = world;
          peak = peak;
        } in
        let noted = subst (IsNoted o.tag) (sym waits) stand.3.2 in
        record {
          inside = cut_inside t old.program.now old.lasting old.store xs fs os (reverse rest.items) cuts g w w world peak before;
          failed = subst (λ l. Failed g l n w run) (e ∙ ap (λ q. cut_if q (c ∷ lives_of os cs)) (sym waits) ∙ cut_gone t c (lives_of os cs) (omega (arith, noted, h.0.tag))) f;
        }

    pub part_dropped : WentWrong (FailsAt old) old dropped
    part_dropped = record {
      sound = record { base = cut_base t old.program.now old.lasting old.store xs fs os (reverse rest.items) cuts old.newest popped_base; room = sound.room; picks = sound.picks };
      left = refl;
      limits = record { heap = refl; trail = refl; aux = refl; keep = refl; calls = []; told = refl };
      leads = λ g n w run st. record {
        world = w;
        adds = adds_nothing w;
        holds = from_part g n w run st.inside.program st.inside.world st.inside.peak st.inside.saved st.inside.entries st.inside.lives st.inside.keeps (subst (λ l. AreChoices g xs fs l st.inside.saved st.inside.entries) was st.inside.choices) (st.inside.lives_are ∙ ap (λ l. lives_of l st.inside.entries) was) st.failed;
      };
    }

    part_fewer : branches_left dropped < branches_left old
    part_fewer = let less = cut_fewer t os in omega (arith, ap all_left cuts, less, fewer_left)

    pub part_retried : Retries (FailsAt old) (Some false) old dropped
    part_retried = (part_dropped, part_fewer)

  -- ## A choice that was not cut

  module _ (frames : Vec Frame Global) (refs : Vec Ref Global) (out : Lasting) (store : ListBindings) (told : Vec CallEvent Global) (cut : frames.items ≡ take o.height fs) (cut_refs : refs.items ≡ take o.refs xs) (closed : Closes o.gathered old.lasting out)
      (back : (s : Store) (ms : List Saved) → KeepsPlaces old.store (record { mark = o.place; store = s } ∷ ms) → Back s (store_in store))
      (keeps : (s : Store) (ms : List Saved) → KeepsPlaces old.store (record { mark = o.place; store = s } ∷ ms) → KeepsPlaces store (record { mark = o.place; store = s } ∷ ms)) where
    abbrev mid : Engine
    mid = record old { frames = frames; refs = refs; lasting = out; store = store; choices = choices; newest = o.tag; stoppable = o.stoppable; told = told }

    count : length frames.items ≡ o.height
    count = ap length cut ∙ length-take o.height fs ∙ omega (arith, stand.0)

    count_refs : length refs.items ≡ o.refs
    count_refs = ap length cut_refs ∙ length-take o.refs xs ∙ omega (arith, stand.1)

    pub front : take o.refs refs.items ≡ take o.refs xs
    front = ap (λ n. take n refs.items) (sym count_refs) ∙ take_all refs.items ∙ cut_refs

    -- what is known of a store that was kept
    pub is_place : (m : Saved) (ms : List Saved) → m.mark ≡ o.place → All (Holds m.store) (take o.refs xs) → KeepsPlaces old.store (m ∷ ms) → IsPlace mid o.place m ms
    is_place m ms e hold h =
        let h' = same_saved old.store o.place m ms e h in
        record {
          keeps = subst (λ p. KeepsPlaces store (record { mark = p; store = m.store } ∷ ms)) (sym e) (keeps m.store ms h');
          place_is = e;
          hold = subst (All (Holds m.store)) (sym cut_refs) hold;
          kept = (back m.store ms h').kept;
        }

    place_of : (ms : List Saved) → GoBackTo xs (store_in old.store).heap_limit (store_in old.store).trail_limit (o ∷ os) ms → KeepsPlaces old.store ms → HasPlace mid o.place
    place_of [] b h = absurd b
    place_of (m ∷ ms) b h =
        let is = is_place m ms b.0 b.1 h in
        record {
          back = m;
          saved = ms;
          is = is;
          back_to = back_limits refs.items (store_in old.store).heap_limit (store_in old.store).trail_limit (store_in store).heap_limit (store_in store).trail_limit os ms (sym (is.kept.heap_limit ∙ b.2)) (sym (is.kept.trail_limit ∙ b.3))
              (back_same xs refs.items fs o.height o.refs o.tag _ _ os ms front stand.5 b.4);
        }

    pub popped_place : HasPlace mid o.place
    popped_place = place_of sound.base.places.saved back_to sound.base.places.keeps

    limits_of : (ms : List Saved) → GoBackTo xs (store_in old.store).heap_limit (store_in old.store).trail_limit (o ∷ os) ms → KeepsPlaces old.store ms → SameLimits old mid
    limits_of [] b h = absurd b
    limits_of (m ∷ ms) b h = let is = is_place m ms b.0 b.1 h in record { heap = is.kept.heap_limit ∙ b.2; trail = is.kept.trail_limit ∙ b.3; aux = ap (λ (x : Lasting). x.gathered.aux) closed.is; keep = ap (λ (x : Lasting). x.world.area.keep) closed.is }

    pub popped_limits : SameLimits old mid
    popped_limits = limits_of sound.base.places.saved back_to sound.base.places.keeps

    pub popped_sound : IsSound mid
    popped_sound = record {
      base = record {
        program = sound.base.program;
        sound = sound.base.sound;
        hold = all_hold popped_place.back.store (store_in store) refs.items popped_place.is.kept popped_place.is.hold;
        frames = subst (λ n. AreFrames (length frames.items) n frames.items) (sym count_refs) (subst (λ (l : List Frame). AreFrames (length l) o.refs l) (sym cut) (frames_take o.refs o.height fs stand.0 stand.4));
        choices = subst (λ n. StandOn frames.items n (length refs.items) o.tag os) (sym count)
            (subst (λ n. StandOn frames.items o.height n o.tag os) (sym count_refs) (subst (λ l. StandOn l o.height o.refs o.tag os) (sym cut) (stand_same fs (take o.height fs) o.height o.refs o.tag os (same_take fs o.height) stand.5)));
        places = record { saved = popped_place.saved; keeps = saves_drops true (fields_of store) popped_place.back popped_place.saved popped_place.is.keeps; back_to = popped_place.back_to };
      };
      room = omega (arith, sound.room, stand.2);
      picks = subst (λ (x : Lasting). MayPick old.left (picks_in x)) (sym closed.is) sound.picks;
    }

    pub popped_left : IsLeft (length frames.items) (length refs.items) o.left
    popped_left = subst (λ n. IsLeft n (length refs.items) o.left) (sym count) (subst (λ n. IsLeft o.height n o.left) (sym count_refs) stand.3.0)

    pub popped_stays : stays_with o.left ≡ true
    popped_stays = stand.3.1

    module _ (g : Game) (m : Saved) (ms : List Saved) (c : Live) (cs : List Live) (program : old.program.now ≡ g.program) (kept : KeepsPlaces old.store (m ∷ ms)) (is : IsChoice g xs fs o m (ways_of os cs) c) (others : AreChoices g xs fs os ms cs) where
      abbrev pub popped_at : IsPlace mid o.place m ms
      popped_at = is_place m ms is.place is.hold kept

      abbrev pub popped_within : (v : World) → InWorld out g v → v.meters.heap ≤ (store_in store).heap_limit → Within old.program.now out store refs.items frames.items os g v
      popped_within v world peak = record {
        program = program;
        entries = cs;
        lives = lives_of os cs;
        lives_are = refl;
        saved = ms;
        keeps = saves_drops true (fields_of store) m ms popped_at.keeps;
        choices = subst (λ l. AreChoices g refs.items l os ms cs) (sym cut) (choices_same g xs refs.items fs (take o.height fs) o.height o.refs o.tag os ms cs front (same_take fs o.height) stand.5 others);
        world = world;
        peak = peak;
      }

      pub popped_agrees : Agrees (store_in store) is.registers
      popped_agrees =
          let here = (back m.store ms (same_saved old.store o.place m ms is.place kept)).state in
          record {
            bound = is.agrees.bound ∙ ap (λ (t : State). t.subst) (sym here);
            vars = is.agrees.vars ∙ ap (λ (t : State). t.vars) (sym here);
            heap = is.agrees.heap ∙ ap (λ (t : State). t.heap) (sym here);
            trail = omega (arith, is.agrees.trail, ap (λ (t : State). t.trail) here);
            since = omega (arith, is.agrees.since, ap (λ (t : State). t.since) here, ap (λ (t : State). t.vars) here);
          }

      pub popped_values : SameBy o.refs (values_in m.store xs) (values_in (store_in store) refs.items)
      popped_values = values_kept o.refs m.store (store_in store) xs refs.items popped_at.kept is.hold front

      -- the branches that are left are those that the meaning has
      pub popped_branches : c.others ≡ branches_of g (values_in (store_in store) refs.items) frames.items (length frames.items) o.left is.registers
      popped_branches =
          is.others
          ∙ sym (ap (λ h. branches_of g (values_in (store_in store) refs.items) frames.items h o.left is.registers) count
          ∙ ap (λ l. branches_of g (values_in (store_in store) refs.items) l o.height o.left is.registers) cut
          ∙ branches_same g o.height o.refs (values_in m.store xs) (values_in (store_in store) refs.items) fs (take o.height fs) o.left is.registers stand.3.0 stand.4 popped_values (same_take fs o.height))

      -- gatherings that were opened since are dropped
      pub popped_world : (w v : World) → InWorld old.lasting g w → Drops w v → length v.gathered ≡ open_at c.others c.height → InWorld out g v
      popped_world w v world drops count = closed.stands g w v world drops (count ∙ is.height)

      -- a gathering that is taken out is the newest
      popped_takes : (n : ℕ) (v : World) (run : Run) → Resumed g c (lives_of os cs) n v run → (left : Left) (t : ℕ) → c.others ≡ branches_of g (values_in (store_in store) refs.items) frames.items (length frames.items) left is.registers → TakesNewest left is.registers.next_tag v
      popped_takes n v run resumed (Rules query args rules) t e = tt
      popped_takes n v run resumed (Lists env tag lists) t e = tt
      popped_takes n v run resumed (Ways first other) t e = tt
      popped_takes n v run resumed (OneWay frame) t e = tt
      popped_takes n v run resumed (Behind frame waits) t e = tt
      popped_takes n v run resumed (Things trial args) t e = tt
      popped_takes n v run resumed (TakeOut whole into frame) t e = takes_newest g c (lives_of os cs) is.registers.next_tag _ _ _ [] n v run resumed e

      -- a query goes on to its next rule
      tried_so : (k : ChoiceKind) (left : Left) (fs' : List Frame) → k ≡ kind_of left → c.others ≡ branches_of g (values_in (store_in store) refs.items) fs' (length fs') left is.registers → tried_events k c.others ≡ events_of (again left)
      tried_so k left fs' e b = ap (λ x. tried_events x c.others) e ∙ ap (tried_events (kind_of left)) b ∙ by left where
        plain : (bs : List Branch) → tried_events Plain bs ≡ []
        plain [] = refl
        plain (b ∷ bs) = refl

        of_rules : (q : Query) (vs : List Value) (steps : List Step) (rules : List Rule) → tried_events (RulesOf q.pred) (rule_branches g q.pred vs q.many steps is.registers rules) ≡ events_of (again_rules q.pred rules)
        of_rules q vs steps [] = refl
        of_rules q vs steps (rule ∷ rules) = refl

        by : (left : Left) → tried_events (kind_of left) (branches_of g (values_in (store_in store) refs.items) fs' (length fs') left is.registers) ≡ events_of (again left)
        by (Rules query args rules) = of_rules query (values_in (store_in store) refs.items args) (steps_behind (values_in (store_in store) refs.items) fs' (length fs')) rules.now
        by (Lists env tag lists) = plain (branches_of g (values_in (store_in store) refs.items) fs' (length fs') (Lists env tag lists) is.registers)
        by (Ways first other) = refl
        by (OneWay frame) = refl
        by (Behind frame waits) = refl
        by (TakeOut whole into frame) = refl
        by (Things trial args) = plain (branches_of g (values_in (store_in store) refs.items) fs' (length fs') (Things trial args) is.registers)

      begins : (n : ℕ) (w v : World) (run : Run) → InWorld out g v → v.meters.heap ≤ (store_in store).heap_limit → length v.gathered ≡ open_at c.others c.height → Adds [] w v → Resumed g c (lives_of os cs) n v run → Then (events_of (again o.left)) w (λ u. BeginsAt o.left o.place mid g n u run)
      begins n w v run still peak count adds resumed =
          let r = is.registers in
          let u = tried_in c.kind c.others v in
          record {
            world = u;
            adds = subst (λ es. Adds es w u) (tried_so c.kind o.left frames.items is.kind popped_branches) (adds_on w v u [] (tried_events c.kind c.others) adds (adds_tried c.kind c.others v));
            holds = record {
              at = record {
                inside = popped_within u (world_tried out g c.kind c.others v still) (peak_tried (store_in store).heap_limit c.kind c.others v peak);
                ways = c.ways_on;
                ways_are = is.ways_on;
                registers = r;
                agrees = popped_agrees;
                tag = is.tag_at;
                stop = is.stop;
              };
              back = m;
              is = popped_at;
              back_agrees = is.agrees;
              newest = takes_it o.left r.next_tag c.kind c.others v (popped_takes n v run resumed o.left r.next_tag popped_branches);
              tried =
                  tried_inside g (values_in (store_in store) refs.items) frames.items (length frames.items) o.left r r.next_tag c.height (open_in mid) c.ways_on (lives_of os cs) n u run
                  (ap (λ bs. open_at bs c.height) (sym popped_branches) ∙ sym count ∙ sym (open_still out g v still))
                  (subst (λ l. Tried g (kind_of o.left) r.next_tag c.height c.ways_on (lives_of os cs) l n u run) popped_branches
                  (subst (λ k. Tried g k r.next_tag c.height c.ways_on (lives_of os cs) c.others n u run) is.kind
                  (subst (λ t. Tried g c.kind t c.height c.ways_on (lives_of os cs) c.others n u run) (is.tag ∙ sym is.tag_at) (tries g c (lives_of os cs) n v run resumed))));
            };
          }

    pub begins_popped : None ≡ cut_of o.left → LeadsBy (again o.left) (FailsAt old) (BeginsAt o.left o.place mid)
    begins_popped none g n w run st = from st.inside.saved st.inside.entries st.inside.lives st.inside.keeps (subst (λ l. AreChoices g xs fs l st.inside.saved st.inside.entries) was st.inside.choices) (st.inside.lives_are ∙ ap (λ l. lives_of l st.inside.entries) was) (failed g st.inside.lives n w run st.failed) where
      from : (ms : List Saved) (es ls : List Live) → KeepsPlaces old.store ms → AreChoices g xs fs (o ∷ os) ms es → ls ≡ lives_of (o ∷ os) es → FailsTo g n w run ls → Then (events_of (again o.left)) w (λ u. BeginsAt o.left o.place mid g n u run)
      from [] es ls k h e f = absurd h
      from (m ∷ ms) [] ls k h e f = absurd h
      from (m ∷ ms) (c ∷ cs) ls k h e f =
          let came : ComesBack g c (lives_of os cs) n w run = subst (λ l. FailsTo g n w run l) (e ∙ ap (λ q. cut_if q (c ∷ lives_of os cs)) (sym none)) f in
          let count = came.gatherings in
          let still = popped_world g m ms c cs st.inside.program k h.0 h.1 w came.world st.inside.world came.drops count in
          let peak = peak_drops (store_in old.store).heap_limit w came.world came.drops st.inside.peak in
          begins g m ms c cs st.inside.program k h.0 h.1 n w came.world run still (omega (arith, peak, popped_limits.heap)) count (adds_drops w came.world came.drops) came.resumed

-- ## No choice is left

pub no_choice : (os : List Choice) → length os ≡ 0 → reverse os ≡ []
no_choice [] e = refl
no_choice (o ∷ os) e = absurd (omega arith)

module _ (old : Engine) (choices : Vec Choice Global) (empty : length old.choices.items ≡ 0) where
  none : reverse old.choices.items ≡ []
  none = no_choice old.choices.items empty

  pub none_popped : HasEndedSo (FailsAt old) Failing old (record old { choices = choices })
  none_popped = record {
    left = refl;
    limits = record { heap = refl; trail = refl; aux = refl; keep = refl; calls = []; told = refl };
    ends = λ g n w run st. record {
      world = w;
      adds = adds_nothing w;
      holds = record {
        finished = from g n w run st.inside.saved st.inside.entries (subst (λ l. AreChoices g old.refs.items old.frames.items l st.inside.saved st.inside.entries) none st.inside.choices) (subst (λ l. FailsTo g n w run l) (st.inside.lives_are ∙ ap (λ l. lives_of l st.inside.entries) none) (failed g st.inside.lives n w run st.failed));
        world = st.inside.world;
        peak = st.inside.peak;
      };
    };
  } where
    from : (g : Game) (n : ℕ) (w : World) (run : Run) → (ms : List Saved) (cs : List Live) → AreChoices g old.refs.items old.frames.items [] ms cs → FailsTo g n w run (lives_of [] cs) → Finished n w Failing run
    from g n w run [] [] h f = f
    from g n w run [] (c ∷ cs) h f = absurd h
    from g n w run (m ∷ ms) cs h f = absurd h

-- ## One after another

pub full_by : (cs : List CallEvent) (A B : Point) (s t : Store) (e : Full) → t.heap_limit ≡ s.heap_limit → t.trail_limit ≡ s.trail_limit → LeadsBy cs A B → FullAt B t e → FullAt A s e
full_by cs A B s t full.Heap same same' h f = λ g n w run a. let x = h g n w run a in let y = f g n x.world run x.holds in omega (arith, y, same)
full_by cs A B s t full.Trail same same' h f = λ g n w run a. let x = h g n w run a in let y = f g n x.world run x.holds in omega (arith, y, same')
full_by cs A B s t full.OutOfMemory same same' h f = tt

pub full_from : (A B : Point) (s t : Store) (e : Full) → t.heap_limit ≡ s.heap_limit → t.trail_limit ≡ s.trail_limit → Leads A B → FullAt B t e → FullAt A s e
full_from A B s t e same same' h f = full_by [] A B s t e same same' h f

pub went_on_from : (A B : Point) (old mid new : Engine) → mid.left ≡ old.left → Silent old mid → Leads A B → WentOn B mid new → WentOn A old new
went_on_from A B old mid new left limits h k = record { ready = k.ready; left = k.left ∙ left; limits = silent_on old mid new limits k.limits; leads = leads_then k.limits.calls A B (StandsAt new) h k.leads }

pub went_wrong_from : (A B : Point) (old mid new : Engine) → mid.left ≡ old.left → Silent old mid → Leads A B → WentWrong B mid new → WentWrong A old new
went_wrong_from A B old mid new left limits h k = record { sound = k.sound; left = k.left ∙ left; limits = silent_on old mid new limits k.limits; leads = leads_then k.limits.calls A B (FailsAt new) h k.leads }

pub ended_from : (A B : Point) (result : Result) (old mid new : Engine) → mid.left ≡ old.left → Silent old mid → Leads A B → HasEndedSo B result mid new → HasEndedSo A result old new
ended_from A B result old between new left limits h k =
    record { left = k.left ∙ left; limits = silent_on old between new limits k.limits; ends = leads_then k.limits.calls A B (EndsAt result new) h k.ends }

pub tried_from : (A B : Point) (old mid new : Engine) → mid.left ≡ old.left → Silent old mid → Leads A B → (begun : Bool) → Tries B begun mid new → Tries A begun old new
tried_from A B old mid new left limits h true k = went_on_from A B old mid new left limits h k
tried_from A B old mid new left limits h false k = went_wrong_from A B old mid new left limits h k

-- ## Behind calls

pub went_on_by : (A B : Point) (old mid new : Engine) → mid.left ≡ old.left → (tells : Tells old mid) → LeadsBy tells.calls A B → WentOn B mid new → WentOn A old new
went_on_by A B old between new left tells h k =
    record { ready = k.ready; left = k.left ∙ left; limits = tells_on old between new tells k.limits; leads = leads_by tells.calls k.limits.calls A B (StandsAt new) h k.leads }

pub went_wrong_by : (A B : Point) (old mid new : Engine) → mid.left ≡ old.left → (tells : Tells old mid) → LeadsBy tells.calls A B → WentWrong B mid new → WentWrong A old new
went_wrong_by A B old between new left tells h k =
    record { sound = k.sound; left = k.left ∙ left; limits = tells_on old between new tells k.limits; leads = leads_by tells.calls k.limits.calls A B (FailsAt new) h k.leads }

pub ended_by : (A B : Point) (result : Result) (old mid new : Engine) → mid.left ≡ old.left → (tells : Tells old mid) → LeadsBy tells.calls A B → HasEndedSo B result mid new → HasEndedSo A result old new
ended_by A B result old between new left tells h k =
    record { left = k.left ∙ left; limits = tells_on old between new tells k.limits; ends = leads_by tells.calls k.limits.calls A B (EndsAt result new) h k.ends }

pub tried_by : (A B : Point) (old mid new : Engine) → mid.left ≡ old.left → (tells : Tells old mid) → LeadsBy tells.calls A B → (begun : Bool) → Tries B begun mid new → Tries A begun old new
tried_by A B old between new left tells h true k = went_on_by A B old between new left tells h k
tried_by A B old between new left tells h false k = went_wrong_by A B old between new left tells h k

pub retried_from : (A B : Point) (old mid new : Engine) (extra : ℕ) → mid.left ≡ old.left → (tells : Tells old mid) → LeadsBy tells.calls A B → branches_left old ≡ 1 + extra + branches_left mid → (begun : Bool) → Tries B begun mid new → branches_left new ≤ branches_left mid + extra → Tries A begun old new × (branches_left new < branches_left old)
retried_from A B old mid new extra left tells h count begun k less = (tried_by A B old mid new left tells h begun k, omega (arith, count, less))

pub at_goal_from : (A : Point) (old mid new : Engine) → WentOn A old mid → AtGoal (StandsAt mid) mid new → AtGoal A old new
at_goal_from A old between new h k = record { went_on = went_further A old between new h k.went_on; goal = k.goal }

-- what is negated was answered, and a branch has begun behind that
pub refused_on : (A : Point) (old mid wrong new : Engine) → WentOn A old mid → WentWrong (StandsAt mid) mid wrong → WentOn (FailsAt wrong) wrong new → WentOn A old new
refused_on A old between wrong new h j k =
    let w = went_wrong A old between wrong h j in
    went_on_by A (FailsAt wrong) old wrong new w.left w.limits w.leads k

-- another branch has begun behind a failure, or the run has failed
pub goes_back_from : (A B : Point) (old mid new : Engine) → mid.left ≡ old.left → Silent old mid → Leads A B → (found : Bool) → GoesBack B found mid new → Branches A found old new
goes_back_from A B old between new left limits h true k = went_on_from A B old between new left limits h k.0
goes_back_from A B old between new left limits h false k = ended_from A B Failing old between new left limits h k

-- ## What a call answers

pub on_ok : {T E : Type 0} {P Q : Type 0} (r : Answer T E) → (P → Q) → OnOk r P → OnOk r Q
on_ok (Ok x) f h = f h
on_ok (Err e) f h = tt

pub on_err : {T E : Type 0} {P Q : E → Type 0} (r : Answer T E) → ((e : E) → P e → Q e) → IfErr r P → IfErr r Q
on_err (Ok x) f h = tt
on_err (Err e) f h = f e h

pub match_ok : {A T E : Type 0} {S : A → Type 0} {Q : T → Type 0} (P : A → T → Type 0) (N : A → E → Type 0) (r : Answer T E) → ((x : T) → ((a : A) → S a → P a x) → Q x) → ((a : A) → S a → MatchResult r (P a) (N a)) → IfOk r Q
match_ok P N (Ok x) f h = f x h
match_ok P N (Err e) f h = tt

pub match_err : {A T E : Type 0} {S : A → Type 0} {Q : E → Type 0} (P : A → T → Type 0) (N : A → E → Type 0) (r : Answer T E) → ((e : E) → ((a : A) → S a → N a e) → Q e) → ((a : A) → S a → MatchResult r (P a) (N a)) → IfErr r Q
match_err P N (Ok x) f h = tt
match_err P N (Err e) f h = f e h

pub full_made : (A B : Point) (s t : Store) (r : Answer Bool Full) → t.heap_limit ≡ s.heap_limit → t.trail_limit ≡ s.trail_limit → Leads A B → IfErr r (λ e. FullAt B t e) → IfErr r (λ e. FullAt A s e)
full_made A B s t (Ok found) same same' h f = tt
full_made A B s t (Err e) same same' h f = full_from A B s t e same same' h f

pub back_made : (A B : Point) (old mid new : Engine) → mid.left ≡ old.left → Silent old mid → Leads A B → (r : Answer Bool Full) → IfOk r (λ found. GoesBack B found mid new) → IfOk r (λ found. Branches A found old new)
back_made A B old between new left limits h (Ok found) k = goes_back_from A B old between new left limits h found k
back_made A B old between new left limits h (Err e) k = tt

pub full_made_by : (cs : List CallEvent) (A B : Point) (s t : Store) (r : Answer Bool Full) → t.heap_limit ≡ s.heap_limit → t.trail_limit ≡ s.trail_limit → LeadsBy cs A B → IfErr r (λ e. FullAt B t e) → IfErr r (λ e. FullAt A s e)
full_made_by cs A B s t (Ok found) same same' h f = tt
full_made_by cs A B s t (Err e) same same' h f = full_by cs A B s t e same same' h f

pub back_by : (A B : Point) (old mid new : Engine) → mid.left ≡ old.left → (tells : Tells old mid) → LeadsBy tells.calls A B → (r : Answer Bool Full) → IfOk r (λ found. GoesBack B found mid new) → IfOk r (λ found. Branches A found old new)
back_by A B old between new left tells h (Ok true) k = went_on_by A B old between new left tells h k.0
back_by A B old between new left tells h (Ok false) k = ended_by A B Failing old between new left tells h k
back_by A B old between new left tells h (Err e) k = tt

pub tries_by : (A B : Point) (old mid new : Engine) → mid.left ≡ old.left → (tells : Tells old mid) → LeadsBy tells.calls A B → (r : Answer Bool Full) → IfOk r (λ begun. Tries B begun mid new) → IfOk r (λ begun. Tries A begun old new)
tries_by A B old between new left tells h (Ok begun) k = tried_by A B old between new left tells h begun k
tries_by A B old between new left tells h (Err e) k = tt

pub tries_made : (A B : Point) (old mid new : Engine) → mid.left ≡ old.left → Silent old mid → Leads A B → (r : Answer Bool Full) → IfOk r (λ begun. Tries B begun mid new) → IfOk r (λ begun. Tries A begun old new)
tries_made A B old between new left limits h (Ok begun) k = tried_from A B old between new left limits h begun k
tries_made A B old between new left limits h (Err e) k = tt

pub fewer_made : (old new : Engine) (m n : ℕ) → m ≤ n → (r : Answer Bool Full) → OnOk r (branches_left new ≤ branches_left old + m) → OnOk r (branches_left new ≤ branches_left old + n)
fewer_made old new m n le (Ok begun) h = omega (arith, h, le)
fewer_made old new m n le (Err e) h = tt
