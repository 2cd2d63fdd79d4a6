-- Where a stop leads.
use Rattle.std.proofs.Common.{◌≡◌, ℕ, ◌+◌, ◌<◌, ◌≤◌, List, [], ◌∷◌, ◌++◌, Bool, true, false, Option, Some, None, refl, sym, ap, ◌∙◌, subst, arith, length, take, length-append}
use Rattle.std.specs.Prelude.{eqb, reverse}
use Rattle.std.proofs.lemmas.Bool.{cond_both, cond-true, eqb-true, eq-eqb}
use Rattle.std.specs.declared.vec.Vec.{Vec}
use Rattle.std.specs.declared.alloc.Global.{Global}
use Rattle.dg_base.specs.declared.run.Ending.TheVariants.{Stopped}
use Rattle.dg_base.specs.declared.program.Goal.TheVariants.{Stop, outs-Stop}
use Rattle.dg_meaning.specs.World.{Game, World}
use Rattle.dg_meaning.specs.Path.{End, Moves}
use Rattle.dg_meaning.specs.Moves.{begun, inside, enter, path_of, outcome, stop}
use Rattle.dg_meaning.specs.Transcript.{Run}
use Rattle.dg_meaning.specs.inside.Context.{Live, Way as WayOn, cut_to, way_to}
use Rattle.dg_meaning.specs.inside.Keeps.{Stands, After, WentOn as LeftPart, open_at}
use Rattle.dg_meaning.proofs.Keeps.{stops_on}
use Rattle.dg_unify.specs.Store.{Store, Saved, Back}
use Rattle.dg_unify.specs.inside.Engines.{Agrees}
use Rattle.dg_unify.specs.Laws.{saves_drops}
use Rattle.dg_unify.specs.Listed.{fields_of}
use Rattle.dg_unify.specs.declared.bindings.Ref.{Ref}
use Rattle.dg_unify.specs.declared.list.ListBindings.{ListBindings}
use Rattle.dg_choices.specs.declared.frames.Frame.{Frame}
use Rattle.dg_choices.specs.declared.frames.Left.{Left}
use Rattle.dg_choices.specs.declared.frames.Left.TheVariants.{Rules, Lists, Ways, Way, Behind, TakeOut, Things}
use Rattle.dg_choices.specs.declared.frames.Choice.{Choice}
use Rattle.dg_interp.specs.declared.engine.Engine.{Engine}
use Rattle.dg_interp.specs.inside.Frames.{values_in, branches_of, cut_if, lives_of, with_way, ways_of, IsChoice, AreChoices, IsLeft, IsNoted, StandOn, all_left}
use Rattle.dg_choices.specs.inside.Cutting.{cut_of, Cuts}
use Rattle.dg_interp.specs.inside.Engine.{store_in, KeepsPlaces, Within, IsSound, StandsAt, TakesAt, Then, Leads, branches_left, WentOn, StopsAt, StopsWithin, StopsFurther, StopsOn, StopsTo, Stops, leaving, part_at, steps_of}
use Rattle.dg_interp.proofs.Links.{cut_gone, cut_older, cut_fewer, rest_older}
use Rattle.dg_base.specs.Goals.{terms_held}
use Rattle.dg_interp.proofs.Places.{agrees_within, peak_drops, silent, adds_nothing, adds_drops, leads_on, leads_nowhere, limits_on, limits_here, cut_base, cut_inside, ways_left, inside_in}
use Rattle.dg_lasting.specs.declared.lasting.Lasting.{Lasting}
use Rattle.dg_lasting.specs.Lasting.{InWorld, Closes}
use Rattle.dg_interp.proofs.Turns.{reverse_pop}
use Rattle.dg_interp.proofs.Takes.{behind, taken_in, comes_of, adds_taken, peak_here}
use Rattle.dg_interp.proofs.Branches.{fewer_left, popped_base, popped_sound, popped_limits, popped_left, popped_branches, popped_within, popped_world, popped_agrees, no_choice, went_on_from, ended_from}

-- ## The newest choice

way_cases : (P : List WayOn → Type 0) (left : Left) (c : Live) (ws : List WayOn) → P ws → P (record { tag = c.tag; others = c.others; height = c.height } ∷ ws) → P (with_way left c ws)
way_cases P (Rules query args rules) c ws h k = h
way_cases P (Lists env tag lists) c ws h k = h
way_cases P (Ways first other) c ws h k = h
way_cases P (Way frame) c ws h k = h
way_cases P (TakeOut whole into frame) c ws h k = h
way_cases P (Things trial args) c ws h k = h
way_cases P (Behind frame cut) c ws h k = k

-- a part to which a stop leads isn't younger than the choices
tag_within : (g : Game) (refs : List Ref) (fs : List Frame) (s : ℕ) (os : List Choice) (ms : List Saved) (es : List Live) (h m t : ℕ) (x : WayOn × List WayOn) → AreChoices g refs fs os ms es → StandOn fs h m t os → way_to s (ways_of os es) ≡ Some x → s ≤ t
tag_within g refs fs s [] ms es h m t x are st e = let none : None ≡ Some x = e in absurd (cc)
tag_within g refs fs s (o ∷ os) [] es h m t x are st e = absurd are
tag_within g refs fs s (o ∷ os) (k ∷ ms) [] h m t x are st e = absurd are
tag_within g refs fs s (o ∷ os) (k ∷ ms) (c ∷ cs) h m t x are st e =
    let deeper : way_to s (ways_of os cs) ≡ Some x → s ≤ t = λ q. omega (arith, tag_within g refs fs s os ms cs o.height o.refs o.tag x are.1 st.5 q, st.2) in
    way_cases (λ ws. way_to s ws ≡ Some x → s ≤ t) o.left c (ways_of os cs) deeper
    (cond_both (eqb c.tag s) (Some (record { tag = c.tag; others = c.others; height = c.height }, ways_of os cs)) (way_to s (ways_of os cs)) (λ q. q ≡ Some x → s ≤ t) (λ e q. omega (arith, eqb-true c.tag s e, are.0.tag, st.2)) (λ d. deeper)) e

-- what is cut there is cut without the newest choice
cut_popped : (s : ℕ) (cut : Option ℕ) (c : Live) (cs : List Live) → s ≤ c.tag → IsNoted c.tag cut → cut_to s (cut_if cut (c ∷ cs)) ≡ cut_to s (cut_if cut cs)
cut_popped s None c cs le noted = cut_gone s c cs le
cut_popped s (Some t) c cs le noted = ap (cut_to s) (cut_gone t c cs noted)

-- and its leaving cuts all that the stop cuts
cut_left : (s : ℕ) (cut : Option ℕ) (c : Live) (cs : List Live) → c.tag ≡ s → IsNoted s cut → cut_to s (cut_if cut (c ∷ cs)) ≡ cut_to (leaving s cut) cs
cut_left s None c cs e noted = cut_gone s c cs (omega (arith, e))
cut_left s (Some t) c cs e noted = cut_older s t (c ∷ cs) noted ∙ cut_gone t c cs (omega (arith, e, noted))

record IsPart (here : Bool) (tag : ℕ) (left : Left) (p : Frame × ℕ) : Type 0 where
  same : here ≡ true
  cut : Option ℕ
  is : left ≡ Behind p.0 cut
  leaves : p.1 ≡ leaving tag cut

part_is : (here : Bool) (tag : ℕ) (left : Left) (p : Frame × ℕ) → Some p ≡ part_at here tag left → IsPart here tag left p
part_is true tag (Behind frame cut) p e = let same : p ≡ (frame, leaving tag cut) = cc in record { same = refl; cut = cut; is = ap (λ (q : Frame × ℕ). Behind q.0 cut) (sym same); leaves = ap (λ (q : Frame × ℕ). q.1) same }
part_is false tag (Behind frame cut) p e = absurd (let none : Some p ≡ None = e in cc)
part_is here tag (Rules query args rules) p e = absurd (let none : Some p ≡ None = e in cc)
part_is here tag (Lists env t lists) p e = absurd (let none : Some p ≡ None = e in cc)
part_is here tag (Ways first other) p e = absurd (let none : Some p ≡ None = e in cc)
part_is here tag (Way frame) p e = absurd (let none : Some p ≡ None = e in cc)
part_is here tag (TakeOut whole into frame) p e = absurd (let none : Some p ≡ None = e in cc)
part_is here tag (Things trial args) p e = absurd (let none : Some p ≡ None = e in cc)

-- another part isn't the one to which the stop leads
other_part : (tag : ℕ) (left : Left) (c : Live) (ws : List WayOn) → None ≡ part_at (eqb c.tag tag) tag left → way_to tag (with_way left c ws) ≡ way_to tag ws
other_part tag (Rules query args rules) c ws e = refl
other_part tag (Lists env t lists) c ws e = refl
other_part tag (Ways first other) c ws e = refl
other_part tag (Way frame) c ws e = refl
other_part tag (TakeOut whole into frame) c ws e = refl
other_part tag (Things trial args) c ws e = refl
other_part tag (Behind frame cut) c ws e =
    cond_both (eqb c.tag tag) (Some (record { tag = c.tag; others = c.others; height = c.height }, ws)) (way_to tag ws) (λ q. q ≡ way_to tag ws)
    (λ same. absurd (let none : None ≡ part_at true tag (Behind frame cut) = e ∙ ap (λ b. part_at b tag (Behind frame cut)) same in cc)) (λ d. refl)

module _ (old : Engine) (o : Choice) (choices : Vec Choice Global) (sound : IsSound old) (popped : old.choices.items ≡ choices.items ++ o ∷ []) (tag : ℕ) where
  abbrev fs : List Frame
  fs = old.frames.items

  abbrev xs : List Ref
  xs = old.refs.items

  abbrev os : List Choice
  os = reverse choices.items

  was : reverse old.choices.items ≡ o ∷ os
  was = reverse_pop old.choices.items choices.items o popped

  stand : StandOn fs (length fs) (length xs) old.newest (o ∷ os)
  stand = subst (StandOn fs (length fs) (length xs) old.newest) was sound.base.choices

  shorter : length choices.items < length old.choices.items
  shorter = omega (arith, ap length popped, length-append choices.items (o ∷ []))

  -- a stop inside the popped choice
  record Stopping (g : Game) (n : ℕ) (w : World) (run : Run) (m : Saved) (ms : List Saved) (c : Live) (cs : List Live) : Type 0 where
    program : old.program.now ≡ g.program
    keeps : KeepsPlaces old.store (m ∷ ms)
    choice : IsChoice g xs fs o m (ways_of os cs) c
    others : AreChoices g xs fs os ms cs
    world : InWorld old.lasting g w
    peak : w.meters.heap ≤ (store_in old.store).heap_limit
    went : LeftPart g (cut_if (cut_of o.left) (c ∷ lives_of os cs)) (with_way o.left c (ways_of os cs)) tag n w run

  stopped_in : (P : Game → ℕ → World → Run → Type 0) → ((g : Game) (n : ℕ) (w : World) (run : Run) (m : Saved) (ms : List Saved) (c : Live) (cs : List Live) → Stopping g n w run m ms c cs → P g n w run) → (g : Game) (n : ℕ) (w : World) (run : Run) → StopsAt tag old g n w run → P g n w run
  stopped_in P f g n w run st =
      from st.inside.saved st.inside.entries st.inside.lives st.inside.keeps (subst (λ l. AreChoices g xs fs l st.inside.saved st.inside.entries) was st.inside.choices) (st.inside.lives_are ∙ ap (λ l. lives_of l st.inside.entries) was)
      (subst (λ l. LeftPart g st.inside.lives (ways_of l st.inside.entries) tag n w run) was st.part_left)
    where
      from : (ms : List Saved) (es ls : List Live) → KeepsPlaces old.store ms → AreChoices g xs fs (o ∷ os) ms es → ls ≡ lives_of (o ∷ os) es → LeftPart g ls (ways_of (o ∷ os) es) tag n w run → P g n w run
      from [] es ls k h e went = absurd h
      from (m ∷ ms) [] ls k h e went = absurd h
      from (m ∷ ms) (c ∷ cs) ls k h e went =
          f g n w run m ms c cs (record {
            program = st.inside.program;
            keeps = k;
            choice = h.0;
            others = h.1;
            world = st.inside.world;
            peak = st.inside.peak;
            went = subst (λ l. LeftPart g l (with_way o.left c (ways_of os cs)) tag n w run) e went;
          })

  module _ (g : Game) (n : ℕ) (w : World) (run : Run) (m : Saved) (ms : List Saved) (c : Live) (cs : List Live) (st : Stopping g n w run m ms c cs) where
    within : tag ≤ c.tag
    within = omega (arith, st.choice.tag, tag_within g xs fs tag (o ∷ os) (m ∷ ms) (c ∷ cs) o.height o.refs o.tag (st.went.way, st.went.outer) (st.choice, st.others) (omega arith, omega arith, omega arith, stand.3, stand.4, stand.5) st.went.is)

    noted : IsNoted c.tag (cut_of o.left)
    noted = subst (λ t. IsNoted t (cut_of o.left)) (sym st.choice.tag) stand.3.2

    abbrev lives : List Live
    lives = lives_of os cs

    abbrev before : Within old.program.now old.lasting old.store xs fs os g w
    before = record { program = st.program; entries = cs; lives = lives; lives_are = refl; saved = ms; keeps = saves_drops true (fields_of old.store) m ms st.keeps; choices = st.others; world = st.world; peak = st.peak }

    went_on : None ≡ part_at (eqb o.tag tag) tag o.left → (ls : List Live) (ws : List WayOn) → cut_to tag ls ≡ cut_to tag (cut_if (cut_of o.left) lives) → ws ≡ ways_of os cs → LeftPart g ls ws tag n w run
    went_on none ls ws cut ways =
        let q = st.went in
        record {
          way = q.way;
          outer = q.outer;
          is = ap (way_to tag) ways ∙ sym (other_part tag o.left c (ways_of os cs) (none ∙ ap (λ t. part_at (eqb t tag) tag o.left) (sym st.choice.tag))) ∙ q.is;
          world = q.world;
          drops = q.drops;
          gatherings = q.gatherings;
          stands = λ path work e. subst (λ l. Stands g l q.outer path n (begun path.registers work q.world) run) (cut_popped tag (cut_of o.left) c lives within noted ∙ sym cut) (q.stands path work e);
        }

  less : all_left os < branches_left old
  less = omega (arith, fewer_left old o choices sound popped)

  pub popped_on : None ≡ part_at (eqb o.tag tag) tag o.left → None ≡ cut_of o.left → StopsFurther tag old (record old { choices = choices })
  popped_on none free = record {
    sound = record { base = popped_base old o choices sound popped; room = sound.room; picks = sound.picks };
    left = refl;
    limits = record { heap = refl; trail = refl; aux = refl; keep = refl; told = refl };
    leads = λ g n w run st. record {
      world = w;
      adds = adds_nothing w;
      holds = stopped_in (StopsAt tag (record old { choices = choices })) (λ g n w run m ms c cs x. record { inside = before g n w run m ms c cs x; part_left = went_on g n w run m ms c cs x none (lives_of os cs) (ways_of os cs) (ap (λ k. cut_to tag (cut_if k (lives_of os cs))) free) refl }) g n w run st;
    };
    fewer = less;
  }

  pub cut_on : None ≡ part_at (eqb o.tag tag) tag o.left → (t : ℕ) (rest : Vec Choice Global) → Some t ≡ cut_of o.left → Cuts t choices.items rest.items → StopsFurther tag old (record old { choices = rest })
  cut_on none t rest waits cuts = record {
    sound = record { base = cut_base t old.program.now old.lasting old.store xs fs os (reverse rest.items) cuts old.newest (popped_base old o choices sound popped); room = sound.room; picks = sound.picks };
    left = refl;
    limits = record { heap = refl; trail = refl; aux = refl; keep = refl; told = refl };
    leads = λ g n w run st. record {
      world = w;
      adds = adds_nothing w;
      holds = stopped_in (StopsAt tag (record old { choices = rest }))
          (λ g n w run m ms c cs x. record {
            inside = cut_inside t old.program.now old.lasting old.store xs fs os (reverse rest.items) cuts g w w x.world x.peak (before g n w run m ms c cs x);
            part_left = went_on g n w run m ms c cs x none (cut_to t (lives_of os cs)) (ways_of (reverse rest.items) (rest_older t os cs)) (ap (λ k. cut_to tag (cut_if k (lives_of os cs))) waits) (ways_left t old.program.now old.lasting old.store xs fs os (reverse rest.items) cuts g w (before g n w run m ms c cs x));
          }) g n w run st;
    };
    fewer = omega (arith, ap all_left cuts, cut_fewer t os, less);
  }

  -- ## The part to which the stop leads

  module _ (frames : Vec Frame Global) (refs : Vec Ref Global) (out : Lasting) (store : ListBindings) (cut : frames.items ≡ take o.height fs) (cut_refs : refs.items ≡ take o.refs xs) (closed : Closes o.gathered old.lasting out)
      (back : (s : Store) (ms : List Saved) → KeepsPlaces old.store (record { mark = o.place; store = s } ∷ ms) → Back s (store_in store))
      (keeps : (s : Store) (ms : List Saved) → KeepsPlaces old.store (record { mark = o.place; store = s } ∷ ms) → KeepsPlaces store (record { mark = o.place; store = s } ∷ ms))
      (rest : Vec Choice Global) (p : Frame × ℕ) (found : Some p ≡ part_at (eqb o.tag tag) tag o.left) (cuts : Cuts p.1 choices.items rest.items) where
    abbrev final : Engine
    final = record old { frames = frames; refs = refs; lasting = out; store = store; choices = rest; newest = o.tag; stoppable = o.stoppable; here = p.0 }

    part : IsPart (eqb o.tag tag) tag o.left p
    part = part_is (eqb o.tag tag) tag o.left p found

    the_tag : o.tag ≡ tag
    the_tag = eqb-true o.tag tag part.same

    gone_back : (g : Game) (n : ℕ) (w : World) (run : Run) (m : Saved) (ms : List Saved) (c : Live) (cs : List Live) → Stopping g n w run m ms c cs → Then [] w (λ v. StandsAt final g n v run)
    gone_back g n w run m ms c cs st =
        let q = st.went in
        let r = st.choice.registers in
        let v = begun (inside 0 r) 0 q.world in
        let here : c.others ≡ enter 0 0 r (steps_of final) ∷ [] = popped_branches old o choices sound popped frames refs out store old.told cut cut_refs closed back keeps g m ms c cs st.program st.keeps st.choice st.others
        ∙ ap (λ l. branches_of g (values_in (store_in store) refs.items) frames.items (length frames.items) l r) part.is in
        let same : way_to tag (with_way o.left c (ways_of os cs)) ≡ Some (record { tag = c.tag; others = c.others; height = c.height }, ways_of os cs) = ap (λ l. way_to tag (with_way l c (ways_of os cs))) part.is
        ∙ cond-true (eqb c.tag tag) (Some (record { tag = c.tag; others = c.others; height = c.height }, ways_of os cs)) (way_to tag (ways_of os cs)) (eq-eqb c.tag tag (st.choice.tag ∙ the_tag)) in
        let pairs : Some (q.way, q.outer) ≡ Some (record { tag = c.tag; others = c.others; height = c.height }, ways_of os cs) = sym q.is ∙ same in
        let pair : (q.way, q.outer) ≡ (record { tag = c.tag; others = c.others; height = c.height }, ways_of os cs) = cc in
        let count : length q.world.gathered ≡ open_at c.others c.height = q.gatherings ∙ ap (λ (x : WayOn × List WayOn). x.0.height) pair ∙ sym (ap (λ bs. open_at bs c.height) here) in
        let world = popped_world old o choices sound popped frames refs out store old.told cut cut_refs closed back keeps g m ms c cs st.program st.keeps st.choice st.others w q.world st.world q.drops count in
        let outer : q.outer ≡ ways_of os cs = ap (λ (x : WayOn × List WayOn). x.1) pair in
        let others : q.way.others ≡ enter 0 0 r (steps_of final) ∷ [] = ap (λ (x : WayOn × List WayOn). x.0.others) pair ∙ here in
        let agrees : Agrees (store_in store) r = popped_agrees old o choices sound popped frames refs out store old.told cut cut_refs closed back keeps g m ms c cs st.program st.keeps st.choice st.others in
        let limits = popped_limits old o choices sound popped frames refs out store old.told cut cut_refs closed back keeps in
        let peak : v.meters.heap ≤ (store_in store).heap_limit = omega (arith, peak_drops (store_in old.store).heap_limit w q.world q.drops st.peak, limits.heap, agrees_within store r agrees) in
        let inside0 = popped_within old o choices sound popped frames refs out store old.told cut cut_refs closed back keeps g m ms c cs st.program st.keeps st.choice st.others v world peak in
        let lives : cut_to tag (cut_if (cut_of o.left) (c ∷ lives_of os cs)) ≡ cut_to p.1 (lives_of os cs) = ap (λ l. cut_to tag (cut_if (cut_of l) (c ∷ lives_of os cs))) part.is
        ∙ cut_left tag part.cut c (lives_of os cs) (st.choice.tag ∙ the_tag) (subst (λ t. IsNoted t part.cut) the_tag (subst (λ l. IsNoted o.tag (cut_of l)) part.is stand.3.2)) ∙ ap (λ t. cut_to t (lives_of os cs)) (sym part.leaves) in
        let adds = adds_drops w q.world q.drops in
        record {
          world = v;
          adds = record { events_are = adds.events_are; typed = adds.typed };
          holds = record {
            at = record {
              inside = cut_inside p.1 old.program.now out store refs.items frames.items os (reverse rest.items) cuts g v v world peak inside0;
              ways = q.outer;
              ways_are = outer ∙ sym (ways_left p.1 old.program.now out store refs.items frames.items os (reverse rest.items) cuts g v inside0);
              registers = inside 0 r;
              agrees = record { bound = agrees.bound; vars = agrees.vars; heap = omega (arith, agrees.heap); trail = agrees.trail; since = agrees.since };
              tag = ap (λ i. i + 1) st.choice.tag_at;
              stop = st.choice.stop;
            };
            stands = subst (λ l. Stands g l q.outer (path_of (steps_of final) (inside 0 r)) n v run) lives (q.stands (path_of (steps_of final) (inside 0 r)) 0 others);
          };
        }

    pub part_reached : WentOn (StopsAt tag old) old final
    part_reached =
        let mid = popped_sound old o choices sound popped frames refs out store old.told cut cut_refs closed back keeps in
        record {
          ready = record {
            sound = record { base = cut_base p.1 old.program.now out store refs.items frames.items os (reverse rest.items) cuts o.tag mid.base; room = mid.room; picks = mid.picks };
            here = subst (IsLeft (length frames.items) (length refs.items)) part.is (popped_left old o choices sound popped frames refs out store old.told cut cut_refs closed back keeps);
          };
          left = refl;
          limits = let l = popped_limits old o choices sound popped frames refs out store old.told cut cut_refs closed back keeps in record { heap = l.heap; trail = l.trail; aux = l.aux; keep = l.keep; calls = []; told = refl };
          leads = λ g n w run st. stopped_in (λ g n w run. Then [] w (λ v. StandsAt final g n v run)) gone_back g n w run st;
        }

-- ## No choice is left

pub nowhere_to_stop : (old : Engine) (choices : Vec Choice Global) (tag : ℕ) → length old.choices.items ≡ 0 → StopsOn tag None old (record old { choices = choices })
nowhere_to_stop old choices tag empty = record {
  left = refl;
  limits = record { heap = refl; trail = refl; aux = refl; keep = refl; calls = []; told = refl };
  ends = λ g n w run st. absurd (none (ways_of (reverse old.choices.items) st.inside.entries) (st.part_left.way, st.part_left.outer) (ap (λ l. ways_of l st.inside.entries) (no_choice old.choices.items empty)) st.part_left.is);
} where
  none : (ws : List WayOn) (x : WayOn × List WayOn) → ws ≡ [] → way_to tag ws ≡ Some x → ⊥
  none ws x e is = let none : None ≡ Some x = sym (ap (way_to tag) e) ∙ is in cc

-- ## One after another

pub stops_nowhere : (s : ℕ) (e : Engine) → IsSound e → StopsWithin s e e
stops_nowhere s e sound = record { sound = sound; left = refl; limits = limits_here e; leads = leads_nowhere (StopsAt s e) }

pub stops_later : (s : ℕ) (a b c : Engine) → StopsWithin s a b → StopsFurther s b c → StopsWithin s a c
stops_later s a b c h k = record { sound = k.sound; left = k.left ∙ h.left; limits = limits_on a b c h.limits k.limits; leads = leads_on (StopsAt s a) (StopsAt s b) (StopsAt s c) h.leads k.leads }

-- ## A stop is taken

module _ (old : Engine) where
  stops_in : (g : Game) (n : ℕ) (w : World) (run : Run) (st : TakesAt Stop old g n w run) → After g st.at.inside.lives st.at.ways n (Moves (stop st.at.registers.stoppable (taken_in Stop old g n w run st))) run
  stops_in g n w run st =
      subst (λ f. After g st.at.inside.lives st.at.ways n (outcome g f (values_in (store_in old.store) old.refs.items old.here.env) old.here.tag (steps_of old) (behind Stop old g n w run st) (taken_in Stop old g n w run st)) run) outs-Stop (comes_of Stop old g n w run st)

  pub stop_taken : (tag : ℕ) → old.stoppable ≡ Some tag → Leads (TakesAt Stop old) (StopsAt tag old)
  stop_taken tag is g n w run st =
      let v = taken_in Stop old g n w run st in
      let went = stops_on g st.at.inside.lives st.at.ways tag n v run (subst (λ s. After g st.at.inside.lives st.at.ways n (Moves (stop s v)) run) (st.at.stop ∙ is) (stops_in g n w run st)) in
      record {
        world = v;
        adds = adds_taken (behind Stop old g n w run st) _ w;
        holds = record { inside = inside_in v st.at.inside.world (peak_here Stop old (ap terms_held outs-Stop) g n w run st) st.at.inside; part_left = subst (λ ws. LeftPart g st.at.inside.lives ws tag n v run) st.at.ways_are went };
      }

  pub stop_lasting : old.stoppable ≡ None → Stops false old old
  stop_lasting is = record {
    left = refl;
    limits = silent (limits_here old);
    ends = λ g n w run st.
        let v = taken_in Stop old g n w run st in
        record {
          world = v;
          adds = adds_taken (behind Stop old g n w run st) _ w;
          holds = record {
            finished = subst (λ s. After g st.at.inside.lives st.at.ways n (Moves (stop s v)) run) (st.at.stop ∙ is) (stops_in g n w run st);
            world = st.at.inside.world;
            peak = peak_here Stop old (ap terms_held outs-Stop) g n w run st;
          };
        };
  }

pub stop_made : (old new : Engine) (tag : ℕ) → old.stoppable ≡ Some tag → (b : Bool) → StopsTo tag b old new → Stops b old new
stop_made old new tag is true h = went_on_from (TakesAt Stop old) (StopsAt tag old) old old new refl (limits_here old) (stop_taken old tag is) h
stop_made old new tag is false h = ended_from (TakesAt Stop old) (StopsAt tag old) (End Stopped) old old new refl (limits_here old) (stop_taken old tag is) h
