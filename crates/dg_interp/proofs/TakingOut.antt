-- A gathering is taken out.
use Rattle.std.proofs.Common.{◌≡◌, ℕ, suc, ◌+◌, ◌-◌, ◌*◌, ◌<◌, ◌≤◌, List, [], ◌∷◌, Option, Some, Bool, true, false, refl, sym, ap, ◌∙◌, subst, arith, length, map, drop}
use Rattle.std.specs.Prelude.{eqb, slice_get, IfOk, IfErr, OnOk, Ok, Err, Result as Answer}
use Rattle.std.specs.List.{All, flat_map, sum_by}
use Rattle.std.specs.declared.vec.Vec.{Vec}
use Rattle.std.specs.declared.alloc.Global.{Global}
use Rattle.std.proofs.lemmas.Bool.{cond-true, eq-eqb}
use Rattle.dg_base.specs.declared.cells.Cell.{Cell}
use Rattle.dg_meaning.specs.Values.{Value, Values, node_parts, value_of_var}
use Rattle.dg_meaning.specs.ValueCells.{cells_of, cells_of_all}
use Rattle.dg_meaning.specs.Copies.{list_of, values_of, copies_from, all_copy_cells}
use Rattle.dg_meaning.specs.Numbers.{total}
use Rattle.dg_meaning.specs.Letters.{copied}
use Rattle.dg_meaning.specs.Unify.{Unified, Equations, size, solve}
use Rattle.dg_meaning.specs.World.{Game, World, Gathering, gathered_at, gathered_without, dropped}
use Rattle.dg_meaning.specs.Path.{Step, Registers, Moves, Move}
use Rattle.dg_meaning.specs.Moves.{begun, bound_by, made_since, goes_on_if, unified, unifying, inside, behind_copy, copy_of, gives_number, takes_out, move_of}
use Rattle.dg_meaning.specs.Transcript.{Run}
use Rattle.dg_meaning.specs.inside.OneRun.{Grows}
use Rattle.dg_meaning.specs.inside.Context.{Drops, tags_of, IsNewest}
use Rattle.dg_meaning.specs.inside.Keeps.{Went, world_at}
use Rattle.dg_meaning.proofs.Keeps.{has_happened}
use Rattle.dg_unify.specs.Store.{Store, State, Saved, Kept, Made, Holds, Does, Follows, told, or_nil}
use Rattle.dg_unify.specs.Laws.{saves_drops}
use Rattle.dg_unify.specs.Listed.{fields_of}
use Rattle.dg_unify.specs.declared.bindings.Ref.{Ref}
use Rattle.dg_unify.specs.declared.bindings.Full.{Full}
use Rattle.dg_unify.specs.declared.bindings.Full.TheVariants as full
use Rattle.dg_unify.specs.declared.bindings.Mark.{Mark as Place}
use Rattle.dg_unify.specs.declared.list.ListBindings.{ListBindings}
use Rattle.dg_lists.specs.Formed.{IsFormed, AreFormed}
use Rattle.dg_lists.specs.Reading.{Stopped, ListCopied}
use Rattle.dg_lists.proofs.ListCopies.{row_parts, parts_formed, list_vars, list_copy, list_weight}
use Rattle.dg_choices.specs.declared.frames.Env.{Env}
use Rattle.dg_choices.specs.declared.frames.Frame.{Frame}
use Rattle.dg_choices.specs.declared.frames.Whole.{Whole}
use Rattle.dg_choices.specs.declared.frames.Whole.TheVariants.{List as InList, Sum as InSum}
use Rattle.dg_choices.specs.declared.frames.Left.TheVariants.{TakeOut}
use Rattle.dg_lasting.specs.declared.lasting.Lasting.{Lasting}
use Rattle.dg_interp.specs.declared.engine.Engine.{Engine}
use Rattle.dg_lasting.specs.Lasting.{row_of, InWorld, MayPick, Closes, picks_in}
use Rattle.dg_interp.specs.inside.Frames.{values_in, steps_at, whole_of, IsLeft}
use Rattle.dg_interp.specs.inside.Giving.{SolvesAt, UnifiesAt, GivesAt}
use Rattle.dg_interp.specs.inside.Gathering.{TakesOutAt}
use Rattle.dg_interp.specs.inside.Engine.{Point, store_in, steps_of, KeepsPlaces, open_in, IsSound, IsReady, FailsAt, FullAt, BeginsAt, Leads, Silent, WentWrong, Tries}
use Rattle.dg_unify.proofs.StoreLemmas.{kept_told}
use Rattle.dg_interp.proofs.Stores.{values_kept, hold_front}
use Rattle.dg_interp.proofs.Links.{same_here, at_same}
use Rattle.dg_interp.proofs.Places.{agrees_within, silent, adds_nothing, open_still}
use Rattle.dg_interp.proofs.Takes.{store_sound, store_ready}
use Rattle.dg_interp.proofs.Giving.{steps_kept, kept_limits, solved_on, solved_fails, solved_full}

-- ## Equations where a branch begins

module _ (es : Equations) (old : Engine) (store : ListBindings) (ready : IsReady old) (k : Kept (store_in old.store) (store_in store)) (saved : (ms : List Saved) → KeepsPlaces old.store ms → KeepsPlaces store ms) where
  abbrev meant : Unified
  meant = solve (store_in old.store).state.subst es

  met_so : (found : Bool) → Does (store_in old.store) (store_in store) meant found → Tries (SolvesAt es old) found old (record old { store = store })
  met_so true does = solved_on es old store ready old.store.sound.fits.sound k saved true does refl
  met_so false does = record {
    sound = store_sound old store old.made k saved ready.sound;
    left = refl;
    limits = silent (kept_limits old store old.made ready k saved);
    leads = solved_fails es old store ready old.store.sound.fits.sound k saved false does refl;
  }

  pub met : (r : Answer Bool Full) → Follows (store_in old.store) (store_in store) meant r → IfOk r (λ found. Tries (SolvesAt es old) found old (record old { store = store }))
  met (Ok found) h = met_so found h
  met (Err e) h = tt

  pub met_full : (r : Answer Bool Full) → Follows (store_in old.store) (store_in store) meant r → IfErr r (λ e. FullAt (SolvesAt es old) (store_in old.store) e)
  met_full (Ok found) h = tt
  met_full (Err e) h = solved_full es old old.store.sound.fits.sound e h.cause

pub no_more : (r : Answer Bool Full) (n : ℕ) → OnOk r (n ≤ n + 1)
no_more (Ok found) n = omega arith
no_more (Err e) n = tt

-- ## The newest gathering

at_newest : (t : ℕ) (x : Gathering) (gs : List Gathering) → t ≡ x.tag → gathered_at t (x ∷ gs) ≡ x.values
at_newest t x gs e = cond-true (eqb x.tag t) x.values (gathered_at t gs) (eq-eqb x.tag t (sym e))

without_newest : (t : ℕ) (x : Gathering) (gs : List Gathering) → t ≡ x.tag → gathered_without t (x ∷ gs) ≡ gs
without_newest t x gs e = cond-true (eqb x.tag t) gs (x ∷ gathered_without t gs) (eq-eqb x.tag t (sym e))

-- what is open, where the newest has a tag
record IsOpen (t : ℕ) (w : World) : Type 0 where
  pub newest : Gathering
  pub others : List Gathering
  pub is : w.gathered ≡ newest ∷ others
  pub tag : t ≡ newest.tag

is_open : (t : ℕ) (w : World) (gs : List Gathering) → w.gathered ≡ gs → IsNewest t (tags_of gs) → IsOpen t w
is_open t w [] is h = absurd h
is_open t w (x ∷ gs) is h = record { newest = x; others = gs; is = is; tag = h }

-- ## The branch begins

module _ (old : Engine) (whole : Whole) (into : Env) (frame : Frame) (sound : IsSound old) (left : IsLeft (length old.frames.items) (length old.refs.items) (TakeOut whole into frame))
    (store1 : ListBindings) (r : Ref) (k1 : Kept (store_in old.store) (store_in store1)) (saved1 : (ms : List Saved) → KeepsPlaces old.store ms → KeepsPlaces store1 ms)
    (made : Made 0 (store_in old.store) (store_in store1) r (value_of_var (values_in (store_in old.store) old.refs.items into) 0)) where
  abbrev s : Store
  s = store_in old.store

  abbrev s1 : Store
  s1 = store_in store1

  abbrev e1 : Engine
  e1 = record old { store = store1; here = frame }

  pub out_ready : IsReady e1
  out_ready = let now = store_sound old store1 old.made k1 saved1 sound in record { sound = record { base = now.base; room = now.room; picks = now.picks }; here = left.0 }

  pub out_limits : Silent old e1
  out_limits = record { heap = k1.heap_limit; trail = k1.trail_limit; aux = refl; keep = refl; told = refl }

  same_steps : steps_of e1 ≡ steps_at (values_in s old.refs.items) old.frames.items frame
  same_steps = at_same (length old.refs.items) (values_in s old.refs.items) (values_in s1 old.refs.items) old.frames.items old.frames.items (length old.frames.items) frame left.0
      (values_kept (length old.refs.items) s s1 old.refs.items old.refs.items k1 (hold_front s old.refs.items sound.base.hold) refl) sound.base.frames (same_here (length old.frames.items) old.frames.items)

  pub out_begins : (place : Place) → Leads (BeginsAt (TakeOut whole into frame) place old) (TakesOutAt whole r e1)
  out_begins place g n w run st =
      let q = st.at.registers in
      let o = is_open q.next_tag w w.gathered refl st.newest in
      let steps = steps_at (values_in s old.refs.items) old.frames.items frame in
      let v = value_of_var (values_in s old.refs.items into) 0 in
      let values : gathered_at q.next_tag w.gathered ≡ o.newest.values = ap (gathered_at q.next_tag) o.is ∙ at_newest q.next_tag o.newest o.others o.tag in
      let rest : gathered_without q.next_tag w.gathered ≡ o.others = ap (gathered_without q.next_tag) o.is ∙ without_newest q.next_tag o.newest o.others o.tag in
      let lives = st.at.inside.lives in
      let a = st.at.agrees in
      let now = made.charged.state in
      record {
        world = w;
        adds = adds_nothing w;
        holds = record {
          at = record {
            inside = record {
              program = st.at.inside.program;
              entries = st.at.inside.entries;
              lives = lives;
              lives_are = st.at.inside.lives_are;
              saved = st.at.inside.saved;
              keeps = saved1 st.at.inside.saved (saves_drops true (fields_of old.store) st.back st.at.inside.saved st.is.keeps);
              choices = st.at.inside.choices;
              world = st.at.inside.world;
              peak = omega (arith, st.at.inside.peak, k1.heap_limit);
            };
            ways = st.at.ways;
            ways_are = st.at.ways_are;
            registers = inside 0 q;
            agrees = record {
              bound = a.bound ∙ ap (λ (t : State). t.subst) (sym now);
              vars = a.vars ∙ ap (λ (t : State). t.vars) (sym now);
              heap = omega (arith, a.heap, ap (λ (t : State). t.heap) now);
              trail = omega (arith, a.trail, ap (λ (t : State). t.trail) now);
              since = omega (arith, a.since, ap (λ (t : State). t.since) now, ap (λ (t : State). t.vars) now);
            };
            tag = ap (λ i. i + 1) st.at.tag;
            stop = st.at.stop;
          };
          newest = o.newest;
          others = o.others;
          is = o.is;
          went =
              subst (λ l. Went g lives st.at.ways n (move_of l (inside 0 q) (takes_out (whole_of whole) (told s1 r) o.newest.values (inside 0 q) (record w { gathered = o.others }))) run) (sym same_steps)
              (subst (λ x. Went g lives st.at.ways n (move_of steps (inside 0 q) (takes_out (whole_of whole) (or_nil x) o.newest.values (inside 0 q) (record w { gathered = o.others }))) run) (sym made.value)
              (subst (λ gs. Went g lives st.at.ways n (move_of steps (inside 0 q) (takes_out (whole_of whole) v o.newest.values (inside 0 q) (record w { gathered = gs }))) run) rest
              (subst (λ vs. Went g lives st.at.ways n (move_of steps (inside 0 q) (takes_out (whole_of whole) v vs (inside 0 q) (dropped q.next_tag w))) run) values st.tried)));
        };
      }

-- ## What is taken out

module _ (whole : Whole) (into : Ref) (old : Engine) (ready : IsReady old) where
  -- there is a newest one
  pub not_none : old.lasting.gathered.rows ≡ [] → Leads (TakesOutAt whole into old) (FailsAt old)
  not_none none g n w run st =
      let a = st.at.inside.world.1.0 in
      absurd (no_rows (sym none ∙ a ∙ ap (map row_of) st.is))
    where
      no_rows : [] ≡ row_of st.newest ∷ map row_of st.others → ⊥
      no_rows e = let n : 0 ≡ suc (length (map row_of st.others)) = ap length e in omega (arith, n)

  pub none_wrong : old.lasting.gathered.rows ≡ [] → WentWrong (TakesOutAt whole into old) old old
  none_wrong none = record { sound = ready.sound; left = refl; limits = record { heap = refl; trail = refl; aux = refl; keep = refl; calls = []; told = refl }; leads = not_none none }

  module _ (cells : List Cell) (at_first : slice_get old.lasting.gathered.rows 0 ≡ Some cells) where
    rows_here : (g : Game) (n : ℕ) (w : World) (run : Run) (st : TakesOutAt whole into old g n w run) → cells ≡ flat_map cells_of st.newest.values
    rows_here g n w run st =
        let same : Some cells ≡ Some (row_of st.newest) = sym at_first ∙ ap (λ l. slice_get l 0) (st.at.inside.world.1.0 ∙ ap (map row_of) st.is) in cc

    formed_here : (g : Game) (n : ℕ) (w : World) (run : Run) (st : TakesOutAt whole into old g n w run) → All IsFormed st.newest.values
    formed_here g n w run st = (subst (All (λ (x : Gathering). All IsFormed x.values)) st.is st.at.inside.world.1.1) 0 st.newest (omega arith)

    -- the newest is dropped
    closed_here : (out : Lasting) → Closes (open_in old - 1) old.lasting out → (g : Game) (n : ℕ) (w : World) (run : Run) (st : TakesOutAt whole into old g n w run) → InWorld out g (record w { gathered = st.others })
    closed_here out closed g n w run st =
        let d : Drops w (record w { gathered = st.others }) = record { count = 1; is = ap (λ l. record w { gathered = drop 1 l }) (sym st.is) } in
        let count : length st.others ≡ open_in old - 1 = let a = open_still old.lasting g w st.at.inside.world in let b = ap length st.is in omega (arith, a, b) in
        closed.stands g w (record w { gathered = st.others }) st.at.inside.world d count

-- what a unification reaches
heap_reached : (b : Bool) (steps : List Step) (r : Registers) (w : World) → r.heap ≤ w.meters.heap → r.heap ≤ (world_at (goes_on_if b steps r w)).meters.heap
heap_reached true steps r w h = h
heap_reached false steps r w h = h

pub made_heap : (es : Equations) (steps : List Step) (r : Registers) (w : World) → r.heap ≤ (world_at (unified es steps r w)).meters.heap
made_heap es steps r w =
    let u = solve r.bound es in
    let s = bound_by u (length (made_since r.bound u.subst)) r in
    heap_reached u.agrees steps s (begun s (unifying r.bound es) w) (omega arith)

-- ## As a list

module _ (into : Ref) (old : Engine) (ready : IsReady old) (hold : Holds (store_in old.store) into) (cells : List Cell) (at_first : slice_get old.lasting.gathered.rows 0 ≡ Some cells) (store2 : ListBindings) (k2 : Kept (store_in old.store) (store_in store2)) (saved2 : (ms : List Saved) → KeepsPlaces old.store ms → KeepsPlaces store2 ms) where
  abbrev ls : Store
  ls = store_in old.store

  abbrev ls2 : Store
  ls2 = store_in store2

  abbrev from : Point
  from = TakesOutAt InList into old

  parts_here : (g : Game) (n : ℕ) (w : World) (run : Run) (st : from g n w run) → cells ≡ cells_of_all (node_parts st.newest.values)
  parts_here g n w run st = rows_here InList into old ready cells at_first g n w run st ∙ row_parts st.newest.values

  made_here : (g : Game) (n : ℕ) (w : World) (run : Run) (st : from g n w run) → AreFormed (node_parts st.newest.values)
  made_here g n w run st = parts_formed st.newest.values (formed_here InList into old ready cells at_first g n w run st)

  -- the cells of the list

  pub list_full : (e : Full) → ((vs : Values) → cells ≡ cells_of_all vs → AreFormed vs → Stopped (all_copy_cells vs + 3 * length (values_of vs)) ls ls2 e) → FullAt from ls e
  list_full full.Heap h = λ g n w run st.
      let vs = st.newest.values in
      let c = (h (node_parts vs) (parts_here g n w run st) (made_here g n w run st)).cause in
      let r = behind_copy (list_of vs) st.at.registers in
      let v = begun st.at.registers (sum_by (λ x. size x + copied x) vs) (record w { gathered = st.others }) in
      let es = (told ls into, copy_of (list_of vs) st.at.registers) ∷ [] in
      let grows : Grows (world_at (unified es (steps_of old) r v)) run.world = has_happened g st.at.inside.lives st.at.ways n (Moves (unified es (steps_of old) r v)) run st.went in
      omega (arith, c, list_weight vs, st.at.agrees.heap, made_heap es (steps_of old) r v, grows.meters.heap)
  list_full full.Trail h = λ g n w run st. absurd (h (node_parts st.newest.values) (parts_here g n w run st) (made_here g n w run st)).cause
  list_full full.OutOfMemory h = tt

  module _ (stack : Vec Ref Global) (out : Lasting) (list : Ref) (closed : Closes (open_in old - 1) old.lasting out) (copies : (vs : Values) → cells ≡ cells_of_all vs → AreFormed vs → ListCopied ls ls2 vs list) where
    abbrev pub listed_engine : Engine
    listed_engine = record old { store = store2; made = stack; lasting = out }

    pub list_ready : IsReady listed_engine
    list_ready = let now = store_ready old store2 stack k2 saved2 ready in record { sound = record { base = now.sound.base; room = now.sound.room; picks = subst (λ (o : Lasting). MayPick old.left (picks_in o)) (sym closed.is) ready.sound.picks }; here = now.here }

    pub list_limits : Silent old listed_engine
    list_limits = record { heap = k2.heap_limit; trail = k2.trail_limit; aux = ap (λ (o : Lasting). o.gathered.aux) closed.is; keep = ap (λ (o : Lasting). o.world.area.keep) closed.is; told = refl }

    pub list_taken : Leads from (UnifiesAt into list listed_engine)
    list_taken g n w run st =
        let vs = st.newest.values in
        let c = copies (node_parts vs) (parts_here g n w run st) (made_here g n w run st) in
        let q = st.at.registers in
        let a = st.at.agrees in
        let now = c.grew.state in
        let r = behind_copy (list_of vs) q in
        let v = begun q (sum_by (λ x. size x + copied x) vs) (record w { gathered = st.others }) in
        let is_list : copy_of (list_of vs) q ≡ told ls2 list = list_copy q.next_var vs ∙ ap (λ i. list_of (values_of (copies_from i (node_parts vs)))) a.vars ∙ ap or_nil (sym c.value) in
        let on : (x y : Value) (l : List Step) → Move = λ x y l. unified ((x, y) ∷ []) l r v in
        let here : on (told ls into) (copy_of (list_of vs) q) (steps_of old) ≡ on (told ls2 into) (told ls2 list) (steps_of listed_engine) =
        ap (λ x. on x (copy_of (list_of vs) q) (steps_of old)) (sym (kept_told ls ls2 into k2 hold)) ∙ ap (λ y. on (told ls2 into) y (steps_of old)) is_list ∙ ap (on (told ls2 into) (told ls2 list)) (sym (steps_kept old store2 stack ready k2 saved2)) in
        record {
          world = v;
          adds = record { events_are = refl; typed = refl };
          holds = record {
            at = record {
              inside = record {
                program = st.at.inside.program;
                entries = st.at.inside.entries;
                lives = st.at.inside.lives;
                lives_are = st.at.inside.lives_are;
                saved = st.at.inside.saved;
                keeps = saved2 st.at.inside.saved st.at.inside.keeps;
                choices = st.at.inside.choices;
                world = closed_here InList into old ready cells at_first out closed g n w run st;
                peak = omega (arith, st.at.inside.peak, k2.heap_limit, agrees_within old.store q st.at.agrees);
              };
              ways = st.at.ways;
              ways_are = st.at.ways_are;
              registers = r;
              agrees = record {
                bound = a.bound ∙ ap (λ (t : State). t.subst) (sym now);
                vars = omega (arith, a.vars, ap (λ (t : State). t.vars) now, list_vars vs);
                heap = omega (arith, a.heap, ap (λ (t : State). t.heap) now, list_weight vs);
                trail = omega (arith, a.trail, ap (λ (t : State). t.trail) now);
                since = omega (arith, a.since, ap (λ (t : State). t.since) now, ap (λ (t : State). t.vars) now);
              };
              tag = st.at.tag;
              stop = st.at.stop;
            };
            went = subst (λ m. Went g st.at.inside.lives st.at.ways n m run) here st.went;
          };
        }

-- ## As a sum

module _ (into : Ref) (old : Engine) (ready : IsReady old) (cells : List Cell) (at_first : slice_get old.lasting.gathered.rows 0 ≡ Some cells) (out : Lasting) (closed : Closes (open_in old - 1) old.lasting out)
    (n : Option ℕ) (sums : (vs : List Value) → cells ≡ flat_map cells_of vs → All IsFormed vs → n ≡ total vs) where
  abbrev pub summed_engine : Engine
  summed_engine = record old { lasting = out }

  pub sum_ready : IsReady summed_engine
  sum_ready = record { sound = record { base = ready.sound.base; room = ready.sound.room; picks = subst (λ (o : Lasting). MayPick old.left (picks_in o)) (sym closed.is) ready.sound.picks }; here = ready.here }

  pub sum_limits : Silent old summed_engine
  sum_limits = record { heap = refl; trail = refl; aux = ap (λ (o : Lasting). o.gathered.aux) closed.is; keep = ap (λ (o : Lasting). o.world.area.keep) closed.is; told = refl }

  pub sum_taken : Leads (TakesOutAt InSum into old) (GivesAt n into summed_engine)
  sum_taken g k w run st =
      let vs = st.newest.values in
      let q = st.at.registers in
      let v = begun q (length vs) (record w { gathered = st.others }) in
      let same : n ≡ total vs = sums vs (rows_here InSum into old ready cells at_first g k w run st) (formed_here InSum into old ready cells at_first g k w run st) in
      record {
        world = v;
        adds = record { events_are = refl; typed = refl };
        holds = record {
          at = record {
            inside = record {
              program = st.at.inside.program;
              entries = st.at.inside.entries;
              lives = st.at.inside.lives;
              lives_are = st.at.inside.lives_are;
              saved = st.at.inside.saved;
              keeps = st.at.inside.keeps;
              choices = st.at.inside.choices;
              world = closed_here InSum into old ready cells at_first out closed g k w run st;
              peak = omega (arith, st.at.inside.peak, agrees_within old.store q st.at.agrees);
            };
            ways = st.at.ways;
            ways_are = st.at.ways_are;
            registers = q;
            agrees = st.at.agrees;
            tag = st.at.tag;
            stop = st.at.stop;
          };
          went = subst (λ o. Went g st.at.inside.lives st.at.ways k (move_of (steps_of old) q (gives_number o (told (store_in old.store) into) q v)) run) (sym same) st.went;
        };
      }

pub some_first : (rows : List (List Cell)) (cells : List Cell) → slice_get rows 0 ≡ Some cells → 0 < length rows
some_first [] cells h = cc
some_first (row ∷ rows) cells h = omega arith
