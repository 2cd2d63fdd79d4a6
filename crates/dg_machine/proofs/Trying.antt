-- Objects that are tried, one after another.
use Rattle.std.specs.Prelude.{nat_eq, reverse, vec_capacity}
use Rattle.std.proofs.Common.{◌≡◌, ℕ, zero, suc, ◌+◌, ◌-◌, ◌*◌, ◌<◌, ◌≤◌, List, [], ◌∷◌, Option, Some, None, Bool, true, false, refl, sym, ap, ◌∙◌, subst, arith, length}
use Rattle.std.proofs.Math.Dec.{eqb-suc-zero}
use Rattle.std.specs.Borrow.{Bor}
use Rattle.std.specs.List.{zip}
use Rattle.dg_arena.specs.Held.{meaning_of}
use Rattle.dg_base.specs.declared.cells.Simple.{Simple}
use Rattle.dg_base.specs.declared.cells.Simple.TheVariants as simple
use Rattle.dg_meaning.specs.Facts.{Fact, kinds_of}
use Rattle.dg_base.specs.declared.run.Ending.TheVariants as ending
use Rattle.dg_base.specs.declared.run.Limits.{Limits}
use Rattle.dg_meaning.specs.Changes.{found}
use Rattle.dg_meaning.specs.Letters.{copied}
use Rattle.dg_meaning.specs.Moves.{begun, copy_of, finds, finds_if_set}
use Rattle.dg_meaning.specs.Path.{Registers, Unifies}
use Rattle.dg_meaning.specs.Unify.{Equations, Unified, solve}
use Rattle.dg_meaning.specs.Values.{Value, Object, leaf}
use Rattle.dg_meaning.specs.World.{Game, World, worked}
use Rattle.dg_lasting.specs.Finding.{counted}
use Rattle.dg_meaning.specs.inside.Finding.{may_find}
use Rattle.dg_lasting.specs.Lasting.{outline}
use Rattle.dg_lasting.specs.declared.lasting.Lasting.{Lasting}
use Rattle.dg_lasting.proofs.Finds.{counted_first, counted_none, same_copy, behind_simple}
use Rattle.dg_world.specs.Tables.{Outline, simple_value}
use Rattle.dg_world.specs.Worlds.{StandsFor}
use Rattle.dg_unify.specs.Store.{Store, label_of}
use Rattle.dg_unify.specs.declared.bindings.Ref.{Ref}
use Rattle.dg_mid.specs.declared.code.Op.{Op}
use Rattle.dg_mid.specs.declared.code.Op.TheVariants as op
use Rattle.dg_mid.specs.declared.code.Code.{Code}
use Rattle.dg_mid.specs.Actions.{found_at, registers_of, world_of}
use Rattle.dg_mid.specs.Code.{block_at}
use Rattle.dg_mid.specs.Reads.{lasting_of}
use Rattle.dg_mid.specs.State.{Place, Find as FindOf, Way as WayOf, Tries as TriesOf, Mid, Runs as RunsOf, Fails as FailsOf, inner_for, place_of}
use Rattle.dg_mid.specs.Heights.{MidOrdered, PlacesNamed}
use Rattle.dg_mid.specs.Step.{setting, commits, cut_to, runs, step, bound, done, unified, if_agreed, goes_on, inside, trying, trying_cells, tries}
use Rattle.dg_machine.specs.Built.{OpsBuilt, IsBuilt}
use Rattle.dg_machine.specs.declared.memory.Memory.{Memory}
use Rattle.dg_machine.specs.declared.now.Now.{Now}
use Rattle.dg_machine.specs.declared.now.Now.TheVariants.{Runs, Enters, Resumes, Leaves, Misses, Fails, Ended}
use Rattle.dg_machine.specs.declared.now.Search.{Search}
use Rattle.dg_machine.specs.declared.now.Way.TheVariants.{Tries}
use Rattle.dg_machine.specs.Finding.{landed, IsLight, MissesIn, LandsAt, Tried, TriesFirst}
use Rattle.dg_machine.specs.Layout.{WayAt, Holds, Lacks, Matched, Unmatched}
use Rattle.dg_machine.specs.Links.{below}
use Rattle.dg_machine.specs.Measure.{lap, left_of, choices_left, way_left, with_way}
use Rattle.dg_machine.specs.Refs.{RefsAt}
use Rattle.dg_mid.specs.Seeking.{LeavesFirst, WaySeeks}
use Rattle.dg_machine.specs.Standing.{Stands, Falls, Around, HoldsAround}
use Rattle.dg_machine.proofs.Hands.{few, at_most_one, cut_left}
use Rattle.dg_machine.proofs.Leads.{charged_led, full_stands, was_cut}
use Rattle.dg_machine.proofs.Leaving.{unified_on, unified_off}
use Rattle.dg_machine.proofs.TermLemmas.{refs_length}
use Rattle.dg_machine.proofs.Matching.{zip_none}
use Rattle.dg_machine.proofs.Unifying.{done_unifies}

-- a choice of objects goes on
pub go_tries : (code : Code) (g : Game) (l : Limits) (m : Mid) (out : Lasting) (k : Search) (from end : ℕ) (r new : Memory) (now : Now) (on : WayOf) → WaySeeks g code on → Around out g l m → WayAt code (meaning_of r.arena) r.args.items (Tries k from end) on →
    TriesFirst code out r k from end new now → Holds code l r m → Falls code l (with_way r (Tries k from end)) Resumes new now (goes_on (setting g code l) on m)
go_tries code g l m out k from end r new now (TriesOf f objects) seeks around at tried h = tried g l m f objects seeks around at.0 at.1 h
go_tries code g l m out k from end r new now on seeks around at tried h = absurd at

-- ## Where an object is found

pub misses_all : MissesIn true Fails
misses_all code l r m ops p h = h

pub misses_one : MissesIn false Misses
misses_one code l r m ops p h = record { innermost = p; around = m.inner; is = refl; held = h }

pub lands_runs : (code : Code) (k : Search) (height : ℕ) (ops : Bor (List Op)) → IsBuilt code → ops.now ≡ block_at code k.next → k.many ≡ true → LandsAt code k height (Runs ops)
lands_runs code k height ops built is all l r m f p first many next high h =
    let same : ops.now ≡ block_at code f.next = is ∙ ap (block_at code) (sym next) in
    subst (λ b. Stands code l r (Runs ops) (RunsOf (record m { ops = block_at code f.next; inner = inner_for b p m.inner }))) (sym (many ∙ all)) ((sym same, subst OpsBuilt (sym same) (built.blocks f.next)), h)

pub lands_leaves : (code : Code) (k : Search) (height : ℕ) (all : Bor (List Op)) (rest : List Op) → IsBuilt code → all.now ≡ block_at code k.next → k.many ≡ false → all.now ≡ op.Commit ∷ rest → (l : Limits) (r : Memory) (m : Mid) (f : FindOf) (p : Place) → f.many ≡ k.many → f.next ≡ k.next → p.height ≡ height → Holds code l r m →
    ((block_at code f.next ≡ op.Commit ∷ rest) × OpsBuilt rest) × (x : HoldsAround code l r (landed code f p m)) × (x.innermost.height ≡ height)
lands_leaves code k height all rest built is one split l r m f p many next high h =
    let same : block_at code f.next ≡ op.Commit ∷ rest = ap (block_at code) next ∙ sym is ∙ split in
    let parts : OpsBuilt (op.Commit ∷ rest) = subst OpsBuilt same (built.blocks f.next) in
    ((same, parts.1), record { innermost = p; around = m.inner; is = ap (λ b. inner_for b p m.inner) (many ∙ one); held = h }, high)

-- what is set of an object, where it may be asked
pub found_here : (g : Game) (l : Limits) (m : Mid) (out : Lasting) (place k : Option ℕ) (object : ℕ) (is : Option Value) → ((o : Outline) (facts : List Fact) → StandsFor out.world o facts → may_find o.kinds k ≡ true → is ≡ found facts k object) → place ≡ k → may_find (kinds_of g.program) place ≡ true → Around out g l m → found m.lasting.facts place object ≡ is
found_here g l m out place k object is h e may w = ap (λ q. found m.lasting.facts q object) e ∙ sym (h (outline g.program out.world.area.keep) m.lasting.facts w.0.0.stands (subst (λ q. may_find (kinds_of g.program) q ≡ true) e may))

-- values without parts
pub simple_is : (x : Simple) → leaf (label_of x) ≡ simple_value x
simple_is (simple.Num n) = refl
simple_is (simple.Word n) = refl
simple_is (simple.Object n) = refl
simple_is simple.Nil = refl

is_zero : (n : ℕ) → nat_eq n 0 ≡ true → n ≡ 0
is_zero zero e = refl
is_zero (suc n) e = absurd (let no : false ≡ true = sym (eqb-suc-zero n) ∙ e in cc)

is_more : (n : ℕ) → nat_eq n 0 ≡ false → 1 ≤ n
is_more zero e = absurd (let no : true ≡ false = e in cc)
is_more (suc n) e = omega arith

no_values : (vs : List Value) → length vs ≡ 0 → vs ≡ []
no_values [] e = refl
no_values (v ∷ vs) e = absurd (omega (arith, e))

-- whether there are arguments
pub args_none : (s : Store) (rs : List Ref) (vs : List Value) (n : ℕ) (b : Bool) → RefsAt s rs vs → n ≡ length rs → b ≡ nat_eq n 0 → b ≡ true → vs ≡ []
args_none s rs vs n b at count is e = let none = is_zero n (sym is ∙ e) in let same = refs_length s rs vs at in no_values vs (omega (arith, none, same, count))

pub args_some : (s : Store) (rs : List Ref) (vs : List Value) (n : ℕ) (b : Bool) → RefsAt s rs vs → n ≡ length rs → b ≡ nat_eq n 0 → b ≡ false → 1 ≤ length vs
args_some s rs vs n b at count is e = let some = is_more n (sym is ∙ e) in let same = refs_length s rs vs at in omega (arith, some, same, count)

-- ## An object

-- what trying an object comes to
record FindsSo (args : List Value) (o : ℕ) (r : Registers) (x : Simple) (w : World) : Type 0 where
  world : World
  same : lasting_of world ≡ lasting_of w
  is : finds args o r (simple_value x) w ≡ Unifies r (zip args (leaf (Object o) ∷ simple_value x ∷ [])) world

finds_so : (args : List Value) (o : ℕ) (r : Registers) (x : Simple) (w : World) → 1 ≤ length args → FindsSo args o r x w
finds_so [] o r x w le = absurd (omega (arith, le))
finds_so (a ∷ []) o r x w le = record { world = w; same = refl; is = refl }
finds_so (a ∷ b ∷ args) o r x w le =
    let v = simple_value x in
    let world = worked (copied v) w in
    record {
      world = world;
      same = refl;
      is = ap (λ q. Unifies q ((a, leaf (Object o)) ∷ (b, copy_of v r) ∷ []) world) (behind_simple x r)
          ∙ ap (λ u. Unifies r ((a, leaf (Object o)) ∷ (b, u) ∷ []) world) (same_copy r.next_var x)
          ∙ ap (λ es. Unifies r ((a, leaf (Object o)) ∷ (b, v) ∷ es) world) (sym (zip_none args));
    }

module _ (code : Code) (g : Game) (l : Limits) (m : Mid) (f : FindOf) (p : Place) (object : ℕ) where
  abbrev lm : Mid
  lm = landed code f p m

  abbrev tried_w : World
  tried_w = begun (registers_of lm) 1 (world_of [] lm)

  -- nothing is set of it
  pub tried_none : found m.lasting.facts f.place object ≡ None → done (setting g code l) (found_at [] f object lm) lm ≡ FailsOf lm
  tried_none e = ap (λ fact. done (setting g code l) (finds_if_set f.args object (registers_of lm) fact tried_w) lm) e

  none_found : (args : List Value) (fact : Option Value) → args ≡ [] → done (setting g code l) (finds_if_set args object (registers_of lm) fact tried_w) lm ≡ FailsOf lm
  none_found args None e = refl
  none_found args (Some v) e = ap (λ vs. done (setting g code l) (finds vs object (registers_of lm) v tried_w) lm) e

  -- nothing is asked
  pub tried_nothing : f.args ≡ [] → done (setting g code l) (found_at [] f object lm) lm ≡ FailsOf lm
  tried_nothing e = none_found f.args (found m.lasting.facts f.place object) e

  -- it is unified with the arguments
  module _ (x : Simple) (is : found m.lasting.facts f.place object ≡ Some (simple_value x)) (le : 1 ≤ length f.args) where
    abbrev es : Equations
    es = zip f.args (leaf (Object object) ∷ simple_value x ∷ [])

    abbrev u : Unified
    u = solve m.state.subst es

    pub tried_is : done (setting g code l) (found_at [] f object lm) lm ≡ unified (setting g code l) u lm (RunsOf (bound u lm))
    tried_is =
        let so = finds_so f.args object (registers_of lm) x tried_w le in
        ap (λ fact. done (setting g code l) (finds_if_set f.args object (registers_of lm) fact tried_w) lm) is
        ∙ ap (λ act. done (setting g code l) act lm) so.is
        ∙ done_unifies (setting g code l) es lm so.world so.same

    pub tried_over : (new : Memory) → Unmatched l u m new → Stands code l new (Ended ending.TrailLimit) (done (setting g code l) (found_at [] f object lm) lm)
    tried_over new y = subst (Stands code l new (Ended ending.TrailLimit)) (sym (tried_is ∙ unified_off (setting g code l) u lm (RunsOf (bound u lm)) y.over)) (refl, y.roomy)

    pub tried_clash : (new : Memory) (k : Search) (b : Bool) (now : Now) → f.many ≡ k.many → b ≡ false → MissesIn k.many now → Matched code l u m new b → Stands code l new now (done (setting g code l) (found_at [] f object lm) lm)
    tried_clash new k b now many e misses y =
        let whole = tried_is ∙ unified_on (setting g code l) u lm (RunsOf (bound u lm)) y.fits ∙ ap (λ a. if_agreed a (bound u lm) (RunsOf (bound u lm))) (sym y.agrees ∙ e) in
        subst (Stands code l new now) (sym whole) (subst (λ c. Stands code l new now (FailsOf (record (bound u m) { ops = block_at code f.next; inner = inner_for c p m.inner }))) (sym many) (misses code l new (bound u m) (block_at code f.next) p y.held))

    pub tried_on : (new : Memory) (k : Search) (height : ℕ) (b : Bool) (now : Now) → b ≡ true → LandsAt code k height now → LeavesFirst code f.many f.next → f.many ≡ k.many → f.next ≡ k.next → p.height ≡ height → Matched code l u m new b → Stands code l new now (done (setting g code l) (found_at [] f object lm) lm)
    tried_on new k height b now e lands first many next high y =
        let whole = tried_is ∙ unified_on (setting g code l) u lm (RunsOf (bound u lm)) y.fits ∙ ap (λ a. if_agreed a (bound u lm) (RunsOf (bound u lm))) (sym y.agrees ∙ e) in
        subst (Stands code l new now) (sym whole) (lands l new (bound u m) f p first many next high y.held)

  -- nothing is unified
  pub tried_missed : (r : Memory) (k : Search) (now : Now) → f.many ≡ k.many → MissesIn k.many now → Holds code l r m → done (setting g code l) (found_at [] f object lm) lm ≡ FailsOf lm → Stands code l r now (done (setting g code l) (found_at [] f object lm) lm)
  tried_missed r k now many misses h is =
      subst (Stands code l r now) (sym is) (subst (λ c. Stands code l r now (FailsOf (record m { ops = block_at code f.next; inner = inner_for c p m.inner }))) (sym many) (misses code l r m (block_at code f.next) p h))

-- ## What is left

light_in : (r new : Memory) (now : Now) → choices_left new.choices.items ≡ choices_left r.choices.items → new.frame ≡ r.frame → new.inner ≡ r.inner → r.frame ≤ 500000000 → r.inner ≤ 500000000 → IsLight now → left_of new now < lap * (choices_left r.choices.items + 1)
light_in r new (Runs ops) c f i few_f few_i light = let jumps = at_most_one ops.now in omega (arith, c, f, i, few_f, few_i, jumps)
light_in r new (Leaves height ops) c f i few_f few_i light = omega (arith, c, f, i, few_f, few_i)
light_in r new Misses c f i few_f few_i light = omega (arith, c)
light_in r new Fails c f i few_f few_i light = omega (arith, c)
light_in r new (Ended e) c f i few_f few_i light = omega (arith, c)
light_in r new (Enters ops) c f i few_f few_i light = absurd light
light_in r new Resumes c f i few_f few_i light = absurd light

-- what is next is little, where no choice goes on
pub light_left : (code : Code) (l : Limits) (r new : Memory) (m : Mid) (now : Now) → Holds code l r m → new ≡ record r { arena = new.arena } → IsLight now → left_of new now < lap * (choices_left r.choices.items + 1)
light_left code l r new m now h same light =
    let small = few code l r m h in
    light_in r new now (ap (λ (x : Memory). choices_left x.choices.items) same) (ap (λ (x : Memory). x.frame) same) (ap (λ (x : Memory). x.inner) same) small.frame small.inner light

-- ## The first of some objects

module _ (code : Code) (g : Game) (l : Limits) (m : Mid) (k : Search) (from end : ℕ) (f : FindOf) (objects : List ℕ) (r : Memory) (h : Holds code l r m) (is : objects ≡ counted from (end - from)) where
  -- none is left
  pub first_none : end ≤ from → Falls code l (with_way r (Tries k from end)) Resumes r Fails (tries (setting g code l) f objects m)
  first_none le = subst (λ os. Falls code l (with_way r (Tries k from end)) Resumes r Fails (tries (setting g code l) f os m)) (sym (is ∙ counted_none from end le)) (record { stands = h; falls = omega arith })

  others_are : from < end → objects ≡ from ∷ counted (from + 1) (end - (from + 1))
  others_are lt = is ∙ counted_first from end lt

  -- it is the last one
  pub first_last : (new : Memory) (now : Now) → from < end → end ≤ from + 1 → Tried code l r new now (done (setting g code l) (found_at [] f from (trying (setting g code l) f [] m)) (trying (setting g code l) f [] m)) → Falls code l (with_way r (Tries k from end)) Resumes new now (tries (setting g code l) f objects m)
  first_last new now lt le t =
      let falls = t.falls in
      subst (λ os. Falls code l (with_way r (Tries k from end)) Resumes new now (tries (setting g code l) f os m)) (sym (others_are lt ∙ ap (λ os. from ∷ os) (counted_none (from + 1) end le)))
      (record { stands = t.stands; falls = omega (arith, falls, lt) })

  -- others are left
  abbrev rest : List ℕ
  rest = counted (from + 1) (end - (from + 1))

  abbrev on : WayOf
  on = TriesOf f rest

  some_left : from + 1 < end → (x : ℕ) × (xs : List ℕ) × (rest ≡ x ∷ xs)
  some_left lt = (from + 1, counted (from + 1 + 1) (end - (from + 1 + 1)), counted_first (from + 1) end lt)

  tries_some : (xs : List ℕ) (x : ℕ) (ys : List ℕ) → xs ≡ x ∷ ys → (trying (setting g code l) f xs m ≡ landed code f (place_of m) (inside (TriesOf f xs) (length f.args) m)) × (trying_cells f xs ≡ 10 + length f.args)
  tries_some xs x ys e = (ap (λ zs. trying (setting g code l) f zs m) e ∙ sym (ap (λ zs. landed code f (place_of m) (inside (TriesOf f zs) (length f.args) m)) e), ap (trying_cells f) e)

  module _ (lt : from + 1 < end) where
    parts : (trying (setting g code l) f rest m ≡ landed code f (place_of m) (inside (TriesOf f rest) (length f.args) m)) × (trying_cells f rest ≡ 10 + length f.args)
    parts = let made = some_left lt in tries_some rest made.0 made.1 made.2

    pub first_full : (new : Memory) → Lacks (10 + length f.args) l m.state.heap new → Falls code l (with_way r (Tries k from end)) Resumes new (Ended ending.HeapLimit) (tries (setting g code l) f objects m)
    first_full new over =
        let m' = trying (setting g code l) f rest m in
        subst (λ os. Falls code l (with_way r (Tries k from end)) Resumes new (Ended ending.HeapLimit) (tries (setting g code l) f os m)) (sym (others_are (omega (arith, lt))))
        (record {
          stands = full_stands code g l (trying_cells f rest) m (done (setting g code l) (found_at [] f from m') m') r new h (subst (λ n. Lacks n l m.state.heap new) (sym parts.1) over);
          falls = omega arith;
        })

    pub first_others : (mid new : Memory) (now : Now) → Holds code l mid (inside on (length f.args) m) → choices_left mid.choices.items ≡ choices_left r.choices.items + way_left (Tries k (from + 1) end) →
        Tried code l mid new now (done (setting g code l) (found_at [] f from (landed code f (place_of m) (inside on (length f.args) m))) (landed code f (place_of m) (inside on (length f.args) m))) → Falls code l (with_way r (Tries k from end)) Resumes new now (tries (setting g code l) f objects m)
    first_others mid new now held left t =
        let m1 = landed code f (place_of m) (inside on (length f.args) m) in
        let stands : Stands code l new now (done (setting g code l) (found_at [] f from (trying (setting g code l) f rest m)) (trying (setting g code l) f rest m)) = subst (λ x. Stands code l new now (done (setting g code l) (found_at [] f from x) x)) (sym parts.0) t.stands in
        let falls = t.falls in
        subst (λ os. Falls code l (with_way r (Tries k from end)) Resumes new now (tries (setting g code l) f os m)) (sym (others_are (omega (arith, lt))))
        (record {
          stands = charged_led code g l (trying_cells f rest) m (inside on (length f.args) m) _ mid new now held (ap (λ n. m.state.heap + n) (sym parts.1)) stands;
          falls = omega (arith, falls, left, lt);
        })

-- ## A construct that isn't kept

pub left_out : (code : Code) (g : Game) (l : Limits) (m : Mid) (height : ℕ) (ops : Bor (List Op)) (r new : Memory) → MidOrdered m → Stands code l r (Leaves height ops) (RunsOf m) → reverse new.choices.items ≡ below height (reverse r.choices.items) → vec_capacity new.choices ≡ vec_capacity r.choices → length new.choices.items ≤ length r.choices.items → new ≡ record r { choices = new.choices } →
    Falls code l r (Leaves height ops) new (Runs ops) (step (setting g code l) (RunsOf m))
left_out code g l m height ops r new o h left capacity fewer same =
    let x = h.1 in
    let p = x.innermost in
    let m1 = record m { ops = ops.now; inner = x.around } in
    let named_all : PlacesNamed m.next_tag m.state.heap m.choices (p ∷ x.around) = subst (PlacesNamed m.next_tag m.state.heap m.choices) x.is o.named.inner_are in
    let cut : Holds code l new (cut_to p m1) = was_cut code l m1 p height r new x.held h.2 named_all.0.agrees left capacity fewer same in
    let less = cut_left height r.choices.items new.choices.items left in
    let frame = ap (λ (y : Memory). y.frame) same in
    let inner = ap (λ (y : Memory). y.inner) same in
    let jumps = at_most_one ops.now in
    record {
      stands = subst (λ xs. Stands code l new (Runs ops) (runs (setting g code l) xs m)) (sym h.0.0) (subst (λ ps. Stands code l new (Runs ops) (commits ps (record m { ops = ops.now }))) (sym x.is) ((refl, h.0.1), cut));
      falls = omega (arith, less, frame, inner, jumps);
    }
