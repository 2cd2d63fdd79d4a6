-- What the taking out of a gathering comes to.
use Rattle.std.proofs.Common.{◌≡◌, ℕ, suc, ◌-◌, ◌<◌, List, [], ◌∷◌, Option, Some, None, refl, sym, ap, ◌∙◌, subst, arith, length, map}
use Rattle.std.specs.Prelude.{slice_get, drop}
use Rattle.std.proofs.lemmas.List.{length-map}
use Rattle.std.specs.List.{All, flat_map}
use Rattle.dg_base.specs.declared.cells.Cell.{Cell}
use Rattle.dg_base.specs.declared.run.Limits.{Limits}
use Rattle.dg_meaning.specs.Moves.{begun, gives_number}
use Rattle.dg_meaning.specs.Numbers.{total}
use Rattle.dg_meaning.specs.inside.Unify.{unify}
use Rattle.dg_meaning.specs.Values.{Value, Num, leaf}
use Rattle.dg_meaning.specs.ValueCells.{cells_of}
use Rattle.dg_meaning.specs.World.{Game, World, Gathering}
use Rattle.dg_lists.specs.Formed.{IsFormed}
use Rattle.dg_lasting.specs.Lasting.{row_of, Closes}
use Rattle.dg_lasting.specs.declared.lasting.Lasting.{Lasting}
use Rattle.dg_mid.specs.declared.code.Code.{Code}
use Rattle.dg_mid.specs.declared.code.Op.{Op}
use Rattle.dg_mid.specs.Code.{block_at}
use Rattle.dg_arena.specs.Held.{meaning_of}
use Rattle.dg_mid.specs.declared.code.Gathered.{Gathered}
use Rattle.dg_mid.specs.declared.code.Gathered.TheVariants.{Sum}
use Rattle.dg_mid.specs.Actions.{registers_of, world_of}
use Rattle.dg_mid.specs.State.{Mid, Status, Runs as RunsOf, Way as WayOf, Takes as TakesOf}
use Rattle.dg_mid.specs.Step.{setting, passed, bound, done, unified, takes_newest, takes, goes_on}
use Rattle.dg_machine.specs.declared.now.Now.{Now}
use Rattle.dg_machine.specs.declared.now.Now.TheVariants.{Runs, Fails, Ended, Resumes}
use Rattle.dg_machine.specs.declared.now.Way.TheVariants.{Takes}
use Rattle.dg_machine.specs.declared.memory.Memory.{Memory}
use Rattle.dg_machine.specs.Measure.{left_of, choices_left, with_way}
use Rattle.dg_arena.specs.declared.arena.Arena.{Arena}
use Rattle.dg_machine.specs.Refs.{Stays}
use Rattle.dg_machine.specs.Built.{IsBuilt}
use Rattle.dg_machine.specs.Layout.{WayAt, Holds}
use Rattle.dg_machine.specs.Standing.{Around, Stands, FallsWith, TakesOut}
use Rattle.dg_machine.proofs.Compares.{gives_none, gives_some}
use Rattle.dg_machine.proofs.Gatherings.{gathered_held}
use Rattle.dg_machine.proofs.Hands.{few, at_most_one}
use Rattle.dg_machine.proofs.Opens.{on_arena}
use Rattle.dg_machine.proofs.Lasting.{has_lasting, has_unifies}

-- ## What falls

-- what goes on so where a choice takes a gathering out has less left
abbrev pub GoesLate : Now → Type 0
GoesLate (Runs ops) = Unit {0}
GoesLate Fails = Unit {0}
GoesLate (Ended e) = Unit {0}
GoesLate now = ⊥

pub late_falls : (code : Code) (l : Limits) (b : ℕ) (old new : Memory) (now : Now) (s : Status) → GoesLate now → Stands code l new now s → choices_left new.choices.items ≡ choices_left old.choices.items → left_of new now < left_of (with_way old (Takes b)) Resumes
late_falls code l b old new (Runs ops) (RunsOf m) late h same =
    let bounds = few code l new m h.1 in
    let frame = bounds.frame in
    let inner = bounds.inner in
    let jumps = at_most_one ops.now in
    omega (arith, same, frame, inner, jumps)
late_falls code l b old new (Runs ops) s late h same = absurd h
late_falls code l b old new Fails s late h same = omega (arith, same)
late_falls code l b old new (Ended e) s late h same = omega arith
late_falls code l b old new now s late h same = absurd late

-- ## The newest gathering

-- what is at the front is the newest gathering, without which these are open
pub record NewestIs (rows : List (List Cell)) (cells : List Cell) (gs : List Gathering) : Type 0 where
  pub newest : Gathering
  pub others : List Gathering
  pub is : gs ≡ newest ∷ others
  pub cells_are : cells ≡ flat_map cells_of newest.values
  pub formed : All IsFormed newest.values

front_of : (rows : List (List Cell)) (cells : List Cell) (gs : List Gathering) → slice_get rows 0 ≡ Some cells → rows ≡ map row_of gs → All (λ (x : Gathering). All IsFormed x.values) gs → NewestIs rows cells gs
front_of rows cells [] first are formed = let none : None ≡ Some cells = sym (ap (λ l. slice_get l 0) are) ∙ first in absurd (cc)
front_of rows cells (x ∷ xs) first are formed = record {
  newest = x;
  others = xs;
  is = refl;
  cells_are = let same : Some cells ≡ Some (row_of x) = sym first ∙ ap (λ l. slice_get l 0) are in cc;
  formed = formed 0 x (omega arith);
}

pub newest_in : (out : Lasting) (g : Game) (l : Limits) (m : Mid) (cells : List Cell) → slice_get out.gathered.rows 0 ≡ Some cells → Around out g l m → NewestIs out.gathered.rows cells m.gathered
newest_in out g l m cells first w = front_of out.gathered.rows cells m.gathered first w.0.1.0 w.0.1.1

none_in : (rows : List (List Cell)) (gs : List Gathering) → rows ≡ [] → rows ≡ map row_of gs → gs ≡ []
none_in rows [] e are = refl
none_in rows (x ∷ xs) e are = let none : 0 ≡ suc (length (map row_of xs)) = ap length (sym e ∙ are) in absurd (omega (arith, none))

pub some_row : (rows : List (List Cell)) (cells : List Cell) → slice_get rows 0 ≡ Some cells → 0 < length rows
some_row [] cells h = cc
some_row (row ∷ rows) cells h = omega arith

-- where none is open it fails
pub takes_none : (code : Code) (g : Game) (l : Limits) (m : Mid) (whole : Gathered) (into : Value) (b : ℕ) (r : Memory) (out : Lasting) → out.gathered.rows ≡ [] → Holds code l r m → Around out g l m → FallsWith code g l (with_way r (Takes b)) Resumes r Fails out (takes_newest (setting g code l) whole into m.gathered m)
takes_none code g l m whole into b r out none h w =
    subst (λ gs. FallsWith code g l (with_way r (Takes b)) Resumes r Fails out (takes_newest (setting g code l) whole into gs m)) (sym (none_in out.gathered.rows m.gathered none w.0.1.0))
    (record { done = record { stands = h; falls = omega arith }; lasting = w })

-- the newest is dropped
module _ (code : Code) (g : Game) (l : Limits) (m : Mid) (r : Memory) (out out' : Lasting) (cells : List Cell) (height : ℕ) (first : slice_get out.gathered.rows 0 ≡ Some cells) (count : height ≡ length out.gathered.rows - 1) (closes : Closes height out out') (h : Holds code l r m) (w : Around out g l m) where
  abbrev pub x : NewestIs out.gathered.rows cells m.gathered
  x = newest_in out g l m cells first w

  abbrev pub left_m : Mid
  left_m = passed (record m { gathered = x.others })

  pub many : length x.others ≡ height
  many =
      let rows = ap length w.0.1.0 in
      let each = length-map m.gathered row_of in
      let all = ap length x.is in
      omega (arith, rows, each, all, count)

  pub left_held : Holds code l (record r { gathered = height }) left_m
  left_held = gathered_held code l m x.others r height h many

  -- the same behind a value that was made
  pub made_held : (a : Arena) → Stays r.arena a → Holds code l (record r { arena = a; gathered = height }) left_m
  made_held a stays = on_arena code l left_m left_m.state (record r { gathered = height }) a left_held stays.keeps.kept stays.keeps.saved (stays.state ∙ h.0.state_is) (omega arith)

  pub left_around : Around out' g l left_m
  left_around = (
    closes.stands g (world_of [] m) (world_of [] left_m) w.0 (record { count = 1; is = ap (λ gs. record (world_of [] m) { gathered = drop 1 gs }) (sym x.is) }) many,
    ap (λ (o : Lasting). o.world.area.keep) closes.is ∙ w.1,
    ap (λ (o : Lasting). o.gathered.aux) closes.is ∙ w.2,
  )

  pub takes_is : (whole : Gathered) (into : Value) → takes_newest (setting g code l) whole into m.gathered m ≡ takes_newest (setting g code l) whole into (x.newest ∷ x.others) m
  takes_is whole into = ap (λ gs. takes_newest (setting g code l) whole into gs m) x.is

  -- ## As a sum

  abbrev pub summed : World
  summed = begun (registers_of left_m) (length x.newest.values) (world_of [] left_m)

  pub total_is : (o : Option ℕ) → ((vs : List Value) → cells ≡ flat_map cells_of vs → All IsFormed vs → o ≡ total vs) → o ≡ total x.newest.values
  total_is o sums = sums x.newest.values x.cells_are x.formed

  module _ (b : ℕ) (into : Value) where
    pub sum_none : None ≡ total x.newest.values → FallsWith code g l (with_way r (Takes b)) Resumes (record r { gathered = height }) Fails out' (takes_newest (setting g code l) Sum into m.gathered m)
    sum_none none =
        subst (FallsWith code g l (with_way r (Takes b)) Resumes (record r { gathered = height }) Fails out') (sym (takes_is Sum into ∙ gives_none (setting g code l) into left_m summed refl (total x.newest.values) none))
        (record { done = record { stands = left_held; falls = omega arith }; lasting = left_around })

    pub sum_some : (n : ℕ) (new : Memory) (now : Now) → Some n ≡ total x.newest.values → GoesLate now → choices_left new.choices.items ≡ choices_left r.choices.items →
        Stands code l new now (unified (setting g code l) (unify left_m.state.subst into (leaf (Num n))) left_m (RunsOf (bound (unify left_m.state.subst into (leaf (Num n))) left_m))) → FallsWith code g l (with_way r (Takes b)) Resumes new now out' (takes_newest (setting g code l) Sum into m.gathered m)
    sum_some n new now some late same stands =
        let set = setting g code l in
        let u = unify left_m.state.subst into (leaf (Num n)) in
        let s = done set (gives_number (Some n) into (registers_of left_m) summed) left_m in
        let is : s ≡ unified set u left_m (RunsOf (bound u left_m)) = gives_some set into left_m summed refl (Some n) n refl in
        let there : Stands code l new now s = subst (Stands code l new now) (sym is) stands in
        subst (FallsWith code g l (with_way r (Takes b)) Resumes new now out') (sym (takes_is Sum into ∙ ap (λ o. done set (gives_number o into (registers_of left_m) summed) left_m) (sym some))) (record {
          done = record { stands = there; falls = late_falls code l b r new now s late there same };
          lasting = has_lasting out' g l left_m s (has_unifies left_m.lasting left_m.gathered set (registers_of left_m) ((into, leaf (Num n)) ∷ []) summed left_m refl refl) left_around;
        })

-- ## The choice goes on

pub goes_takes : (code : Code) (g : Game) (l : Limits) (m : Mid) (b : ℕ) (r new : Memory) (now : Now) (out out' : Lasting) (ops : List Op) (on : WayOf) → WayAt code (meaning_of r.arena) r.args.items (Takes b) on → IsBuilt code → ops ≡ block_at code b → TakesOut code b r out ops new now out' → Holds code l r m → Around out g l m →
    FallsWith code g l (with_way r (Takes b)) Resumes new now out' (goes_on (setting g code l) on m)
goes_takes code g l m b r new now out out' ops (TakesOf b' into) at built is out_of h w =
    subst (λ xs. FallsWith code g l (with_way r (Takes b)) Resumes new now out' (takes (setting g code l) into xs m)) (is ∙ ap (block_at code) (sym at.0)) (out_of g l m into built is (refl, at.1, at.2) h w)
goes_takes code g l m b r new now out out' ops on at built is out_of h w = absurd at
