-- What asking comes to.
use Rattle.std.proofs.Common.{◌≡◌, ℕ, ◌-◌, ◌<◌, ◌≤◌, inl, inr, List, [], ◌∷◌, Option, Some, None, Bool, true, false, ◌++◌, refl, sym, ap, ◌∙◌, subst, arith, length}
use Rattle.std.specs.Prelude.{◌⊎◌, if◌then◌else◌}
use Rattle.std.specs.Option.{option_map}
use Rattle.std.specs.List.{All}
use Rattle.std.proofs.lemmas.List.{append-nil}
use Rattle.std.proofs.lemmas.List.Elements.{All-append}
use Rattle.dg_base.specs.declared.cells.Simple.{Simple}
use Rattle.dg_base.specs.declared.cells.Simple.TheVariants as simple
use Rattle.dg_base.specs.declared.program.CoreProgram.{CoreProgram}
use Rattle.dg_base.specs.declared.program.Goal.{Goal}
use Rattle.dg_base.specs.declared.program.Goal.TheVariants.{Ask, Now, outs-Ask, outs-Now}
use Rattle.dg_base.specs.declared.program.Goal.TheOpen.{Ask as AskForm, Now as NowForm}
use Rattle.dg_base.specs.declared.program.Place.{Place}
use Rattle.dg_base.specs.declared.program.Term.{Term}
use Rattle.dg_base.specs.declared.run.Ending.{Ending}
use Rattle.dg_base.specs.declared.run.Ending.TheVariants.{Done, Failed, StepLimit}
use Rattle.dg_base.specs.declared.run.Limits.{Limits}
use Rattle.dg_base.specs.Goals.{goals_within, all_goals_of}
use Rattle.dg_base.specs.Sound.{FirstIsParent}
use Rattle.dg_meaning.specs.Facts.{Fact, value_at}
use Rattle.dg_meaning.specs.Initial.{Question, Initial, TooLong, Unset, IsSet, HasValue, Other, IsInitial, IsTooLong, HasAnswer, object_terms, value_terms, terms_in, asked, put, asking_game, run_on, first_run, second_run, value_put}
use Rattle.dg_meaning.specs.Peaks.{Heap}
use Rattle.dg_meaning.specs.Search.{search}
use Rattle.dg_meaning.specs.Transcript.{Run, run_of, start_world, asking_path}
use Rattle.dg_meaning.specs.World.{Game}
use Rattle.dg_lasting.specs.Lasting.{outline}
use Rattle.dg_world.specs.Tables.{Outline, HasObjects, simple_value}
use Rattle.dg_world.specs.Worlds.{StandsFor}
use Rattle.dg_world.specs.declared.world.World.{World as FactsWorld}
use Rattle.dg_interp.specs.declared.engine.Engine.{Engine}
use Rattle.dg_interp.specs.declared.seeking.Sought.{Sought}
use Rattle.dg_interp.specs.declared.seeking.Sought.TheVariants as sought
use Rattle.dg_interp.specs.Asking.{HasAnswers, question, value_of_simple}
use Rattle.dg_interp.specs.Runnable.{IsRunnableGoal, AreRunnable}
use Rattle.dg_interp.specs.inside.Engine.{StartsOn}
use Rattle.dg_interp.specs.inside.Seeking.{heap_limit_in, Each, Ended, IsSought}
use Rattle.dg_interp.proofs.RunnableLemmas.{all_none, runnable_from}

-- ## Goals

pub query_runnable : (pred : ℕ) (terms : List Term) (many : Bool) → AreRunnable (Ask pred terms many ∷ [])
query_runnable pred terms many = runnable_from (Ask pred terms many) (AskForm pred terms many) (outs-Ask pred terms many) tt (all_none IsRunnableGoal)

pub change_runnable : (place : ℕ) (terms : List Term) (sets : Bool) → AreRunnable (Now place terms sets ∷ [])
change_runnable place terms sets = runnable_from (Now place terms sets) (NowForm place terms sets) (outs-Now place terms sets) tt (all_none IsRunnableGoal)

-- one goal behind another
pub both_runnable : (x y : Goal) → AreRunnable (x ∷ []) → AreRunnable (y ∷ []) → AreRunnable (x ∷ y ∷ [])
both_runnable x y h k = All-append IsRunnableGoal (goals_within x) (all_goals_of (y ∷ [])) (subst (All IsRunnableGoal) (append-nil (goals_within x)) h) k

-- ## A search

module _ (program : CoreProgram) (goals : List Goal) (value : Bool) (limits : Limits) (e : Engine) (starts : StartsOn program goals (if value then 1 else 0) limits (0 ∷ []) e) where
  abbrev g : Game
  g = asking_game program

  -- the run with so many new variables and goals
  abbrev run_with : ℕ → ℕ → Run
  run_with own n = run_of (search g n (asking_path goals own) (start_world g []))

  pub search_came : (found : Sought) (world : FactsWorld) → Each e (λ g run. IsSought found (heap_limit_in e) world g.program run) → (q : Question) → q.value ≡ value → IsSought found limits.heap world program (run_on program q goals limits.steps)
  search_came found world each q same =
      subst (λ v. IsSought found limits.heap world program (run_with (if v then 1 else 0) limits.steps)) (sym same)
      (subst (λ n. IsSought found limits.heap world program (run_with (if value then 1 else 0) n)) starts.left
      (subst (λ h. IsSought found h world program (run_with (if value then 1 else 0) e.left)) (starts.limits_are Heap)
      (each g (start_world g []) (run_with (if value then 1 else 0) e.left) (starts.stands g e.left [] refl refl))))

-- ## The last place

some_place : (places : List Place) → FirstIsParent places → 0 < length places
some_place [] h = absurd h
some_place (p ∷ places) h = omega arith

pub last_there : (places : List Place) → FirstIsParent places → 1 ≤ length places
last_there places h = let some = some_place places h in omega (arith, some)

-- a value without parts is the same value in a slot
same_value : (s : Simple) → value_of_simple s ≡ simple_value s
same_value (simple.Num n) = refl
same_value (simple.Word n) = refl
same_value (simple.Object n) = refl
same_value simple.Nil = refl

pub same_values : (o : Option Simple) → option_map value_of_simple o ≡ option_map simple_value o
same_values None = refl
same_values (Some s) = ap Some (same_value s)

-- what stands at the last place once a search has ended
module _ (program : CoreProgram) (last : HasAnswers program) (world : FactsWorld) (object : ℕ) (came : Option Simple)
    (is : (o : Outline) (facts : List Fact) → StandsFor world o facts → HasObjects o (length program.places - 1) → option_map simple_value came ≡ value_at facts (length program.places - 1) object) where
  last_value : (found : Sought) (limit : ℕ) (run : Run) → (found ≡ sought.Answered) ⊎ (found ≡ sought.Unanswered) → IsSought found limit world program run → option_map value_of_simple came ≡ value_at run.world.facts (length program.places - 1) object
  last_value sought.Answered limit run other h = same_values came ∙ is (outline program world.area.keep) run.world.facts h.stands (inr (inl last))
  last_value sought.Unanswered limit run other h = same_values came ∙ is (outline program world.area.keep) run.world.facts h.stands (inr (inl last))
  last_value sought.TooLong limit run (inl e) h = absurd (cc e)
  last_value sought.TooLong limit run (inr e) h = absurd (cc e)

-- what stands there once a query and a change behind it were searched
pub value_came : (program : CoreProgram) (pred place thing limit : ℕ) (object : Option ℕ) (t1 t2 : List Term) (world : FactsWorld) (came : Option Simple) (found : Sought) → HasAnswers program → place ≡ length program.places - 1 → object ≡ Some thing → t1 ≡ object_terms (Some thing) ++ value_terms true → t2 ≡ object_terms (Some thing) ++ value_terms true →
    ((o : Outline) (facts : List Fact) → StandsFor world o facts → HasObjects o place → option_map simple_value came ≡ value_at facts place thing) → (found ≡ sought.Answered) ⊎ (found ≡ sought.Unanswered) → IsSought found limit world program (run_on program (question pred object true) (Ask pred t1 false ∷ Now place t2 true ∷ []) 10001) →
    option_map value_of_simple came ≡ value_put program (question pred object true) object
value_came program pred place thing limit object t1 t2 world came found last place_is object_is e1 e2 is other h =
    let q = question pred object true in
    let same : object_terms (Some thing) ++ value_terms true ≡ terms_in q = ap (λ o. object_terms o ++ value_terms true) (sym object_is) in
    let goals : Ask pred t1 false ∷ Now place t2 true ∷ [] ≡ asked q ∷ put program q ∷ [] =
    ap (λ t. Ask pred t false ∷ Now place t2 true ∷ []) (e1 ∙ same) ∙ ap (λ t. asked q ∷ Now place t true ∷ []) (e2 ∙ same) ∙ ap (λ p. asked q ∷ Now p (terms_in q) true ∷ []) place_is in
    let there = subst (λ p. (o : Outline) (facts : List Fact) → StandsFor world o facts → HasObjects o p → option_map simple_value came ≡ value_at facts p thing) place_is is in
    subst (λ o. option_map value_of_simple came ≡ value_put program q o) (sym object_is)
    (last_value program last world thing came there found limit (second_run program q) other (subst (λ gs. IsSought found limit world program (run_on program q gs 10001)) goals h))

-- ## What a place starts with

-- a search that has ended within its limits takes not too long
ended_soon : (ending : Ending) (world : FactsWorld) (program : CoreProgram) (run : Run) → (ending ≡ StepLimit → ⊥) → Ended ending 1000000 world program run → IsTooLong run → ⊥
ended_soon ending world program run other h (inl e) = other (sym h.is ∙ e)
ended_soon ending world program run other h (inr more) = absurd (omega (arith, h.within, more))

-- what a value says, or none
abbrev pub come_of : Option Simple → Initial
come_of None = Other
come_of (Some s) = HasValue (value_of_simple s)

module _ (program : CoreProgram) (pred : ℕ) (object : Option ℕ) (value : Bool) (terms : List Term) (are : terms ≡ object_terms object ++ value_terms value) (world : FactsWorld) where
  abbrev q : Question
  q = question pred object value

  -- the first search
  abbrev First : Sought → Type 0
  First found = IsSought found 1000000 world program (run_on program q (Ask pred terms false ∷ []) 10000)

  first_is : (found : Sought) → First found → IsSought found 1000000 world program (first_run program q)
  first_is found h = subst (λ t. IsSought found 1000000 world program (run_on program q (Ask pred t false ∷ []) 10000)) are h

  pub too_long : (found : Sought) → found ≡ sought.TooLong → First found → IsInitial program q TooLong
  too_long found is h = subst (λ s. IsSought s 1000000 world program (first_run program q)) is (first_is found h)

  pub not_set : (found : Sought) → found ≡ sought.Unanswered → First found → IsInitial program q Unset
  not_set found is h =
      let e = subst (λ s. IsSought s 1000000 world program (first_run program q)) is (first_is found h) in (
        ended_soon Failed world program (first_run program q) (λ k. cc k) e,
        λ done. absurd (let no : Failed ≡ Done = sym e.is ∙ done in cc no),
      )

  module _ (found : Sought) (is : found ≡ sought.Answered) (h : First found) where
    answered : Ended Done 1000000 world program (first_run program q)
    answered = subst (λ s. IsSought s 1000000 world program (first_run program q)) is (first_is found h)

    soon : IsTooLong (first_run program q) → ⊥
    soon = ended_soon Done world program (first_run program q) (λ k. cc k) answered

    put_so : (came : Option Simple) → value ≡ true → option_map value_of_simple came ≡ value_put program (question pred object true) object → option_map value_of_simple came ≡ value_put program q object
    put_so came some is = subst (λ v. option_map value_of_simple came ≡ value_put program (question pred object v) object) (sym some) is

    pub is_set : value ≡ false → IsInitial program q IsSet
    is_set none = (soon, (answered.is, none))

    -- the value that a variable has, or another
    pub has_come : (came : Option Simple) → value ≡ true → option_map value_of_simple came ≡ value_put program (question pred object true) object → IsInitial program q (come_of came)
    has_come None some is = (soon, (answered.is, some, sym (put_so None some is)))
    has_come (Some s) some is = (soon, (answered.is, some, sym (put_so (Some s) some is)))
