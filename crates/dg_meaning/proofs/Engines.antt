-- What each engine needs to keep what it promises.
use Rattle.std.proofs.Common.{◌≡◌, ℕ, ◌<◌, List, [], Option, Some, None, refl, sym, ap, subst, arith}
use Rattle.dg_base.specs.declared.program.CoreProgram.{CoreProgram}
use Rattle.dg_base.specs.declared.run.Ending.TheVariants.{KeepLimit}
use Rattle.dg_base.specs.declared.run.Limits.{Limits}
use Rattle.dg_base.specs.Streams.{SourceView}
use Rattle.dg_meaning.specs.Engines.{game, told_behind, left_told}
use Rattle.dg_meaning.specs.inside.Engines.{ForTyped}
use Rattle.dg_meaning.specs.Facts.{kinds_of, kept_size, start_facts}
use Rattle.dg_base.specs.Begins.{Begins, EndsWith}
use Rattle.dg_meaning.specs.Peaks.{Keep}
use Rattle.dg_meaning.specs.Search.{search}
use Rattle.dg_meaning.specs.Shows.{IsLeft, LeftBetween, ShowsLimit, ShowsNoMemory}
use Rattle.dg_meaning.specs.Transcript.{run, start_world, line_of, no_memory_line, closed}
use Rattle.dg_meaning.specs.World.{Game, World}
use Rattle.dg_meaning.proofs.Limits.{later_run, limit_covers}

-- ## Typed bytes

-- what is left is what is told of it
pub as_told : (i j : SourceView) (typed : List ℕ) → IsLeft j.left typed → IsLeft (left_told i j) typed
as_told i j typed h = here i.left h where
  here : (told : Option (List ℕ)) → IsLeft j.left typed → IsLeft (told_behind told j.left) typed
  here None h = tt
  here (Some bytes) h = h

-- what a source has left, as far as it tells, or nothing
pub some_left : (told : Option (List ℕ)) → (rest : List ℕ) × IsLeft told rest
some_left None = ([], tt)
some_left (Some rest) = (rest, refl)

-- what holds of bytes that may be those that are typed
pub for_given : (told : Option (List ℕ)) (typed : List ℕ) (P : List ℕ → Type 0) → IsLeft told typed → P typed → ForTyped told P
for_given None typed P is p = (typed, p)
for_given (Some t) typed P is p = subst P (sym is) p

-- for the typed bytes that are told, or for none
pub for_typed : (told : Option (List ℕ)) (P : List ℕ → Type 0) → ((typed : List ℕ) → IsLeft told typed → P typed) → ForTyped told P
for_typed None P f = ([], f [] tt)
for_typed (Some typed) P f = f typed refl

-- nothing is taken before the first goal
pub nothing_taken : (g : Game) (typed : List ℕ) → (run g typed 0).world ≡ start_world g typed
unfolding run search
nothing_taken g typed = refl

-- ## The start

module _ (program : CoreProgram) (limits : Limits) (dice typed : List ℕ) (told : Option (List ℕ)) (is : IsLeft told typed) where
  abbrev the_game : Game
  the_game = game program dice

  -- before the first goal all is left
  all_left : (n : ℕ) → LeftBetween the_game typed 0 n told
  all_left n =
      let none : (run the_game typed 0).world.typed ≡ typed = ap (λ (w : World). w.typed) (nothing_taken the_game typed) in
      record {
        rest = typed;
        left_is = is;
        since = record { taken = []; is = none };
        until = subst (λ l. EndsWith l (run the_game typed n).world.typed) none (later_run the_game typed 0 n (omega arith)).typed;
      }

  -- more starts kept than may be
  pub start_shows : limits.keep < kept_size (kinds_of program) (start_facts program.places) → ShowsLimit the_game typed limits (closed [] (line_of KeepLimit)) (record { ending = KeepLimit; goals = 0 }) told
  start_shows over =
      let events : (run the_game typed 0).world.events ≡ [] = ap (λ (w : World). w.events) (nothing_taken the_game typed) in
      let passed : limits.keep < (run the_game typed 0).world.meters.keep = subst (λ (w : World). limits.keep < w.meters.keep) (sym (nothing_taken the_game typed)) over in
      let since : Begins (run the_game typed 0).world.events [] = subst (λ l. Begins l []) (sym events) (record { behind = []; is = refl }) in
      record {
        begins = λ some. absurd (omega (arith, some));
        area = Keep;
        ending = refl;
        goals = omega arith;
        passed = passed;
        part = [];
        text = refl;
        until = record { behind = (run the_game typed 0).world.events; is = refl };
        since = since;
        none_before_the_first = λ none. refl;
        input = all_left 0;
        covers = λ n le within. limit_covers the_game typed limits Keep 0 [] passed since n within;
      }

  -- memory ran out before the first goal
  pub start_forgets : ShowsNoMemory the_game typed limits (closed [] no_memory_line) told
  start_forgets = record {
    part = [];
    text = refl;
    until = record { behind = (run the_game typed limits.steps).world.events; is = refl };
    input = all_left limits.steps;
  }
