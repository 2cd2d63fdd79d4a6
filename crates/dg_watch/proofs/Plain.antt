-- A sink that is shown the bytes of a run alone.
use Rattle.std.proofs.Common.{◌≡◌, ℕ, ◌≤◌, List, [], ◌∷◌, Option, Some, None, refl, sym, ap, ◌∙◌, subst, arith, length, take, length-take}
use Rattle.std.specs.Prelude.{Result, Ok, Err}
use Rattle.std.specs.Io.KnownBytes.{Keeps, Appends, WriteAppends}
use Rattle.std.proofs.lemmas.List.{append-nil}
use Rattle.dg_base.specs.Streams.{TakesPart, RoomFalls, TakesWithinRoom}
use Rattle.dg_base.specs.Written.{SinkView, FallsBy, IsOver, Wrote}
use Rattle.dg_base.proofs.WrittenLemmas.{falls}
use Rattle.dg_watch.specs.Told.{took, taken}
use Rattle.dg_watch.specs.Watching.{Puts}
use Rattle.dg_watch.specs.Plainly.{calm, plainly}

pub taken_took : (bytes : List ℕ) → taken (took bytes) ≡ bytes
taken_took [] = refl
taken_took (b ∷ bytes) = ap (λ l. b ∷ l) (taken_took bytes)

keeps_none : (old new : Option (List ℕ)) → Keeps old new → Appends old new []
keeps_none None new k = tt
keeps_none (Some old) None k = absurd k
keeps_none (Some old) (Some new) k = k ∙ sym (append-nil old)

same_room : {E : Type 0} (old new : Option ℕ) (e : E) → RoomFalls old new (Err e) → FallsBy old new 0
same_room None new e h = tt
same_room (Some old) None e h = absurd h
same_room (Some old) (Some new) e h = omega (arith, h)

appends_same : (old : Option (List ℕ)) → Appends old old []
appends_same None = tt
appends_same (Some old) = sym (append-nil old)

over : {E : Type 0} (room : Option ℕ) (piece : List ℕ) (e : E) → TakesWithinRoom room piece (Err e) → IsOver room (length piece)
over None piece e h = tt
over (Some room) piece e h = let no : length piece ≤ room → ⊥ = λ le. let x = h le in cc in omega (arith, no)

pub bytes_put : {K : Type 0} (E : Type 0) (view : K → SinkView) (old new : K) (piece : List ℕ) (r : Result ℕ E) → TakesPart piece r → WriteAppends (view old).taken (view new).taken r piece → RoomFalls (view old).room (view new).room r → TakesWithinRoom (view old).room piece r → Puts (plainly view) old new piece r
bytes_put E view old new piece (Ok n) part appends falling fits =
    let xs = take n piece in
    let count : length xs ≡ n = length-take n piece ∙ omega (arith, part.0) in
    let wrote : Wrote (calm (view old)) (calm (view new)) xs = record { taken = appends; room = subst (FallsBy (view old).room (view new).room) (sym count) (falls E (view old).room (view new).room n falling); steady = refl } in
    subst (Wrote (calm (view old)) (calm (view new))) (sym (taken_took xs)) wrote
bytes_put E view old new piece (Err e) part keeps falling fits = record {
  told = record { taken = keeps_none (view old).taken (view new).taken keeps; room = same_room (view old).room (view new).room e falling; steady = refl };
  refuses = record {
    view = record { taken = (view old).taken; room = (view old).room; faults = 1 };
    broke = record {
      later = omega arith;
      rose = omega arith;
      once = omega arith;
      part = [];
      rest = taken (took piece);
      is = refl;
      taken = appends_same (view old).taken;
      over = subst (λ l. IsOver (view old).room (length l)) (sym (taken_took piece)) (over (view old).room piece e fits);
    };
  };
}
