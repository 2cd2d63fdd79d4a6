-- Which area a run has too little of. Hold it against docs/LANGUAGE.md, "Limits".
use Rattle.std.specs.Prelude.{Bool, Option, Some, None, Result, Ok, Err}
use Rattle.dg_meaning.specs.Peaks.{Area, Heap, Trail, Aux, Keep}
use Rattle.dg_unify.specs.declared.bindings.Full.{Full}
use Rattle.dg_unify.specs.declared.bindings.Full.TheVariants as full
use Rattle.dg_lasting.specs.declared.lack.Lack.{Lack}
use Rattle.dg_lasting.specs.declared.lack.Lack.TheVariants as lack

-- What a store lacks that is full.
abbrev pub lack_of : Full → Lack
lack_of full.Heap = lack.Heap
lack_of full.Trail = lack.Trail
lack_of full.OutOfMemory = lack.OutOfMemory

-- The area that there is too little of, where it isn't memory.
abbrev pub area_of : Lack → Option Area
area_of lack.Heap = Some Heap
area_of lack.Trail = Some Trail
area_of lack.Aux = Some Aux
area_of lack.Keep = Some Keep
area_of lack.OutOfMemory = None

-- What a goal comes to that needs room in a store alone.
abbrev pub as_stored : Result Bool Full → Result Bool Lack
as_stored (Ok done) = Ok done
as_stored (Err full) = Err (lack_of full)
