-- What holds of a refusal is passed on.
use Rattle.std.specs.Prelude.{Result, Ok, Err, IfOk, IfErr}
use Rattle.dg_base.specs.declared.refusal.Refusal.{Refusal}
use Rattle.dg_base.specs.declared.refusal.ReadFault.{ReadFault}
use Rattle.dg_base.specs.declared.refusal.ReadFault.TheVariants.{Refused, OutOfMemory}
use Rattle.dg_base.specs.Faults.{IsFault}

pub fault_map : (P Q : Refusal → Type 0) → ((r : Refusal) → P r → Q r) → (fault : ReadFault) → IsFault P fault → IsFault Q fault
fault_map P Q f (Refused r) h = f r h
fault_map P Q f OutOfMemory h = tt

pub ok_map : {T E : Type 0} (r : Result T E) (P Q : T → Type 0) → ((x : T) → P x → Q x) → IfOk r P → IfOk r Q
ok_map (Ok x) P Q f h = f x h
ok_map (Err e) P Q f h = tt

pub err_map : {T E : Type 0} (r : Result T E) (P Q : E → Type 0) → ((e : E) → P e → Q e) → IfErr r P → IfErr r Q
err_map (Ok x) P Q f h = tt
err_map (Err e) P Q f h = f e h
