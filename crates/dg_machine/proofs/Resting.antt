-- What rests between the runs of a machine.
use Rattle.std.proofs.Common.{◌≡◌, ◌∙◌, ◌<◌, Option, Some, None, Result, Ok, Err, IfOk, sym, subst}
use Rattle.dg_base.specs.declared.program.CoreProgram.{CoreProgram}
use Rattle.dg_base.specs.declared.run.Limits.{Limits}
use Rattle.dg_base.specs.declared.run.Fault.{Fault}
use Rattle.dg_base.specs.declared.run.Outcome.{Outcome}
use Rattle.dg_meaning.specs.Facts.{kinds_of, kept_size, start_facts}
use Rattle.dg_lasting.specs.Lasting.{StartsWorld}
use Rattle.dg_lasting.specs.Resting.{extent_resting, RestsFor, Rests}
use Rattle.dg_lasting.specs.declared.resting.Resting.{Resting}
use Rattle.dg_mid.specs.Codes.{Codes}
use Rattle.dg_mid.specs.Potential.{Tidy}
use Rattle.dg_mid.specs.declared.code.Code.{Code}
use Rattle.dg_machine.specs.Built.{IsBuilt}
use Rattle.dg_machine.specs.Program.{IsReady}
use Rattle.dg_machine.specs.Tables.{IsOf}
use Rattle.dg_machine.specs.declared.tables.Tables.{Tables}

-- where something lasts, it rests for the program
pub something : (p : CoreProgram) (l : Limits) (o : Option Resting) (r : Resting) → Some r ≡ o → Rests p l o → RestsFor p l r
something p l o r is h = subst (Rests p l) (sym is) h

-- where nothing does, more starts kept than may be
pub nothing : (p : CoreProgram) (l : Limits) (o : Option Resting) → None ≡ o → Rests p l o → l.keep < kept_size (kinds_of p) (start_facts p.places)
nothing p l o is h = subst (Rests p l) (sym is) h

-- what is as large and starts with the same world rests for the same programs
rests_again : (p : CoreProgram) (l : Limits) (old new : Resting) → RestsFor p l old → new.start ≡ old.start → extent_resting new ≡ extent_resting old → RestsFor p l new
rests_again p l old new h start large = record { starts = subst (StartsWorld p l.keep) (sym start) h.starts; begins = h.begins; large = large ∙ h.large }

pub ready_again : (p : CoreProgram) (l l' : Limits) (code code' : Code) (t t' : Tables) (o : Option Resting) (old new : Resting) → l' ≡ l → code' ≡ code → t' ≡ t → Some old ≡ o → new.start ≡ old.start → extent_resting new ≡ extent_resting old → IsReady p l code t o →
    IsReady p l' code' t' (Some new)
ready_again p l l' code code' t t' o old new limits coded tabled is start large h = record {
  built = subst IsBuilt (sym coded) h.built;
  tidy = subst Tidy (sym coded) h.tidy;
  codes = subst (Codes p) (sym coded) h.codes;
  tabled = subst (IsOf p) (sym tabled) h.tabled;
  rests = subst (λ (x : Limits). RestsFor p x new) (sym limits) (rests_again p l old new (something p l o old is h.rests) start large);
}

-- an answer means what follows from it
pub if_answered : (result : Result Outcome Fault) (P Q : Outcome → Type 0) → IfOk result P → ((outcome : Outcome) → P outcome → Q outcome) → IfOk result Q
if_answered (Ok outcome) P Q h f = f outcome h
if_answered (Err fault) P Q h f = tt

-- what an answer means for each program it means for all
pub for_each_program : (result : Result Outcome Fault) (A : CoreProgram → Type 0) (X : CoreProgram → Outcome → Type 0) → ((p : CoreProgram) → A p → IfOk result (X p)) → IfOk result (λ outcome. (p : CoreProgram) → A p → X p outcome)
for_each_program (Ok outcome) A X h = h
for_each_program (Err fault) A X h = tt
