-- What is printed for each refusal of a source, and what errors show: hold the first against the table of docs/REFUSALS.md.
use Rattle.std.specs.Prelude.{ℕ, List, ◌++◌, codes, decimal}
use Rattle.dg_base.specs.declared.refusal.Kind.{Kind}
use Rattle.dg_base.specs.declared.refusal.ReadFault.{ReadFault}
use Rattle.dg_base.specs.declared.refusal.ReadFault.TheVariants as reading
use Rattle.dg_base.specs.declared.run.Fault.{Fault}
use Rattle.dg_base.specs.declared.run.Fault.TheVariants as fault
use Rattle.dg_base.specs.declared.run.RunFault.{RunFault}
use Rattle.dg_base.specs.declared.run.RunFault.TheVariants as running
use Rattle.dg_base.specs.declared.refusal.Kind.TheVariants.{BadByte, Unclosed, Unexpected, NotInProfile, BadHead, AccessLoop, BadNow, BadInitial, InitialTooLong, TooMany, NoEntry, SourceTooLong}

-- the text of a kind of refusal
abbrev pub text_of_kind : Kind → List ℕ
text_of_kind BadByte = codes "bad character"
text_of_kind Unclosed = codes "unclosed construct"
text_of_kind Unexpected = codes "unexpected token"
text_of_kind NotInProfile = codes "not in this profile"
text_of_kind BadHead = codes "bad head"
text_of_kind AccessLoop = codes "access rule loops or is repeated"
text_of_kind BadNow = codes "cannot be changed here"
text_of_kind BadInitial = codes "bad initial value"
text_of_kind InitialTooLong = codes "initial value takes too long"
text_of_kind TooMany = codes "too many"
text_of_kind NoEntry = codes "no rule for (program entry point)"
text_of_kind SourceTooLong = codes "source too long"

-- what a fault of a run that takes no memory shows
abbrev pub fault_text : Fault → List ℕ
fault_text fault.Read = codes "the input failed"
fault_text fault.Write = codes "the output failed"

-- what a fault of a run shows
abbrev pub run_fault_text : RunFault → List ℕ
run_fault_text running.Read = codes "the input failed"
run_fault_text running.Write = codes "the output failed"
run_fault_text running.OutOfMemory = codes "out of memory"

-- what the fault of a call that reads a source shows
abbrev pub read_fault_text : ReadFault → List ℕ
read_fault_text (reading.Refused r) = codes "line " ++ decimal r.line ++ codes ": " ++ text_of_kind r.kind
read_fault_text reading.OutOfMemory = codes "out of memory"
