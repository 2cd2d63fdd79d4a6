-- The numbers and texts of the faults, which are this project's own; the standard leaves an error's report to the interpreter.
use Rattle.std.specs.Prelude.{ℕ, List, codes}
use Rattle.z_model.specs.declared.fault.ZFault.{ZFault}
use Rattle.z_model.specs.declared.fault.ZFault.TheVariants.{BadOpcode, OffEnd, BadAddress, BadWrite, StackEmpty, StackFull, BadLocal, DivideByZero}
use Rattle.z_model.specs.declared.fault.ZFault.TheVariants.{BadCall, BadString, BadCharacter, BadReturn, Unsupported, BadObject, BadProperty, BadStream}

-- the number that is printed
abbrev pub printed_number : ZFault → ℕ
printed_number BadOpcode = 50
printed_number OffEnd = 51
printed_number BadAddress = 52
printed_number BadWrite = 53
printed_number StackEmpty = 54
printed_number StackFull = 55
printed_number BadLocal = 56
printed_number DivideByZero = 57
printed_number BadCall = 58
printed_number BadString = 59
printed_number BadCharacter = 60
printed_number BadReturn = 61
printed_number Unsupported = 62
printed_number BadObject = 63
printed_number BadProperty = 64
printed_number BadStream = 65

-- its text, for a reader of the error
abbrev pub text_of_fault : ZFault → List ℕ
text_of_fault BadOpcode = codes "no such instruction"
text_of_fault OffEnd = codes "the story ends within an instruction, or a jump leads before it"
text_of_fault BadAddress = codes "a byte that may not be read"
text_of_fault BadWrite = codes "a byte that may not be written"
text_of_fault StackEmpty = codes "the routine's stack is empty"
text_of_fault StackFull = codes "too many frames or words"
text_of_fault BadLocal = codes "no such local variable"
text_of_fault DivideByZero = codes "division by zero"
text_of_fault BadCall = codes "no routine stands there"
text_of_fault BadString = codes "a string without an end, or with an abbreviation"
text_of_fault BadCharacter = codes "a character that is not printed"
text_of_fault BadReturn = codes "a return from the opening routine"
text_of_fault Unsupported = codes "reading into a parse buffer is not supported"
text_of_fault BadObject = codes "no such object or attribute, or a chain of siblings without an end"
text_of_fault BadProperty = codes "no such property, or one that is too long or out of order"
text_of_fault BadStream = codes "too many tables are open for output"
