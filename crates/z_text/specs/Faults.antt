-- The texts of the faults of reading a string, which are this project's own.
use Rattle.std.specs.Prelude.{ℕ, List, codes}
use Rattle.z_text.specs.declared.decoding.TextFault.{TextFault}
use Rattle.z_text.specs.declared.decoding.TextFault.TheVariants.{BadString, OutOfMemory}

-- its text, for a reader of the error
abbrev pub text_of_text_fault : TextFault → List ℕ
text_of_text_fault BadString = codes "a string without an end, or with an abbreviation"
text_of_text_fault OutOfMemory = codes "out of memory"
