-- Whether a text may be printed, code by code.
use Rattle.std.proofs.Common.{◌≡◌, ℕ, true, false, List, [], ◌∷◌, Option, Some, None, refl}
use Rattle.z_model.specs.declared.fault.ZFault.TheVariants.{BadString, BadCharacter}
use Rattle.z_model.specs.Zscii.{is_printed, are_printable}
use Rattle.z_model.specs.Text.{Text, print_fault}

pub no_end : (t : Text) → t ≡ record { codes = []; end = None } → print_fault t ≡ Some BadString
unfolding print_fault are_printable
no_end t e = rw e refl

pub at_end : (t : Text) (end : ℕ) → t ≡ record { codes = []; end = Some end } → print_fault t ≡ None
unfolding print_fault are_printable
at_end t end e = rw e refl

pub not_printed : (t : Text) (c : ℕ) (cs : List ℕ) (end : Option ℕ) → t ≡ record { codes = c ∷ cs; end = end } → is_printed c ≡ false → print_fault t ≡ Some BadCharacter
unfolding print_fault are_printable
not_printed t c cs end e is = rw (e, is) refl

pub printed : (t : Text) (c : ℕ) (cs : List ℕ) (end : Option ℕ) → t ≡ record { codes = c ∷ cs; end = end } → is_printed c ≡ true → print_fault t ≡ print_fault (record { codes = cs; end = end })
unfolding print_fault are_printable
printed t c cs end e is = rw (e, is) refl
