-- The laws of decoding.
use Rattle.std.proofs.Common.{◌≡◌, ℕ, List, Result, Ok, ap}
use Rattle.z_model.specs.declared.fault.ZFault.{ZFault}
use Rattle.z_model.specs.declared.op.Op.{Op}
use Rattle.z_model.specs.declared.op.Found.{Found}
use Rattle.z_model.specs.declared.table.Row.{Row}
use Rattle.z_model.specs.Table.{Rows}
use Rattle.z_model.specs.Decode.{op_at, op_found}
use Rattle.z_model.specs.Spelling.{Again}
use Rattle.z_model.proofs.Again.{instruction_again}
use Rattle.z_model.proofs.SoughtForms.{instruction_found}

same_ok : (r : Result Found ZFault) (x y : Found) → r ≡ Ok x → r ≡ Ok y → x ≡ y
same_ok r x y p q = cc

one_answer : (r : Result Found ZFault) (row row' : Row) (a a' : Op) (b b' : ℕ) → r ≡ Ok (op_found row a b) → r ≡ Ok (op_found row' a' b') → (a ≡ a') × (b ≡ b')
one_answer r row row' a a' b b' p q =
    let e = same_ok r (op_found row a b) (op_found row' a' b') p q in
    (ap (λ (x : Found). x.op) e, ap (λ (x : Found). x.end) e)

pub again_holds : (rows : Rows) (bytes : List ℕ) (at : ℕ) → Again rows bytes at
again_holds rows bytes at = record {
  again = λ op end i. instruction_again rows bytes at op end i;
  one = λ op op' end end' i j.
      one_answer (op_at rows bytes at) i.row j.row op op' end end' (instruction_again rows bytes at op end i) (instruction_again rows bytes at op' end' j);
  there = λ fits row op end e. instruction_found rows bytes at fits (op_found row op end) e;
}
