-- Memory that is as the story from the static base on: what is decoded there, and what keeps it so.
use Rattle.std.proofs.Common.{◌≡◌, ℕ, zero, suc, ◌+◌, ◌-◌, ◌≤◌, Bool, true, false, List, [], ◌∷◌, length, drop, Ok, refl, sym, ap, ◌∙◌, subst, arith}
use Rattle.std.specs.Prelude.{slice_get}
use Rattle.z_model.specs.declared.op.Op.{Op}
use Rattle.z_model.specs.Spelling.{spelling, IsInstruction}
use Rattle.z_model.specs.Spelling as spell
use Rattle.z_model.proofs.InstrLaws.{again_holds}
use Rattle.z_model.specs.Decode.{text_at, op_found, op_at}
use Rattle.z_model.specs.Table.{Rows}
use Rattle.z_model.specs.Laws.{IsLaid, state_behind}
use Rattle.z_model.specs.Run.{ZGiven, ZState, Next, On, ZRun, zstep, zrun}
use Rattle.z_model.proofs.Kept.{code_stays}
use Rattle.z_lang.specs.Leads.{Leads}
use Rattle.z_lang.specs.Standing.{IsKept}

drop_more : (xs ys : List ℕ) (n k : ℕ) → drop n xs ≡ drop n ys → n ≤ k → drop k xs ≡ drop k ys
drop_more xs ys n k e le = let q : n + (k - n) ≡ k = omega arith in subst (λ (i : ℕ). drop i xs ≡ drop i ys) q (sym (by_two xs n (k - n)) ∙ ap (drop (k - n)) e ∙ by_two ys n (k - n))
  where
    by_two : (l : List ℕ) (n i : ℕ) → drop i (drop n l) ≡ drop (n + i) l
    by_two [] zero i = let z : 0 + i ≡ i = omega arith in ap (λ (j : ℕ). drop j []) (sym z)
    by_two [] (suc n) zero = let z : suc n + 0 ≡ suc n = omega arith in ap (λ (j : ℕ). drop j []) (sym z)
    by_two [] (suc n) (suc i) = let z : suc n + suc i ≡ suc (n + suc i) = omega arith in ap (λ (j : ℕ). drop j []) (sym z)
    by_two (x ∷ l) zero i = let z : 0 + i ≡ i = omega arith in ap (λ (j : ℕ). drop j (x ∷ l)) (sym z)
    by_two (x ∷ l) (suc n) i = let z : suc n + i ≡ suc (n + i) = omega arith in by_two l n i ∙ ap (λ (j : ℕ). drop j (x ∷ l)) (sym z)

get_behind : (l : List ℕ) (n i : ℕ) → slice_get (drop n l) i ≡ slice_get l (n + i)
get_behind l zero i = let z : 0 + i ≡ i = omega arith in ap (slice_get l) (sym z)
get_behind [] (suc n) i = let z : suc n + i ≡ suc (n + i) = omega arith in ap (slice_get []) (sym z)
get_behind (x ∷ l) (suc n) i = let z : suc n + i ≡ suc (n + i) = omega arith in get_behind l n i ∙ ap (slice_get (x ∷ l)) (sym z)

pub kept_get : (base : ℕ) (story memory : List ℕ) (i : ℕ) → IsKept base story memory → base ≤ i → slice_get memory i ≡ slice_get story i
kept_get base story memory i e le =
    let q : base + (i - base) ≡ i = omega arith in
    subst (λ (j : ℕ). slice_get memory j ≡ slice_get story j) q (sym (get_behind memory base (i - base)) ∙ ap (λ (l : List ℕ). slice_get l (i - base)) e ∙ get_behind story base (i - base))

stands_kept : (base : ℕ) (story memory : List ℕ) (at : ℕ) (xs : List ℕ) → IsKept base story memory → base ≤ at → spell.BytesAt story at xs → spell.BytesAt memory at xs
stands_kept base story memory at [] e le h = tt
stands_kept base story memory at (x ∷ xs) e le h = (kept_get base story memory at e le ∙ h.0, stands_kept base story memory (at + 1) xs e (omega arith) h.1)

text_kept : (base : ℕ) (story memory : List ℕ) (wanted : Bool) (at : ℕ) → IsKept base story memory → base ≤ at → text_at memory wanted at ≡ text_at story wanted at
unfolding text_at
text_kept base story memory false at e le = refl
text_kept base story memory true at e le = rw (drop_more memory story base at e le) refl

-- what stands in the story is decoded
pub decoded : (rows : Rows) (base : ℕ) (story memory : List ℕ) (at : ℕ) (op : Op) (end : ℕ) → IsKept base story memory → base ≤ at → (i : IsInstruction rows story at op end) → op_at rows memory at ≡ Ok (op_found i.row op end)
decoded rows base story memory at op end e le i =
    (again_holds rows memory at).again op end (record {
      row = i.row;
      is = i.is;
      stands = stands_kept base story memory at (spelling op) e le i.stands;
      text = text_kept base story memory i.row.text (at + length (spelling op)) e (omega arith) ∙ i.text;
    })

-- a step keeps what stands there, and so does a stretch
pub step_kept : (w : ZGiven) (story : List ℕ) (z z1 : ZState) → IsLaid w.layout → zstep w z ≡ On z1 → IsKept w.layout.base story z.machine.memory → IsKept w.layout.base story z1.machine.memory
step_kept w story z z1 laid e k = subst (λ (n : Next). drop w.layout.base (state_behind n).machine.memory ≡ drop w.layout.base story) e ((code_stays w laid z).step.code ∙ k)

pub stretch_kept : (w : ZGiven) (story : List ℕ) (n : ℕ) (z z1 : ZState) → IsLaid w.layout → Leads w n z z1 → IsKept w.layout.base story z.machine.memory → IsKept w.layout.base story z1.machine.memory
unfolding zrun
stretch_kept w story n z z1 laid l k =
    let e = ap (λ (r : ZRun). r.state.machine.memory) (l.by 0) in
    subst (λ (m : List ℕ). drop w.layout.base m ≡ drop w.layout.base story) e (((code_stays w laid z).run (n + 0)).code ∙ k)
