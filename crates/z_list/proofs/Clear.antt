-- No line has a newline before its end.
use Rattle.std.proofs.Common.{◌≡◌, ℕ, zero, suc, ◌+◌, ◌/◌, ◌%◌, ◌<◌, ◌≤◌, ◌^◌, List, [], ◌∷◌, ◌++◌, length, Option, Some, None, Result, Ok, Err, refl, sym, ap, subst, ◌∙◌, arith, append_assoc}
use Rattle.std.specs.Prelude.{nat_lt, ◌==◌, Bool, true, false, if◌then◌else◌, codes, decimal}
use Rattle.z_model.specs.declared.fault.ZFault.{ZFault}
use Rattle.z_model.specs.declared.op.Operand.{Operand}
use Rattle.z_model.specs.declared.op.Operand.TheVariants as operands
use Rattle.z_model.specs.declared.op.Operands.{Operands}
use Rattle.z_model.specs.declared.op.Found.{Found}
use Rattle.z_model.specs.declared.table.Two.{Two}
use Rattle.z_model.specs.declared.table.Two.TheVariants as two
use Rattle.z_model.specs.declared.table.One.{One}
use Rattle.z_model.specs.declared.table.One.TheVariants as one
use Rattle.z_model.specs.declared.table.Zero.{Zero}
use Rattle.z_model.specs.declared.table.Zero.TheVariants as zero
use Rattle.z_model.specs.declared.table.Several.{Several}
use Rattle.z_model.specs.declared.table.Several.TheVariants as several
use Rattle.z_model.specs.declared.table.Extended.{Extended}
use Rattle.z_model.specs.declared.table.Extended.TheVariants as extended
use Rattle.z_model.specs.declared.table.Instr.{Instr}
use Rattle.z_model.specs.declared.table.Instr.TheVariants as instrs
use Rattle.z_model.specs.Names.{name_of_two, name_of_one, name_of_zero, name_of_several, name_of_extended, name_of}
use Rattle.z_model.specs.Table.{player_rows}
use Rattle.z_model.specs.Decode.{op_at}
use Rattle.z_list.specs.Listing.{Line, Data, Rule, Locals, Does, End}
use Rattle.z_list.specs.Texts.{hex_digit, spaced, all_spaced, text_if, operands_text, found_text, newline, story_line, line_text}
use Rattle.z_list.specs.inside.Held.{IsFit}
use Rattle.z_list.specs.inside.Numbers.{AreDigits}
use Rattle.std.specs.Option.{option_map}
use Rattle.z_model.specs.Spelling.{FitsType, type_if, types_in}
use Rattle.z_model.proofs.SoughtForms.{instruction_found}
use Rattle.z_list.specs.Texts.{texts}
use Rattle.z_list.specs.Reads.{first_lines}
use Rattle.z_list.specs.inside.Held.{AreFit}
use Rattle.z_list.proofs.Instructions.{Small, are_bytes}
use Rattle.z_list.proofs.TextLemmas.{heads, tails, decimal_digits}

-- no newline is among them
abbrev pub clear : List ℕ → Bool
clear [] = true
clear (c ∷ cs) = if c == 10 then false else clear cs

pub clear_append : (xs ys : List ℕ) → clear xs ≡ true → clear ys ≡ true → clear (xs ++ ys) ≡ true
clear_append [] ys h k = k
clear_append (x ∷ xs) ys h k = by_case (x == 10) (clear_append xs ys) h
  where
    by_case : (b : Bool) → (clear xs ≡ true → clear ys ≡ true → clear (xs ++ ys) ≡ true) → (if b then false else clear xs) ≡ true → (if b then false else clear (xs ++ ys)) ≡ true
    by_case true again h = absurd cc
    by_case false again h = again h k

other : (x : ℕ) (xs : List ℕ) → (x ≡ 10 → ⊥) → clear xs ≡ true → clear (x ∷ xs) ≡ true
other x xs never h = by_case (x == 10) refl
  where
    by_case : (b : Bool) → (x == 10) ≡ b → (if b then false else clear xs) ≡ true
    by_case true e = absurd (never (grind (arith, e)))
    by_case false e = h

digits_clear : (cs : List ℕ) → AreDigits cs → clear cs ≡ true
digits_clear [] h = refl
digits_clear (c ∷ cs) h = let l = h.0.least in other c cs (λ e. omega (arith, e, l)) (digits_clear cs h.1)

decimal_clear : (n : ℕ) → n < 2 ^ 64 → clear (decimal n) ≡ true
decimal_clear n lt = digits_clear (decimal n) (decimal_digits n lt)

hex_no_newline : (n : ℕ) → hex_digit n ≡ 10 → ⊥
hex_no_newline n e = by_case (nat_lt n 10) refl e
  where
    by_case : (b : Bool) → nat_lt n 10 ≡ b → (if b then 48 + n else 87 + n) ≡ 10 → ⊥
    by_case true p e = grind (arith, p, e)
    by_case false p e = grind (arith, p, e)

spaced_clear : (b : ℕ) → clear (spaced b) ≡ true
spaced_clear b = other (hex_digit (b / 16)) (hex_digit (b % 16) ∷ []) (hex_no_newline (b / 16)) (other (hex_digit (b % 16)) [] (hex_no_newline (b % 16)) refl)

all_clear : (bs : List ℕ) → clear (all_spaced bs) ≡ true
all_clear [] = refl
all_clear (b ∷ bs) = clear_append (spaced b) (all_spaced bs) (spaced_clear b) (all_clear bs)

two_clear : (i : Two) → clear (name_of_two i) ≡ true
two_clear two.Je = refl
two_clear two.Jl = refl
two_clear two.Jg = refl
two_clear two.DecChk = refl
two_clear two.IncChk = refl
two_clear two.Jin = refl
two_clear two.Test = refl
two_clear two.Or = refl
two_clear two.And = refl
two_clear two.TestAttr = refl
two_clear two.SetAttr = refl
two_clear two.ClearAttr = refl
two_clear two.Store = refl
two_clear two.InsertObj = refl
two_clear two.Loadw = refl
two_clear two.Loadb = refl
two_clear two.GetProp = refl
two_clear two.GetPropAddr = refl
two_clear two.GetNextProp = refl
two_clear two.Add = refl
two_clear two.Sub = refl
two_clear two.Mul = refl
two_clear two.Div = refl
two_clear two.Mod = refl
two_clear two.Call2s = refl
two_clear two.Call2n = refl
two_clear two.SetColour = refl
two_clear two.Throw = refl

one_clear : (i : One) → clear (name_of_one i) ≡ true
one_clear one.Jz = refl
one_clear one.GetSibling = refl
one_clear one.GetChild = refl
one_clear one.GetParent = refl
one_clear one.GetPropLen = refl
one_clear one.Inc = refl
one_clear one.Dec = refl
one_clear one.PrintAddr = refl
one_clear one.Call1s = refl
one_clear one.RemoveObj = refl
one_clear one.PrintObj = refl
one_clear one.Ret = refl
one_clear one.Jump = refl
one_clear one.PrintPaddr = refl
one_clear one.Load = refl
one_clear one.Call1n = refl

zero_clear : (i : Zero) → clear (name_of_zero i) ≡ true
zero_clear zero.Rtrue = refl
zero_clear zero.Rfalse = refl
zero_clear zero.Print = refl
zero_clear zero.PrintRet = refl
zero_clear zero.Nop = refl
zero_clear zero.RetPopped = refl
zero_clear zero.Catch = refl
zero_clear zero.Quit = refl
zero_clear zero.NewLine = refl
zero_clear zero.Verify = refl
zero_clear zero.Piracy = refl

several_clear : (i : Several) → clear (name_of_several i) ≡ true
several_clear several.CallVs = refl
several_clear several.Storew = refl
several_clear several.Storeb = refl
several_clear several.PutProp = refl
several_clear several.Aread = refl
several_clear several.PrintChar = refl
several_clear several.PrintNum = refl
several_clear several.Random = refl
several_clear several.Push = refl
several_clear several.Pull = refl
several_clear several.SplitWindow = refl
several_clear several.SetWindow = refl
several_clear several.EraseWindow = refl
several_clear several.EraseLine = refl
several_clear several.SetCursor = refl
several_clear several.SetTextStyle = refl
several_clear several.BufferMode = refl
several_clear several.OutputStream = refl
several_clear several.ReadChar = refl
several_clear several.ScanTable = refl
several_clear several.Not = refl
several_clear several.CallVn = refl
several_clear several.CopyTable = refl
several_clear several.CheckArgCount = refl

extended_clear : (i : Extended) → clear (name_of_extended i) ≡ true
extended_clear extended.Save = refl
extended_clear extended.Restore = refl
extended_clear extended.LogShift = refl
extended_clear extended.ArtShift = refl
extended_clear extended.SaveUndo = refl
extended_clear extended.RestoreUndo = refl
extended_clear extended.PrintUnicode = refl

name_clear : (i : Instr) → clear (name_of i) ≡ true
name_clear (instrs.Two i) = two_clear i
name_clear (instrs.One i) = one_clear i
name_clear (instrs.Zero i) = zero_clear i
name_clear (instrs.Several i) = several_clear i
name_clear (instrs.Extended i) = extended_clear i

-- ---- operands

operand_clear : (b : Bool) (x : Operand) → FitsType (type_if b x) x → clear (text_if b x) ≡ true
operand_clear false x h = refl
operand_clear true (operands.Large n) h = decimal_clear n (omega (arith, h))
operand_clear true (operands.Small n) h = decimal_clear n (omega (arith, h))
operand_clear true (operands.Variable n) h = decimal_clear n (omega (arith, h))

operands_clear : (o : Operands) → FitsType (types_in o).first o.first → FitsType (types_in o).second o.second → FitsType (types_in o).third o.third → FitsType (types_in o).fourth o.fourth →
    clear (operands_text o) ≡ true
operands_clear o h1 h2 h3 h4 =
    clear_append (text_if (nat_lt 0 o.count) o.first) _ (operand_clear (nat_lt 0 o.count) o.first h1)
    (clear_append (text_if (nat_lt 1 o.count) o.second) _ (operand_clear (nat_lt 1 o.count) o.second h2)
    (clear_append (text_if (nat_lt 2 o.count) o.third) _ (operand_clear (nat_lt 2 o.count) o.third h3) (operand_clear (nat_lt 3 o.count) o.fourth h4)))

found_clear : (bs : List ℕ) → Small bs → (r : Result Found ZFault) → op_at player_rows bs 0 ≡ r → clear (found_text r) ≡ true
found_clear bs small (Err fault) e = refl
found_clear bs small (Ok x) e =
    let i = instruction_found player_rows bs 0 (are_bytes bs small) x e in
    clear_append (name_of x.row.instr) (operands_text x.op.operands) (name_clear x.row.instr) (operands_clear x.op.operands i.is.first i.is.second i.is.third i.is.fourth)

-- ---- lines

-- a text that has one newline, at its end
pub record IsLine (text : List ℕ) : Type 0 where
  pub front : List ℕ
  pub clear_front : clear front ≡ true
  pub is : text ≡ front ++ newline

longer : (xs text : List ℕ) → clear xs ≡ true → IsLine text → IsLine (xs ++ text)
longer xs text h l = record { front = xs ++ l.front; clear_front = clear_append xs l.front h l.clear_front; is = ap (λ (x : List ℕ). xs ++ x) l.is ∙ sym (append_assoc xs l.front newline) }

short : IsLine newline
short = record { front = []; clear_front = refl; is = refl }

pub story_is_line : (n : ℕ) → n ≤ 524288 → IsLine (story_line n)
story_is_line n few = longer (codes "story ") (decimal n ++ newline) refl (longer (decimal n) newline (decimal_clear n (omega (arith, few))) short)

pub line_is_line : (l : Line) → IsFit l → IsLine (line_text l)
line_is_line (Data at bs) f = longer (codes "data ") _ refl (longer (decimal at) _ (decimal_clear at (omega (arith, f.place))) (longer (all_spaced bs) newline (all_clear bs) short))
line_is_line (Rule at p q) f =
    longer (codes "rule ") _ refl (longer (decimal at) _ (decimal_clear at (omega (arith, f.place))) (longer (codes " ") _ refl (longer (decimal p) _ (decimal_clear p (omega (arith, f.numbers.0)))
    (longer (codes ".") _ refl (longer (decimal q) newline (decimal_clear q (omega (arith, f.numbers.1))) short)))))
line_is_line (Locals at b) f = longer (codes "locals ") _ refl (longer (decimal at) _ (decimal_clear at (omega (arith, f.place))) (longer (spaced b) newline (spaced_clear b) short))
line_is_line (Does at bs) f =
    longer (codes "op ") _ refl (longer (decimal at) _ (decimal_clear at (omega (arith, f.place))) (longer (all_spaced bs) _ (all_clear bs) (longer (codes " ; ") _ refl
    (longer (found_text (op_at player_rows bs 0)) newline (found_clear bs f.bytes (op_at player_rows bs 0) refl) short))))
line_is_line (End at) f = longer (codes "end ") _ refl (longer (decimal at) newline (decimal_clear at (omega (arith, f.place))) short)

-- ---- the first lines of a text

mapped_twice : {A B C : Type 0} (f : A → B) (g : B → C) (o : Option A) → option_map g (option_map f o) ≡ option_map (λ x. g (f x)) o
mapped_twice f g None = refl
mapped_twice f g (Some x) = refl

line_first : (front rest : List ℕ) (n : ℕ) → clear front ≡ true → first_lines (suc n) ((front ++ newline) ++ rest) ≡ option_map (λ x. (front ++ newline) ++ x) (first_lines n rest)
line_first [] rest n h = refl
line_first (c ∷ front) rest n h = by_case (c == 10) (line_first front rest n) h
  where
    by_case : (b : Bool) → (clear front ≡ true → first_lines (suc n) ((front ++ newline) ++ rest) ≡ option_map (λ x. (front ++ newline) ++ x) (first_lines n rest)) → (if b then false else clear front) ≡ true →
        option_map (λ x. c ∷ x) (first_lines (if b then n else suc n) ((front ++ newline) ++ rest)) ≡ option_map (λ x. c ∷ ((front ++ newline) ++ x)) (first_lines n rest)
    by_case true again h = absurd cc
    by_case false again h = ap (option_map (λ x. c ∷ x)) (again h) ∙ mapped_twice (λ x. (front ++ newline) ++ x) (λ x. c ∷ x) (first_lines n rest)

pub next_line : (text rest : List ℕ) (n : ℕ) → IsLine text → first_lines (suc n) (text ++ rest) ≡ option_map (λ x. text ++ x) (first_lines n rest)
next_line text rest n l = subst (λ (t : List ℕ). first_lines (suc n) (t ++ rest) ≡ option_map (λ x. t ++ x) (first_lines n rest)) (sym l.is) (line_first l.front rest n l.clear_front)

pub next_lines : (ls : List Line) (rest : List ℕ) (n : ℕ) → AreFit ls → first_lines (length ls + n) (texts ls ++ rest) ≡ option_map (λ x. texts ls ++ x) (first_lines n rest)
next_lines [] rest n f = let here : zero + n ≡ n = omega arith in ap (λ (k : ℕ). first_lines k rest) here ∙ none (first_lines n rest)
  where
    none : (o : Option (List ℕ)) → o ≡ option_map (λ x. x) o
    none None = refl
    none (Some x) = refl
next_lines (l ∷ ls) rest n f =
    let here : suc (length ls) + n ≡ suc (length ls + n) = omega arith in
    ap (λ (t : List ℕ). first_lines (suc (length ls) + n) t) (append_assoc (line_text l) (texts ls) rest)
    ∙ (ap (λ (k : ℕ). first_lines k (line_text l ++ (texts ls ++ rest))) here
    ∙ (next_line (line_text l) (texts ls ++ rest) (length ls + n) (line_is_line l f.0)
    ∙ (ap (option_map (λ x. line_text l ++ x)) (next_lines ls rest n f.1)
    ∙ (mapped_twice (λ x. texts ls ++ x) (λ x. line_text l ++ x) (first_lines n rest) ∙ regroup (first_lines n rest)))))
  where
    regroup : (o : Option (List ℕ)) → option_map (λ x. line_text l ++ (texts ls ++ x)) o ≡ option_map (λ x. (line_text l ++ texts ls) ++ x) o
    regroup None = refl
    regroup (Some x) = ap (λ (t : List ℕ). Some t) (sym (append_assoc (line_text l) (texts ls) x))

abbrev some_list : List ℕ → Option (List ℕ)
some_list x = Some x

-- the first line of a text
pub record HasLine (text line : List ℕ) : Type 0 where
  pub is_line : IsLine line
  pub rest : List ℕ
  pub is : text ≡ line ++ rest

pub first_one : (text line : List ℕ) → first_lines 1 text ≡ Some line → HasLine text line
first_one [] line e = absurd cc
first_one (c ∷ text) line e = by_case (c == 10) (first_one text) refl e
  where
    some_is : (x y : List ℕ) → some_list x ≡ some_list y → x ≡ y
    some_is x y h = cc

    by_case : (b : Bool) → ((t : List ℕ) → first_lines 1 text ≡ Some t → HasLine text t) → (c == 10) ≡ b →
        option_map (λ x. c ∷ x) (first_lines (if b then 0 else 1) text) ≡ Some line → HasLine (c ∷ text) line
    by_case true again is h =
        let ten : c ≡ 10 = grind (arith, is) in
        let l : c ∷ [] ≡ line = some_is (c ∷ []) line h in
        record { is_line = subst IsLine l (subst (λ (k : ℕ). IsLine (k ∷ [])) (sym ten) short); rest = text; is = ap (λ (t : List ℕ). t ++ text) l }
    by_case false again is h = by_rest (first_lines 1 text) refl h
      where
        by_rest : (o : Option (List ℕ)) → first_lines 1 text ≡ o → option_map (λ x. c ∷ x) o ≡ Some line → HasLine (c ∷ text) line
        by_rest None o_is h = absurd cc
        by_rest (Some t) o_is h =
            let more = again t o_is in
            let l : c ∷ t ≡ line = some_is (c ∷ t) line h in
            record {
              is_line = subst IsLine l (longer (c ∷ []) t (other c [] (λ ten. grind (arith, is, ten)) refl) more.is_line);
              rest = more.rest;
              is = ap (λ (x : List ℕ). c ∷ x) more.is ∙ ap (λ (x : List ℕ). x ++ more.rest) l;
            }

-- a text begins with one line
not_ten : (x : ℕ) (xs : List ℕ) → x ≡ 10 → clear (x ∷ xs) ≡ true → ⊥
not_ten x xs e h = by_ten (subst (λ (k : ℕ). clear (k ∷ xs) ≡ true) e h)
  where
    by_ten : clear (10 ∷ xs) ≡ true → ⊥
    by_ten h = cc

clear_rest : (x : ℕ) (xs : List ℕ) → clear (x ∷ xs) ≡ true → clear xs ≡ true
clear_rest x xs h = by_case (x == 10) h
  where
    by_case : (b : Bool) → (if b then false else clear xs) ≡ true → clear xs ≡ true
    by_case true h = absurd cc
    by_case false h = h

clear_same : (xs ys r s : List ℕ) → clear xs ≡ true → clear ys ≡ true → xs ++ 10 ∷ r ≡ ys ++ 10 ∷ s → xs ≡ ys
clear_same [] [] r s hx hy e = refl
clear_same [] (y ∷ ys) r s hx hy e = absurd (not_ten y ys (sym (heads 10 y r (ys ++ 10 ∷ s) e)) hy)
clear_same (x ∷ xs) [] r s hx hy e = absurd (not_ten x xs (heads x 10 (xs ++ 10 ∷ r) s e) hx)
clear_same (x ∷ xs) (y ∷ ys) r s hx hy e =
    ap (λ (k : ℕ). k ∷ xs) (heads x y (xs ++ 10 ∷ r) (ys ++ 10 ∷ s) e)
    ∙ ap (λ (l : List ℕ). y ∷ l) (clear_same xs ys r s (clear_rest x xs hx) (clear_rest y ys hy) (tails x y (xs ++ 10 ∷ r) (ys ++ 10 ∷ s) e))

pub lines_same_text : (a b r s : List ℕ) → IsLine a → IsLine b → a ++ r ≡ b ++ s → a ≡ b
lines_same_text a b r s ha hb e =
    let e' : ha.front ++ 10 ∷ r ≡ hb.front ++ 10 ∷ s = sym (append_assoc ha.front newline r) ∙ (ap (λ (x : List ℕ). x ++ r) (sym ha.is) ∙ (e ∙ (ap (λ (x : List ℕ). x ++ s) hb.is ∙ append_assoc hb.front newline s))) in
    ha.is ∙ (ap (λ (x : List ℕ). x ++ newline) (clear_same ha.front hb.front r s ha.clear_front hb.clear_front e') ∙ sym hb.is)

pub line_some : (a r : List ℕ) → IsLine a → a ++ r ≡ [] → ⊥
line_some a r l e = none l.front (sym (append_assoc l.front newline r) ∙ (ap (λ (x : List ℕ). x ++ r) (sym l.is) ∙ e))
  where
    none : (f : List ℕ) → f ++ 10 ∷ r ≡ [] → ⊥
    none [] h = cc
    none (x ∷ f) h = cc
