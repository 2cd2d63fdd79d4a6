-- The steps of a source, and that it has one answer.
use Rattle.std.proofs.Common.{◌≡◌, ◌<◌, ◌⊎◌, inl, inr, ℕ, List, length, map, true, Some, Result, Ok, Err, refl, sym, ◌∙◌, ap, subst, arith}
use Rattle.std.specs.Prelude.{nat_lt, IfOk, IfErr}
use Rattle.std.proofs.lemmas.Bool.Decides.{nat_tests}
use Rattle.dg_base.specs.Tree.{Item}
use Rattle.dg_base.specs.Faults.{IsFault}
use Rattle.dg_base.specs.TreeView.{tree_view}
use Rattle.dg_base.specs.declared.tree.Tree.{Tree}
use Rattle.dg_base.specs.declared.program.CoreProgram.{CoreProgram as Core}
use Rattle.dg_base.specs.declared.refusal.ReadFault.{ReadFault}
use Rattle.dg_base.specs.declared.refusal.ReadFault.TheVariants as fault
use Rattle.dg_base.specs.declared.refusal.Refusal.{Refusal}
use Rattle.dg_base.specs.declared.refusal.Kind.TheVariants.{SourceTooLong}
use Rattle.dg_lex.specs.Bad.{lex_refusal}
use Rattle.dg_lex.specs.Tokens.{IsLexed, Seen, seen}
use Rattle.dg_lex.specs.declared.token.Token.{Token}
use Rattle.dg_reader.specs.Read.{IsRead}
use Rattle.dg_names.specs.Named.{Named}
use Rattle.dg_names.specs.Counts.{IsNamed}
use Rattle.dg_access.specs.Answer.{IsRewritten}
use Rattle.dg_lower.specs.Lowered.{IsLowered}
use Rattle.dg_compile.specs.Source.{Then, refused, given, refusal_at, Lexes, Reads, all_names, with_prelude, Becomes, Compiles, Meets}

-- ## Steps

-- this holds of one answer only
abbrev pub IsOne : {A : Type 0} → (A → Type 0) → Type 0
IsOne {A = A} P = (x y : A) → P x → P y → x ≡ y

pub then_one : {A B : Type 0} (P : Result A Refusal → Type 0) (Q : A → Result B Refusal → Type 0) → IsOne P → ((a : A) → IsOne (Q a)) → IsOne (Then P Q)
then_one P Q p q x y (refused r h e) (refused s k f) = let same = p (Err r) (Err s) h k in cc
then_one P Q p q x y (refused r h e) (given b k w) = let same = p (Err r) (Ok b) h k in cc
then_one P Q p q x y (given a h v) (refused s k f) = let same = p (Ok a) (Err s) h k in cc
then_one P Q p q x y (given a h v) (given b k w) = let same : a ≡ b = let both = p (Ok a) (Ok b) h k in cc in q b x y (subst (λ z. Q z x) same v) w

pub then_ok : {A B : Type 0} (P : Result A Refusal → Type 0) (Q : A → Result B Refusal → Type 0) (a : A) (answer : Result B ReadFault) → P (Ok a) → Meets (Q a) answer → Meets (Then P Q) answer
then_ok P Q a (Ok b) h k = given a h k
then_ok P Q a (Err (fault.Refused r)) h k = given a h k
then_ok P Q a (Err fault.OutOfMemory) h k = tt

pub then_err : {A B : Type 0} (P : Result A Refusal → Type 0) (Q : A → Result B Refusal → Type 0) (f : ReadFault) → IsFault (λ r. P (Err r)) f → Meets (Then P Q) (Err f)
then_err P Q (fault.Refused r) h = refused r h refl
then_err P Q fault.OutOfMemory h = tt

-- ## One answer

lexes_one : (source : List ℕ) → ((ts us : List Token) → IsLexed source ts → IsLexed source us → map seen ts ≡ map seen us) → IsOne (Lexes source)
lexes_one source one (Ok ts) (Ok us) h k = ap Ok (h.3 ∙ one h.1 k.1 h.2 k.2 ∙ sym k.3)
lexes_one source one (Ok ts) (Err s) h k = let no = sym h.0 ∙ k in cc
lexes_one source one (Err r) (Ok us) h k = let no = sym k.0 ∙ h in cc
lexes_one source one (Err r) (Err s) h k = let same = sym h ∙ k in cc

pub compiles_one : (source : List ℕ) → ((source : List ℕ) (ts us : List Token) → IsLexed source ts → IsLexed source us → map seen ts ≡ map seen us)
    → ((ts : List Seen) → IsOne (IsRead ts)) → ((is : List Item) → IsOne (IsNamed is)) → ((is : List Item) → IsOne (IsRewritten is)) → ((named : Named) (is : List Item) → IsOne (IsLowered named is)) → IsOne (Compiles source)
compiles_one source lexed read named rewritten lowered =
    then_one _ _ (lexes_one source (lexed source)) (λ ts. then_one _ _ (read ts) (λ items.
    then_one _ _ (named items) (λ n. then_one _ _ (rewritten items) (λ new. lowered (all_names items) (with_prelude new)))))

-- ## From the calls to the answer

pub lexed_of : (source : List ℕ) (f : ReadFault) → (f ≡ fault.OutOfMemory) ⊎ ((r : Refusal) × (lex_refusal source ≡ Some r) × (f ≡ fault.Refused r)) → IsFault (λ r. Lexes source (Err r)) f
lexed_of source f (inl e) = rw e tt
lexed_of source f (inr h) = rw h.2 h.1

-- it isn't read
pub unlexed : (source : List ℕ) (f : ReadFault) → IsFault (λ r. Lexes source (Err r)) f → IsFault (λ r. Reads source (Err r)) f
unlexed source (fault.Refused r) h = refused r h refl
unlexed source fault.OutOfMemory h = tt

pub unread : (source : List ℕ) (ts : List Seen) (f : ReadFault) → Lexes source (Ok ts) → IsFault (λ r. IsRead ts (Err r)) f → IsFault (λ r. Reads source (Err r)) f
unread source ts (fault.Refused r) h k = given ts h k
unread source ts fault.OutOfMemory h k = tt

-- what was read of its tokens
pub read_trees : (source : List ℕ) (ts : List Seen) (answer : Result Tree ReadFault) → Lexes source (Ok ts) → IfOk answer (λ tree. IsRead ts (Ok (tree_view tree))) → IfOk answer (λ tree. Reads source (Ok (tree_view tree)))
read_trees source ts (Ok tree) h k = given ts h k
read_trees source ts (Err f) h k = tt

pub unread_trees : (source : List ℕ) (ts : List Seen) (answer : Result Tree ReadFault) → Lexes source (Ok ts) → IfErr answer (IsFault (λ r. IsRead ts (Err r))) → IfErr answer (IsFault (λ r. Reads source (Err r)))
unread_trees source ts (Ok tree) h k = tt
unread_trees source ts (Err f) h k = unread source ts f h k

pub no_items : (source : List ℕ) (f : ReadFault) → IsFault (λ r. Reads source (Err r)) f → Meets (Compiles source) (Err f)
no_items source (fault.Refused r) (refused s h e) = refused s h (let same : r ≡ s = cc in ap Err same)
no_items source (fault.Refused r) (given ts h k) = given ts h (refused r k refl)
no_items source fault.OutOfMemory h = tt

-- its items become this
pub items_decide : (source : List ℕ) (items : List Item) (answer : Result Core Refusal) → Reads source (Ok items) → Becomes items answer → Compiles source answer
items_decide source items answer (refused r h e) k = cc
items_decide source items answer (given ts h k) b = given ts h (given items k b)

pub items_become : (source : List ℕ) (items : List Item) (answer : Result Core ReadFault) → Reads source (Ok items) → Meets (Becomes items) answer → Meets (Compiles source) answer
items_become source items answer (refused r h e) k = cc
items_become source items answer (given ts h k) b = then_ok (Lexes source) _ ts answer h (then_ok (IsRead ts) Becomes items answer k b)

pub lowered_of : (named : Named) (plain : List Item) (answer : Result Core ReadFault) → IfOk answer (λ p. IsLowered named plain (Ok p)) → IfErr answer (IsFault (λ r. IsLowered named plain (Err r))) → Meets (IsLowered named plain) answer
lowered_of named plain (Ok p) ok err = ok
lowered_of named plain (Err (fault.Refused r)) ok err = err
lowered_of named plain (Err fault.OutOfMemory) ok err = tt

pub meets_ok : {A : Type 0} (P : Result A Refusal → Type 0) (Q : A → Type 0) (answer : Result A ReadFault) → ((a : A) → P (Ok a) → Q a) → Meets P answer → IfOk answer Q
meets_ok P Q (Ok a) f h = f a h
meets_ok P Q (Err e) f h = tt

-- ## A source that is too long

pub too_long : (source : List ℕ) → 1048576 < length source → Compiles source (Err (refusal_at SourceTooLong 1))
too_long source more = let test : nat_lt 1048576 (length source) ≡ true = grind (arith, nat_tests) in refused (refusal_at SourceTooLong 1) (rw test refl) refl
