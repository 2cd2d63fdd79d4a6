-- No step refuses a made source.
use Rattle.std.proofs.Common.{◌≡◌, ◌≤◌, ℕ, true, List, map, Result, Ok, Err, refl, sym, ◌∙◌, ap, subst}
use Rattle.dg_base.specs.Tree.{Item}
use Rattle.dg_base.specs.declared.refusal.Refusal.{Refusal}
use Rattle.dg_lex.specs.Tokens.{IsLexed, Seen, seen}
use Rattle.dg_lex.specs.declared.token.Token.{Token}
use Rattle.dg_reader.specs.Read.{IsRead}
use Rattle.dg_names.specs.Counts.{IsNamed}
use Rattle.dg_names.specs.Named.{names_of}
use Rattle.dg_access.specs.Answer.{IsRewritten}
use Rattle.dg_compile.specs.Source.{Then, refused, given, Lexes, Becomes, Compiles}
use Rattle.dg_compile.proofs.SourceLemmas.{IsOne}
use Rattle.dg_make.specs.Made.{made_source}
use Rattle.dg_made.proofs.Cells.{tokens_from}
use Rattle.dg_made.proofs.Items.{made_items}
use Rattle.dg_made.proofs.LoweredLemmas.{made_lowered}
use Rattle.dg_made.proofs.NamedLemmas.{made_named}
use Rattle.dg_made.proofs.ReadLemmas.{made_read}
use Rattle.dg_made.proofs.RewrittenLemmas.{made_rewritten}
use Rattle.dg_made.proofs.Rows.{none, made_cells, made_accepted, made_lexed}

-- Where the first step gives this, and the second refuses nothing of it, the two refuse nothing.
then_none : {A B : Type 0} (P : Result A Refusal → Type 0) (Q : A → Result B Refusal → Type 0) (a : A) → IsOne P → P (Ok a) → ((r : Refusal) → Q a (Err r) → ⊥) → (r : Refusal) → Then P Q (Err r) → ⊥
then_none P Q a one h never r (refused s k e) = let same = one (Ok a) (Err s) h k in cc
then_none P Q a one h never r (given b k w) =
    let same : b ≡ a = let both = one (Ok a) (Ok b) h k in cc in
    never r (subst (λ x. Q x (Err r)) same w)

-- The tokens of a source are one list.
abbrev pub TokensAreOne : Type 0
TokensAreOne = (source : List ℕ) (ts us : List Token) → IsLexed source ts → IsLexed source us → map seen ts ≡ map seen us

lexes_one : TokensAreOne → (source : List ℕ) → IsOne (Lexes source)
lexes_one one source (Ok ts) (Ok us) h k = ap Ok (h.3 ∙ one source h.1 k.1 h.2 k.2 ∙ sym k.3)
lexes_one one source (Ok ts) (Err s) h k = let no = sym h.0 ∙ k in cc
lexes_one one source (Err r) (Ok us) h k = let no = sym k.0 ∙ h in cc
lexes_one one source (Err r) (Err s) h k = let same = sym h ∙ k in cc

pub made_compiles : TokensAreOne → ((ts : List Seen) → IsOne (IsRead ts)) → ((is : List Item) → IsOne (IsNamed is)) → ((is : List Item) → IsOne (IsRewritten is))
    → (n : ℕ) → 1 ≤ n → n ≤ 400 → (r : Refusal) → Compiles (made_source n) (Err r) → ⊥
made_compiles lexed read named rewritten n some le =
    let tokens = tokens_from true 1 none (made_cells n) in
    let items = made_items n in
    let lexes : Lexes (made_source n) (Ok (map seen tokens)) = (made_accepted n some le, tokens, made_lexed n some le, refl) in
    then_none (Lexes (made_source n)) _ (map seen tokens) (lexes_one lexed (made_source n)) lexes
    (then_none (IsRead (map seen tokens)) Becomes items (read (map seen tokens)) (made_read n some le)
    (then_none (IsNamed items) _ (names_of items) (named items) (made_named n some le)
    (then_none (IsRewritten items) _ items (rewritten items) (made_rewritten n le) (made_lowered n some le))))
