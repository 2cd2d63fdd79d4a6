-- What a source is: a program, or refused. Hold the order of the causes against docs/REFUSALS.md.
use Rattle.std.specs.Prelude.{◌≡◌, ℕ, List, ◌++◌, map, Some, None, Result, Ok, Err}
use Rattle.dg_base.specs.Mentions.{mentioned, names_in}
use Rattle.dg_base.specs.Names.{prelude_names}
use Rattle.dg_base.specs.Tree.{Item}
use Rattle.dg_base.specs.declared.program.CoreProgram.{CoreProgram as Core}
use Rattle.dg_base.specs.declared.refusal.Refusal.{Refusal}
use Rattle.dg_base.specs.declared.refusal.ReadFault.{ReadFault}
use Rattle.dg_base.specs.declared.refusal.ReadFault.TheVariants as fault
use Rattle.dg_base.specs.declared.refusal.Kind.{Kind}
use Rattle.dg_lex.specs.Bad.{lex_refusal}
use Rattle.dg_lex.specs.Tokens.{IsLexed, Seen, seen}
use Rattle.dg_lex.specs.declared.token.Token.{Token}
use Rattle.dg_reader.specs.Read.{IsRead}
use Rattle.dg_names.specs.Counts.{IsNamed}
use Rattle.dg_names.specs.Named.{Named, firsts, predicate_in, names_of}
use Rattle.dg_plain.specs.Items.{plain_items}
use Rattle.dg_access.specs.Answer.{IsRewritten}
use Rattle.dg_lower.specs.Lowered.{IsLowered}
use Rattle.dg_prelude.specs.Rules.{prelude_rules}

-- One step behind another: the first refuses, and that is the answer; or it gives what the second answers on.
pub data Then {A B : Type 0} (P : Result A Refusal → Type 0) (Q : A → Result B Refusal → Type 0) (answer : Result B Refusal) : Type 0 where
  refused : (r : Refusal) → P (Err r) → answer ≡ Err r → Then P Q answer
  given : (a : A) → P (Ok a) → Q a answer → Then P Q answer

abbrev pub refusal_at : Kind → ℕ → Refusal
refusal_at kind line = record { kind = kind; line = line }

-- a source is refused as too long or for a bad character, or these are its tokens
abbrev pub Lexes : List ℕ → Result (List Seen) Refusal → Type 0
Lexes source (Ok ts) = (lex_refusal source ≡ None) × (tokens : List Token) × IsLexed source tokens × (ts ≡ map seen tokens)
Lexes source (Err r) = lex_refusal source ≡ Some r

-- The names of a source, with those of the prelude that don't stand in it behind its predicates.
abbrev pub all_names : List Item → Named
all_names items = record (names_of items) { preds = firsts (names_in predicate_in (mentioned items) ++ prelude_names) }

-- The rules of the prelude with plain heads, behind the rewritten items of a source.
abbrev pub with_prelude : List Item → List Item
with_prelude new = new ++ plain_items None prelude_rules

-- What items are that were read: a count of the source passes, or an access rule loops or is repeated, or of an item too much or a wrong
-- change comes once heads are plain and access rules put in, or an initial value is bad or takes too long, or the entry has no rule, or they are a
-- program, with the rules of the prelude behind theirs. Nothing else is refused of items: every form that the grammar has is run.
abbrev pub Becomes : List Item → Result Core Refusal → Type 0
Becomes items = Then (IsNamed items) (λ named. Then (IsRewritten items) (λ new. IsLowered (all_names items) (with_prelude new)))

-- The items of a source: it is too long or has a bad character, or its tokens are no items, or these are they.
abbrev pub Reads : List ℕ → Result (List Item) Refusal → Type 0
Reads source = Then (Lexes source) IsRead

-- Items are those of a source.
abbrev pub AreOfSource : List Item → Type 0
AreOfSource items = (source : List ℕ) × Reads source (Ok items)

-- What a source is: it is too long or has a bad character, or its tokens are no items, or what its items are.
abbrev pub Compiles : List ℕ → Result Core Refusal → Type 0
Compiles source = Then (Lexes source) (λ tokens. Then (IsRead tokens) Becomes)

-- a call's answer is one of these, unless memory ran out
abbrev pub Meets : {A : Type 0} → (Result A Refusal → Type 0) → Result A ReadFault → Type 0
Meets P (Ok a) = P (Ok a)
Meets P (Err (fault.Refused r)) = P (Err r)
Meets P (Err fault.OutOfMemory) = Unit {0}
