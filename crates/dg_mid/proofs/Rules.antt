-- The code of rules, written from the last rule to the first.
use Rattle.std.proofs.Common.{◌≡◌, ◌<◌, ◌≤◌, ◌+◌, ℕ, zero, suc, arith, inl, inr, List, [], ◌∷◌, ◌++◌, refl, sym, ap, ◌∙◌, subst, length, map, append_assoc}
use Rattle.std.specs.Prelude.{reverse, false, Some, None}
use Rattle.std.proofs.lemmas.Bool.{cases_lt}
use Rattle.std.proofs.lemmas.Option.{slice_get_past}
use Rattle.std.specs.List.{slice_get}
use Rattle.std.proofs.lemmas.List.{append-nil, reverse-append}
use Rattle.dg_base.specs.declared.program.Goal.TheVariants as goal
use Rattle.dg_base.specs.declared.program.Rule.{Rule}
use Rattle.dg_base.specs.declared.program.Pred.{Pred}
use Rattle.dg_base.specs.declared.program.ClosureBody.{ClosureBody}
use Rattle.dg_base.specs.declared.program.CoreProgram.{CoreProgram}
use Rattle.dg_base.specs.Begins.{Begins}
use Rattle.dg_meaning.specs.Moves.{rules_of}
use Rattle.dg_meaning.proofs.OneRun.{begins_on}
use Rattle.dg_mid.specs.declared.code.Op.{Op}
use Rattle.dg_mid.specs.declared.code.Op.TheVariants as op
use Rattle.dg_mid.specs.declared.code.Block.{Block}
use Rattle.dg_mid.specs.declared.code.RuleCode.{RuleCode}
use Rattle.dg_mid.specs.declared.code.BodyCode.{BodyCode}
use Rattle.dg_mid.specs.declared.code.Code.{Code}
use Rattle.dg_mid.specs.Code.{block_at, codes_of, ops_of, label_of, first_label}
use Rattle.dg_mid.specs.Codes.{Returns, Finishes, Stands, returns, finishes, ask, RulesStand, BodyStands, Codes}
use Rattle.dg_mid.specs.Seeking.{OpLeaves, OpsLeave, BlocksLeave}
use Rattle.dg_mid.specs.Tidying.{OpNeat, OpsNeat, BlockTidy, BlocksTidy}
use Rattle.dg_mid.specs.Potential.{begins_goto, begins_return, OpTidy, OpsTidy, Tidy}
use Rattle.dg_mid.specs.Writing.{StandsFor, Lands, PutsFirst, BodyFor, BodiesFor, RuleFor, RulesFor, PredsFor, starting}
use Rattle.dg_mid.proofs.WritingLemmas.{reverse_put, block_made, made_begins, neat_tail, block_neat}
use Rattle.dg_mid.specs.Weights.{Weights, blocks_weight, rules_weight, preds_weight, closures_weight, IsLight}
use Rattle.dg_mid.proofs.Weights.{ops_reverse, block_added, op_added, op_alone, rules_append, preds_append, closures_append}
use Rattle.dg_mid.proofs.Opening.{begins_here}

pub rule_stands : (old mid now : List Block) (rule : Rule) (c : RuleCode) (only ops put : List Op) → only ≡ op.Return ∷ [] → PutsFirst rule.body old mid (reverse only) (reverse ops) → put ≡ ops ++ op.Enter rule.vars rule.head ∷ [] →
    now ≡ mid ++ record { ops = reverse put } ∷ [] → c.block ≡ length mid → label_of c.key ≡ first_label rule.head → RuleFor now c rule
rule_stands old mid now rule c only ops put only_is puts e made is key code begins = record {
  ops = reverse ops;
  block = block_made mid now (reverse put) c.block code made is begins ∙ ap reverse e ∙ reverse_put ops (op.Enter rule.vars rule.head);
  body = subst (λ l. Stands code (reverse ops) l Returns) (append-nil rule.body)
      (puts.stands [] Returns (λ k b. subst (λ l. Stands k (reverse l) [] Returns) (sym only_is) (returns [])) code (begins_on mid now code.blocks (made_begins mid now _ made) begins));
  key_is = key;
}

pub rule_neat : (old mid now : List Block) (rule : Rule) (only ops put : List Op) → only ≡ op.Return ∷ [] → PutsFirst rule.body old mid (reverse only) (reverse ops) → put ≡ ops ++ op.Enter rule.vars rule.head ∷ [] →
    now ≡ mid ++ record { ops = reverse put } ∷ [] → BlocksTidy old → BlocksTidy now
rule_neat old mid now rule only ops put only_is puts e made h = block_neat mid now ops put (op.Enter rule.vars rule.head) e made tt (puts.neat (neat_tail old None only only_is h tt))

pub rule_light : (old mid now : List Block) (rule : Rule) (only ops put : List Op) → only ≡ op.Return ∷ [] → PutsFirst rule.body old mid (reverse only) (reverse ops) → put ≡ ops ++ op.Enter rule.vars rule.head ∷ [] →
    now ≡ mid ++ record { ops = reverse put } ∷ [] → (w : Weights) → blocks_weight w now ≤ blocks_weight w old + rules_weight w (rule ∷ [])
rule_light old mid now rule only ops put only_is puts e made w =
    let l = puts.light w in
    omega (arith, ops_reverse w only, ops_reverse w ops, op_alone w only op.Return only_is, op_added w ops put (op.Enter rule.vars rule.head) e, block_added w mid now put made)

-- Of these rules, those behind the ones that are left have code, and blocks stay tidy.
pub record RulesDone (first now : List Block) (all left : List Rule) (codes : List RuleCode) : Type 0 where
  pub blocks : Begins first now
  pub neat : BlocksTidy first → BlocksTidy now
  pub light : (w : Weights) → blocks_weight w now + rules_weight w left ≤ blocks_weight w first + rules_weight w all
  pub done : List Rule
  pub is : all ≡ left ++ done
  pub stands : RulesFor now (reverse codes) done

pub rules_begun : (blocks : List Block) (all : List Rule) (codes : List RuleCode) → codes ≡ [] → RulesDone blocks blocks all all codes
rules_begun blocks all codes none = record {
  blocks = begins_here blocks;
  neat = λ h. h;
  light = λ w. omega arith;
  done = [];
  is = sym (append-nil all);
  stands = λ code begins. subst (λ l. RulesStand code (reverse l) []) (sym none) tt;
}

pub rules_more : (first old now : List Block) (all left others : List Rule) (rule : Rule) (codes more : List RuleCode) (c : RuleCode) → RulesDone first old all left codes → left ≡ others ++ rule ∷ [] → Begins old now → (BlocksTidy old → BlocksTidy now) → ((w : Weights) → blocks_weight w now ≤ blocks_weight w old + rules_weight w (rule ∷ [])) → RuleFor now c rule → more ≡ codes ++ c ∷ [] →
    RulesDone first now all others more
rules_more first old now all left others rule codes more c h e on neat light f put = record {
  blocks = begins_on first old now h.blocks on;
  neat = λ n. neat (h.neat n);
  light = λ w. let l = h.light w in let m = light w in omega (arith, ap (rules_weight w) e, rules_append w others (rule ∷ []));
  done = rule ∷ h.done;
  is = h.is ∙ ap (λ l. l ++ h.done) e ∙ append_assoc others (rule ∷ []) h.done;
  stands = λ code begins. subst (λ l. RulesStand code l (rule ∷ h.done)) (sym (ap reverse put ∙ reverse-append codes (c ∷ []))) (f code begins, h.stands code (begins_on old now code.blocks on begins));
}

pub rules_all : (first now : List Block) (all left : List Rule) (codes : List RuleCode) → RulesDone first now all left codes → left ≡ [] → RulesFor now (reverse codes) all
rules_all first now all left codes h none code begins = subst (RulesStand code (reverse codes)) (sym (h.is ∙ ap (λ l. l ++ h.done) none)) (h.stands code begins)

pub rules_light : (first now : List Block) (all left : List Rule) (codes : List RuleCode) → RulesDone first now all left codes → left ≡ [] → (w : Weights) → blocks_weight w now ≤ blocks_weight w first + rules_weight w all
rules_light first now all left codes h none w = let l = h.light w in omega (arith, ap (rules_weight w) none)

-- The same for predicates.
pub record PredsDone (first now : List Block) (all left : List Pred) (codes : List (List RuleCode)) : Type 0 where
  pub blocks : Begins first now
  pub neat : BlocksTidy first → BlocksTidy now
  pub light : (w : Weights) → blocks_weight w now + preds_weight w left ≤ blocks_weight w first + preds_weight w all
  pub done : List Pred
  pub is : all ≡ left ++ done
  pub stands : PredsFor now (reverse codes) done

pub preds_begun : (blocks : List Block) (all : List Pred) (codes : List (List RuleCode)) → codes ≡ [] → PredsDone blocks blocks all all codes
preds_begun blocks all codes none = record {
  blocks = begins_here blocks;
  neat = λ h. h;
  light = λ w. omega arith;
  done = [];
  is = sym (append-nil all);
  stands = λ code begins pred. subst (λ l. RulesStand code (codes_of (slice_get (reverse l) pred)) []) (sym none) tt;
}

one_more : (code : Code) (codes : List (List RuleCode)) (preds : List Pred) (c : List RuleCode) (p : Pred) → RulesStand code c p.rules → ((n : ℕ) → RulesStand code (codes_of (slice_get codes n)) (rules_of (slice_get preds n))) →
    (n : ℕ) → RulesStand code (codes_of (slice_get (c ∷ codes) n)) (rules_of (slice_get (p ∷ preds) n))
one_more code codes preds c p f h zero = f
one_more code codes preds c p f h (suc n) = h n

pub preds_more : (first old now : List Block) (all left others : List Pred) (p : Pred) (codes more : List (List RuleCode)) (c : List RuleCode) → PredsDone first old all left codes → left ≡ others ++ p ∷ [] → Begins old now → (BlocksTidy old → BlocksTidy now) → ((w : Weights) → blocks_weight w now ≤ blocks_weight w old + rules_weight w p.rules) → RulesFor now c p.rules →
    more ≡ codes ++ c ∷ [] → PredsDone first now all others more
preds_more first old now all left others p codes more c h e on neat light f put = record {
  blocks = begins_on first old now h.blocks on;
  neat = λ n. neat (h.neat n);
  light = λ w. let l = h.light w in let m = light w in omega (arith, ap (preds_weight w) e, preds_append w others (p ∷ []));
  done = p ∷ h.done;
  is = h.is ∙ ap (λ l. l ++ h.done) e ∙ append_assoc others (p ∷ []) h.done;
  stands = λ code begins n. subst (λ l. RulesStand code (codes_of (slice_get l n)) (rules_of (slice_get (p ∷ h.done) n))) (sym (ap reverse put ∙ reverse-append codes (c ∷ [])))
      (one_more code (reverse codes) h.done c p (f code begins) (h.stands code (begins_on old now code.blocks on begins)) n);
}

pub preds_all : (first now : List Block) (all left : List Pred) (codes : List (List RuleCode)) → PredsDone first now all left codes → left ≡ [] → PredsFor now (reverse codes) all
preds_all first now all left codes h none code begins n = subst (λ l. RulesStand code (codes_of (slice_get (reverse codes) n)) (rules_of (slice_get l n))) (sym (h.is ∙ ap (λ l. l ++ h.done) none)) (h.stands code begins n)

pub preds_light : (first now : List Block) (all left : List Pred) (codes : List (List RuleCode)) → PredsDone first now all left codes → left ≡ [] → (w : Weights) → blocks_weight w now ≤ blocks_weight w first + preds_weight w all
preds_light first now all left codes h none w = let l = h.light w in omega (arith, ap (preds_weight w) none)

-- The same for the bodies of closures, and what these capture.
pub record BodiesDone (first now : List Block) (all left : List ClosureBody) (codes : List BodyCode) (lists : List (List ℕ)) : Type 0 where
  pub blocks : Begins first now
  pub neat : BlocksTidy first → BlocksTidy now
  pub light : (w : Weights) → blocks_weight w now + closures_weight w left ≤ blocks_weight w first + closures_weight w all
  pub done : List ClosureBody
  pub is : all ≡ left ++ done
  pub stands : BodiesFor now (reverse codes) done
  pub captured : reverse lists ≡ map (λ (x : ClosureBody). x.captured) done

pub bodies_begun : (blocks : List Block) (all : List ClosureBody) (codes : List BodyCode) (lists : List (List ℕ)) → codes ≡ [] → lists ≡ [] → BodiesDone blocks blocks all all codes lists
bodies_begun blocks all codes lists none no_list = record {
  blocks = begins_here blocks;
  neat = λ h. h;
  light = λ w. omega arith;
  done = [];
  is = sym (append-nil all);
  stands = λ code begins n. subst (λ l. BodyStands code (slice_get (reverse l) n) None) (sym none) tt;
  captured = ap reverse no_list;
}

body_more : (code : Code) (codes : List BodyCode) (closures : List ClosureBody) (c : BodyCode) (x : ClosureBody) → BodyStands code (Some c) (Some x) → ((n : ℕ) → BodyStands code (slice_get codes n) (slice_get closures n)) →
    (n : ℕ) → BodyStands code (slice_get (c ∷ codes) n) (slice_get (x ∷ closures) n)
body_more code codes closures c x f h zero = f
body_more code codes closures c x f h (suc n) = h n

pub bodies_more : (first old now : List Block) (all left others : List ClosureBody) (x : ClosureBody) (codes more : List BodyCode) (c : BodyCode) (lists further : List (List ℕ)) (vars : List ℕ) → BodiesDone first old all left codes lists → left ≡ others ++ x ∷ [] → Begins old now → (BlocksTidy old → BlocksTidy now) → ((w : Weights) → blocks_weight w now ≤ blocks_weight w old + closures_weight w (x ∷ [])) → BodyFor now c x →
    more ≡ codes ++ c ∷ [] → vars ≡ x.captured → further ≡ lists ++ vars ∷ [] → BodiesDone first now all others more further
bodies_more first old now all left others x codes more c lists further vars h e on neat light f put same added = record {
  blocks = begins_on first old now h.blocks on;
  neat = λ n. neat (h.neat n);
  light = λ w. let l = h.light w in let m = light w in omega (arith, ap (closures_weight w) e, closures_append w others (x ∷ []));
  done = x ∷ h.done;
  is = h.is ∙ ap (λ l. l ++ h.done) e ∙ append_assoc others (x ∷ []) h.done;
  stands = λ code begins n. subst (λ l. BodyStands code (slice_get l n) (slice_get (x ∷ h.done) n)) (sym (ap reverse put ∙ reverse-append codes (c ∷ [])))
      (body_more code (reverse codes) h.done c x (f code begins) (h.stands code (begins_on old now code.blocks on begins)) n);
  captured = ap reverse added ∙ reverse-append lists (vars ∷ []) ∙ ap (λ l. l ∷ reverse lists) same ∙ ap (λ l. x.captured ∷ l) h.captured;
}

pub bodies_all : (first now : List Block) (all left : List ClosureBody) (codes : List BodyCode) (lists : List (List ℕ)) → BodiesDone first now all left codes lists → left ≡ [] → BodiesFor now (reverse codes) all
bodies_all first now all left codes lists h none code begins n = subst (λ l. BodyStands code (slice_get (reverse codes) n) (slice_get l n)) (sym (h.is ∙ ap (λ l. l ++ h.done) none)) (h.stands code begins n)

pub bodies_captured : (first now : List Block) (all left : List ClosureBody) (codes : List BodyCode) (lists : List (List ℕ)) → BodiesDone first now all left codes lists → left ≡ [] → reverse lists ≡ map (λ (x : ClosureBody). x.captured) all
bodies_captured first now all left codes lists h none = h.captured ∙ ap (map (λ (x : ClosureBody). x.captured)) (sym (h.is ∙ ap (λ l. l ++ h.done) none))

pub bodies_light : (first now : List Block) (all left : List ClosureBody) (codes : List BodyCode) (lists : List (List ℕ)) → BodiesDone first now all left codes lists → left ≡ [] → (w : Weights) → blocks_weight w now ≤ blocks_weight w first + closures_weight w all
bodies_light first now all left codes lists h none w = let l = h.light w in omega (arith, ap (closures_weight w) none)

pub body_stands : (old mid now : List Block) (x : ClosureBody) (b : ℕ) (only ops : List Op) → only ≡ op.Return ∷ [] → PutsFirst x.body old mid (reverse only) (reverse ops) → Lands mid now (reverse ops) b → BodyFor now (record { own = x.own; block = b }) x
body_stands old mid now x b only ops only_is puts lands code begins = (
  refl,
  lands.stands x.body Returns (subst (λ l. StandsFor mid (reverse ops) l Returns) (append-nil x.body) (puts.stands [] Returns (λ k begun. subst (λ l. Stands k (reverse l) [] Returns) (sym only_is) (returns [])))) code begins,
)

pub body_neat : (old mid now : List Block) (x : ClosureBody) (b : ℕ) (only ops : List Op) → only ≡ op.Return ∷ [] → PutsFirst x.body old mid (reverse only) (reverse ops) → Lands mid now (reverse ops) b → BlocksTidy old → BlocksTidy now
body_neat old mid now x b only ops only_is puts lands h = (lands.neat (puts.neat (neat_tail old None only only_is h tt))).blocks_are

pub body_light : (old mid now : List Block) (x : ClosureBody) (b : ℕ) (only ops : List Op) → only ≡ op.Return ∷ [] → PutsFirst x.body old mid (reverse only) (reverse ops) → Lands mid now (reverse ops) b →
    (w : Weights) → blocks_weight w now ≤ blocks_weight w old + closures_weight w (x ∷ [])
body_light old mid now x b only ops only_is puts lands w =
    let l = puts.light w in
    let m = lands.light w in
    omega (arith, ops_reverse w only, ops_reverse w ops, op_alone w only op.Return only_is)

pub code_light : (w : Weights) (program : CoreProgram) (code : Code) (first mid : List Block) → first ≡ starting program.entry → blocks_weight w mid ≤ blocks_weight w first + preds_weight w program.preds →
    blocks_weight w code.blocks ≤ blocks_weight w mid + closures_weight w program.closures → IsLight w program code
code_light w program code first mid begun preds closures = omega (arith, ap (blocks_weight w) begun)

pub preds_later : (old new : List Block) (codes : List (List RuleCode)) (preds : List Pred) → Begins old new → PredsFor old codes preds → PredsFor new codes preds
preds_later old new codes preds on h code begins = h code (begins_on old new code.blocks on begins)

pub codes_made : (program : CoreProgram) (code : Code) (first : List Block) → first ≡ starting program.entry → Begins first code.blocks → PredsFor code.blocks code.preds program.preds → BodiesFor code.blocks code.closures program.closures → Codes program code
codes_made program code first begun on preds bodies =
    let blocks : code.blocks ≡ starting program.entry ++ on.behind = on.is ∙ ap (λ l. l ++ on.behind) begun in
    record {
      rules = preds code (begins_here code.blocks);
      bodies = bodies code (begins_here code.blocks);
      answers = ap (λ l. ops_of (slice_get l 0)) blocks;
      starts = subst (λ l. Stands code l (goal.Ask program.entry [] false ∷ []) Finishes) (sym (ap (λ l. ops_of (slice_get l 1)) blocks))
          (ask program.entry [] false 2 [] [] Finishes (subst (λ l. Stands code l [] Finishes) (sym (ap (λ l. ops_of (slice_get l 2)) blocks)) (finishes [])));
    }

-- so it is for the code of rules and closures that are a program's
pub made_codes : (p : CoreProgram) (entry : ℕ) (ps : List Pred) (cs : List ClosureBody) (first mid last blocks : List Block) (preds : List (List RuleCode)) (closures : List BodyCode) → p.preds ≡ ps → p.closures ≡ cs → p.entry ≡ entry → first ≡ starting entry → Begins first mid → Begins mid last → PredsFor mid preds ps → BodiesFor last closures cs →
    blocks ≡ last → Codes p (record { blocks = blocks; preds = preds; closures = closures })
made_codes p entry ps cs first mid last blocks preds closures is_ps is_cs is_entry begun on further stand bodies is =
    codes_made p (record { blocks = blocks; preds = preds; closures = closures }) first (begun ∙ ap starting (sym is_entry)) (subst (Begins first) (sym is) (begins_on first mid last on further))
    (subst (λ (l : List Pred). PredsFor blocks preds l) (sym is_ps) (subst (λ (l : List Block). PredsFor l preds ps) (sym is) (preds_later mid last preds ps further stand)))
    (subst (λ (l : List ClosureBody). BodiesFor blocks closures l) (sym is_cs) (subst (λ (l : List Block). BodiesFor l closures cs) (sym is) bodies))

pub made_light : (w : Weights) (p : CoreProgram) (entry : ℕ) (ps : List Pred) (cs : List ClosureBody) (first mid last blocks : List Block) (preds : List (List RuleCode)) (closures : List BodyCode) → p.preds ≡ ps → p.closures ≡ cs → p.entry ≡ entry → first ≡ starting entry → blocks_weight w mid ≤ blocks_weight w first + preds_weight w ps →
    blocks_weight w last ≤ blocks_weight w mid + closures_weight w cs → blocks ≡ last → IsLight w p (record { blocks = blocks; preds = preds; closures = closures })
made_light w p entry ps cs first mid last blocks preds closures is_ps is_cs is_entry begun rules bodies is =
    code_light w p (record { blocks = blocks; preds = preds; closures = closures }) first mid (begun ∙ ap starting (sym is_entry))
    (subst (λ (l : List Pred). blocks_weight w mid ≤ blocks_weight w first + preds_weight w l) (sym is_ps) rules)
    (subst (λ (l : List ClosureBody). blocks_weight w blocks ≤ blocks_weight w mid + closures_weight w l) (sym is_cs) (subst (λ (l : List Block). blocks_weight w l ≤ blocks_weight w mid + closures_weight w cs) (sym is) bodies))

-- ## Tidy programs

starts_neat : (entry : ℕ) (code : Code) → Begins (starting entry) code.blocks → (b : ℕ) → b < 3 → BlockTidy code b
starts_neat entry code on zero lt =
    let at : block_at code 0 ≡ op.Return ∷ [] = ap (λ l. ops_of (slice_get l 0)) on.is in
    record { no_jump = ap begins_goto at; queries = subst (OpsNeat code) (sym at) (tt, tt); earlier = λ alt ops e. let x : op.Return ∷ [] ≡ op.Retry alt ∷ ops = sym at ∙ e in cc }
starts_neat entry code on (suc zero) lt =
    let at : block_at code 1 ≡ op.Ask entry [] false 2 ∷ [] = ap (λ l. ops_of (slice_get l 1)) on.is in
    let behind : block_at code 2 ≡ op.Done ∷ [] = ap (λ l. ops_of (slice_get l 2)) on.is in
    record {
      no_jump = ap begins_goto at;
      queries = subst (OpsNeat code) (sym at) (ap begins_return behind, tt);
      earlier = λ alt ops e. let x : op.Ask entry [] false 2 ∷ [] ≡ op.Retry alt ∷ ops = sym at ∙ e in cc;
    }
starts_neat entry code on (suc (suc zero)) lt =
    let at : block_at code 2 ≡ op.Done ∷ [] = ap (λ l. ops_of (slice_get l 2)) on.is in
    record { no_jump = ap begins_goto at; queries = subst (OpsNeat code) (sym at) (tt, tt); earlier = λ alt ops e. let x : op.Done ∷ [] ≡ op.Retry alt ∷ ops = sym at ∙ e in cc }
starts_neat entry code on (suc (suc (suc b))) lt = absurd (omega arith)

pub starting_neat : (entry : ℕ) → BlocksTidy (starting entry)
starting_neat entry code on b lt = starts_neat entry code on b lt

no_block : (code : Code) (b : ℕ) → length code.blocks ≤ b → block_at code b ≡ []
no_block code b past = ap ops_of (slice_get_past code.blocks b past)

tidy_at : (code : Code) → BlocksTidy code.blocks → (b : ℕ) → BlockTidy code b
tidy_at code h b = elim (cases_lt b (length code.blocks)) [
  | inl within ↦ h code (begins_here code.blocks) b within
  | inr past ↦
      let at : block_at code b ≡ [] = no_block code b past in
      record { no_jump = ap begins_goto at; queries = subst (OpsNeat code) (sym at) tt; earlier = λ alt ops e. let x : [] ≡ op.Retry alt ∷ ops = sym at ∙ e in cc }
]

-- neat instructions are tidy, and leave first
neat_tidy : (code : Code) (x : Op) → OpNeat code x → OpTidy code x
neat_tidy code (op.Find place terms many next) h = tt
neat_tidy code x h = h

neat_leaves : (code : Code) (x : Op) → OpNeat code x → OpLeaves code x
neat_leaves code (op.Find place terms many next) h = h
neat_leaves code x h = tt

all_tidy : (code : Code) (ops : List Op) → OpsNeat code ops → OpsTidy code ops
all_tidy code [] h = tt
all_tidy code (x ∷ ops) h = (neat_tidy code x h.0, all_tidy code ops h.1)

all_leave : (code : Code) (ops : List Op) → OpsNeat code ops → OpsLeave code ops
all_leave code [] h = tt
all_leave code (x ∷ ops) h = (neat_leaves code x h.0, all_leave code ops h.1)

pub tidy_made : (code : Code) → BlocksTidy code.blocks → Tidy code
tidy_made code h = record { no_jumps = λ b. (tidy_at code h b).no_jump; blocks = λ b. all_tidy code (block_at code b) (tidy_at code h b).queries; earlier = λ b alt ops e. (tidy_at code h b).earlier alt ops e }

pub leaves_made : (code : Code) → BlocksTidy code.blocks → BlocksLeave code
leaves_made code h b = all_leave code (block_at code b) (tidy_at code h b).queries
